use Rattle.std.proofs.Common.{refl, ◌≤◌, ◌-◌, [], arith}
use Rattle.pcapng_reader.specs.Texts.{section_of}
use Rattle.pcapng_reader.specs.declared.block.Kind.TheVariants as kind
use Rattle.pcapng_reader.specs.Classic.{gives}
use Rattle.pcapng_reader.proofs.Blocks.{total-least}
use Rattle.pcapng_reader.proofs.Steps.{steps-entered}
use Rattle.pcapng_reader.proofs.converter.Converter.other.Goals as goal

pub returns : goal.returns
returns c =
    let w = c.args.self.now in
    let total = c.args.total in
    let least : 12 ≤ total = total-least kind.Other total c.requires.block.total_is in
    steps-entered w c.enter.new.self c.args.order kind.Other total 8 ((total - 4) - 8) (λ left. gives [] (section_of w)) c.requires.block.head
    c.requires.block.total_is (omega arith) (omega arith) refl
    (λ left t. refl) c.enter.ensures.text c.enter.ensures.work c.enter.ensures.budget
