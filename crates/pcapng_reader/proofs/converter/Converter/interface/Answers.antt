use Rattle.std.proofs.Common.{refl, ◌≡◌, ◌≤◌, ◌∙◌, ◌-◌, ◌++◌, length, take, drop, ap, arith, length-drop}
use Rattle.pcapng_reader.specs.Texts.{section_of, ahead}
use Rattle.pcapng_reader.specs.Windows.{kept_bytes, held_bytes}
use Rattle.pcapng_reader.specs.Stages.{rank}
use Rattle.pcapng_reader.specs.declared.block.Kind.TheVariants as kind
use Rattle.pcapng_reader.specs.Classic.{number, options, add_interface}
use Rattle.pcapng_reader.specs.Converting.{found_by}
use Rattle.std.proofs.Common.{None}
use Rattle.pcapng_reader.specs.declared.stage.Found.{Found}
use Rattle.pcapng_reader.specs.declared.stage.Body.{Body}
use Rattle.pcapng_reader.proofs.Blocks.{total-least}
use Rattle.pcapng_reader.proofs.Steps.{block-waits, steps-entered, interface-content, text-option_entered}
use Rattle.pcapng_reader.proofs.converter.Converter.interface.Goals as goal

pub returns-then-len-lt16 : goal.returns-then-len-lt16
returns-then-len-lt16 c =
    let w = c.args.self.now in
    let least : 20 ≤ c.args.total = total-least kind.Interface c.args.total c.requires.block.total_is in
    block-waits w c.wait.new.self c.wait.result c.args.order kind.Interface c.args.total c.wait.ensures c.requires.block (omega arith) (omega arith)

pub returns : goal.returns
returns c =
    let w = c.args.self.now in
    let h = held_bytes w.window in
    let g = held_bytes c.pass.new.self in
    let o = c.args.order in
    let total = c.args.total in
    let least : 20 ≤ total = total-least kind.Interface total c.requires.block.total_is in
    let len : 16 ≤ length h = omega arith in
    let f : Found = record { offset = None; link = c.read_u16.result; resolution = None } in
    let b : Body = record { order = o; total = total; left = total - 20 } in
    let e : f ≡ record { offset = None; link = number o 2 8 h; resolution = None } =
    ap (λ n. let y : Found = record { offset = None; link = n; resolution = None } in y) (c.read_u16.ensures ∙ ap (number o 2 8) c.peek.ensures) in
    let short : total - 20 ≡ (total - 4) - 16 = omega arith in
    steps-entered w _ o kind.Interface total 16 (total - 20)
    (λ left. add_interface (section_of w) (found_by o f (options o (take (total - 20) (drop 16 (ahead w left)))))) c.requires.block.head
    c.requires.block.total_is (omega arith) len short
    (λ left t. interface-content o (section_of w) total (total - 20) h (take w.budget left) f len least short e t)
    (λ left. text-option_entered _ (section_of w) (kept_bytes c.pass.new.self) h g (take w.budget left) (g ++ left) 16 b f refl c.pass.ensures.held len)
    (omega (
      arith,
      ap rank c.requires.block.stage_is,
      ap length c.requires.block.given,
      ap length c.pass.ensures.kept,
      ap length c.pass.ensures.held,
      length-drop 16 h,
    )) refl
