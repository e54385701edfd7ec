use Rattle.std.proofs.Common.{refl, ◌≡◌, ◌≤◌, ◌∙◌, ◌-◌, length, take, ap, arith}
use Rattle.pcapng_reader.specs.Texts.{section_of}
use Rattle.pcapng_reader.specs.Windows.{kept_bytes, held_bytes}
use Rattle.pcapng_reader.specs.declared.stage.Content.TheVariants as content
use Rattle.pcapng_reader.specs.declared.block.Kind.TheVariants as kind
use Rattle.pcapng_reader.specs.Classic.{number}
use Rattle.pcapng_reader.specs.Converting.{content_given}
use Rattle.std.specs.Prelude.{◌==◌, if◌then◌else◌}
use Rattle.pcapng_reader.proofs.Blocks.{total-least}
use Rattle.pcapng_reader.proofs.Steps.{block-waits, steps-entered, section-content}
use Rattle.pcapng_reader.proofs.converter.Converter.section.Goals as goal

pub returns-then-len-lt16 : goal.returns-then-len-lt16
returns-then-len-lt16 c =
    let w = c.args.self.now in
    let least : 28 ≤ c.args.total = total-least kind.Section c.args.total c.requires.block.total_is in
    block-waits w c.wait.new.self c.wait.result c.args.order kind.Section c.args.total c.wait.ensures c.requires.block (omega arith) (omega arith)

pub returns : goal.returns
returns c =
    let w = c.args.self.now in
    let h = held_bytes w.window in
    let o = c.args.order in
    let total = c.args.total in
    let x = c.section_content-content.result in
    let least : 28 ≤ total = total-least kind.Section total c.requires.block.total_is in
    let len : 16 ≤ length h = omega arith in
    let e : x ≡ (if number o 2 12 h == 1 then content.Section else content.Broken) =
    c.section_content-content.ensures ∙ ap (λ b. if number o 2 12 b == 1 then content.Section else content.Broken) c.peek.ensures in
    steps-entered w c.enter.new.self o kind.Section total 16 ((total - 4) - 16) (λ left. content_given x o (kept_bytes w.window) (section_of w))
    c.requires.block.head c.requires.block.total_is (omega arith) len refl
    (λ left t. section-content o (section_of w) (kept_bytes w.window) total h (take w.budget left) x len least e t)
    c.enter.ensures.text c.enter.ensures.work c.enter.ensures.budget
