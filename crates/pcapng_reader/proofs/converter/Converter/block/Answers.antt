use Rattle.std.proofs.Common.{◌≡◌, ◌∙◌, take, ap, sym, arith}
use Rattle.pcapng_reader.specs.Texts.{section_of, ahead, whole}
use Rattle.pcapng_reader.specs.Windows.{kept_bytes, held_bytes}
use Rattle.pcapng_reader.specs.Stages.{rank}
use Rattle.pcapng_reader.specs.Classic.{blocks, order_by}
use Rattle.pcapng_reader.proofs.Blocks.{blocks-none, blocks-short, blocks-head, blocks-unordered}
use Rattle.pcapng_reader.proofs.Texts.{text-at_block}
use Rattle.pcapng_reader.proofs.Steps.{ahead_end}
use Rattle.pcapng_reader.proofs.converter.Converter.block.Goals as goal

pub returns-then-len-eq0 : goal.returns-then-len-eq0
returns-then-len-eq0 c =
    let w = c.args.self.now in
    let h = held_bytes w.window in
    let z : w.budget ≡ 0 = omega arith in
    record {
      text = λ left.
          c.end.ensures.text left
          ∙ sym (text-at_block w.stage (section_of w) (kept_bytes w.window) (ahead w left) (whole w left) c.requires.stage c.requires.given
          ∙ ap (blocks (section_of w)) (ahead_end h w.budget left z) ∙ blocks-none (section_of w) h (omega arith));
      tells = omega (arith, c.end.ensures.work, ap rank c.requires.stage);
      budget = c.end.ensures.budget;
    }

pub returns-else-len-eq0 : goal.returns-else-len-eq0
returns-else-len-eq0 c =
    let w = c.args.self.now in
    let h = held_bytes w.window in
    let z : w.budget ≡ 0 = omega arith in
    record {
      text = λ left.
          c.end-else-len-eq0.ensures.text left
          ∙ sym (text-at_block w.stage (section_of w) (kept_bytes w.window) (ahead w left) (whole w left) c.requires.stage c.requires.given
          ∙ ap (blocks (section_of w)) (ahead_end h w.budget left z) ∙ blocks-short (section_of w) h (omega arith) (omega arith));
      tells = omega (arith, c.end-else-len-eq0.ensures.work, ap rank c.requires.stage);
      budget = c.end-else-len-eq0.ensures.budget;
    }

pub head-requires-clause-head : goal.head-requires-clause-head
head-requires-clause-head c =
    let w = c.args.self.now in
    let h = held_bytes w.window in
    λ left.
    text-at_block w.stage (section_of w) (kept_bytes w.window) (ahead w left) (whole w left) c.requires.stage c.requires.given
    ∙ blocks-head (section_of w) h (take w.budget left) c.in-Some.order (omega arith)
    (ap (order_by w.order) (sym c.peek.ensures) ∙ sym c.of_block.ensures ∙ c.in-Some.is)

pub returns-in-None : goal.returns-in-None
returns-in-None c =
    let w = c.args.self.now in
    let h = held_bytes w.window in
    record {
      text = λ left.
          c.end-in-None.ensures.text left
          ∙ sym (text-at_block w.stage (section_of w) (kept_bytes w.window) (ahead w left) (whole w left) c.requires.stage c.requires.given
          ∙ blocks-unordered (section_of w) h (take w.budget left) (omega arith)
          (ap (order_by w.order) (sym c.peek.ensures) ∙ sym c.of_block.ensures ∙ c.in-None.is));
      tells = omega (arith, c.end-in-None.ensures.work, ap rank c.requires.stage);
      budget = c.end-in-None.ensures.budget;
    }
