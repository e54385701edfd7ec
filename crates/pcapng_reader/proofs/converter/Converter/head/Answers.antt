use Rattle.std.proofs.Common.{◌∙◌, ap, sym, arith}
use Rattle.pcapng_reader.specs.Texts.{section_of, ahead}
use Rattle.pcapng_reader.specs.Windows.{held_bytes}
use Rattle.pcapng_reader.specs.Stages.{rank}
use Rattle.pcapng_reader.specs.Classic.{number, kind_of, is_length}
use Rattle.pcapng_reader.proofs.Blocks.{head-broken}
use Rattle.pcapng_reader.proofs.converter.Converter.head.Goals as goal

pub returns-then-not-is_length : goal.returns-then-not-is_length
returns-then-not-is_length c =
    let w = c.args.self.now in
    let h = held_bytes w.window in
    let o = c.args.order in
    let k = c.of_block-kind.ensures ∙ ap (kind_of o) c.peek.ensures in
    let n = c.read_u32-total.ensures ∙ ap (number o 4 4) c.peek-2.ensures in
    let e = sym (c.is_length.ensures ∙ ap (λ x. is_length x c.read_u32-total.result) k ∙ ap (is_length (kind_of o h)) n) ∙ c.if-not-is_length.true in
    record {
      text = λ left. c.end.ensures.text left ∙ sym (c.requires.head left ∙ head-broken o (kind_of o h) (number o 4 4 h) (section_of w) (ahead w left) e);
      tells = omega (arith, c.end.ensures.work, ap rank c.requires.stage);
      budget = c.end.ensures.budget;
    }
