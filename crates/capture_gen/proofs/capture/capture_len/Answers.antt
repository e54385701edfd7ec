use Rattle.std.proofs.Common.{◌≡◌, ◌+◌, ◌-◌, ◌*◌, nat_le, if◌then◌else◌, arith, ap, sym, ◌∙◌}
use Rattle.std.proofs.lemmas.Grind.{common_steps}
use Rattle.capture_gen.proofs.Sizes.{length-capture}
use Rattle.capture_gen.proofs.capture.capture_len.Goals as goal

pub returns-clause-counts : goal.returns-clause-counts
returns-clause-counts c =
    let left : (if nat_le 3 c.args.flaw then 1 else 0) ≡ c.if-flaw-ge3.left_out = grind (arith, common_steps) in
    λ number.
    length-capture number c.args.frames c.args.flaw c.requires.some
    ∙ ap (λ n. 24 + 72 * (1 + 20 * c.args.frames - n)) left ∙ ap (λ n. 24 + 72 * (1 + 20 * n - c.if-flaw-ge3.left_out)) (sym c.from.ensures)
