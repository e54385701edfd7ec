use Rattle.std.proofs.Common.{◌≡◌, ◌+◌, ◌-◌, pos, ◌*ℤ◌, FitsSigned, ap, ◌∙◌, sym, refl, rules, arith}
use Rattle.std.proofs.lemmas.Int.{ints, to_z-of_z}
use Rattle.std.specs.Int.{w128}
use Rattle.flow_measure.proofs.Summarized.{IsSummary-often}
use Rattle.flow_measure.proofs.summary.SummaryMeter.feed_often.Goals as goal

pub returns-clause-stands : goal.returns-clause-stands
returns-clause-stands c = λ numbers h same some.
    let s = c.args.self.now in
    let mid = c.feed.new.self in
    let x = c.args.number in
    let fits : FitsSigned w128 x = search rules in
    let value = simp to_z-of_z at c.product.ensures.value in
    let first : numbers s.seen ≡ x = ap numbers (omega arith) ∙ same 0 (omega (arith, c.requires.some)) in
    let stands = (simp to_z-of_z at c.feed.ensures.stands) numbers h first (omega (arith, c.feed.ensures.seen)) in
    let back : mid.seen - 1 ≡ s.seen = omega (arith, c.feed.ensures.seen) in
    let last : mid.so_far.last ≡ x = stands.last ∙ ap numbers back ∙ first in
    let turned = ap (λ z. z *ℤ pos (c.args.times - 1)) last in
    IsSummary-often numbers mid.seen (c.args.times - 1) mid.so_far _ stands
    (λ j few. ap numbers (omega (arith, c.feed.ensures.seen)) ∙ same (1 + j) (omega (arith, few)) ∙ sym last)
    refl refl (omega (arith, ints, value, turned)) refl refl
