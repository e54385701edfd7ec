use Rattle.std.proofs.Common.{◌≡◌, ◌+◌, ◌*◌, refl, sym, subst, ap, ◌∙◌, arith}
use Rattle.flow_measure.specs.Fed.{MeasuresBuffer}
use Rattle.flow_measure.proofs.Waiting.{buffer-same, ended}
use Rattle.flow_measure.proofs.models.ModelMeters.end_group.Goals as goal

pub returns-clause-stands : goal.returns-clause-stands
returns-clause-stands c = λ kind n c_max full packets h all.
    let mid = c.settle.new.self in
    let fed = c.settle.ensures.stands kind n c_max full packets h in
    let seen : mid.bucket.seen ≡ mid.narrow.broken.whole * n + n =
    c.settle.ensures.seen ∙ all ∙ ap (λ k. k * n + n) (sym c.settle.ensures.whole) in
    let none = c.settle.ensures.none in
    record {
      filled = fed.filled;
      held_is = subst (λ b. MeasuresBuffer b packets) (sym (buffer-same kind mid _ refl refl)) fed.held_is;
      fed = ended kind n mid _
          (λ c_max full p k. c.end_group.ensures.stands n c_max full p k (mid.narrow_is ∙ seen))
          (λ c_max full p k. c.end_group-2.ensures.stands n c_max full p k
          (mid.narrow_linear_is ∙ seen ∙ ap (λ k. k * n + n) (sym mid.narrow_linear_whole)))
          (λ c_max full p k. c.end_group-3.ensures.stands n c_max full p k (mid.wide_is ∙ seen ∙ ap (λ k. k * n + n) (sym mid.wide_whole)))
          c_max full packets fed.fed;
      like = λ i from few. absurd (omega (arith, from, few, none));
      first = λ some. absurd (omega (arith, some, none));
    }
