use Rattle.std.proofs.Common.{◌≡◌, ◌+◌, ◌<◌, refl, sym, subst, ◌∙◌, arith}
use Rattle.run_meter.specs.declared.level.Level.{Level}
use Rattle.flow_measure.specs.Fed.{IsLike, MeasuresBuffer, MeasuresKind, held_in}
use Rattle.flow_measure.proofs.Waiting.{buffer-same, kind-same, one-more, same-level}
use Rattle.flow_measure.proofs.models.ModelMeters.feed.Goals as goal

pub returns-then-eq-clause-stands : goal.returns-then-eq-clause-stands
returns-then-eq-clause-stands c = λ kind n c_max full packets h finds.
    let s = c.args.self.now in
    let same : c.args.level ≡ s.level = same-level c.args.level s.level (sym c.eq.ensures ∙ c.if-eq.true) in
    let some : 0 < s.waits = omega (arith, c.if-self-gt0.true) in
    let here = subst (λ (l : Level). IsLike c_max full packets (s.bucket.seen + s.waits) l.bucket (held_in kind l)) same finds.like in
    record {
      filled = h.filled;
      held_is = subst (λ b. MeasuresBuffer b packets) (sym (buffer-same kind s _ refl refl)) h.held_is;
      fed = subst (λ k. MeasuresKind n c_max full k packets) (sym (kind-same kind s _ refl refl refl)) h.fed;
      like = one-more c_max full packets s.bucket.seen s.waits s.level.bucket (held_in kind s.level) h.like here;
      first = λ _. h.first some;
    }
