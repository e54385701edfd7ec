use Rattle.std.proofs.Common.{◌≡◌, ◌+◌, refl, sym, subst}
use Rattle.flow_measure.specs.Fed.{IsLike, MeasuresBuffer, MeasuresKind, StandsAt, held_in}
use Rattle.flow_measure.proofs.Waiting.{buffer-same, kind-same, one-alone}
use Rattle.flow_measure.proofs.models.ModelMeters.turn_to.Goals as goal

pub returns-clause-stands : goal.returns-clause-stands
returns-clause-stands c = λ kind n c_max full packets h finds.
    let mid = c.settle.new.self in
    let seen : c.args.self.now.bucket.seen + c.args.self.now.waits ≡ mid.bucket.seen = sym c.settle.ensures.seen in
    let fed = c.settle.ensures.stands kind n c_max full packets h in
    record {
      filled = fed.filled;
      held_is = subst (λ b. MeasuresBuffer b packets) (sym (buffer-same kind mid _ refl refl)) fed.held_is;
      fed = subst (λ k. MeasuresKind n c_max full k packets) (sym (kind-same kind mid _ refl refl refl)) fed.fed;
      like = one-alone c_max full packets mid.bucket.seen c.args.level.bucket (held_in kind c.args.level)
          (subst (λ k. IsLike c_max full packets k c.args.level.bucket (held_in kind c.args.level)) seen finds.like);
      first = λ _. subst (λ k. StandsAt packets k c.args.place) seen finds.stands;
    }
