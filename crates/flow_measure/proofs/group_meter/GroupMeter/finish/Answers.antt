use Rattle.std.proofs.Common.{◌≡◌, ◌-◌, MatchOption, ◌∙◌, ap, sym, subst, arith}
use Rattle.flow_measure.specs.Groups.{AreGroupNumbers, latency_at, offset_at, since_at, step_after}
use Rattle.flow_measure.specs.Summary.{IsSummary}
use Rattle.flow_measure.proofs.group_meter.GroupMeter.finish.Goals as goal

pub returns-in_err-last : goal.returns-in_err-last
returns-in_err-last c = λ m anchor first last timestamp h.
    let s = c.args.self.now in
    let none : s.first.seen ≡ 0 = sym s.last_is ∙ c.in_err-last.ensures (since_at m anchor last) h.last_is in
    subst (λ o. MatchOption o (s.first.seen ≡ 0) (AreGroupNumbers m anchor s.first.seen first last timestamp)) (sym c.from_residual-in_err-last.ensures) none

pub returns-in_err-offset : goal.returns-in_err-offset
returns-in_err-offset c = λ m anchor first last timestamp h.
    let s = c.args.self.now in
    let none : s.first.seen ≡ 0 = sym s.offset_is ∙ c.in_err-offset.ensures (offset_at m anchor timestamp) h.offset in
    subst (λ o. MatchOption o (s.first.seen ≡ 0) (AreGroupNumbers m anchor s.first.seen first last timestamp)) (sym c.from_residual-in_err-offset.ensures) none

pub returns-in_err-latency : goal.returns-in_err-latency
returns-in_err-latency c = λ m anchor first last timestamp h.
    let s = c.args.self.now in
    let none : s.first.seen ≡ 0 = sym s.latency_is ∙ c.in_err-latency.ensures (latency_at first timestamp) h.latency in
    subst (λ o. MatchOption o (s.first.seen ≡ 0) (AreGroupNumbers m anchor s.first.seen first last timestamp)) (sym c.from_residual-in_err-latency.ensures) none

pub returns : goal.returns
returns c = λ m anchor first last timestamp h.
    let s = c.args.self.now in
    let steps : s.step.seen - 1 ≡ s.first.seen - 1 = ap (λ k. k - 1) s.step_is in
    let step = step_after timestamp in
    record {
      first_is = c.in_ok-first.ensures (since_at m anchor first) h.first_is;
      last_is = subst (λ k. IsSummary (since_at m anchor last) k c.in_ok-last.last) s.last_is (c.in_ok-last.ensures (since_at m anchor last) h.last_is);
      offset = subst (λ k. IsSummary (offset_at m anchor timestamp) k c.in_ok-offset.offset) s.offset_is
          (c.in_ok-offset.ensures (offset_at m anchor timestamp) h.offset);
      latency = subst (λ k. IsSummary (latency_at first timestamp) k c.in_ok-latency.latency) s.latency_is
          (c.in_ok-latency.ensures (latency_at first timestamp) h.latency);
      step = subst (λ k. MatchOption c.finish-5.result (k ≡ 0) (IsSummary step k)) steps (c.finish-5.ensures timestamp h.step);
    }
