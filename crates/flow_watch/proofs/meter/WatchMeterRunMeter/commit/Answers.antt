use Rattle.std.proofs.Common.{◌≡◌, ◌≤◌, ◌*◌, ◌/◌, [], length, append-nil, ap, arith, subst, sym, ◌∙◌}
use Rattle.std.proofs.Math.Nat.{mul_comm}
use Rattle.run_meter.specs.Runs.{stamps_of}
use Rattle.flow_watch.specs.making.Lines.{AddsEach}
use Rattle.flow_watch.specs.making.Meters.{AreGroups}
use Rattle.flow_watch.proofs.Telling.{committed as committed-tells, done-groups}
use Rattle.flow_watch.proofs.meter.WatchMeterRunMeter.commit.Goals as goal

pub returns-clause-stands : goal.returns-clause-stands
returns-clause-stands c = λ shift r fed committed size whole h.
    let m = c.args._params.now.media in
    let s = c.args.self.now in
    let some : 1 ≤ r.n = omega (arith, size, c.args._params.now.n_some) in
    let full : length fed ≡ whole.groups * r.n = whole.are ∙ mul_comm r.n whole.groups in
    let group : s.walk.group ≡ whole.groups =
    s.walk.group_is ∙ ap (λ k. k / s.walk.n) h.seen ∙ ap (λ n. length fed / n) h.n_is ∙ done-groups r.n whole.groups fed some full in
    let none = c.clear.ensures.items in
    record {
      run_is = h.run_is;
      n_is = h.n_is;
      seen = h.seen;
      narrow_is = h.narrow_is;
      narrow_linear_is = h.narrow_linear_is;
      wide_is = h.wide_is;
      peaks_are = h.peaks_are;
      rest = [];
      whole = sym (append-nil fed);
      done = s.walk.group;
      committed_are = full ∙ ap (λ k. k * r.n) (sym group);
      kept_are = subst (AreGroups m r.number r.n (stamps_of shift fed) s.walk.group) (sym none) tt;
      kept_count = omega (arith, ap length none);
    }

pub returns-clause-tells : goal.returns-clause-tells
returns-clause-tells c = λ past shift r over fed committed size whole h tells.
    let some : 1 ≤ r.n = omega (arith, size, c.args._params.now.n_some) in
    let adds = subst (λ l. AddsEach l c.args.out.now c.add_each.new.self) c.as_slice.ensures.value c.in_ok-add_each.ensures in
    committed-tells past c.args.self.now c.args.out.now c.add_each.new.self c.args._params.now.media shift over r fed committed
    c.args._params.now.media_is some adds h tells
