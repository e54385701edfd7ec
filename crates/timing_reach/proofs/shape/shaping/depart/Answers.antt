use Rattle.std.proofs.Common.{rules, arith, ◌<◌, ◌≡◌, ℕ, List, [], length, ap, append-nil, refl, ◌∙◌, subst, sym, Err, Result}
use Rattle.timing_base.specs.Captures.{Record}
use Rattle.flow_shaper.specs.declared.departure.Late.{Late}
use Rattle.std.proofs.lemmas.Result.{err_from_is_err_and}
use Rattle.timing_reach.specs.Shapes.{shaped_capture}
use Rattle.timing_reach.specs.shape.Shaping.{DepartsSo, HasLeft}
use Rattle.timing_reach.specs.shape.Walking.{IsBefore}
use Rattle.timing_reach.proofs.Shapings.{departs-all, departs-late, left-next, skip-on, skip-record}
use Rattle.timing_reach.proofs.Walkings.{has-head, stamp-held}
use Rattle.timing_reach.proofs.shape.shaping.depart.Goals as goal

pub loop-init : goal.loop-init
loop-init c =
    let can = c.requires.can in
    record {
      few = omega (arith, c.requires.none);
      stamp = omega arith;
      can = record { done = can.done; rest = can.rest; before = can.before; many = omega (arith, can.many) };
      departs = λ w head records stamps given before few are fit. record {
        departures = [];
        let_go = given;
        last = refl;
        before = subst (λ (l : List Record). IsBefore c.args.walk.now (shaped_capture w.shift (length head) [] l) records) (sym (append-nil head)) before;
      };
    }

pub stamp-requires : goal.stamp-requires
stamp-requires c =
    let walk = c.loop.walk in
    let low : c.loop.counter < c.args.count = search rules in
    let some = skip-record walk c.args.count c.loop.counter low c.loop.invariant.can in
    has-head walk some.0 some.1 some.2 some.4

pub leave-requires-clause-stamp : goal.leave-requires-clause-stamp
leave-requires-clause-stamp c =
    let walk = c.loop.walk in
    let low : c.loop.counter < c.args.count = search rules in
    let some = skip-record walk c.args.count c.loop.counter low c.loop.invariant.can in
    stamp-held walk c.stamp.result some.0 some.1 some.2 some.4 (c.stamp.ensures some.0 some.1 some.2 some.4)

pub returns-in_err-departure-clause-departs : goal.returns-in_err-departure-clause-departs
returns-in_err-departure-clause-departs c = λ w head records stamps given before few are fit.
    let low : c.loop.counter < c.args.count = search rules in
    let p = err_from_is_err_and c.from_residual.result c.from_residual.ensures.1 in
    let late =
    departs-late w c.loop.leaver c.leave.new.self c.loop.walk c.loop.left c.stamp.result head records stamps c.args.count c.loop.counter
    c.in_err-departure.field-0.0 low few are fit c.stamp.ensures c.in_err-departure.ensures.leaves
    (c.loop.invariant.departs w head records stamps given before few are fit) in
    subst (λ (r : Result ℕ Late). DepartsSo w c.loop.walk head records stamps c.args.count r) (sym (p.1 ∙ ap (λ (x : Late). Err x) p.2)) late

pub restamp-requires-clause-head : goal.restamp-requires-clause-head
restamp-requires-clause-head c =
    let walk = c.loop.walk in
    let low : c.loop.counter < c.args.count = search rules in
    let some = skip-record walk c.args.count c.loop.counter low c.loop.invariant.can in
    has-head walk some.0 some.1 some.2 some.4

pub loop-preserved : goal.loop-preserved
loop-preserved c =
    let low : c.loop.counter < c.args.count = search rules in
    record {
      few = omega (arith, c.leave.ensures.count, c.loop.invariant.few);
      stamp = c.captured-left.ensures.stamp;
      can = skip-on c.loop.walk c.restamp.new.self c.pass.new.self c.captured-left.result c.args.count c.loop.counter low c.loop.invariant.can
          c.restamp.ensures.restamps c.pass.ensures.passes;
      departs = λ w head records stamps given before few are fit.
          left-next w c.loop.leaver c.leave.new.self c.loop.walk c.restamp.new.self c.pass.new.self c.loop.left c.stamp.result c.captured-left.result
          head records stamps c.args.count c.loop.counter c.in_ok-departure.departure low few are fit c.stamp.ensures c.in_ok-departure.ensures.leaves
          c.leave.ensures.shift c.captured-left.ensures.is c.restamp.ensures.restamps c.pass.ensures.passes
          (c.loop.invariant.departs w head records stamps given before few are fit);
    }

pub returns-clause-departs : goal.returns-clause-departs
returns-clause-departs c = λ w head records stamps given before few are fit.
    let end : c.loop.counter ≡ c.args.count = search rules in
    departs-all w c.loop.leaver c.loop.walk c.loop.left head records stamps c.args.count few are
    (subst (λ k. HasLeft w c.loop.leaver c.loop.walk c.loop.left head records stamps k) end
    (c.loop.invariant.departs w head records stamps given before few are fit))
