use Rattle.std.proofs.Common.{◌≡◌, ◌≤◌, ◌-◌, ◌+◌, ◌*◌, ◌++◌, ◌∷◌, [], length, slice_index, ap, arith, length-append, subst, sym, ◌∙◌}
use Rattle.timing_base.specs.Judged.{stamp_of}
use Rattle.timing_base.specs.declared.media.Kind.TheVariants.{N, NL, W}
use Rattle.run_meter.specs.Runs.{stamps_of}
use Rattle.run_meter.specs.declared.run.RunPacket.{RunPacket}
use Rattle.flow_measure.specs.declared.group_walk.GroupWalk.{GroupWalk}
use Rattle.flow_measure.proofs.Fronts.{last-is}
use Rattle.flow_measure.proofs.Judging.{stamps-long, stamps-more}
use Rattle.flow_watch.specs.Stretches.{ArePeaks}
use Rattle.flow_watch.specs.making.Meters.{CountsType}
use Rattle.flow_watch.proofs.Metering.{fed-with, group-ended, walk-parts}
use Rattle.flow_watch.proofs.meter.WatchMeterRunMeter.feed.Goals as goal

-- the packet isn't the last one of its frame or field
pub returns-else-pass : goal.returns-else-pass
returns-else-pass c = λ shift r fed committed p size told few rising level h.
    let m = c.args._params.now.media in
    let old = c.args.self.now in
    let x = c.take.new.self in
    let walk = c.pass.new.self in
    let some : 1 ≤ r.n = omega (arith, size, c.args._params.now.n_some) in
    let all = fed ++ p ∷ [] in
    let long : length all ≡ length fed + 1 = length-append fed (p ∷ []) in
    let f = fed-with m shift r old x fed committed p c.args.level c.args._params.now.media_is some few level c.take.ensures h in
    let on = c.pass.ensures.within c.if-pass.false in
    let group : walk.group ≡ old.walk.group = on.2 ∙ ap (λ (w : GroupWalk). w.group) c.take.ensures.walk_is in
    record {
      run_is = f.run_is;
      n_is = c.pass.ensures.n ∙ ap (λ (w : GroupWalk). w.n) c.take.ensures.walk_is ∙ h.n_is;
      seen = omega (arith, c.pass.ensures.seen, ap (λ (w : GroupWalk). w.seen) c.take.ensures.walk_is, h.seen, long);
      narrow_is = subst (λ g. CountsType m r.n (stamps_of shift all) N g x.narrow) (sym group) f.narrow_is;
      narrow_linear_is = subst (λ g. CountsType m r.n (stamps_of shift all) NL g x.narrow_linear) (sym group) f.narrow_linear_is;
      wide_is = subst (λ g. CountsType m r.n (stamps_of shift all) W g x.wide) (sym group) f.wide_is;
      peaks_are = λ later. subst (λ g. ArePeaks m r.n (stamps_of shift all) (g * r.n) (length all) x.peaks) (sym group) f.peaks_are;
      rest = f.rest;
      whole = f.whole;
      done = f.done;
      committed_are = f.committed_are;
      kept_are = f.kept_are;
      kept_count = f.kept_count ∙ sym group;
    }

-- it is
pub returns-in_ok-end_group : goal.returns-in_ok-end_group
returns-in_ok-end_group c = λ shift r fed committed p size told few rising level h.
    let m = c.args._params.now.media in
    let old = c.args.self.now in
    let x = c.take.new.self in
    let walk = c.pass.new.self in
    let some : 1 ≤ r.n = omega (arith, size, c.args._params.now.n_some) in
    let all = fed ++ p ∷ [] in
    let long : length all ≡ length fed + 1 = length-append fed (p ∷ []) in
    let f = fed-with m shift r old x fed committed p c.args.level c.args._params.now.media_is some few level c.take.ensures h in
    let over = c.pass.ensures.over c.if-pass.true in
    let place : old.walk.place + 1 ≡ old.walk.n =
    let same = ap (λ (w : GroupWalk). w.place) c.take.ensures.walk_is in
    let count = ap (λ (w : GroupWalk). w.n) c.take.ensures.walk_is in
    omega (arith, over.0, same, count)
    in
    let group : walk.group ≡ old.walk.group + 1 = over.2 ∙ ap (λ (w : GroupWalk). w.group + 1) c.take.ensures.walk_is in
    let n_is = c.pass.ensures.n ∙ ap (λ (w : GroupWalk). w.n) c.take.ensures.walk_is ∙ h.n_is in
    let seen : walk.seen ≡ length all = omega (arith, c.pass.ensures.seen, ap (λ (w : GroupWalk). w.seen) c.take.ensures.walk_is, h.seen, long) in
    let product : old.walk.group * r.n ≡ old.walk.group * old.walk.n = ap (λ k. old.walk.group * k) (sym h.n_is) in
    let whole : length all ≡ old.walk.group * r.n + r.n = omega (arith, product, walk-parts old.walk, h.seen, long, place, h.n_is) in
    let stamps = stamps_of shift fed in
    let at : c.args.packet.at ≡ stamp_of shift p = ap (λ (q : RunPacket). q.at) told in
    let last : c.args.packet.at ≡ slice_index (stamps_of shift all) (length all - 1) =
    let index : length stamps ≡ length all - 1 = omega (arith, stamps-long shift fed, long) in
    at ∙ sym (last-is stamps (stamp_of shift p)) ∙ ap (λ l. slice_index l (length stamps)) (sym (stamps-more shift fed p))
    ∙ ap (slice_index (stamps_of shift all)) index
    in
    group-ended m shift r _ c.end_group.new.self c.args.packet.at old.walk.group all committed
    (record {
      run_is = f.run_is;
      narrow_is = f.narrow_is;
      narrow_linear_is = f.narrow_linear_is;
      wide_is = f.wide_is;
      peaks_are = f.peaks_are;
      rest = f.rest;
      whole = f.whole;
      done = f.done;
      committed_are = f.committed_are;
      kept_are = f.kept_are;
      kept_count = f.kept_count;
    })
    c.in_ok-end_group.ensures group over.1 n_is seen whole last
