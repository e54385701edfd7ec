use Rattle.std.proofs.Common.{◌≡◌, ◌∙◌, FitsSigned, ap, refl, rules, arith}
use Rattle.std.proofs.lemmas.Int.{to_z-of_z}
use Rattle.std.specs.Int.{w128}
use Rattle.run_meter.specs.declared.run.RunPacket.{RunPacket}
use Rattle.flow_measure.specs.Frames.{after_start}
use Rattle.flow_measure.specs.declared.group_walk.GroupWalk.{GroupWalk}
use Rattle.flow_measure.proofs.lemmas.rows.Grouping.{ends-group, ends-row, goes-on, place-kept, placed, taken}
use Rattle.flow_measure.proofs.rows.maker.RowMaker.feed.Goals as goal

pub returns-then-not-pass-clause-stands : goal.returns-then-not-pass-clause-stands
returns-then-not-pass-clause-stands c = λ shift run before p is h.
    let m = c.args.params.now.media in
    let n = c.args.params.now.n in
    let old = c.args.self.now in
    let x = c.take.new.self in
    let t = c.take.ensures in
    let w : GroupWalk = c.pass.new.self in
    let step = c.if-not-pass.ensures in
    let moved = step.within (search rules) in
    let same = t.walk in
    let size : w.n ≡ n = step.n ∙ ap (λ (v : GroupWalk). v.n) same ∙ h.n_is in
    goes-on m shift run n old x _ before p refl refl refl size (omega (arith, step.seen, ap (λ (v : GroupWalk). v.seen) same, h.seen))
    (omega (arith, moved.1, ap (λ (v : GroupWalk). v.place) same)) (moved.2 ∙ ap (λ (v : GroupWalk). v.group) same)
    (taken m shift run n old x before p c.args.kept t.begins t.widens is h)

pub returns-clause-row : goal.returns-clause-row
returns-clause-row c = λ shift run before p is h.
    let m = c.args.params.now.media in
    let n = c.args.params.now.n in
    let old = c.args.self.now in
    let x = c.take.new.self in
    let t = c.take.ensures in
    let step = c.if-not-pass.ensures in
    let moved = step.over (search rules) in
    let same = t.walk in
    let since = c.since_start.result in
    let fits : FitsSigned w128 since = search rules in
    let n0_fits : FitsSigned w128 x.n0 = search rules in
    ends-row m shift run n old x before p c.args.kept.packet.at _
    (omega (arith, moved.0, ap (λ (v : GroupWalk). v.place) same, ap (λ (v : GroupWalk). v.n) same, h.n_is))
    (ap (λ (q : RunPacket). q.at) is.packet_is) (placed m shift run n old before h)
    (record {
      place = place-kept x.row _ _ _ _ _ _;
      last = to_z-of_z w128 since fits ∙ c.since_start.ensures.value
          ∙ ap (λ z. after_start m z x.row.group c.args.kept.packet.at) (to_z-of_z w128 x.n0 n0_fits);
      bucket = refl;
      gapped_least = refl;
      gapped = refl;
      linear_least = refl;
      linear = refl;
    })
    (taken m shift run n old x before p c.args.kept t.begins t.widens is h)

pub returns-clause-stands : goal.returns-clause-stands
returns-clause-stands c = λ shift run before p is h.
    let m = c.args.params.now.media in
    let n = c.args.params.now.n in
    let old = c.args.self.now in
    let x = c.take.new.self in
    let t = c.take.ensures in
    let w : GroupWalk = c.pass.new.self in
    let step = c.if-not-pass.ensures in
    let moved = step.over (search rules) in
    let same = t.walk in
    let size : w.n ≡ n = step.n ∙ ap (λ (v : GroupWalk). v.n) same ∙ h.n_is in
    ends-group m shift run n old x _ before p refl refl refl size (omega (arith, step.seen, ap (λ (v : GroupWalk). v.seen) same, h.seen))
    moved.1 (omega (arith, moved.2, ap (λ (v : GroupWalk). v.group) same))
    (taken m shift run n old x before p c.args.kept t.begins t.widens is h)
