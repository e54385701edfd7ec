use Rattle.std.proofs.Common.{arith, ◌≤◌, ◌-◌, length}
use Rattle.std.proofs.lemmas.List.{length-take}
use Rattle.timing_outside.proofs.Fronts.{appends_next}
use Rattle.timing_outside.proofs.sink.put_all.Goals as goal

pub loop-at-preserved : goal.loop-at-preserved
loop-at-preserved g c =
    let xs = c.args.bytes.now in
    let n = c.in_ok-at.field-0 in
    let told = c.in_ok-at.ensures in
    let enough : n ≤ length xs - c.loop-at.at =
    omega (arith, told.bound, simp length-take at told.bound) in
    record {
      bytes = appends_next _ _ _ c.loop-at.at n xs enough c.loop-at.invariant.bytes told.bytes;
      later = omega (arith, c.write.ensures.cause.later, c.loop-at.invariant.later);
      inside = omega (arith, enough, c.loop-at.invariant.inside);
    }
