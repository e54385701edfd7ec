use Rattle.std.proofs.Common.{◌≡◌, ◌≤◌, ◌+◌, ◌-◌, ◌∷◌, ◌++◌, [], true, false, arith, length, length-append, ◌∙◌, sym}
use Rattle.fail_interval.specs.Meters.{with_bucket}
use Rattle.fail_interval.proofs.Lulls.{calm-next, peak-few}
use Rattle.fail_interval.proofs.Metering.{first-is, kind-passes, later-by}
use Rattle.fail_interval.proofs.meters.RunMeters.pass.Goals as goal

pub returns-clause-takes : goal.returns-clause-takes
returns-clause-takes c = λ params before stamps follows origin stands.
    let old = c.args.self.now in
    let at = c.args.at in
    let s = follows.stands in
    let f = s.fed in
    let l = c.requires.lull in
    let falls = follows.fit.ordered in
    let first = first-is params (with_bucket old before) stamps at follows in
    let in_time = c.requires.in_time in
    let long = length-append stamps (at ∷ []) in
    let left = old.lull.until - length stamps in
    let more = old.lull.until - length (stamps ++ at ∷ []) in
    let some : 1 ≤ left = omega (arith, l.lasts, stands.seen, long) in
    let one : more + 1 ≡ left = omega (arith, l.lasts, stands.seen, long) in
    record {
      fed = record {
        first = λ _. first ∙ sym origin;
        bucket = stands;
        gapped = later-by params true old.gapped before.origin old.bucket.origin stamps at (sym origin) falls f.gapped;
        linear = later-by params false old.linear before.origin old.bucket.origin stamps at (sym origin) falls f.linear;
        narrow_kind = f.narrow_kind;
        narrow = kind-passes params old.narrow old.bucket before.origin left old.lull.brim old.lull.gapped stamps at
            falls stands first in_time some l.within l.gapped s.lull.narrow f.narrow;
        narrow_linear_kind = f.narrow_linear_kind;
        narrow_linear = kind-passes params old.narrow_linear old.bucket before.origin left old.lull.brim old.lull.linear stamps at
            falls stands first in_time some l.within l.linear s.lull.narrow_linear f.narrow_linear;
        wide_kind = f.wide_kind;
        wide = kind-passes params old.wide old.bucket before.origin left old.lull.brim old.lull.linear stamps at
            falls stands first in_time some l.within l.linear s.lull.wide f.wide;
      };
      lull = record {
        narrow = calm-next params before.origin old.bucket.origin (length stamps) _ old.narrow more left old.lull.brim old.lull.gapped
            c.go_on.new.self
            (sym origin) long one (peak-few params old.narrow.vrx stamps f.narrow.vrx)
            (c.go_on.ensures.from, c.go_on.ensures.up_to) s.lull.narrow;
        narrow_linear = calm-next params before.origin old.bucket.origin (length stamps) _ old.narrow_linear more left old.lull.brim
            old.lull.linear c.go_on-2.new.self
            (sym origin) long one (peak-few params old.narrow_linear.vrx stamps f.narrow_linear.vrx)
            (c.go_on-2.ensures.from, c.go_on-2.ensures.up_to) s.lull.narrow_linear;
        wide = calm-next params before.origin old.bucket.origin (length stamps) _ old.wide more left old.lull.brim old.lull.linear
            c.go_on-2.new.self
            (sym origin) long one (peak-few params old.wide.vrx stamps f.wide.vrx)
            (c.go_on-2.ensures.from, c.go_on-2.ensures.up_to) s.lull.wide;
      };
    }
