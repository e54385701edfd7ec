use Rattle.std.proofs.Common.{◌≡◌, ◌<◌, ◌-◌, true, false, sym, ◌∙◌, arith, rules}
use Rattle.std.specs.Prelude.{slice_index}
use Rattle.fraction128.specs.Fractions.{below, whole}
use Rattle.sender_params.specs.Limits.{gapped_of}
use Rattle.sender_params.specs.Reads.{anchor_of, read_of}
use Rattle.interval_checker.proofs.Counts.{arrived-fewer, arrived-says}
use Rattle.interval_checker.proofs.Intervals.{sampled-behind, sampled-counted}
use Rattle.interval_checker.proofs.interval.has_arrived.Goals as goal
use Rattle.interval_checker.proofs.interval.has_arrived.Goals.{else-claim-gt0-via-then-claim-gt0+else-is_before, else-claim-gt0-via-else-claim-gt0}

pub returns-then-is_before : goal.returns-then-is_before
returns-then-is_before c = λ stamps within sampled.
    let m = c.args.params.now.media in
    let n = c.args.params.now.n in
    let f = c.args.claim.now.proof in
    let kind = c.args.claim.now.kind in
    let are = c.reads-reads.ensures stamps (omega (arith, within)) sampled in
    let some : 0 < f.count = omega (arith, c.if-claim-gt0.true) in
    let at : c.stamp-last_counted.result ≡ slice_index stamps (f.count - 1) =
    c.stamp-last_counted.ensures.is ∙ sampled-counted f c.args.claim.now.shift stamps c.args.sample.now sampled some (omega (arith, within)) in
    let holds : c.is_before.result ≡ true = search rules in (
      λ never. cc,
      λ came. absurd (arrived-fewer m n stamps kind c.reads-reads.result f.to f.count _ c.is_before.result are sampled.rising some at
          (c.is_before.ensures m n (anchor_of m (slice_index stamps 0)) (gapped_of kind) are) holds came),
    )

pub returns : goal.returns
returns c = λ stamps within sampled.
    let m = c.args.params.now.media in
    let n = c.args.params.now.n in
    let f = c.args.claim.now.proof in
    let kind = c.args.claim.now.kind in
    let t = c.stamp-last_counted.result in
    let u = c.stamp.result in
    let are = c.reads-reads.ensures stamps (omega (arith, within)) sampled in
    let at : 0 < f.count → t ≡ slice_index stamps (f.count - 1) = λ some.
    c.stamp-last_counted.ensures.is ∙ sampled-counted f c.args.claim.now.shift stamps c.args.sample.now sampled some (omega (arith, within)) in
    let behind : u ≡ slice_index stamps f.count =
    c.stamp.ensures.is ∙ sampled-behind f c.args.claim.now.shift stamps c.args.sample.now sampled (omega (arith, within)) in
    let last : 0 < f.count → below (read_of m n (anchor_of m (slice_index stamps 0)) (gapped_of kind) f.to) (whole t) ≡ false =
    elim c.else-claim-gt0.branch as (λ _. 0 < f.count → below (read_of m n (anchor_of m (slice_index stamps 0)) (gapped_of kind) f.to) (whole t) ≡ false) [
      | else-claim-gt0-via-then-claim-gt0+else-is_before w ↦ λ some.
          let isnt : w.is_before.result ≡ false = search rules in
          sym (w.is_before.ensures m n (anchor_of m (slice_index stamps 0)) (gapped_of kind) are) ∙ isnt
      | else-claim-gt0-via-else-claim-gt0 w ↦ λ some. absurd (omega (arith, some, w.if-claim-gt0.false))
    ] in
    arrived-says m n stamps kind c.reads-reads.result f.to f.count t u c.is_before-2.result are sampled.rising (omega (arith, within)) at behind last
    (c.is_before-2.ensures m n (anchor_of m (slice_index stamps 0)) (gapped_of kind) are)
