use Rattle.std.proofs.Common.{◌≡◌, ◌<◌, ◌+◌, ◌-◌, true, false, refl, sym, ◌∙◌, arith, rules}
use Rattle.std.specs.Prelude.{slice_index}
use Rattle.fraction128.specs.Fractions.{at_most, whole}
use Rattle.sender_params.specs.Limits.{gapped_of}
use Rattle.sender_params.specs.Reads.{anchor_of, read_of}
use Rattle.interval_checker.proofs.Counts.{held-more, held-says}
use Rattle.interval_checker.proofs.Intervals.{sampled-to}
use Rattle.interval_checker.proofs.interval.is_held.Goals as goal
use Rattle.interval_checker.proofs.interval.is_held.Goals.{else-due-gt0-via-then-due-gt0+else-not-is_due, else-due-gt0-via-else-due-gt0}

pub returns-then-not-is_due : goal.returns-then-not-is_due
returns-then-not-is_due c = λ stamps within sampled.
    let m = c.args.params.now.media in
    let n = c.args.params.now.n in
    let f = c.args.claim.now.proof in
    let gapped = gapped_of c.args.claim.now.kind in
    let are = c.reads-reads.ensures stamps (omega (arith, within)) sampled in
    let at : c.stamp-at.result ≡ slice_index stamps f.to =
    c.stamp-at.ensures.is ∙ sampled-to f c.args.claim.now.shift stamps c.args.sample.now sampled within in
    let isnt : c.is_due.result ≡ false = search rules in (
      λ never. cc,
      λ held. absurd (held-more m n stamps gapped c.reads-reads.result f.to f.count (f.to + 1 - f.count) _ c.is_due.result are c.requires.some (omega arith)
          refl at (omega arith)
          (c.is_due.ensures m n (anchor_of m (slice_index stamps 0)) gapped are) isnt held),
    )

pub returns : goal.returns
returns c = λ stamps within sampled.
    let m = c.args.params.now.media in
    let n = c.args.params.now.n in
    let f = c.args.claim.now.proof in
    let gapped = gapped_of c.args.claim.now.kind in
    let due = f.to + 1 - f.count in
    let t = c.stamp-at.result in
    let are = c.reads-reads.ensures stamps (omega (arith, within)) sampled in
    let at : t ≡ slice_index stamps f.to = c.stamp-at.ensures.is ∙ sampled-to f c.args.claim.now.shift stamps c.args.sample.now sampled within in
    let last : 0 < due → at_most (read_of m n (anchor_of m (slice_index stamps 0)) gapped (due - 1)) (whole t) ≡ true =
    elim c.else-due-gt0.branch as (λ _. 0 < due → at_most (read_of m n (anchor_of m (slice_index stamps 0)) gapped (due - 1)) (whole t) ≡ true) [
      | else-due-gt0-via-then-due-gt0+else-not-is_due w ↦ λ some.
          let holds : w.is_due.result ≡ true = search rules in
          sym (w.is_due.ensures m n (anchor_of m (slice_index stamps 0)) gapped are) ∙ holds
      | else-due-gt0-via-else-due-gt0 w ↦ λ some. absurd (omega (arith, some, w.if-due-gt0.false))
    ] in
    held-says m n stamps gapped c.reads-reads.result f.to f.count due t c.is_due-2.result are c.requires.some (omega arith) refl at last
    (c.is_due-2.ensures m n (anchor_of m (slice_index stamps 0)) gapped are)
