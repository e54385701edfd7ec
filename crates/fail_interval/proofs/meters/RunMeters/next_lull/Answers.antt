use Rattle.std.proofs.Common.{◌≤◌, ◌-◌, true, false, arith, ap, length, ◌∙◌, sym}
use Rattle.std.specs.Prelude.{is_some}
use Rattle.sender_params.specs.Limits.{gapped_of}
use Rattle.timing_base.specs.declared.media.Kind.TheVariants.{NL, W}
use Rattle.fail_interval.proofs.Lulls.{calm-begins, calm-over}
use Rattle.fail_interval.specs.Lulls.{IsCalm}
use Rattle.fail_interval.proofs.Metering.{vrx-peak}
use Rattle.fail_interval.proofs.meters.RunMeters.next_lull.Goals as goal

pub returns-then-brim-eq0 : goal.returns-then-brim-eq0
returns-then-brim-eq0 c = λ params stamps f.
    let s = c.args.self.now in
    let over : (meter : _) (b : _) → IsCalm params s.bucket.origin (length stamps) meter (c.over.result.until - length stamps) c.over.result.brim b =
    λ meter b. calm-over params s.bucket.origin (length stamps) meter _ _ b (omega (arith, c.over.ensures.until)) c.over.ensures.brim in
    record { narrow = over s.narrow _; narrow_linear = over s.narrow_linear _; wide = over s.wide _ }

pub returns : goal.returns
returns c = λ params stamps f.
    let s = c.args.self.now in
    let m = params.media in
    let n = params.n in
    let peak = vrx-peak params s.narrow_linear.vrx stamps NL f.narrow_linear_kind f.narrow_linear.vrx
    ∙ sym (vrx-peak params s.wide.vrx stamps W f.wide_kind f.wide.vrx) in
    let left = c.saturating_add-until.result - length stamps in
    let few : left ≤ c.min.result = omega (arith, c.saturating_add-until.ensures, f.bucket.seen) in
    record {
      narrow = calm-begins params s.bucket.origin (length stamps) s.narrow left c.min-brim.result
          c.saturating_sub-gapped_read.result s.bucket.seen true _
          (ap gapped_of f.narrow_kind) (omega (arith, c.saturating_sub-gapped_read.ensures, f.bucket.seen)) f.bucket.seen
          (λ pass. omega (arith, c.brim.ensures pass, c.min-2.ensures, c.min-brim.ensures))
          (c.calm-gapped.ensures.due m n _ true _ left f.gapped (omega (arith, few, c.min.ensures)))
          (λ none. c.calm-gapped.ensures.ahead m n _ true _ left f.gapped (omega (arith, few, c.min.ensures))
          (c.is_some.ensures ∙ ap is_some none));
      narrow_linear = calm-begins params s.bucket.origin (length stamps) s.narrow_linear left c.min-brim.result c.saturating_sub-linear_read.result
          s.bucket.seen false _
          (ap gapped_of f.narrow_linear_kind) (omega (arith, c.saturating_sub-linear_read.ensures, f.bucket.seen))
          f.bucket.seen
          (λ pass. omega (arith, c.brim-2.ensures pass, c.min-2.ensures, c.min-brim.ensures))
          (c.calm-linear.ensures.due m n _ false _ left f.linear (omega (arith, few, c.min.ensures)))
          (λ none. c.calm-linear.ensures.ahead m n _ false _ left f.linear (omega (arith, few, c.min.ensures))
          (c.both_break-breaks.ensures.first none));
      wide = calm-begins params s.bucket.origin (length stamps) s.wide left c.min-brim.result
          c.saturating_sub-linear_read.result s.bucket.seen false _
          (ap gapped_of f.wide_kind) (omega (arith, c.saturating_sub-linear_read.ensures, f.bucket.seen, peak))
          f.bucket.seen
          (λ pass. omega (arith, c.brim-3.ensures pass, c.min-brim.ensures))
          (c.calm-linear.ensures.due m n _ false _ left f.linear (omega (arith, few, c.min.ensures)))
          (λ none. c.calm-linear.ensures.ahead m n _ false _ left f.linear (omega (arith, few, c.min.ensures))
          (c.both_break-breaks.ensures.second none));
    }
