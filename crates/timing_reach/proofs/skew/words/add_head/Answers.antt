use Rattle.std.specs.Prelude.{Result, Ok, Err, IfOk, codes}
use Rattle.std.specs.Fmt.{decimal}
use Rattle.std.specs.Result.{OnOk}
use Rattle.std.specs.String.{string_bytes}
use Rattle.std.proofs.Common.{arith, ap, ◌≡◌, ◌∙◌, ◌+◌, ◌++◌, ℕ, List, length}
use Rattle.timing_base.specs.Jobs.{SkewJob}
use Rattle.timing_reach.specs.Skewed.{pair_head}
use Rattle.timing_reach.proofs.skew.words.add_head.Goals as goal

pub overflow_add-first : goal.overflow_add-first
overflow_add-first c = omega (arith, c.from.ensures, c.job.invariant.media_few)

pub overflow_add-second : goal.overflow_add-second
overflow_add-second c = omega (arith, c.from-2.ensures, c.job.invariant.pair_few)

-- the numbers that were written are those of the job
head-is : {T E : Type 0} (result : Result T E) (text old : List ℕ) (job : SkewJob) (first count second : ℕ) → first ≡ job.media → count ≡ length job.captures
    → second ≡ job.pair
    → OnOk result (text ≡ old ++ (codes "pair 1." ++ (decimal (first + 1) ++ (codes " "
    ++ (decimal count ++ (codes "." ++ (decimal (second + 1) ++ codes ": ")))))))
    → IfOk result (λ _. text ≡ old ++ pair_head job)
head-is (Ok x) text old job first count second a b c h = rw (a, b, c) at h
head-is (Err e) text old job first count second a b c h = tt

pub returns : goal.returns
returns c =
    head-is c.write.result (string_bytes c.write.new.self) (string_bytes c.args.text.now) c.args.job.now c.from.result (length c.as_slice.result.now)
    c.from-2.result
    (c.from.ensures ∙ ap (λ (job : SkewJob). job.media) c.job.view_is) (ap length (c.as_slice.ensures ∙ ap (λ (job : SkewJob). job.captures) c.job.view_is))
    (c.from-2.ensures ∙ ap (λ (job : SkewJob). job.pair) c.job.view_is) c.write.ensures.bytes
