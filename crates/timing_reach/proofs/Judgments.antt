-- The answer on a flow that isn't judged in one run of whole frames.
use Rattle.std.proofs.Common.{◌≡◌, refl}
use Rattle.timing_base.specs.Judged.{FlowVerdict, JudgedRun, absent, gap, in_one_run, in_runs, no_whole_frame, refused, whole_frames}
use Rattle.timing_base.specs.Media.{Media}
use Rattle.timing_base.specs.Verdicts.{Judged}
use Rattle.timing_base.specs.declared.row.Verdict.TheVariants as verdict
use Rattle.fail_interval.specs.Row.{judged_values, verdict_of}
use Rattle.timing_steps.specs.Answers.{Answer}
use Rattle.timing_steps.specs.Flows.{not_judged}
use Rattle.timing_reach.specs.Asked.{OnRun}

pub not-run : (m : Media) (next : JudgedRun → Answer → Type 0) (v : FlowVerdict) (answer : Answer) → ((j : Judged) → verdict_of m v ≡ verdict.Judged j → ⊥)
    → answer ≡ not_judged m (verdict_of m v) → OnRun m next v answer
not-run m next absent answer other e = e
not-run m next (refused rec fault) answer other e = e
not-run m next (gap rec expected got) answer other e = e
not-run m next (in_one_run (no_whole_frame head)) answer other e = e
not-run m next (in_one_run (whole_frames run)) answer other e = absurd (other (judged_values m run) refl)
not-run m next (in_runs runs) answer other e = e
