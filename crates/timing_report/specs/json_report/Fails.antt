-- The violations in the results of flows, in the order of the JSON report, and the bounds on the numbers that the
-- analyser puts into a result.
use Rattle.std.specs.Prelude.{◌<◌, ◌+◌, ◌^◌, ℕ, List, [], ◌∷◌, ◌++◌, Option, Some, None, All, ⊤}
use Rattle.std.specs.List.{flat_map}
use Rattle.std.specs.Option.{ForSome}
use Rattle.timing_base.specs.Rows.{AreRuns}
use Rattle.timing_base.specs.Verdicts.{Judged, IsJudged}
use Rattle.timing_base.specs.declared.fail.FailProof.{FailProof}
use Rattle.timing_base.specs.declared.key.FlowKey.{FlowKey}
use Rattle.timing_base.specs.declared.media.Kind.TheVariants.{N, NL, W}
use Rattle.timing_base.specs.declared.row.KindVerdict.{KindVerdict}
use Rattle.timing_base.specs.declared.row.KindVerdict.TheVariants as kind_verdict
use Rattle.timing_base.specs.declared.row.Row.{Row}
use Rattle.timing_base.specs.declared.row.Run.{Run}
use Rattle.timing_base.specs.declared.row.RunVerdict.{RunVerdict}
use Rattle.timing_base.specs.declared.row.RunVerdict.TheVariants as run_verdict
use Rattle.timing_base.specs.declared.row.Unjudged.{Unjudged}
use Rattle.timing_base.specs.declared.row.Unjudged.TheVariants as unjudged
use Rattle.timing_base.specs.declared.row.Verdict.{Verdict}
use Rattle.timing_base.specs.declared.row.Verdict.TheVariants as verdict
use Rattle.timing_report.specs.Outcomes.{verdict_on}
use Rattle.timing_report.specs.json_report.Reading.{told}
use Rattle.timing_report.specs.declared.json_report.reading.ReportProof.{ReportProof}

-- the violation of a type that fails
abbrev pub fail_of : KindVerdict → Option FailProof
fail_of kind_verdict.Pass = None
fail_of (kind_verdict.Fail proof) = Some proof

-- the violations of a judged run, for N, NL and W in this order
abbrev pub judged_fails : FlowKey → ℕ → Judged → List ReportProof
judged_fails key run judged =
    told key run N (fail_of (verdict_on judged N))
    ++ (told key run NL (fail_of (verdict_on judged NL))
    ++ (told key run W (fail_of (verdict_on judged W)) ++ []))

-- the violations of a run between gaps; runs count from 0
abbrev pub run_fails : FlowKey → ℕ → RunVerdict → List ReportProof
run_fails key run (run_verdict.NoWholeFrame head) = []
run_fails key run (run_verdict.Judged judged) = judged_fails key run judged

-- the violations of the runs from number `index` on
abbrev pub runs_fails : FlowKey → ℕ → List Run → List ReportProof
runs_fails key index [] = []
runs_fails key index (run ∷ rest) = run_fails key index run.verdict ++ runs_fails key (index + 1) rest

-- the violations of a flow
abbrev pub verdict_fails : FlowKey → Verdict → List ReportProof
verdict_fails key (verdict.Unjudged unjudged) = []
verdict_fails key (verdict.Judged judged) = judged_fails key 0 judged
verdict_fails key (verdict.Runs runs) = runs_fails key 0 runs

-- the violations of all results
abbrev pub fails_of : List Row → List ReportProof
fails_of rows = flat_map (λ row. verdict_fails row.key row.verdict) rows

-- a number of 64 bits
abbrev pub IsWord : ℕ → Type 0
IsWord n = n < 2 ^ 64

-- the numbers of a violation have 64 bits
pub record AreWords (proof : FailProof) : Type 0 where
  pub from : IsWord proof.from
  pub to : IsWord proof.to
  pub count : IsWord proof.count
  pub limit : IsWord proof.limit

-- the numbers of a verdict on a type have 64 bits
abbrev pub FitsKind : KindVerdict → Type 0
FitsKind kind_verdict.Pass = ⊤
FitsKind (kind_verdict.Fail proof) = AreWords proof

-- the numbers of a judged run have 64 bits
pub record FitsJudged (judged : Judged) : Type 0 where
  pub is : IsJudged judged
  pub frames : IsWord judged.frames
  pub packets : IsWord judged.packets
  pub head : IsWord judged.head
  pub tail : IsWord judged.tail
  pub bucket_peak : IsWord judged.bucket_peak
  pub gapped_peak : IsWord judged.gapped_peak
  pub linear_peak : IsWord judged.linear_peak
  pub n : FitsKind (verdict_on judged N)
  pub nl : FitsKind (verdict_on judged NL)
  pub w : FitsKind (verdict_on judged W)

-- the numbers of the verdict on a run between gaps have 64 bits
abbrev pub FitsRunVerdict : RunVerdict → Type 0
FitsRunVerdict (run_verdict.NoWholeFrame head) = IsWord head
FitsRunVerdict (run_verdict.Judged judged) = FitsJudged judged

-- the numbers of a run between gaps have 64 bits
pub record FitsRun (run : Run) : Type 0 where
  pub rec : IsWord run.rec
  pub number : IsWord run.number
  pub expected : ForSome run.expected IsWord
  pub outcome : FitsRunVerdict run.verdict

-- the numbers of a flow that was not judged have 64 bits
abbrev pub FitsUnjudged : Unjudged → Type 0
FitsUnjudged unjudged.Absent = ⊤
FitsUnjudged (unjudged.NoWholeFrame head) = IsWord head
FitsUnjudged (unjudged.Refused rec fault) = IsWord rec
FitsUnjudged (unjudged.Gap rec expected got) = IsWord rec × IsWord expected × IsWord got

-- the numbers of a verdict have 64 bits, and there are no more runs than a flow may have
abbrev pub FitsVerdict : Verdict → Type 0
FitsVerdict (verdict.Unjudged unjudged) = FitsUnjudged unjudged
FitsVerdict (verdict.Judged judged) = FitsJudged judged
FitsVerdict (verdict.Runs runs) = AreRuns runs × All FitsRun runs
