-- The verdicts of a report in the terms of SMPTE ST 2110-21: a type passes exactly if the judged packets keep its
-- limits, and its violation names an interval that shows that they don't. Files and media count from 0.
use Rattle.std.specs.Prelude.{◌≡◌, ℕ, Bool, true, false, List, [], ◌∷◌, Some, slice_get}
use Rattle.timing_base.specs.Shifts.{FlowOptions}
use Rattle.timing_base.specs.Captures.{Record, joined as joined_records}
use Rattle.timing_base.specs.Judged.{FlowRun, FlowVerdict, JudgedRun, RunOutcome, in_one_run, in_runs, judged}
use Rattle.timing_base.specs.Judged.{no_whole_frame, whole_frames}
use Rattle.timing_base.specs.Media.{Media}
use Rattle.timing_base.specs.Verdicts.{Judged as JudgedValue}
use Rattle.timing_base.specs.declared.fail.FailProof.{FailProof}
use Rattle.timing_base.specs.declared.media.Kind.{Kind}
use Rattle.timing_base.specs.declared.media.Kind.TheVariants.{N, NL, W}
use Rattle.timing_base.specs.declared.row.KindVerdict.{KindVerdict}
use Rattle.timing_base.specs.declared.row.KindVerdict.TheVariants.{Pass, Fail}
use Rattle.timing_base.specs.declared.row.Row.{Row}
use Rattle.timing_base.specs.declared.row.Run.{Run}
use Rattle.timing_base.specs.declared.row.RunVerdict.{RunVerdict}
use Rattle.timing_base.specs.declared.row.RunVerdict.TheVariants as run_verdict
use Rattle.timing_base.specs.declared.row.Unjudged.{Unjudged}
use Rattle.timing_base.specs.declared.row.Verdict.{Verdict}
use Rattle.timing_base.specs.declared.row.Verdict.TheVariants as verdict
use Rattle.udp_rtp.specs.Flow.{flow}
use Rattle.sender_params.specs.Keeps.{Confirms, Keeps}

-- the verdict on a type is exact, for judged packets with these capture timestamps and `n` packets in each frame or
-- field
pub record IsExact (m : Media) (n : ℕ) (stamps : List ℕ) (kind : Kind) (v : KindVerdict) : Type 0 where
  pub passes : v ≡ Pass → Keeps m n stamps kind
  pub keeps : Keeps m n stamps kind → v ≡ Pass
  pub confirmed : (f : FailProof) → v ≡ Fail f → Confirms m n stamps kind f

-- the verdicts on N, NL and W of a judged run are exact
pub record AreExact (m : Media) (run : JudgedRun) (kinds : List KindVerdict) : Type 0 where
  pub narrow : KindVerdict
  pub narrow_linear : KindVerdict
  pub wide : KindVerdict
  pub kinds_are : kinds ≡ narrow ∷ narrow_linear ∷ wide ∷ []
  pub narrow_is : IsExact m run.n run.stamps N narrow
  pub narrow_linear_is : IsExact m run.n run.stamps NL narrow_linear
  pub wide_is : IsExact m run.n run.stamps W wide

-- the result of a run between gaps is exact
abbrev pub TellsRun : Media → RunOutcome → RunVerdict → Type 0
TellsRun m (no_whole_frame head) v = v ≡ run_verdict.NoWholeFrame head
TellsRun m (whole_frames run) v = (j : JudgedValue) × (v ≡ run_verdict.Judged j) × AreExact m run j.kinds

-- the results of runs between gaps are exact, one for each run
abbrev pub TellRuns : Media → List FlowRun → List Run → Type 0
TellRuns m [] told = told ≡ []
TellRuns m (run ∷ runs) [] = ⊥
TellRuns m (run ∷ runs) (t ∷ ts) = TellsRun m run.outcome t.verdict × TellRuns m runs ts

-- the result of a flow is exact; if the flow isn't judged, the result has no verdict on a type
abbrev pub TellsFlow : Media → FlowVerdict → Verdict → Type 0
TellsFlow m (in_one_run (whole_frames run)) v = (j : JudgedValue) × (v ≡ verdict.Judged j) × AreExact m run j.kinds
TellsFlow m (in_runs runs) v = (told : List Run) × (v ≡ verdict.Runs told) × TellRuns m runs told
TellsFlow m other v = (why : Unjudged) × (v ≡ verdict.Unjudged why)

-- the packet records that a result with this file number is of: those of the file, or if the files are joined, those of
-- all files as one
abbrev pub AreRecordsOf : (joined : Bool) → List (List Record) → (file : ℕ) → List Record → Type 0
AreRecordsOf true files file items = items ≡ joined_records files
AreRecordsOf false files file items = slice_get files file ≡ Some items

-- the result of a flow is exact for the flow of its media in its file
pub record IsExactRow (joined : Bool) (options : FlowOptions) (media : List Media) (files : List (List Record))
    (row : Row) : Type 0
  where
    pub m : Media
    pub media_is : slice_get media row.key.media ≡ Some m
    pub items : List Record
    pub items_are : AreRecordsOf joined files row.key.file items
    pub tells : TellsFlow m (judged (flow items m) m.pt options) row.verdict
