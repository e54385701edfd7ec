-- That the lines of stretches say what the result of the flow says: the row of `check`. The count K of a type in a line
-- is that of the frames or fields of the run so far that break it. w is how the lines of the media are made. Frames and
-- fields count from 0, runs from 1. This project's profile: what a line says.
use Rattle.std.specs.Prelude.{◌≡◌, ◌<◌, ◌≤◌, ◌*◌, ◌==◌, ◌⊎◌, ℕ, ℤ, pos, negsuc, max, List, [], ◌∷◌, ◌++◌, length, map}
use Rattle.std.specs.Prelude.{take, Option, Some, None}
use Rattle.timing_base.specs.Flows.{first_fault}
use Rattle.timing_base.specs.Keys.{key_of}
use Rattle.timing_base.specs.Media.{Media}
use Rattle.timing_base.specs.Numbered.{numbered}
use Rattle.timing_base.specs.Shifts.{FlowOptions, Shift}
use Rattle.timing_base.specs.Verdicts.{Judged}
use Rattle.timing_base.specs.declared.media.Kind.TheVariants.{N, NL, W}
use Rattle.timing_base.specs.declared.packet.FlowPacket.{FlowPacket}
use Rattle.timing_base.specs.declared.row.Run.{Run}
use Rattle.timing_base.specs.declared.row.RunVerdict.{RunVerdict}
use Rattle.timing_base.specs.declared.row.RunVerdict.TheVariants as run_verdict
use Rattle.timing_base.specs.declared.row.Unjudged.{Unjudged}
use Rattle.timing_base.specs.declared.row.Verdict.{Verdict}
use Rattle.timing_base.specs.declared.row.Verdict.TheVariants as verdict
use Rattle.run_meter.specs.Runs.{OpenPart}
use Rattle.timing_report.specs.Outcomes.{passes}
use Rattle.fail_interval.specs.Parts.{open_before}
use Rattle.fail_interval.specs.Row.{row}
use Rattle.flow_watch.specs.Lines.{gap_line, refused_line, stretch_line, waiting_line}
use Rattle.flow_watch.specs.Watched.{IsStretchOf, RunPart, groups_in}
use Rattle.flow_watch.specs.declared.form.Gap.{Gap}
use Rattle.flow_watch.specs.declared.form.Waiting.{Waiting}
use Rattle.flow_watch.specs.declared.stretch.Stretch.{Stretch}
use Rattle.timing_watch.specs.Watched.{Watching}

-- ---- the result so far

-- the result of a run; none if it has no complete frame or field
abbrev pub run_result : RunVerdict → Option Judged
run_result (run_verdict.NoWholeFrame head) = None
run_result (run_verdict.Judged values) = Some values

-- that of the last of these runs
abbrev pub last_of : List Run → Option Judged
last_of [] = None
last_of (run ∷ []) = run_result run.verdict
last_of (run ∷ next ∷ rest) = last_of (next ∷ rest)

-- the result of the last run of a flow
abbrev pub last_run_in : Verdict → Option Judged
last_run_in (verdict.Judged values) = Some values
last_run_in (verdict.Runs runs) = last_of runs
last_run_in (verdict.Unjudged reason) = None

-- the result of the last run, in the row of `check` for these packets
abbrev pub result_of : Watching → Media → FlowOptions → List FlowPacket → Option Judged
result_of w m options packets = last_run_in (row packets (key_of 0 w.form.media) m options).verdict

-- ---- a line and the result

-- a stretch up to the last complete frame or field of a run agrees with the run's result: they have as many frames or
-- fields, and a type passes exactly if none of these breaks it
pub record Agrees (values : Judged) (s : Stretch) : Type 0 where
  pub ends : s.to ≡ values.frames
  pub narrow : passes values N ≡ (s.broken.narrow == 0)
  pub narrow_linear : passes values NL ≡ (s.broken.narrow_linear == 0)
  pub wide : passes values W ≡ (s.broken.wide == 0)

-- the line of a stretch that agrees with the result of the last run of these packets
pub record SaysResult (w : Watching) (m : Media) (options : FlowOptions) (packets : List FlowPacket) (line : List ℕ)
    : Type 0 where
  pub stretch : Stretch
  pub line_is : line ≡ stretch_line w.form stretch
  pub values : Judged
  pub result_is : result_of w m options packets ≡ Some values
  pub agrees : Agrees values stretch

-- no line, or such a line
abbrev pub SaysResultIfAny : Watching → Media → FlowOptions → List FlowPacket → List ℕ → Type 0
SaysResultIfAny w m options packets text = (text ≡ []) ⊎ SaysResult w m options packets text

-- the line that a run waits for a marker
abbrev pub SaysWait : Watching → List ℕ → Type 0
SaysWait w text = (waiting : Waiting) × (text ≡ waiting_line w.form waiting)

-- the line of a gap, or of a flow that isn't judged
abbrev pub SaysEnd : Watching → Media → List ℕ → Type 0
SaysEnd w m text =
    ((gap : Gap) × (text ≡ gap_line w.form gap)) ⊎ ((reason : Unjudged) × (text ≡ refused_line w.form m reason))

-- the line of what is left of a stretch before packet p, which agrees with the result of the packets before, if it is
-- there, and then that of a gap or of a flow that isn't judged
pub record EndsRun (w : Watching) (m : Media) (options : FlowOptions) (before : List FlowPacket) (text : List ℕ)
    : Type 0 where
  pub left : List ℕ
  pub line : List ℕ
  pub text_is : text ≡ left ++ line
  pub left_says : SaysResultIfAny w m options before left
  pub line_says : SaysEnd w m line

-- what packet p adds after those before: each line of a stretch in it agrees with the result of the packets so far
abbrev pub SaysSoFar : Watching → Media → FlowOptions → (before : List FlowPacket) → FlowPacket → List ℕ → Type 0
SaysSoFar w m options before p text =
    SaysResultIfAny w m options (before ++ p ∷ []) text ⊎ (SaysWait w text ⊎ EndsRun w m options before text)

-- ---- all stretches of a run

-- the packets of a flow have no fault, and these are the complete frames or fields of their last run
pub record IsOpenAfter (m : Media) (options : FlowOptions) (packets : List FlowPacket) (part : OpenPart) : Type 0 where
  pub sound : first_fault (numbered options.seq16 packets) m.pt ≡ None
  pub last : open_before (numbered options.seq16 packets) options.shift (length packets) ≡ Some part

-- a run when it had this many complete frames or fields
abbrev pub part_at : (groups : ℕ) → RunPart → RunPart
part_at groups part =
    record { number = part.number; n = part.n; packets = take (groups * part.n) part.packets }

-- the stretches of a run from frame or field `from` on and before `to`, one after the other, each as it was when it
-- ended
abbrev pub AreStretches : Media → Shift → RunPart → (from to : ℕ) → List Stretch → Type 0
AreStretches m shift part from to [] = from ≡ to
AreStretches m shift part from to (s ∷ rest) =
    (mid : ℕ) × (from < mid) × (mid ≤ to) × IsStretchOf m shift (part_at mid part) from mid s
    × AreStretches m shift part mid to rest

-- all stretches of a run
abbrev pub AreAllStretches : Media → Shift → RunPart → List Stretch → Type 0
AreAllStretches m shift part stretches = AreStretches m shift part 0 (groups_in part) stretches

-- the greatest of these numbers, or 0 if there is none
abbrev pub greatest_of : List ℕ → ℕ
greatest_of [] = 0
greatest_of (x ∷ xs) = max x (greatest_of xs)

-- the packets in a buffer of this occupancy: 0 if it is below 0
abbrev pub packets_in : ℤ → ℕ
packets_in (pos k) = k
packets_in (negsuc k) = 0

-- the peaks of a run's result are the greatest ones of these stretches
pub record ArePeaksOf (values : Judged) (stretches : List Stretch) : Type 0 where
  pub bucket : values.bucket_peak ≡ greatest_of (map (λ (s : Stretch). s.peaks.bucket) stretches)
  pub gapped : values.gapped_peak
      ≡ greatest_of (map (λ (s : Stretch). packets_in s.peaks.gapped.greatest) stretches)
  pub linear : values.linear_peak
      ≡ greatest_of (map (λ (s : Stretch). packets_in s.peaks.linear.greatest) stretches)

-- the result of the last run of these packets has the peaks of these stretches
pub record HasPeaksOf (w : Watching) (m : Media) (options : FlowOptions) (packets : List FlowPacket)
    (stretches : List Stretch) : Type 0 where
  pub values : Judged
  pub result_is : result_of w m options packets ≡ Some values
  pub peaks_are : ArePeaksOf values stretches
