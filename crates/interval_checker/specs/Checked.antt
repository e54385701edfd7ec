-- The answer of a check of a claimed violation, by the verdict on the flow. Runs, media, sources and judged packets
-- count from 0.
use Rattle.std.specs.Prelude.{◌≡◌, ℕ, zero, suc, Bool, true, false, List, [], ◌∷◌, map, Result, Ok, Err, ⊤}
use Rattle.timing_base.specs.Judged.{FlowVerdict, JudgedRun, RunOutcome, absent, refused, gap, in_one_run, in_runs}
use Rattle.timing_base.specs.Judged.{no_whole_frame, whole_frames}
use Rattle.timing_base.specs.Media.{Media}
use Rattle.timing_base.specs.declared.fail.FailProof.{FailProof}
use Rattle.timing_base.specs.declared.media.Kind.{Kind}
use Rattle.timing_base.specs.declared.row.Unjudged.{Unjudged}
use Rattle.timing_base.specs.declared.row.Unjudged.TheVariants.{Absent, NoWholeFrame, Refused, Gap}
use Rattle.sender_params.specs.Keeps.{Confirms}
use Rattle.interval_checker.specs.declared.fault.CheckFault.{CheckFault}
use Rattle.interval_checker.specs.declared.fault.CheckFault.TheVariants as check_fault

-- the answer on a judged run: whether its packets confirm the violation
abbrev pub SaysJudged : Media → Kind → FailProof → JudgedRun → Result Bool Unjudged → Type 0
SaysJudged m kind f j (Ok true) = Confirms m j.n j.stamps kind f
SaysJudged m kind f j (Ok false) = Confirms m j.n j.stamps kind f → ⊥
SaysJudged m kind f j (Err why) = ⊥

-- the answer on a run
abbrev pub SaysOutcome : Media → Kind → FailProof → RunOutcome → Result Bool Unjudged → Type 0
SaysOutcome m kind f (no_whole_frame head) answer = answer ≡ Err (NoWholeFrame head)
SaysOutcome m kind f (whole_frames j) answer = SaysJudged m kind f j answer

-- the answer on the run with this number; a run that doesn't exist confirms nothing
abbrev pub SaysAt : Media → Kind → FailProof → List RunOutcome → (run : ℕ) → Result Bool Unjudged → Type 0
SaysAt m kind f [] run answer = answer ≡ Ok false
SaysAt m kind f (outcome ∷ rest) zero answer = SaysOutcome m kind f outcome answer
SaysAt m kind f (outcome ∷ rest) (suc run) answer = SaysAt m kind f rest run answer

-- the answer on a claimed violation by a run of a flow; a flow without a gap has only run 0
abbrev pub Says : Media → Kind → FailProof → (run : ℕ) → FlowVerdict → Result Bool Unjudged → Type 0
Says m kind f run absent answer = answer ≡ Err Absent
Says m kind f run (refused rec fault) answer = answer ≡ Err (Refused rec fault)
Says m kind f run (gap rec expected got) answer = answer ≡ Err (Gap rec expected got)
Says m kind f run (in_one_run outcome) answer = SaysAt m kind f (outcome ∷ []) run answer
Says m kind f run (in_runs runs) answer = SaysAt m kind f (map (λ r. r.outcome) runs) run answer

-- the flow isn't judged, for this reason, whatever is claimed
abbrev pub IsRefused : FlowVerdict → Unjudged → Type 0
IsRefused verdict why = (m : Media) (kind : Kind) (f : FailProof) (run : ℕ) → Says m kind f run verdict (Err why)

-- if the result is a failed read, `P` holds for the number of its source
abbrev pub IfReadFault : {A : Type 0} → Result A CheckFault → (ℕ → Type 0) → Type 0
IfReadFault (Ok answer) P = ⊤
IfReadFault (Err (check_fault.ReadFault source)) P = P source
IfReadFault (Err check_fault.OutOfMemory) P = ⊤
