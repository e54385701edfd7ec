-- The limits of a run, and the jobs and results of its intakes. Files and workers count from 0; there is a lane for
-- each worker.
use Rattle.std.specs.Prelude.{◌≡◌, ◌≤◌, ◌<◌, ◌^◌, ℕ, List, length, slice_index_or, Option, Some}
use Rattle.timing_base.specs.Captures.{Record}
use Rattle.timing_base.specs.declared.capture.FileNote.{FileNote}
use Rattle.timing_base.specs.declared.capture.FileNote.TheVariants.{Refused}
use Rattle.timing_base.specs.declared.capture.PcapFault.TheVariants.{ReadFault}
use Rattle.timing_outside.specs.Causes.{Rose}
use Rattle.pcap_reader.specs.Records.{Records}
use Rattle.ruled_intake.specs.Lanes.{LaneId}
use Rattle.flow_worker.specs.Intakes.{AreOfFile, HasTold, HaveSentNothing}
use Rattle.flow_worker.specs.Opening.{Setting}
use Rattle.flow_worker.specs.declared.intakes.IntakeDone.{IntakeDone}
use Rattle.flow_worker.specs.declared.setting.RunSetting.{RunSetting}
use Rattle.flow_worker.specs.declared.crew.jobs.IntakeJob.{IntakeJob}

-- there are 1 to 64 media, and 1 to 16 files and workers
pub record IsRun (run : RunSetting) : Type 0 where
  pub some_media : 1 ≤ length run.media.now
  pub few_media : length run.media.now ≤ 64
  pub some_files : 1 ≤ run.files
  pub few_files : run.files ≤ 16
  pub some_workers : 1 ≤ length run.lanes.now
  pub few_workers : length run.lanes.now ≤ 16

-- the intake has the file's passes of these lanes, and has sent nothing
pub record IsIntakeJob {S : Type 0} (lanes : List LaneId) (job : IntakeJob S) : Type 0 where
  pub file : job.file < 16
  pub passes : HaveSentNothing job.file lanes job.passes.items

-- the result of an intake for its job
pub record HasRead {S : Type 0} (name : S → List ℕ) (left : S → Option (List ℕ)) (faults : S → ℕ) (s : Setting)
    (lanes : List LaneId) (job : IntakeJob S) (done : IntakeDone S) : Type 0 where
  pub passes : AreOfFile job.file lanes done.passes.items
  pub told : (text : List ℕ) (items : List Record) (end : FileNote) → left job.source ≡ Some text
      → Records text (2 ^ 40) items end
      → HasTold s job.file lanes (record { records = items; note = end }) done.note done.passes.items
  pub name_is : name done.source ≡ name job.source
  pub later : faults job.source ≤ faults done.source
  pub failed : done.note ≡ Some (Refused ReadFault) → Rose (faults job.source) (faults done.source)

-- the results of all intakes for their jobs
pub record AreRead {S : Type 0} (name : S → List ℕ) (left : S → Option (List ℕ)) (faults : S → ℕ) (s : Setting)
    (lanes : List LaneId) (jobs : List (IntakeJob S)) (dones : List (IntakeDone S)) : Type 0 where
  pub count : length dones ≡ length jobs
  pub each : (file : ℕ) (j : IntakeJob S) (d : IntakeDone S) → file < length jobs
      → HasRead name left faults s lanes (slice_index_or jobs file j) (slice_index_or dones file d)

-- each is a job of an intake
abbrev pub AreIntakeJobs : {S : Type 0} → List LaneId → List (IntakeJob S) → Type 0
AreIntakeJobs {S} lanes jobs =
    (file : ℕ) (j : IntakeJob S) → file < length jobs → IsIntakeJob lanes (slice_index_or jobs file j)
