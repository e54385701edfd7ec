-- The jobs and results of the workers of a run. Workers count from 0; there is a lane for each worker.
use Rattle.std.specs.Prelude.{◌≡◌, ◌<◌, ℕ, List, length, slice_index_or, IfSome}
use Rattle.ruled_intake.specs.Lanes.{LaneId}
use Rattle.verdict_book.specs.declared.book.Book.{Book}
use Rattle.flow_worker.specs.Opening.{Setting}
use Rattle.flow_worker.specs.Works.{HasJudged, HasTakenNothing}
use Rattle.flow_worker.specs.declared.workers.WorkDone.{WorkDone}
use Rattle.flow_worker.specs.declared.crew.jobs.WorkJob.{WorkJob}

-- the worker has the pass of its lane, and has taken nothing
pub record IsWorkJob (lanes : List LaneId) (job : WorkJob) : Type 0 where
  pub number : job.worker < length lanes
  pub pass : (l : LaneId) → HasTakenNothing (slice_index_or lanes job.worker l) job.pass

-- the result of a worker for its job
pub record HasWorked (s : Setting) (files : ℕ) (book : Book) (job : WorkJob) (done : WorkDone) : Type 0 where
  pub lane_is : done.pass.lane ≡ job.pass.lane
  pub senders_is : done.pass.senders ≡ job.pass.senders
  pub judged : IfSome done.receipts (λ receipts. HasJudged s files job.worker done.pass book receipts.items)

-- the results of all workers for their jobs
pub record AreWorked (s : Setting) (files : ℕ) (book : Book) (jobs : List WorkJob)
    (dones : List WorkDone) : Type 0 where
  pub count : length dones ≡ length jobs
  pub each : (worker : ℕ) (j : WorkJob) (d : WorkDone) → worker < length jobs
      → HasWorked s files book (slice_index_or jobs worker j) (slice_index_or dones worker d)

-- each is a job of a worker
abbrev pub AreWorkJobs : List LaneId → List WorkJob → Type 0
AreWorkJobs lanes jobs =
    (worker : ℕ) (j : WorkJob) → worker < length jobs → IsWorkJob lanes (slice_index_or jobs worker j)
