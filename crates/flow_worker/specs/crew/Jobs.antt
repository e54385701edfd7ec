-- The jobs of intakes and workers. Files and workers count from 0; there is a lane for each worker.
use Rattle.std.specs.Prelude.{◌≡◌, ◌<◌, ℕ, zero, suc, List, [], ◌∷◌, ◌++◌, length, map, slice_index_or}
use Rattle.ruled_intake.specs.Lanes.{LaneId, Sender, Taker}
use Rattle.flow_worker.specs.Intakes.{HaveSentNothing}
use Rattle.flow_worker.specs.declared.crew.jobs.IntakeJob.{IntakeJob}
use Rattle.flow_worker.specs.declared.crew.jobs.WorkJob.{WorkJob}

-- the numbers below another
abbrev pub numbers : ℕ → List ℕ
numbers zero = []
numbers (suc n) = numbers n ++ n ∷ []

-- the pass of a lane's taker, for `files` senders, before anything was taken
abbrev pub new_pass : (files : ℕ) → LaneId → Taker
new_pass files lane = record { lane = lane; senders = files; taken = [] }

-- there are `workers` lanes; each worker has the pass of its lane, and each file a pass of each lane
pub record AreMade (files workers : ℕ) (lanes : List LaneId) (jobs : List WorkJob)
    (columns : List (List Sender)) : Type 0 where
  pub lane_count : length lanes ≡ workers
  pub worker_numbers : map (λ j. j.worker) jobs ≡ numbers workers
  pub worker_passes : map (λ j. j.pass) jobs ≡ map (new_pass files) lanes
  pub file_count : length columns ≡ files
  pub file_passes : (file : ℕ) → file < files → HaveSentNothing file lanes (slice_index_or columns file [])

-- each file has its number, its source and its passes
pub record AreIntakes {S : Type 0} (sources : List S) (columns : List (List Sender))
    (jobs : List (IntakeJob S)) : Type 0 where
  pub file_numbers : map (λ j. j.file) jobs ≡ numbers (length sources)
  pub file_sources : map (λ j. j.source) jobs ≡ sources
  pub file_passes : map (λ j. j.passes.items) jobs ≡ columns
