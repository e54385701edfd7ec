-- The results of a run, from the receipts of its workers. Workers count from 0.
use Rattle.std.specs.Prelude.{◌≡◌, ◌≤◌, ◌<◌, ◌==◌, ℕ, List, [], length, map, filter, slice_index_or, All, Option, None}
use Rattle.std.specs.Option.{ForSome}
use Rattle.std.specs.declared.alloc.Global.{Global}
use Rattle.std.specs.declared.vec.Vec.{Vec}
use Rattle.timing_base.specs.Keys.{keys_of}
use Rattle.timing_base.specs.Routes.{route}
use Rattle.timing_base.specs.declared.key.FlowKey.{FlowKey}
use Rattle.timing_base.specs.declared.row.Row.{Row}
use Rattle.verdict_book.specs.Receipts.{IsOf, row_of}
use Rattle.verdict_book.specs.declared.book.Book.{Book}
use Rattle.verdict_book.specs.declared.book.Receipt.{Receipt}
use Rattle.flow_worker.specs.crew.Ends.{receipts_in}
use Rattle.flow_worker.specs.declared.setting.RunSetting.{RunSetting}

-- the key is that of one of `media` media, in one of 16 files
pub record IsKeyOf (media : ℕ) (key : FlowKey) : Type 0 where
  pub file : key.file < 16
  pub media_is : key.media < media

-- these receipts are of the book, and have the results of these keys
pub record IsQueue (book : Book) (row_for : FlowKey → Row) (keys : List FlowKey)
    (receipts : List Receipt) : Type 0 where
  pub posted : All (IsOf book) receipts
  pub rows : map row_of receipts ≡ map row_for keys

-- each worker has receipts for the results of those keys that are dealt to it
abbrev pub AreQueued : Book → (row_for : FlowKey → Row) → (media workers : ℕ) → List FlowKey → List (List Receipt)
    → Type 0
AreQueued book row_for media workers keys queues = (worker : ℕ) → worker < length queues
    → IsQueue book row_for (filter (λ key. route key media workers == worker) keys) (slice_index_or queues worker [])

-- each worker that has receipts has them for the results of those keys that are dealt to it
abbrev pub ArePosted : Book → (row_for : FlowKey → Row) → (media workers : ℕ) → List FlowKey
    → List (Option (Vec Receipt Global)) → Type 0
ArePosted book row_for media workers keys posted = (worker : ℕ) → worker < length posted
    → ForSome (slice_index_or (map receipts_in posted) worker None)
    (IsQueue book row_for (filter (λ key. route key media workers == worker) keys))

-- the keys of a run
abbrev pub run_keys : RunSetting → List FlowKey
run_keys run = keys_of run.joined run.files (length run.media.now)

-- there are at most 64 media, 16 files and 16 workers, and each worker that has receipts has them for its results
pub record CanGather (book : Book) (run : RunSetting) (posted : List (Option (Vec Receipt Global))) : Type 0 where
  pub few_media : length run.media.now ≤ 64
  pub few_files : run.files ≤ 16
  pub some_workers : 1 ≤ length run.lanes.now
  pub few_workers : length run.lanes.now ≤ 16
  pub count : length posted ≡ length run.lanes.now
  pub row_for : FlowKey → Row
  pub posted_are : ArePosted book row_for (length run.media.now) (length run.lanes.now) (run_keys run) posted

-- these are the results that the workers posted, in the order of their keys
abbrev pub AreGathered : Book → RunSetting → List (Option (Vec Receipt Global)) → List Row → Type 0
AreGathered book run posted rows = (row_for : FlowKey → Row)
    → ArePosted book row_for (length run.media.now) (length run.lanes.now) (run_keys run) posted
    → rows ≡ map row_for (run_keys run)
