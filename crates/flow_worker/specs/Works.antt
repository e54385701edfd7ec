-- The result of a worker when it ends. Files and workers count from 0.
use Rattle.std.specs.Prelude.{◌≡◌, ℕ, List, [], All, IsTrue, map}
use Rattle.ruled_intake.specs.Lanes.{LaneId, Taker, messages}
use Rattle.verdict_book.specs.Receipts.{IsOf, row_of}
use Rattle.verdict_book.specs.declared.book.Book.{Book}
use Rattle.verdict_book.specs.declared.book.Receipt.{Receipt}
use Rattle.flow_worker.specs.Opening.{Setting}
use Rattle.flow_worker.specs.Posting.{has_ends, own_keys, taken_row}

-- the pass is that of the taker of this lane, and nothing was taken
abbrev pub HasTakenNothing : LaneId → Taker → Type 0
HasTakenNothing lane pass = (pass.lane ≡ lane) × (pass.taken ≡ [])

-- the worker took an end of each file, and posted the result of each flow of its own, by file and then by media
pub record HasJudged (s : Setting) (files worker : ℕ) (pass : Taker) (book : Book) (receipts : List Receipt) : Type 0
  where
    pub ended : IsTrue (has_ends files (messages pass.taken))
    pub posted : All (IsOf book) receipts
    pub rows : map row_of receipts ≡ map (taken_row s files (messages pass.taken)) (own_keys s files worker)
