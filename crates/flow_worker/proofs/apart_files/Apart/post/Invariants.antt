use Rattle.std.proofs.Common.{ℕ, List, map}
use Rattle.std.specs.Prelude.{All}
use Rattle.ruled_intake.specs.declared.message.Message.{Message}
use Rattle.verdict_book.specs.Receipts.{IsOf, row_of}
use Rattle.flow_worker.specs.Opening.{Setting}
use Rattle.flow_worker.specs.Standing.{ApartStandsFor}
use Rattle.flow_worker.proofs.ApartFiles.{HasFileRows}
use Rattle.flow_worker.proofs.apart_files.Apart.post.Given as goal

abbrev pub invariant-loop-file : goal.invariant-loop-file
invariant-loop-file g l = (goal.iterator-loop-file g).can_next l.file-iterator × (goal.iterator-loop-file g).is_finite l.file-iterator × record {
  posted : All (IsOf l.book) l.receipts.items;
  rows : (s : Setting) (files worker : ℕ) (taken : List Message) → ApartStandsFor s files worker taken l.fn.self
      → HasFileRows s files worker taken (map row_of l.receipts.items) l.file-iterator.rest.items;
}
