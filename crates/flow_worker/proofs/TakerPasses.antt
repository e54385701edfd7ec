-- What a pass has taken, with one message more.
use Rattle.std.proofs.Common.{◌≡◌, ◌^◌, ℕ, Vec, List, [], ◌∷◌, ◌++◌, map, ap, ◌∙◌, subst}
use Rattle.std.specs.Prelude.{All, Result, Ok, Err, IfOk, IsTrue}
use Rattle.std.proofs.lemmas.List.{map-append}
use Rattle.ruled_intake.specs.Lanes.{HasTaken, IsWithin, Taker, entry, messages}
use Rattle.ruled_intake.specs.declared.message.Message.{Message}
use Rattle.ruled_intake.specs.declared.rule.Entry.{Entry}
use Rattle.verdict_book.specs.Receipts.{IsOf, row_of}
use Rattle.verdict_book.specs.declared.book.Book.{Book}
use Rattle.verdict_book.specs.declared.book.Receipt.{Receipt}
use Rattle.flow_worker.specs.Opening.{Setting}
use Rattle.flow_worker.specs.Posting.{has_ends, own_keys, taken_row}
use Rattle.flow_worker.specs.Standing.{IsFew, StandsFor}
use Rattle.flow_worker.specs.Works.{HasJudged}
use Rattle.flow_worker.specs.declared.judging.Judging.{Judging}

-- the messages
pub taken-more : (old new : Taker) (m : Message) → HasTaken old new m → messages new.taken ≡ messages old.taken ++ m ∷ []
taken-more old new m h = ap (λ (t : Taker). messages t.taken) h.1 ∙ map-append (λ (e : Entry). e.message) old.taken (entry h.0 m ∷ [])

-- the lane
pub taken-lane : (old new : Taker) (m : Message) → HasTaken old new m → new.lane ≡ old.lane
taken-lane old new m h = ap (λ (t : Taker). t.lane) h.1

-- the number of senders
pub taken-senders : (old new : Taker) (m : Message) → HasTaken old new m → new.senders ≡ old.senders
taken-senders old new m h = ap (λ (t : Taker). t.senders) h.1

-- it is within the limits
pub taken-few : (old new : Taker) (m : Message) → HasTaken old new m → IsWithin (2 ^ 41) (messages new.taken) → IsFew (messages old.taken) m
taken-few old new m h few = subst (IsWithin (2 ^ 41)) (taken-more old new m h) few

-- receipts, where the rows were posted
pub judged_if : {E A : Type 0} (r : Result (Vec Receipt A) E) (s : Setting) (files worker : ℕ) (pass : Taker) (book : Book) (judging : Judging)
    → StandsFor s files worker (messages pass.taken) judging
    → IsTrue (has_ends files (messages pass.taken)) → IfOk r (λ receipts. All (IsOf book) receipts.items)
    → IfOk r (λ receipts. (s : Setting) (files worker : ℕ) (taken : List Message) → StandsFor s files worker taken judging → IsTrue (has_ends files taken)
    → map row_of receipts.items ≡ map (taken_row s files taken) (own_keys s files worker))
    → IfOk r (λ receipts. HasJudged s files worker pass book receipts.items)
judged_if (Ok receipts) s files worker pass book judging stands ended posted rows = record {
  ended = ended;
  posted = posted;
  rows = rows s files worker (messages pass.taken) stands ended;
}
judged_if (Err e) s files worker pass book judging stands ended posted rows = tt
