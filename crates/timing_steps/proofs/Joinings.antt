-- Captures that are taken as one, one after the other.
use Rattle.std.proofs.Common.{◌≡◌, ◌+◌, ◌*◌, ◌^◌, ◌++◌, ℕ, List, [], ◌∷◌, length, Option, Some, arith, ap, ◌∙◌, sym, subst}
use Rattle.std.proofs.Common.{append_assoc, append-nil, length-append}
use Rattle.std.specs.Prelude.{IfOk, Result, Ok, Err, map}
use Rattle.std.proofs.lemmas.List.{length-map}
use Rattle.timing_base.specs.Captures.{Record, joined, joined_after, raised}
use Rattle.pcap_reader.specs.Records.{AreRecords}
use Rattle.pcap_reader.specs.Taken.{TakesFew}
use Rattle.pcap_reader.proofs.Captures.{records-push}
use Rattle.pcap_reader.proofs.TakenRecords.{few-more, few-within}
use Rattle.timing_steps.specs.Taken.{TakesNext, TakesTexts}
use Rattle.timing_steps.specs.declared.captures.TakenCaptures.{TakenCaptures}
use Rattle.timing_steps.specs.declared.failure.Failure.{Failure}

-- one capture more behind joined ones
pub joined-push : (before : ℕ) (files : List (List Record)) (items : List Record)
    → joined_after before (files ++ items ∷ []) ≡ joined_after before files ++ map (raised (before + length (joined_after before files))) items
joined-push before [] items =
    let same : before + 0 ≡ before = omega arith in
    append-nil (map (raised before) items) ∙ sym (ap (λ n. map (raised n) items) same)
joined-push before (f ∷ fs) items =
    let long : length (map (raised before) f ++ joined_after (before + length f) fs) ≡ length f + length (joined_after (before + length f) fs) =
    length-append (map (raised before) f) (joined_after (before + length f) fs) ∙ ap (λ n. n + length (joined_after (before + length f) fs))
    (length-map f (raised before)) in
    let same : before + length (map (raised before) f ++ joined_after (before + length f) fs) ≡ (before + length f)
    + length (joined_after (before + length f) fs) = omega (arith, long) in
    ap (λ l. map (raised before) f ++ l) (joined-push (before + length f) fs items)
    ∙ sym (append_assoc (map (raised before) f) (joined_after (before + length f) fs)
    (map (raised ((before + length f) + length (joined_after (before + length f) fs))) items))
    ∙ ap (λ n. (map (raised before) f ++ joined_after (before + length f) fs) ++ map (raised n) items) (sym same)

-- no capture was taken yet
pub taken-none : {T : Type 0} (takes : T → T → List Record → Type 0) (x : T) (taken : TakenCaptures) → taken.notes.items ≡ [] → taken.records ≡ 0
    → takes x x [] → TakesTexts takes [] x x taken
taken-none takes x taken no_notes no_records none =
    record { files = []; records = subst (AreRecords [] []) (sym no_notes) tt; count = no_records; fed = none }

-- one capture more was taken
pub taken-more : {T : Type 0} (takes : T → T → List Record → Type 0) (first old new : T)
    → ((a b : List Record) → takes first old a → takes old new b → takes first new (a ++ b))
    → (texts : List (List ℕ)) (text : List ℕ) (before after : TakenCaptures) → TakesTexts takes texts first old before
    → TakesNext takes text old new before after → TakesTexts takes (texts ++ text ∷ []) first new after
taken-more takes first old new more texts text before after done next =
    let behind : joined (done.files ++ next.text_is.items ∷ []) ≡ joined done.files ++ map (raised before.records) next.text_is.items =
    let same : 0 + length (joined done.files) ≡ before.records = omega (arith, done.count) in
    joined-push 0 done.files next.text_is.items ∙ ap (λ n. joined done.files ++ map (raised n) next.text_is.items) same in
    record {
      files = done.files ++ next.text_is.items ∷ [];
      records = subst (AreRecords (texts ++ text ∷ []) (done.files ++ next.text_is.items ∷ [])) (sym next.notes)
          (records-push texts done.files before.notes.items text next.text_is.items next.taken.note done.records next.text_is.records);
      count =
          let long : length (joined (done.files ++ next.text_is.items ∷ [])) ≡ length (joined done.files) + length next.text_is.items =
          ap length behind ∙ length-append (joined done.files) (map (raised before.records) next.text_is.items)
          ∙ ap (λ n. length (joined done.files) + n) (length-map next.text_is.items (raised before.records)) in
          omega (arith, long, next.count, next.text_is.count, done.count);
      fed = subst (takes first new) (sym behind) (more (joined done.files) (map (raised before.records) next.text_is.items) done.fed next.text_is.fed);
    }

-- the same of a capture that may not have been read
pub taken-if_read : {T : Type 0} (takes : T → T → List Record → Type 0) (first old new : T)
    → ((a b : List Record) → takes first old a → takes old new b → takes first new (a ++ b))
    → (o : Result (Unit {0}) Failure) (left : Option (List ℕ)) (before after : TakenCaptures)
    → IfOk o (λ _. (text : List ℕ) → left ≡ Some text → TakesNext takes text old new before after)
    → IfOk o (λ _. (read : List (List ℕ)) (text : List ℕ) → left ≡ Some text → TakesTexts takes read first old before
    → TakesTexts takes (read ++ text ∷ []) first new after)
taken-if_read takes first old new more (Ok u) left before after h = λ read text whole done. taken-more takes first old new more read text before after done
    (h text whole)
taken-if_read takes first old new more (Err e) left before after h = tt

-- so many captures have few records
pub few-next : {T : Type 0} (takes : T → T → List Record → Type 0) (first old new : T)
    → ((a b : List Record) → takes first old a → takes old new b → takes first new (a ++ b))
    → (count next : ℕ) → next ≡ count + 1 → TakesFew takes (count * 2 ^ 36) first old → TakesFew takes (2 ^ 36) old new
    → TakesFew takes (next * 2 ^ 36) first new
few-next takes first old new more count next one before now =
    few-within takes (count * 2 ^ 36 + 2 ^ 36) (next * 2 ^ 36) first new (omega (arith, one))
    (few-more takes (count * 2 ^ 36) (2 ^ 36) first old new more before now)

-- the same where the last capture may not have been read
pub fed-next : {T : Type 0} (takes : T → T → List Record → Type 0) (first old new : T)
    → ((a b : List Record) → takes first old a → takes old new b → takes first new (a ++ b))
    → (o : Result (Unit {0}) Failure) (count next : ℕ) → TakesFew takes (count * 2 ^ 36) first old → IfOk o (λ _. next ≡ count + 1)
    → IfOk o (λ _. TakesFew takes (2 ^ 36) old new) → IfOk o (λ _. TakesFew takes (next * 2 ^ 36) first new)
fed-next takes first old new more (Ok u) count next before one now = few-next takes first old new more count next one before now
fed-next takes first old new more (Err e) count next before one now = tt
