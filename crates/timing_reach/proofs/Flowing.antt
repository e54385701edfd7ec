-- The answers of a command on one flow, by those for its media.
use Rattle.std.proofs.Common.{◌≡◌, ◌^◌, ℕ, zero, suc, List, [], ◌∷◌, Option, Some, None, refl, sym, subst, ap, ◌∙◌, append-nil}
use Rattle.std.specs.Prelude.{All, map, slice_get}
use Rattle.std.proofs.lemmas.List.Elements.{All-head, All-tail}
use Rattle.timing_base.specs.Captures.{Record, joined, raised}
use Rattle.timing_base.specs.Jobs.{FlowJob}
use Rattle.timing_base.specs.Media.{Media}
use Rattle.timing_base.specs.declared.capture.FileNote.{FileNote}
use Rattle.pcap_reader.specs.Records.{AreRecords, Records}
use Rattle.pcap_reader.proofs.Captures.{map-raised, only-records}
use Rattle.timing_steps.specs.Answers.{Answer}
use Rattle.timing_steps.specs.Flows.{OnMedia, flow_query, no_media, no_such_media}
use Rattle.timing_steps.specs.Queries.{HasAnswer}
use Rattle.timing_steps.proofs.Capturing.{some-none}
use Rattle.timing_steps.proofs.Onces.{DefinesOnce}

-- the answer for a media that the SDP has, in captures with these packet records
pub has-flow : (job : FlowJob) (Has : Media → List Record → List FileNote → Answer → Type 0) (media : List Media) (m : Media) (texts : List (List ℕ))
    (files : List (List Record)) (notes : List FileNote) (answer : Answer) → slice_get media job.media ≡ Some m → AreRecords texts files notes
    → Has m (joined files) notes answer → HasAnswer (flow_query job Has) media texts answer
has-flow job Has media m texts files notes answer found read h = record {
  files = files;
  notes = notes;
  records = read;
  defined = subst (λ o. OnMedia o (λ x. Has x (joined files) notes answer)) (sym found) h;
}

-- a command on one flow has one answer, if each media has
pub once-flow : (job : FlowJob) (Has : Media → List Record → List FileNote → Answer → Type 0)
    → ((m : Media) (items : List Record) (notes : List FileNote) (a b : Answer) → Has m items notes a → Has m items notes b → a ≡ b)
    → DefinesOnce (flow_query job Has)
once-flow job Has once media files notes a b h k = on (slice_get media job.media) h k
  where
    on : (found : Option Media) → OnMedia found (λ m. Has m (joined files) notes a)
        → OnMedia found (λ m. Has m (joined files) notes b) → a ≡ b
    on None h k = absurd h
    on (Some m) h k = once m (joined files) notes a b h k

-- a capture that is taken alone keeps its packet records
joined-alone : (items : List Record) → joined (items ∷ []) ≡ items
joined-alone items = append-nil (map (raised 0) items) ∙ map-raised items

-- captures that are taken as one have the answer of one capture with their packet records
pub flow-of_one : (job : FlowJob) (Has : Media → List Record → List FileNote → Answer → Type 0)
    → ((m : Media) (items : List Record) (notes also : List FileNote) (a b : Answer) → Has m items notes a → Has m items also b → a ≡ b)
    → (media : List Media) (texts : List (List ℕ)) (files : List (List Record)) (notes : List FileNote) (one : List ℕ) (end : FileNote) (a b : Answer)
    → AreRecords texts files notes → Records one (2 ^ 40) (joined files) end
    → HasAnswer (flow_query job Has) media texts a → HasAnswer (flow_query job Has) media (one ∷ []) b → a ≡ b
flow-of_one job Has once media texts files notes one end a b are whole h k =
    let same : joined h.files ≡ joined k.files =
    ap joined (sym (only-records texts files h.files notes h.notes are h.records).0) ∙ sym (joined-alone (joined files))
    ∙ ap joined (only-records (one ∷ []) (joined files ∷ []) k.files (end ∷ []) k.notes (whole, tt) k.records).0 in
    on (slice_get media job.media)
    (subst (λ items. OnMedia (slice_get media job.media) (λ m. Has m items h.notes a)) same h.defined) k.defined
  where
    on : (found : Option Media) → OnMedia found (λ m. Has m (joined k.files) h.notes a)
        → OnMedia found (λ m. Has m (joined k.files) k.notes b) → a ≡ b
    on None h k = absurd h
    on (Some m) x y = once m (joined k.files) h.notes k.notes a b x y

-- the media with a number has an answer, if the SDP has it
pub some-on-media : (media : List Media) (number : ℕ) (Has : Media → Answer → Type 0) → no_media (slice_get media number) ≡ None
    → ((m : Media) → slice_get media number ≡ Some m → (answer : Answer) × Has m answer) → (answer : Answer)
    × OnMedia (slice_get media number) (λ m. Has m answer)
some-on-media media number Has has some = on (slice_get media number) has some
  where
    on : (found : Option Media) → no_media found ≡ None → ((m : Media) → found ≡ Some m → (answer : Answer) × Has m answer) → (answer : Answer)
        × OnMedia found (λ m. Has m answer)
    on None has some = absurd (some-none no_such_media has)
    on (Some m) has some = some m refl

-- each media of a list of which all are so
pub all-media : (P : Media → Type 0) (media : List Media) (number : ℕ) (m : Media) → All P media → slice_get media number ≡ Some m → P m
all-media P [] zero m all found = absurd (some-not-none m found)
  where
    some-not-none : (m : Media) → slice_get [] zero ≡ Some m → ⊥
    some-not-none m e = let o : None ≡ Some m = e in cc
all-media P [] (suc number) m all found = absurd (some-not-none m found)
  where
    some-not-none : (m : Media) → slice_get [] (suc number) ≡ Some m → ⊥
    some-not-none m e = let o : None ≡ Some m = e in cc
all-media P (x ∷ xs) zero m all found = subst P (same-media x m found) (All-head P x xs all)
  where
    same-media : (x m : Media) → slice_get (x ∷ xs) zero ≡ Some m → x ≡ m
    same-media x m e = let o : Some x ≡ Some m = e in cc
all-media P (x ∷ xs) (suc number) m all found = all-media P xs number m (All-tail P x xs all) found
