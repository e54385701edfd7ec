-- Captures that are taken as one, in two parts.
use Rattle.std.proofs.Common.{◌≡◌, ◌+◌, ◌^◌, ℕ, List, [], ◌∷◌, ◌++◌, length, Option, Some, refl, ap, ◌∙◌, sym, arith, append_assoc, append-nil, length-append}
use Rattle.std.specs.Prelude.{map}
use Rattle.std.proofs.lemmas.List.{length-map}
use Rattle.timing_base.specs.Captures.{Record, joined, joined_after, raised}
use Rattle.timing_base.specs.declared.capture.FileNote.{FileNote}
use Rattle.pcap_reader.specs.Records.{AreRecords, Records}
use Rattle.timing_steps.specs.Answers.{AreTold}

-- names that are told
pub record ToldParts (texts : List ℕ → Option (List ℕ)) (a b read : List (List ℕ)) : Type 0 where
  pub first : List (List ℕ)
  pub second : List (List ℕ)
  pub whole : read ≡ first ++ second
  pub first_told : AreTold texts a first
  pub second_told : AreTold texts b second

pub told-parts : (texts : List ℕ → Option (List ℕ)) (a b read : List (List ℕ)) → AreTold texts (a ++ b) read → ToldParts texts a b read
told-parts texts [] b read h = record { first = []; second = read; whole = refl; first_told = tt; second_told = h }
told-parts texts (n ∷ a) b [] h = absurd h
told-parts texts (n ∷ a) b (t ∷ read) h =
    let p = told-parts texts a b read h.1 in
    record { first = t ∷ p.first; second = p.second; whole = ap (λ l. t ∷ l) p.whole; first_told = (h.0, p.first_told); second_told = p.second_told }

-- the one name that is told
pub record ToldOne (texts : List ℕ → Option (List ℕ)) (name : List ℕ) (read : List (List ℕ)) : Type 0 where
  pub text : List ℕ
  pub whole : read ≡ text ∷ []
  pub told : texts name ≡ Some text

pub told-one : (texts : List ℕ → Option (List ℕ)) (name : List ℕ) (read : List (List ℕ)) → AreTold texts (name ∷ []) read → ToldOne texts name read
told-one texts name [] h = absurd h
told-one texts name (t ∷ []) h = record { text = t; whole = refl; told = h.0 }
told-one texts name (t ∷ u ∷ read) h = absurd h.1

-- the packet records of captures
pub record RecordsParts (a b : List (List ℕ)) (files : List (List Record)) (notes : List FileNote) : Type 0 where
  pub first : List (List Record)
  pub second : List (List Record)
  pub first_notes : List FileNote
  pub second_notes : List FileNote
  pub whole : files ≡ first ++ second
  pub first_records : AreRecords a first first_notes
  pub second_records : AreRecords b second second_notes

pub records-parts : (a b : List (List ℕ)) (files : List (List Record)) (notes : List FileNote) → AreRecords (a ++ b) files notes → RecordsParts a b files notes
records-parts [] b files notes h = record {
  first = [];
  second = files;
  first_notes = [];
  second_notes = notes;
  whole = refl;
  first_records = tt;
  second_records = h;
}
records-parts (t ∷ a) b [] notes h = absurd h
records-parts (t ∷ a) b (f ∷ files) [] h = absurd h
records-parts (t ∷ a) b (f ∷ files) (n ∷ notes) h =
    let p = records-parts a b files notes h.1 in
    record {
      first = f ∷ p.first;
      second = p.second;
      first_notes = n ∷ p.first_notes;
      second_notes = p.second_notes;
      whole = ap (λ l. f ∷ l) p.whole;
      first_records = (h.0, p.first_records);
      second_records = p.second_records;
    }

-- those of one capture
pub record RecordsOne (text : List ℕ) (files : List (List Record)) : Type 0 where
  pub items : List Record
  pub note : FileNote
  pub whole : files ≡ items ∷ []
  pub records : Records text (2 ^ 40) items note

pub records-one : (text : List ℕ) (files : List (List Record)) (notes : List FileNote) → AreRecords (text ∷ []) files notes → RecordsOne text files
records-one text [] notes h = absurd h
records-one text (f ∷ files) [] h = absurd h
records-one text (f ∷ []) (n ∷ []) h = record { items = f; note = n; whole = refl; records = h.0 }
records-one text (f ∷ []) (n ∷ m ∷ notes) h = absurd h.1
records-one text (f ∷ g ∷ files) (n ∷ notes) h = absurd h.1

-- captures behind others are numbered on
pub joined-append : (before : ℕ) (fs gs : List (List Record))
    → joined_after before (fs ++ gs) ≡ joined_after before fs ++ joined_after (before + length (joined_after before fs)) gs
joined-append before [] gs =
    let same : before + 0 ≡ before = omega arith in
    ap (λ n. joined_after n gs) (sym same)
joined-append before (f ∷ fs) gs =
    let others = joined_after (before + length f) fs in
    let long : length (map (raised before) f ++ others) ≡ length f + length others =
    length-append (map (raised before) f) others ∙ ap (λ n. n + length others) (length-map f (raised before)) in
    let same : before + length (map (raised before) f ++ others) ≡ (before + length f) + length others = omega (arith, long) in
    ap (λ l. map (raised before) f ++ l) (joined-append (before + length f) fs gs)
    ∙ sym (append_assoc (map (raised before) f) others (joined_after ((before + length f) + length others) gs))
    ∙ ap (λ n. (map (raised before) f ++ others) ++ joined_after n gs) (sym same)

-- one capture more
pub joined-one : (files : List (List Record)) (items : List Record) (count : ℕ) → count ≡ length (joined files)
    → joined (files ++ items ∷ []) ≡ joined files ++ map (raised count) items
joined-one files items count is =
    let same : 0 + length (joined files) ≡ count = omega (arith, is) in
    joined-append 0 files (items ∷ []) ∙ ap (λ n. joined files ++ (map (raised n) items ++ [])) same
    ∙ ap (λ l. joined files ++ l) (append-nil (map (raised count) items))
