-- Captures were read while rows were written, and what follows where their texts are told.
use Rattle.std.proofs.Common.{◌≡◌, ◌⊎◌, ◌^◌, ◌++◌, [], ◌∷◌, ℕ, List, take, Option, Some, None, inl, inr, refl, sym, subst, append-nil}
use Rattle.std.specs.Prelude.{map}
use Rattle.std.specs.Io.KnownBytes.{Appends}
use Rattle.std.proofs.KnownBytes.{Appends-trans}
use Rattle.timing_base.specs.Captures.{Record, raised}
use Rattle.timing_base.specs.declared.capture.FileNote.{FileNote}
use Rattle.timing_outside.specs.Written.{AppendsFront}
use Rattle.pcap_reader.specs.Header.{header}
use Rattle.pcap_reader.specs.Records.{Records}
use Rattle.pcap_reader.specs.Taken.{HasTaken}
use Rattle.pcap_reader.specs.declared.records.Taken.{Taken}
use Rattle.pcap_reader.proofs.Lists.{only_by}
use Rattle.timing_steps.specs.Answers.{AreTold}
use Rattle.timing_steps.specs.Ran.{Appended, Output}
use Rattle.timing_steps.specs.Taken.{TakesText}
use Rattle.timing_steps.proofs.Onces.{told-once}
use Rattle.timing_measure.specs.series.Copies.{Copies, CopiesSome, Stopped}
use Rattle.timing_measure.specs.declared.series.flow.SeriesFlow.{SeriesFlow}
use Rattle.timing_measure.proofs.lemmas.series.Copying.{appends-same, copies-none, raised-parts, stopped-here}

-- a read failed: what was written stands
pub copied-stopped : (o : Output) (old new : SeriesFlow) (before count : ℕ) (note : FileNote) (items : List Record) (end : FileNote)
    → HasTaken (Copies o) before old new note count items end → Stopped o old (map (raised before) items)
copied-stopped o old new before count note items end c =
    stopped-here o old new (map (raised before) c.taken) (map (raised before) c.rest) (map (raised before) items)
    (raised-parts before items c.taken c.rest c.whole) c.fed

-- it stopped behind a capture
pub taken-stopped : (o : Output) (old new : SeriesFlow) (text : List ℕ) (before : ℕ) (taken : Taken) (items : List Record) (end : FileNote)
    → TakesText (Copies o) text before old new taken → Records text (2 ^ 40) items end → Stopped o old (map (raised before) items)
taken-stopped o old new text before taken items end t records =
    let same = only_by (header text) (2 ^ 40) text t.items items taken.note end t.records records in
    subst (λ l. Stopped o old (map (raised before) l)) same.0
    (stopped-here o old new (map (raised before) t.items) [] (map (raised before) t.items) (sym-nil (map (raised before) t.items)) t.fed)
  where
    sym-nil : (l : List Record) → l ≡ l ++ []
    sym-nil l = sym (append-nil l)

pub some-front : (o : Output) (old new : SeriesFlow) → CopiesSome o old new → (front : List ℕ) × Appended o front
some-front o old new c = (c.1.written, c.1.appended)

-- nothing was written
pub stopped-none : (o : Output) (f : SeriesFlow) (items : List Record) → o.new ≡ o.old → Stopped o f items
stopped-none o f items same = stopped-here o f f [] items items refl (copies-none o f same)

pub front-none : (o : Output) → o.new ≡ o.old → (front : List ℕ) × Appended o front
front-none o same = ([], subst (λ n. Appends o.old n []) (sym same) (appends-same o.old))

-- a front was written behind what was
pub front-more : (old mid new : Option (List ℕ)) (written text : List ℕ) → Appends old mid written → AppendsFront mid new text
    → (front : List ℕ) × Appends old new front
front-more old mid new written text a b = (written ++ take b.0 text, Appends-trans old mid new written (take b.0 text) a b.2)

-- the names are told, or not
told-or : (texts : List ℕ → Option (List ℕ)) (names : List (List ℕ))
    → ((read : List (List ℕ)) × AreTold texts names read) ⊎ ((read : List (List ℕ)) → AreTold texts names read → ⊥)
told-or texts [] = inl ([], tt)
told-or texts (n ∷ ns) = by (texts n) refl (told-or texts ns)
  where
    none : (o : Option (List ℕ)) → o ≡ None → (t : List ℕ) → o ≡ Some t → ⊥
    none o is t told = cc

    unknown : texts n ≡ None → (read : List (List ℕ)) → AreTold texts (n ∷ ns) read → ⊥
    unknown is [] h = h
    unknown is (t ∷ ts) h = none (texts n) is t h.0

    others : ((read : List (List ℕ)) → AreTold texts ns read → ⊥) → (read : List (List ℕ)) → AreTold texts (n ∷ ns) read → ⊥
    others lacking [] h = h
    others lacking (t ∷ ts) h = lacking ts h.1

    by : (o : Option (List ℕ)) → texts n ≡ o → ((read : List (List ℕ)) × AreTold texts ns read) ⊎ ((read : List (List ℕ)) → AreTold texts ns read → ⊥)
        → ((read : List (List ℕ)) × AreTold texts (n ∷ ns) read) ⊎ ((read : List (List ℕ)) → AreTold texts (n ∷ ns) read → ⊥)
    by None is rest = inr (unknown is)
    by (Some t) is (inl r) = inl (t ∷ r.0, (is, r.1))
    by (Some t) is (inr lacking) = inr (others lacking)

-- what was written, and of which something holds where all texts are told
pub wrote-known : (texts : List ℕ → Option (List ℕ)) (names : List (List ℕ)) (o : Output) (Q : List (List ℕ) → List ℕ → Type 0)
    → ((read : List (List ℕ)) → AreTold texts names read → (written : List ℕ) × Appended o written × Q read written)
    → (written : List ℕ) × Appended o written
    → (written : List ℕ) × Appended o written × ((read : List (List ℕ)) → AreTold texts names read → Q read written)
wrote-known texts names o Q told some = by (told-or texts names)
  where
    by : ((read : List (List ℕ)) × AreTold texts names read) ⊎ ((read : List (List ℕ)) → AreTold texts names read → ⊥)
        → (written : List ℕ) × Appended o written × ((read : List (List ℕ)) → AreTold texts names read → Q read written)
    by (inl t) =
        let h = told t.0 t.1 in
        (h.0, h.1, λ read known. subst (λ l. Q l h.0) (told-once texts names t.0 read t.1 known) h.2)
    by (inr lacking) = (some.0, some.1, λ read known. absurd (lacking read known))
