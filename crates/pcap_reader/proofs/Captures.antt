-- Captures have their records, and no others.
use Rattle.std.proofs.Common.{◌≡◌, ◌+◌, ◌^◌, ℕ, List, [], ◌∷◌, ◌++◌, length, refl, arith, ap, ◌∙◌}
use Rattle.std.specs.Prelude.{map}
use Rattle.timing_base.specs.Captures.{Record, raised}
use Rattle.timing_base.specs.declared.capture.FileNote.{FileNote}
use Rattle.pcap_reader.specs.Header.{header}
use Rattle.pcap_reader.specs.Records.{AreRecords, Records}
use Rattle.pcap_reader.proofs.Lists.{only_by, some_by}

-- captures have lists of records, and notes of how they end
pub some-records : (texts : List (List ℕ)) → (files : List (List Record)) × (notes : List FileNote) × AreRecords texts files notes
some-records [] = ([], [], tt)
some-records (text ∷ texts) =
    let first = some_by (header text) (2 ^ 40) text in
    let others = some-records texts in
    (first.0 ∷ others.0, first.1 ∷ others.1, (first.2, others.2))

-- and no others
pub only-records : (texts : List (List ℕ)) (fs gs : List (List Record)) (ns ms : List FileNote) → AreRecords texts fs ns → AreRecords texts gs ms
    → (fs ≡ gs) × (ns ≡ ms)
only-records [] [] [] [] [] h k = (refl, refl)
only-records (t ∷ ts) (f ∷ fs) (g ∷ gs) (n ∷ ns) (m ∷ ms) h k =
    let first = only_by (header t) (2 ^ 40) t f g n m h.0 k.0 in
    let others = only-records ts fs gs ns ms h.1 k.1 in
    (ap (λ x. x ∷ fs) first.0 ∙ ap (λ l. g ∷ l) others.0, ap (λ x. x ∷ ns) first.1 ∙ ap (λ l. m ∷ l) others.1)
only-records [] (f ∷ fs) gs ns ms h k = absurd h
only-records [] [] gs (n ∷ ns) ms h k = absurd h
only-records [] [] (g ∷ gs) [] ms h k = absurd k
only-records [] [] [] [] (m ∷ ms) h k = absurd k
only-records (t ∷ ts) [] gs ns ms h k = absurd h
only-records (t ∷ ts) (f ∷ fs) gs [] ms h k = absurd h
only-records (t ∷ ts) (f ∷ fs) [] (n ∷ ns) ms h k = absurd k
only-records (t ∷ ts) (f ∷ fs) (g ∷ gs) (n ∷ ns) [] h k = absurd k

-- one capture more, with its records and its note
pub records-push : (texts : List (List ℕ)) (files : List (List Record)) (notes : List FileNote) (text : List ℕ) (items : List Record) (note : FileNote)
    → AreRecords texts files notes → Records text (2 ^ 40) items note → AreRecords (texts ++ text ∷ []) (files ++ items ∷ []) (notes ++ note ∷ [])
records-push [] [] [] text items note h r = (r, tt)
records-push (t ∷ ts) (f ∷ fs) (n ∷ ns) text items note h r = (h.0, records-push ts fs ns text items note h.1 r)
records-push [] (f ∷ fs) notes text items note h r = absurd h
records-push [] [] (n ∷ ns) text items note h r = absurd h
records-push (t ∷ ts) [] notes text items note h r = absurd h
records-push (t ∷ ts) (f ∷ fs) [] text items note h r = absurd h

-- as many lists of records as notes
pub files-length : (texts : List (List ℕ)) (files : List (List Record)) (notes : List FileNote) → AreRecords texts files notes → length files ≡ length notes
files-length [] [] [] h = refl
files-length (t ∷ ts) (f ∷ fs) (n ∷ ns) h = omega (arith, files-length ts fs ns h.1)
files-length [] (f ∷ fs) notes h = absurd h
files-length [] [] (n ∷ ns) h = absurd h
files-length (t ∷ ts) [] notes h = absurd h
files-length (t ∷ ts) (f ∷ fs) [] h = absurd h

-- the records of a capture that stands alone keep their numbers
pub map-raised : (items : List Record) → map (raised 0) items ≡ items
map-raised [] = refl
map-raised (r ∷ rs) =
    let same : 0 + r.number ≡ r.number = omega arith in
    ap (λ n. record { number = n; stamp = r.stamp; bytes = r.bytes } ∷ map (raised 0) rs) same ∙ ap (λ l. r ∷ l) (map-raised rs)
