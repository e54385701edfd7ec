-- Each text has one list of records and one note.
use Rattle.std.proofs.Common.{refl, ◌≡◌, ◌≤◌, ◌<◌, ◌+◌, ℕ, zero, suc, List, [], ◌∷◌, length, drop, None, Some, Ok, Err, sym, ap, ◌∙◌, arith, length-drop}
use Rattle.std.specs.Prelude.{Option, Result}
use Rattle.timing_base.specs.Captures.{Record}
use Rattle.timing_base.specs.declared.capture.PcapFault.{PcapFault}
use Rattle.pcap_reader.specs.declared.layout.Layout.{Layout}
use Rattle.timing_base.specs.declared.capture.FileNote.{FileNote}
use Rattle.timing_base.specs.declared.capture.FileNote.TheVariants.{End, Refused}
use Rattle.pcap_reader.specs.Records.{captured, note_at, record_of, RecordsFrom, RecordsBy}
use Rattle.pcap_reader.proofs.Texts.{note_at-none}
use Rattle.pcap_reader.proofs.Reading.{none_some, some-injective}

-- a rest has no two lists
pub only_from : (l : Layout) (most n place : ℕ) (rest : List ℕ) (xs ys : List Record) (d e : FileNote)
    → RecordsFrom l most n place rest xs d → RecordsFrom l most n place rest ys e → (xs ≡ ys) × (d ≡ e)
only_from l most n place rest [] [] d e p q = (refl, some-injective d e (sym p ∙ q))
only_from l most n place rest [] (y ∷ ys) d e p q = absurd (none_some d (sym q.0 ∙ p))
only_from l most n place rest (x ∷ xs) [] d e p q = absurd (none_some e (sym p.0 ∙ q))
only_from l most n place rest (x ∷ xs) (y ∷ ys) d e p q =
    let later = only_from l most (n + 1) (place + 16 + captured l rest) (drop (16 + captured l rest) rest) xs ys d e p.2 q.2 in
    (ap (λ i. i ∷ xs) (p.1 ∙ sym q.1) ∙ ap (λ i. y ∷ i) later.0, later.1)

-- nor has a text with this header
pub only_by : (h : Result Layout PcapFault) (most : ℕ) (text : List ℕ) (xs ys : List Record) (d e : FileNote)
    → RecordsBy h most text xs d → RecordsBy h most text ys e → (xs ≡ ys) × (d ≡ e)
only_by (Ok l) most text xs ys d e p q = only_from l most 1 24 (drop 24 text) xs ys d e p q
only_by (Err f) most text xs ys d e p q = (p.0 ∙ sym q.0, p.1 ∙ sym q.1)

-- a record needs a byte
rest_is_some : (l : Layout) (most n place : ℕ) (rest : List ℕ) (k : ℕ) → length rest ≡ k → note_at l most n place rest ≡ None → 0 < k
rest_is_some l most n place rest zero long e = absurd (none_some End (sym e ∙ note_at-none l most n place rest long))
rest_is_some l most n place rest (suc k) long e = omega arith

-- a rest has a list
abbrev Some_from : Layout → (most n place : ℕ) → List ℕ → Type 0
Some_from l most n place rest = (items : List Record) × (end : FileNote) × RecordsFrom l most n place rest items end

-- it has none and ends, or has one more than what is behind its first record
some_step : (l : Layout) (most n place : ℕ) (rest : List ℕ) (o : Option FileNote) → note_at l most n place rest ≡ o
    → (note_at l most n place rest ≡ None → Some_from l most (n + 1) (place + 16 + captured l rest) (drop (16 + captured l rest) rest))
    → Some_from l most n place rest
some_step l most n place rest (Some end) e later = ([], end, e)
some_step l most n place rest None e later =
    let more = later e in
    (record_of l n rest ∷ more.0, more.1, (e, refl, more.2))

-- a rest of so many bytes at most has a list
some_within : (fuel : ℕ) (l : Layout) (most n place : ℕ) (rest : List ℕ) → length rest ≤ fuel → Some_from l most n place rest
some_within zero l most n place rest m = ([], End, note_at-none l most n place rest (omega arith))
some_within (suc fuel) l most n place rest m =
    some_step l most n place rest (note_at l most n place rest) refl
    (λ e. some_within fuel l most (n + 1) (place + 16 + captured l rest) (drop (16 + captured l rest) rest)
    (omega (arith, length-drop (16 + captured l rest) rest, rest_is_some l most n place rest (length rest) refl e)))

-- a text with this header has one
pub some_by : (h : Result Layout PcapFault) (most : ℕ) (text : List ℕ) → (items : List Record) × (end : FileNote) × RecordsBy h most text items end
some_by (Ok l) most text = some_within (length (drop 24 text)) l most 1 24 (drop 24 text) (omega arith)
some_by (Err f) most text = ([], Refused f, (refl, refl))
