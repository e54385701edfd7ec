-- Lemmas on what the front of a text says of the whole.
use Rattle.std.proofs.Common.{subst, refl, ◌≡◌, ◌≤◌, ◌<◌, ◌+◌, ◌*◌, ◌^◌, ℕ, List, ◌++◌, length, take, drop, None, Some, Err, sym, ap, ◌∙◌, arith, append-nil}
use Rattle.std.proofs.Common.{length-drop, length-append}
use Rattle.std.proofs.lemmas.List.{drop-append-le, take-append-le}
use Rattle.std.proofs.lemmas.Bool.Decides.{nat_tests}
use Rattle.std.specs.Prelude.{Option}
use Rattle.byteorder.specs.Endian.{big_number, little_number}
use Rattle.byteorder.specs.Numbers.{big_from-append, little_from-append}
use Rattle.std.specs.Io.KnownBytes.{Keeps, IsAtEnd, prepend_known}
use Rattle.timing_base.specs.declared.capture.PcapFault.TheVariants as fault
use Rattle.pcap_reader.specs.declared.layout.Layout.{Layout}
use Rattle.pcap_reader.specs.declared.layout.Order.{Order}
use Rattle.pcap_reader.specs.declared.layout.Order.TheVariants.{Big, Little}
use Rattle.timing_base.specs.declared.capture.FileNote.TheVariants.{End, Cut}
use Rattle.pcap_reader.specs.Header.{number, nanos, layout_of, header_by, header}
use Rattle.pcap_reader.specs.Records.{seconds, fraction, captured, stamp, note_by, note_at}

-- a text that is known stands in what is held and what is left
pub known_text : (a b : Option (List ℕ)) (h text : List ℕ) → Keeps a (prepend_known h b) → a ≡ Some text → (y : List ℕ) × (b ≡ Some y) × (text ≡ h ++ y)
known_text a None h text p e = absurd (subst (λ k. Keeps k None) e p)
known_text a (Some y) h text p e = (y, refl, sym (subst (λ k. Keeps k (Some (h ++ y))) e p))

-- nothing is left of a text at its end
pub text_at_end : (a b : Option (List ℕ)) (h text : List ℕ) → Keeps a (prepend_known h b) → a ≡ Some text → IsAtEnd b → text ≡ h
text_at_end a None h text p e q = absurd (subst (λ k. Keeps k None) e p)
text_at_end a (Some y) h text p e q = sym (subst (λ k. Keeps k (Some (h ++ y))) e p) ∙ ap (λ l. h ++ l) q ∙ append-nil h

-- a number in the front of a text is that of the text
pub number-append : (o : Order) (n k : ℕ) (h y : List ℕ) → k + n ≤ length h → number o n (drop k (h ++ y)) ≡ number o n (drop k h)
number-append Big n k h y m =
    ap (big_number n) (drop-append-le k h y (omega arith)) ∙ big_from-append n (drop k h) y (omega (arith, length-drop k h))
number-append Little n k h y m =
    ap (little_number n) (drop-append-le k h y (omega arith)) ∙ little_from-append n (drop k h) y (omega (arith, length-drop k h))

header_by-append : (l : Option Layout) (h y : List ℕ) → 24 ≤ length h → header_by l (h ++ y) ≡ header_by l h
header_by-append None h y m = refl
header_by-append (Some l) h y m =
    rw (number-append l.order 2 4 h y (omega arith), number-append l.order 2 6 h y (omega arith), number-append l.order 4 20 h y (omega arith)) refl

-- a text of fewer than 24 bytes has no header
pub header-short : (text : List ℕ) → length text < 24 → header text ≡ Err fault.BadMagic
header-short text m = grind (arith, nat_tests)

header-long : (text : List ℕ) → 24 ≤ length text → header text ≡ header_by (layout_of (big_number 4 text)) text
header-long text m = grind (arith, nat_tests)

-- the header is that of the first bytes, where there are 24
pub header-append : (h y : List ℕ) → 24 ≤ length h → header (h ++ y) ≡ header h
header-append h y m =
    header-long (h ++ y) (omega (arith, length-append h y)) ∙ header_by-append (layout_of (big_number 4 (h ++ y))) h y m
    ∙ ap (λ n. header_by (layout_of n) h) (big_from-append 4 h y (omega arith)) ∙ sym (header-long h m)

-- at the end of the text
pub note_at-none : (l : Layout) (most n place : ℕ) (rest : List ℕ) → length rest ≡ 0 → note_at l most n place rest ≡ Some End
note_at-none l most n place rest m = grind (arith, nat_tests)

-- within the head of a record
pub note_at-short : (l : Layout) (most n place : ℕ) (rest : List ℕ) → 0 < length rest → length rest < 16 → note_at l most n place rest ≡ Some (Cut place)
note_at-short l most n place rest p m = grind (arith, nat_tests)

note_at-long : (l : Layout) (most n place : ℕ) (rest : List ℕ) → 16 ≤ length rest
    → note_at l most n place rest ≡ note_by l.fraction most n place (length rest) (fraction l rest) (captured l rest)
note_at-long l most n place rest m = grind (arith, nat_tests)

-- behind the head of a record
pub note_at-append : (l : Layout) (most n place : ℕ) (h y : List ℕ) → 16 ≤ length h
    → note_at l most n place (h ++ y) ≡ note_by l.fraction most n place (length (h ++ y)) (fraction l h) (captured l h)
note_at-append l most n place h y m =
    note_at-long l most n place (h ++ y) (omega (arith, length-append h y))
    ∙ ap (λ k. note_by l.fraction most n place (length (h ++ y)) k (captured l (h ++ y))) (number-append l.order 4 4 h y (omega arith))
    ∙ ap (λ k. note_by l.fraction most n place (length (h ++ y)) (fraction l h) k) (number-append l.order 4 8 h y (omega arith))

-- the header of a text whose first bytes are held
pub header-read : (a b : Option (List ℕ)) (h text : List ℕ) → Keeps a (prepend_known h b) → a ≡ Some text → 24 ≤ length h → header text ≡ header h
header-read a b h text p e m = let k = known_text a b h text p e in ap header k.2 ∙ header-append h k.0 m

-- what is ahead after the first n bytes are let go
pub ahead-let_go : (a b : Option (List ℕ)) (h h2 text : List ℕ) (n : ℕ) → Keeps a (prepend_known h b) → a ≡ Some text → n ≤ length h → h2 ≡ drop n h
    → prepend_known h2 b ≡ Some (drop n text)
ahead-let_go a b h h2 text n p e m r =
    let k = known_text a b h text p e in
    ap (prepend_known h2) k.1 ∙ ap (λ l. Some l) (ap (λ l. l ++ k.0) r ∙ sym (drop-append-le n h k.0 m) ∙ ap (drop n) (sym k.2))

-- what stands in the way of the record of a text whose first bytes are held
pub note_at-read : (l : Layout) (most n place : ℕ) (a b : Option (List ℕ)) (h text : List ℕ) → Keeps a (prepend_known h b) → a ≡ Some text → 16 ≤ length h
    → note_at l most n place text ≡ note_by l.fraction most n place (length text) (fraction l h) (captured l h)
note_at-read l most n place a b h text p e m =
    let k = known_text a b h text p e in
    subst (λ t. note_at l most n place t ≡ note_by l.fraction most n place (length t) (fraction l h) (captured l h)) (sym k.2)
    (note_at-append l most n place h k.0 m)

-- the captured length
pub captured-read : (l : Layout) (a b : Option (List ℕ)) (h text : List ℕ) → Keeps a (prepend_known h b) → a ≡ Some text → 16 ≤ length h
    → captured l text ≡ captured l h
captured-read l a b h text p e m =
    let k = known_text a b h text p e in
    ap (captured l) k.2 ∙ number-append l.order 4 8 h k.0 (omega arith)

-- the stamp
pub stamp-read : (l : Layout) (a b : Option (List ℕ)) (h text : List ℕ) → Keeps a (prepend_known h b) → a ≡ Some text → 16 ≤ length h → stamp l text ≡ stamp l h
stamp-read l a b h text p e m =
    let k = known_text a b h text p e in
    ap (stamp l) k.2 ∙ ap (λ s. s * 10 ^ 9 + fraction l (h ++ k.0) * nanos l.fraction) (number-append l.order 4 0 h k.0 (omega arith))
    ∙ ap (λ f. seconds l h * 10 ^ 9 + f * nanos l.fraction) (number-append l.order 4 4 h k.0 (omega arith))

-- the captured bytes
pub bytes-read : (a b : Option (List ℕ)) (h text : List ℕ) (n : ℕ) → Keeps a (prepend_known h b) → a ≡ Some text → 16 + n ≤ length h
    → take n (drop 16 text) ≡ take n (drop 16 h)
bytes-read a b h text n p e m =
    let k = known_text a b h text p e in
    ap (λ t. take n (drop 16 t)) k.2 ∙ ap (take n) (drop-append-le 16 h k.0 (omega arith)) ∙ take-append-le n (drop 16 h) k.0 (omega (arith, length-drop 16 h))
