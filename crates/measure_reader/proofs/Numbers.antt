-- The numbers of a run are read back, piece by piece.
use Rattle.std.proofs.Common.{◌≡◌, ◌∙◌, ℕ, zero, suc, ◌<◌, ◌≤◌, ◌^◌, true, false, ◌==◌, List, [], ◌∷◌, ◌++◌, length, refl, ap, append_assoc, arith}
use Rattle.std.specs.Prelude.{All, Option, Some, None, codes, nat_le, option_map}
use Rattle.std.specs.Fmt.{decimal, signed_decimal}
use Rattle.std.specs.Int.Signed.{mag}
use Rattle.std.specs.Option.{IfSome}
use Rattle.std.proofs.lemmas.Bool.{false≢true}
use Rattle.std.proofs.lemmas.Bool.Decides.{nat_tests}
use Rattle.std.proofs.lemmas.List.{length-append}
use Rattle.std.proofs.lemmas.List.Elements.{All-head, All-tail}
use Rattle.sdp_reader.specs.Bytes.{after_prefix}
use Rattle.flow_measure.specs.declared.numbers.Buffer.{Buffer}
use Rattle.flow_measure.specs.declared.summary.Summary.{Summary}
use Rattle.flow_measure.specs.report.Json.{buffer_text, gap_member, items_text, level_text, list_text, step_member, summary_text}
use Rattle.flow_measure.specs.report.Told.{ToldGaps}
use Rattle.report_reader.specs.Pieces.{after, begins_with_digit, either, number}
use Rattle.report_reader.proofs.Numbers.{begins_decimal, both_true, number_back}
use Rattle.table_reader.proofs.Fields.{signed_back}
use Rattle.measure_reader.specs.Fits.{FitsBuffer, FitsGaps, FitsSummary}
use Rattle.table_reader.specs.Fits.{IsWord}
use Rattle.measure_reader.specs.Reading.{buffer, counts, gap_or_none, level, more_counts, step_or_none, summary, summary_and_target, summary_front}
use Rattle.measure_reader.specs.Told.{ReadBuffer, ReadGap, ReadLevel, ReadStep, ReadSummary, buffer_read, gap_read, level_read, step_read, summary_read}

level_at : {B : Type 0} (next : ReadLevel → List ℕ → Option B) (s : Summary) (rest : List ℕ) → mag s.greatest < 2 ^ 127 → mag s.least < 2 ^ 127
    → mag s.sum < 2 ^ 127 → level next (level_text s ++ rest) ≡ next (level_read s) rest
unfolding level
level_at next s rest g l t = simp (append_assoc, signed_back)

pub level_back : {B : Type 0} (next : ReadLevel → List ℕ → Option B) (s : Summary) (rest : List ℕ) → FitsSummary s
    → level next (level_text s ++ rest) ≡ next (level_read s) rest
level_back next s rest f = level_at next s rest f.greatest f.least f.sum

buffer_at : {B : Type 0} (next : ReadBuffer → List ℕ → Option B) (b : Buffer) (rest : List ℕ) → mag b.occupancy.greatest < 2 ^ 127
    → mag b.occupancy.least < 2 ^ 127 → mag b.occupancy.sum < 2 ^ 127 → b.margins.late < 2 ^ 64 → mag b.margins.slack < 2 ^ 127
    → buffer next (buffer_text b ++ rest) ≡ next (buffer_read b) rest
unfolding buffer
buffer_at next b rest g l t late slack = simp (append_assoc, number_back, signed_back)

pub buffer_back : {B : Type 0} (next : ReadBuffer → List ℕ → Option B) (b : Buffer) (rest : List ℕ) → FitsBuffer b
    → buffer next (buffer_text b ++ rest) ≡ next (buffer_read b) rest
buffer_back next b rest f = buffer_at next b rest f.occupancy.greatest f.occupancy.least f.occupancy.sum f.late f.slack

-- no digit stands behind a number of a list
no_digit : (xs rest : List ℕ) → begins_with_digit (items_text decimal true xs ++ (codes "]" ++ rest)) ≡ false
no_digit [] rest = refl
no_digit (x ∷ xs) rest = refl

more_back : {B : Type 0} (next : List ℕ → List ℕ → Option B) (xs : List ℕ) (most : ℕ) (rest : List ℕ) → All IsWord xs → length xs ≤ most
    → more_counts most next (items_text decimal true xs ++ (codes "]" ++ rest)) ≡ next xs rest
more_back next [] zero rest f l = refl
more_back next [] (suc most) rest f l = refl
more_back next (x ∷ xs) zero rest f l = absurd (omega (arith, l))
more_back next (x ∷ xs) (suc most) rest f l =
    let fewer : length xs ≤ most = omega (arith, l) in
    let h : x < 2 ^ 64 = All-head IsWord x xs f in
    let d = no_digit xs rest in
    let ih = more_back (λ others. next (x ∷ others)) xs most rest (All-tail IsWord x xs f) fewer in
    simp (append_assoc, number_back, h, d, ih)

summary_at : {B : Type 0} (next : ReadSummary → List ℕ → Option B) (s : Summary) (rest : List ℕ) → mag s.first < 2 ^ 127 → mag s.greatest < 2 ^ 127
    → mag s.last < 2 ^ 127 → mag s.least < 2 ^ 127 → mag s.sum < 2 ^ 127
    → summary next (summary_text s None ++ rest) ≡ next (summary_read s) rest
unfolding summary summary_front
summary_at next s rest h1 h2 h3 h4 h5 = simp (append_assoc, signed_back)

pub summary_back : {B : Type 0} (next : ReadSummary → List ℕ → Option B) (s : Summary) (rest : List ℕ) → FitsSummary s
    → summary next (summary_text s None ++ rest) ≡ next (summary_read s) rest
summary_back next s rest f = summary_at next s rest f.first f.greatest f.last f.least f.sum

target_at : {B : Type 0} (next : ReadSummary → ℕ → List ℕ → Option B) (s : Summary) (target : ℕ) (rest : List ℕ) → mag s.first < 2 ^ 127
    → mag s.greatest < 2 ^ 127 → mag s.last < 2 ^ 127 → mag s.least < 2 ^ 127 → mag s.sum < 2 ^ 127 → target < 2 ^ 64
    → summary_and_target next (summary_text s (Some target) ++ rest) ≡ next (summary_read s) target rest
unfolding summary_and_target summary_front
target_at next s target rest h1 h2 h3 h4 h5 h6 = simp (append_assoc, number_back, signed_back)

pub target_back : {B : Type 0} (next : ReadSummary → ℕ → List ℕ → Option B) (s : Summary) (target : ℕ) (rest : List ℕ) → FitsSummary s → target < 2 ^ 64
    → summary_and_target next (summary_text s (Some target) ++ rest) ≡ next (summary_read s) target rest
target_back next s target rest f t = target_at next s target rest f.first f.greatest f.last f.least f.sum t

-- a step stands before the tail
pub step_back : {B : Type 0} (next : Option ReadStep → List ℕ → Option B) (step : Option Summary) (rest : List ℕ) → IfSome step FitsSummary
    → step_or_none next (step_member step ++ (codes "\"tail\":" ++ rest)) ≡ next (option_map step_read step) (codes "\"tail\":" ++ rest)
unfolding step_or_none
step_back next None rest f = refl
step_back next (Some s) rest f =
    let g : mag s.greatest < 2 ^ 127 = f.greatest in
    let l : mag s.least < 2 ^ 127 = f.least in
    simp (append_assoc, signed_back)

-- a byte above the digits
not_above : (b c : ℕ) → 57 < c → nat_le b 57 ≡ true → (b == c) ≡ false
not_above b c l h = grind (arith, nat_tests)

-- and so with no such byte
no_byte_above : (c : ℕ) (ds rest : List ℕ) → 57 < c → begins_with_digit ds ≡ true → after_prefix (c ∷ []) (ds ++ rest) ≡ None
no_byte_above c [] rest l h = absurd (false≢true h)
no_byte_above c (d ∷ ds) rest l h = rw (not_above d c l (both_true (nat_le 48 d) (nat_le d 57) h).1) refl

-- a list of numbers that has at most so many
abbrev counts_within : {B : Type 0} → (most : ℕ) → (List ℕ → List ℕ → Option B) → List ℕ → Option B
counts_within most next text =
    after (codes "[") (either (codes "]") (next []) (number (λ n. more_counts most (λ others. next (n ∷ others))))) text

within_back : {B : Type 0} (next : List ℕ → List ℕ → Option B) (xs : List ℕ) (most : ℕ) (rest : List ℕ) → All IsWord xs → length xs ≤ most
    → counts_within most next (list_text decimal xs ++ rest) ≡ next xs rest
within_back next [] most rest f l = refl
within_back next (x ∷ xs) most rest f l =
    let fewer : length xs ≤ most = omega (arith, l) in
    let h : x < 2 ^ 64 = All-head IsWord x xs f in
    let later = items_text decimal true xs in
    let cut : list_text decimal (x ∷ xs) ++ rest ≡ codes "[" ++ (decimal x ++ (later ++ (codes "]" ++ rest))) = simp append_assoc in
    ap (counts_within most next) cut
    ∙ rw (no_byte_above 93 (decimal x) (later ++ (codes "]" ++ rest)) (omega arith) (begins_decimal x (omega (arith, h))))
    (number_back (λ n. more_counts most (λ others. next (n ∷ others))) x (later ++ (codes "]" ++ rest)) h (no_digit xs rest)
    ∙ more_back (λ others. next (x ∷ others)) xs most rest (All-tail IsWord x xs f) fewer)

-- each item of a list has a byte at least, the comma before it
pub items_long : {X : Type 0} (text : X → List ℕ) (xs : List X) → length xs ≤ length (items_text text true xs)
items_long text [] = omega arith
items_long text (x ∷ xs) =
    let here = length-append (text x) (items_text text true xs) in
    let ih = items_long text xs in
    omega (arith, here, ih)

list_long : (xs rest : List ℕ) → length xs ≤ length (list_text decimal xs ++ rest)
list_long [] rest = omega arith
list_long (x ∷ xs) rest =
    let later = items_text decimal true xs in
    let whole = length-append (list_text decimal (x ∷ xs)) rest in
    let inner = length-append (decimal x ++ later) (codes "]") in
    let here = length-append (decimal x) later in
    let ih = items_long decimal xs in
    omega (arith, whole, inner, here, ih)

-- a list of numbers is read back
pub counts_back : {B : Type 0} (next : List ℕ → List ℕ → Option B) (xs rest : List ℕ) → All IsWord xs
    → counts next (list_text decimal xs ++ rest) ≡ next xs rest
unfolding counts
counts_back next xs rest f = within_back next xs (length (list_text decimal xs ++ rest)) rest f (list_long xs rest)

gap_is : (g : ToldGaps) (rest : List ℕ) → gap_member (Some g) ++ rest ≡ codes "\"gap\":{\"classes\":" ++ (list_text decimal g.classes
    ++ (codes ",\"greatest\":" ++ (signed_decimal g.summary.greatest ++ (codes ",\"least\":" ++ (signed_decimal g.summary.least
    ++ (codes ",\"sum\":" ++ (signed_decimal g.summary.sum ++ (codes "}," ++ rest))))))))
gap_is g rest = simp append_assoc

-- the times between packets stand before the occupancy by gapped reads
pub gap_back : {B : Type 0} (next : Option ReadGap → List ℕ → Option B) (gap : Option ToldGaps) (rest : List ℕ) → IfSome gap FitsGaps
    → gap_or_none next (gap_member gap ++ (codes "\"gapped\":" ++ rest)) ≡ next (option_map gap_read gap) (codes "\"gapped\":" ++ rest)
unfolding gap_or_none
gap_back next None rest f = refl
gap_back next (Some g) rest f =
    ap (gap_or_none next) (gap_is g (codes "\"gapped\":" ++ rest)) ∙ counts_back _ g.classes _ f.classes
    ∙ signed_back _ g.summary.greatest _ f.summary.greatest refl ∙ signed_back _ g.summary.least _ f.summary.least refl
    ∙ signed_back _ g.summary.sum _ f.summary.sum refl
