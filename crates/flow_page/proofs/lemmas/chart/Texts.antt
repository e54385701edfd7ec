-- Texts to which one piece more is added.
use Rattle.std.proofs.Common.{◌≡◌, ◌<◌, ◌≤◌, ◌+◌, ◌-◌, ◌*◌, ◌==◌, ℕ, suc, zero, false, List, [], ◌∷◌, ◌++◌, length, drop, get_or, sym, ap, refl, ◌∙◌, arith}
use Rattle.std.proofs.Common.{append-nil, true≢false}
use Rattle.std.specs.Prelude.{pos, nat_le, if◌then◌else◌, Option, Some}
use Rattle.std.proofs.lemmas.List.{at_drop_more, at_drop_all}
use Rattle.timing_report.proofs.Appends.{one_more, two}
use Rattle.flow_measure.specs.declared.columns.Extremes.{Extremes}
use Rattle.flow_page.specs.chart.Axes.{round_from, round_up}
use Rattle.flow_measure.specs.Columns.{column_at}
use Rattle.flow_page.specs.chart.Curve.{band_end, band_start, band_text, comes_from, over_text, turn, under_text}
use Rattle.flow_page.specs.chart.Lines.{line_text, lines_after, placed, with_name}
use Rattle.flow_page.specs.chart.Marks.{base_of, y_of}
use Rattle.flow_page.specs.chart.Pieces.{upto}
use Rattle.flow_page.specs.declared.chart.lines.Limit.{Limit}
use Rattle.flow_page.specs.declared.chart.lines.Names.{Names}
use Rattle.flow_page.specs.declared.chart.plot.Plot.{Plot}

-- the column that stands where there is none
abbrev no_column : Extremes
no_column = record { least = pos 0; greatest = pos 0 }

-- one piece more of those for each number
pub upto_more : (piece : ℕ → List ℕ) (k : ℕ) → upto piece (k + 1) ≡ upto piece k ++ piece k
upto_more piece k = let e : k + 1 ≡ suc k = omega arith in ap (upto piece) e

pub one_upto : (piece : ℕ → List ℕ) (old mid new : List ℕ) (k : ℕ) → mid ≡ old ++ upto piece k → new ≡ mid ++ piece k
    → new ≡ old ++ upto piece (k + 1)
one_upto piece old mid new k e f =
    two old (upto piece k) (piece k) mid new e f ∙ ap (λ s. old ++ s) (sym (upto_more piece k))

-- a function of an item doesn't ask which one stands past the end
at_head : {Y : Type 0} → (Extremes → Y) → Y → List Extremes → Y
at_head f y [] = y
at_head f y (x ∷ xs) = f x

pub same_at : {Y : Type 0} (f : Extremes → Y) (columns : List Extremes) (n : ℕ) (d e : Extremes) → n < length columns
    → f (get_or columns n d) ≡ f (get_or columns n e)
unfolding at_head
same_at f columns n d e within =
    sym (at_drop_more (at_head f (f d)) columns n d within) ∙ at_drop_more (at_head f (f d)) columns n e within

-- one step more along the greatest numbers
pub over_more : (p : Plot) (columns : List Extremes) (column before y : ℕ) (d : Extremes) (text new whole : List ℕ) → column < length columns
    → y ≡ y_of p (get_or columns column d).greatest → new ≡ text ++ turn p column before y
    → text ++ over_text p column before (drop column columns) ≡ whole
    → new ++ over_text p (column + 1) y (drop (column + 1) columns) ≡ whole
over_more p columns column before y d text new whole within at e f =
    one_more text (turn p column before y) new (over_text p (column + 1) y (drop (column + 1) columns)) whole e
    (ap (λ z. text ++ (turn p column before z ++ over_text p (column + 1) z (drop (column + 1) columns))) at
    ∙ ap (λ s. text ++ s) (sym (at_drop_more (over_text p column before) columns column d within)) ∙ f)

-- one line more
pub lines_more : (p : Plot) (lines : List Limit) (i base : ℕ) (names : Option Names) (next : Names) (d : Limit) (text new whole : List ℕ)
    → i < length lines → base ≡ placed (base_of p (get_or lines i d).at) names → next ≡ with_name base names
    → new ≡ text ++ line_text p base (get_or lines i d) → text ++ lines_after p names (drop i lines) ≡ whole
    → new ++ lines_after p (Some next) (drop (i + 1) lines) ≡ whole
lines_more p lines i base names next d text new whole within at named e f =
    let line = get_or lines i d in
    let rest = drop (i + 1) lines in
    one_more text (line_text p base line) new (lines_after p (Some next) rest) whole e
    (ap (λ n. text ++ (line_text p base line ++ lines_after p (Some n) rest)) named
    ∙ ap (λ z. text ++ (line_text p z line ++ lines_after p (Some (with_name z names)) rest)) at
    ∙ ap (λ s. text ++ s) (sym (at_drop_more (lines_after p names) lines i d within)) ∙ f)

-- a band of columns
pub some_columns : (columns : List Extremes) → (length columns == 0) ≡ false → 0 < length columns
some_columns [] e = absurd (true≢false e)
some_columns (x ∷ xs) e = omega arith

pub band_some : (p : Plot) (columns : List Extremes) (d : Extremes) → (length columns == 0) ≡ false
    → band_start p (get_or columns 0 d)
    ++ (over_text p 0 (y_of p (column_at columns 0).greatest) columns ++ (under_text p 0 columns ++ band_end p)) ≡ band_text p columns
band_some p columns d e =
    let rest : List ℕ = over_text p 0 (y_of p (column_at columns 0).greatest) columns ++ (under_text p 0 columns ++ band_end p) in
    ap (λ s. s ++ rest) (same_at (band_start p) columns 0 d no_column (some_columns columns e))
    ∙ sym (ap (λ b. if b then [] else band_start p (column_at columns 0) ++ rest) e)

-- the last column's place isn't asked for where another one stands to the right
from_same : (p : Plot) (columns : List Extremes) (m : ℕ) (e f : Extremes) → m < length columns
    → comes_from p e (drop m columns) ≡ comes_from p f (drop m columns)
from_same p columns m e f within =
    at_drop_more (comes_from p e) columns m e within ∙ sym (at_drop_more (comes_from p f) columns m e within)

-- a step comes from the column to the right, or from the last one's greatest number
from_right : (p : Plot) (columns : List Extremes) (done : ℕ) → done < length columns
    → comes_from p (column_at columns (length columns - 1)) (drop (length columns - done) columns)
    ≡ comes_from p (column_at columns (length columns - 1 - done)) (drop (length columns - done) columns)
from_right p columns zero within =
    let e : length columns - 1 ≡ length columns - 1 - 0 = omega arith in
    ap (λ k. comes_from p (column_at columns k) (drop (length columns - 0) columns)) e
from_right p columns (suc done) within =
    from_same p columns (length columns - suc done) (column_at columns (length columns - 1))
    (column_at columns (length columns - 1 - suc done)) (omega arith)

back : (p : Plot) (columns : List Extremes) (n m : ℕ) → n < length columns → m ≡ n + 1
    → under_text p n (drop n columns)
    ≡ under_text p m (drop m columns) ++ turn p m (comes_from p (column_at columns n) (drop m columns)) (y_of p (column_at columns n).least)
back p columns n m within e =
    at_drop_more (under_text p n) columns n no_column within
    ∙ ap (λ k. under_text p k (drop k columns) ++ turn p k (comes_from p (column_at columns n) (drop k columns)) (y_of p (column_at columns n).least)) (sym e)

-- one step more on the way back
pub one_back : (p : Plot) (columns : List Extremes) (done : ℕ) (d : Extremes) (old mid new : List ℕ) (before y : ℕ) → done < length columns
    → mid ≡ old ++ under_text p (length columns - done) (drop (length columns - done) columns)
    → before ≡ comes_from p (column_at columns (length columns - 1)) (drop (length columns - done) columns)
    → y ≡ y_of p (get_or columns (length columns - 1 - done) d).least
    → new ≡ mid ++ turn p (length columns - 1 - done + 1) before y
    → new ≡ old ++ under_text p (length columns - (done + 1)) (drop (length columns - (done + 1)) columns)
one_back p columns done d old mid new before y within e from at f =
    let n : ℕ = length columns - 1 - done in
    let m : ℕ = length columns - done in
    let below : n < length columns = omega arith in
    let next : m ≡ n + 1 = omega arith in
    let same : n ≡ length columns - (done + 1) = omega arith in
    let place : before ≡ comes_from p (column_at columns n) (drop m columns) = from ∙ from_right p columns done within in
    let here : y ≡ y_of p (column_at columns n).least = at ∙ same_at (λ x. y_of p x.least) columns n d no_column below in
    let told : new ≡ mid ++ turn p m (comes_from p (column_at columns n) (drop m columns)) (y_of p (column_at columns n).least) =
    f ∙ ap (λ k. mid ++ turn p k before y) (sym next) ∙ ap (λ b. mid ++ turn p m b y) place
    ∙ ap (λ z. mid ++ turn p m (comes_from p (column_at columns n) (drop m columns)) z) here in
    two old (under_text p m (drop m columns)) (turn p m (comes_from p (column_at columns n) (drop m columns)) (y_of p (column_at columns n).least))
    mid new e told
    ∙ ap (λ s. old ++ s) (sym (back p columns n m below next))
    ∙ ap (λ k. old ++ under_text p k (drop k columns)) same

-- where the next step comes from
pub next_from : (p : Plot) (columns : List Extremes) (done : ℕ) (d e : Extremes) (y : ℕ) → done < length columns
    → y ≡ y_of p (get_or columns (length columns - 1 - done) d).least → y ≡ comes_from p e (drop (length columns - (done + 1)) columns)
next_from p columns done d e y within at =
    let n : ℕ = length columns - (done + 1) in
    let below : n < length columns = omega arith in
    let same : length columns - 1 - done ≡ n = omega arith in
    at ∙ ap (λ k. y_of p (get_or columns k d).least) same ∙ sym (at_drop_more (comes_from p e) columns n d below)

-- where the first step comes from
pub none_from : (p : Plot) (columns : List Extremes) (d : Extremes) (y : ℕ) → 0 < length columns
    → y ≡ y_of p (get_or columns (length columns - 1) d).greatest
    → y ≡ comes_from p (column_at columns (length columns - 1)) (drop (length columns - 0) columns)
none_from p columns d y some at =
    let last : Extremes = column_at columns (length columns - 1) in
    let within : length columns - 1 < length columns = omega arith in
    at ∙ same_at (λ x. y_of p x.greatest) columns (length columns - 1) d no_column within
    ∙ sym (at_drop_all (comes_from p last) columns (length columns - 0) (omega arith))

-- nothing before the first step
pub none_back : (p : Plot) (columns : List Extremes) (old : List ℕ)
    → old ≡ old ++ under_text p (length columns - 0) (drop (length columns - 0) columns)
none_back p columns old =
    let e : length columns ≡ length columns - 0 = omega arith in
    sym (append-nil old) ∙ ap (λ s. old ++ s) (sym (at_drop_all (under_text p (length columns)) columns (length columns) (omega arith)))
    ∙ ap (λ k. old ++ under_text p k (drop k columns)) e

-- all of them
pub all_back : (p : Plot) (columns : List Extremes) (done : ℕ) → length columns - done ≡ 0
    → under_text p (length columns - done) (drop (length columns - done) columns) ≡ under_text p 0 columns
all_back p columns done e = ap (λ k. under_text p k (drop k columns)) e

-- one power more that is tried
pub one_power : (i power wanted : ℕ) → i < 19 → round_from (19 - i) power wanted
    ≡ (if nat_le wanted power then power else if nat_le wanted (2 * power) then 2 * power
    else if nat_le wanted (5 * power) then 5 * power else round_from (19 - (i + 1)) (10 * power) wanted)
one_power i power wanted within =
    let e : 19 - i ≡ suc (19 - (i + 1)) = omega arith in ap (λ n. round_from n power wanted) e

-- the first power, and the last
pub round_begins : (wanted : ℕ) → round_from (19 - 0) 1 wanted ≡ round_up wanted
unfolding round_up
round_begins wanted = refl

pub round_ends : (i power wanted : ℕ) → 19 ≤ i → round_from (19 - i) power wanted ≡ power
round_ends i power wanted past =
    let e : 19 - i ≡ zero = omega arith in ap (λ n. round_from n power wanted) e
