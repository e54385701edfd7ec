-- The nearest rate, from one place of the known ones on, and the least denominator, from one on.
use Rattle.std.proofs.Common.{◌≡◌, ◌<◌, ◌≤◌, ℕ, suc, ◌+◌, ◌-◌, Bool, true, false, List, Some, None, length, drop, get_or, sym, ap, ◌∙◌, arith}
use Rattle.std.specs.Prelude.{if◌then◌else◌, Option}
use Rattle.std.proofs.lemmas.List.{drop_more}
use Rattle.capture_scan.specs.declared.stream.Rate.{Rate}
use Rattle.capture_scan.specs.report.Rates.{denominator_from, is_slow, is_whole_in, nearest_from}
use Rattle.capture_scan.specs.declared.report.rate.FrameRate.{FrameRate}

here : (fields : Bool) (rate : Rate) (slow : FrameRate) (items : List FrameRate) (i : ℕ) (d : FrameRate) (b : Bool) → i < length items
    → is_slow fields rate slow (get_or items i d) ≡ b
    → nearest_from fields rate slow (drop i items) ≡ (if b then slow else nearest_from fields rate (get_or items i d) (drop (i + 1) items))
here fields rate slow items i d b within e =
    ap (nearest_from fields rate slow) (drop_more items i d within)
    ∙ ap (λ (x : Bool). if x then slow else nearest_from fields rate (get_or items i d) (drop (i + 1) items)) e

-- it is found here
pub found_here : (fields : Bool) (rate : Rate) (slow : FrameRate) (items : List FrameRate) (i : ℕ) (d whole : FrameRate) → i < length items
    → is_slow fields rate slow (get_or items i d) ≡ true → nearest_from fields rate slow (drop i items) ≡ whole → slow ≡ whole
found_here fields rate slow items i d whole within e f = sym (here fields rate slow items i d true within e) ∙ f

-- it is a later one
pub found_later : (fields : Bool) (rate : Rate) (slow : FrameRate) (items : List FrameRate) (i : ℕ) (d whole : FrameRate) → i < length items
    → is_slow fields rate slow (get_or items i d) ≡ false → nearest_from fields rate slow (drop i items) ≡ whole
    → nearest_from fields rate (get_or items i d) (drop (i + 1) items) ≡ whole
found_later fields rate slow items i d whole within e f = sym (here fields rate slow items i d false within e) ∙ f

here-whole : (left q frames ticks : ℕ) (b : Bool) → is_whole_in frames ticks q ≡ b
    → denominator_from (suc left) q frames ticks ≡ (if b then Some q else denominator_from left (q + 1) frames ticks)
unfolding denominator_from
here-whole left q frames ticks b is = ap (λ (x : Bool). if x then Some q else denominator_from left (q + 1) frames ticks) is

this-many : (many left q frames ticks : ℕ) (b : Bool) → many ≡ suc left → is_whole_in frames ticks q ≡ b
    → denominator_from many q frames ticks ≡ (if b then Some q else denominator_from left (q + 1) frames ticks)
this-many many left q frames ticks b e is = ap (λ (n : ℕ). denominator_from n q frames ticks) e ∙ here-whole left q frames ticks b is

-- the denominator is found here
pub denominator_here : (most before frames ticks : ℕ) (whole : Option ℕ) → before < most → is_whole_in frames ticks (before + 1) ≡ true
    → denominator_from (most - before) (before + 1) frames ticks ≡ whole → Some (before + 1) ≡ whole
denominator_here most before frames ticks whole within is e =
    sym (this-many (most - before) (most - (before + 1)) (before + 1) frames ticks true (omega (arith, within)) is) ∙ e

-- it is a later one
pub denominator_later : (most before frames ticks : ℕ) (whole : Option ℕ) → before < most → is_whole_in frames ticks (before + 1) ≡ false
    → denominator_from (most - before) (before + 1) frames ticks ≡ whole
    → denominator_from (most - (before + 1)) (before + 1 + 1) frames ticks ≡ whole
denominator_later most before frames ticks whole within is e =
    sym (this-many (most - before) (most - (before + 1)) (before + 1) frames ticks false (omega (arith, within)) is) ∙ e

-- there is none
pub denominator_none : (most before frames ticks : ℕ) (whole : Option ℕ) → most ≤ before
    → denominator_from (most - before) (before + 1) frames ticks ≡ whole → None ≡ whole
unfolding denominator_from
denominator_none most before frames ticks whole past e =
    let none : 0 ≡ most - before = omega (arith, past) in
    ap (λ (n : ℕ). denominator_from n (before + 1) frames ticks) none ∙ e
