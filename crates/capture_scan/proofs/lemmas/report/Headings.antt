-- The lines of captures, from one place on.
use Rattle.std.proofs.Common.{◌≡◌, ◌<◌, ℕ, ◌+◌, List, ◌∷◌, ◌++◌, length, drop, get_or, sym, ap, ◌∙◌}
use Rattle.std.proofs.lemmas.List.{drop_more}
use Rattle.timing_base.specs.declared.capture.FileNote.{FileNote}
use Rattle.timing_report.proofs.Appends.{one_more}
use Rattle.capture_scan.specs.report.Text.{capture_told, captures_told}

-- the item at a place, and the items after it
here-and-later : {X : Type 0} (xs : List X) (i : ℕ) (x : X) → i < length xs → x ≡ get_or xs i x → drop i xs ≡ x ∷ drop (i + 1) xs
here-and-later xs i x within is = drop_more xs i x within ∙ ap (λ y. y ∷ drop (i + 1) xs) (sym is)

-- one capture more
pub captures-more : (after : List ℕ) (names : List (List ℕ)) (notes : List FileNote) (i : ℕ) (name : List ℕ) (note : FileNote)
    (text new whole : List ℕ)
    → i < length names → name ≡ get_or names i name → i < length notes → note ≡ get_or notes i note
    → new ≡ text ++ capture_told after name note
    → text ++ captures_told after (drop i names) (drop i notes) ≡ whole
    → new ++ captures_told after (drop (i + 1) names) (drop (i + 1) notes) ≡ whole
captures-more after names notes i name note text new whole within is note_within note_is e f =
    let later = captures_told after (drop (i + 1) names) (drop (i + 1) notes) in
    let lines : captures_told after (drop i names) (drop i notes) ≡ capture_told after name note ++ later
    = ap (λ ns. captures_told after ns (drop i notes)) (here-and-later names i name within is)
    ∙ ap (λ ns. captures_told after (name ∷ drop (i + 1) names) ns) (here-and-later notes i note note_within note_is) in
    one_more text (capture_told after name note) new later whole e (ap (λ s. text ++ s) (sym lines) ∙ f)
