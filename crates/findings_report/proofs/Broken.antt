-- The lines of captures that don't end after a whole packet record, from one capture on.
use Rattle.std.proofs.Common.{◌≡◌, ◌<◌, ℕ, ◌+◌, List, ◌∷◌, ◌++◌, length, drop, get_or, sym, ap, ◌∙◌}
use Rattle.std.proofs.lemmas.List.{drop_more}
use Rattle.timing_base.specs.declared.capture.FileNote.{FileNote}
use Rattle.timing_report.proofs.Appends.{one_more}
use Rattle.findings_report.specs.Text.{broken_line, broken_lines}

-- the item at a place, and the items after it
here_and_later : {X : Type 0} (xs : List X) (i : ℕ) (x : X) → i < length xs → x ≡ get_or xs i x → drop i xs ≡ x ∷ drop (i + 1) xs
here_and_later xs i x within is = drop_more xs i x within ∙ ap (λ y. y ∷ drop (i + 1) xs) (sym is)

-- one capture more
pub broken_more : (names : List (List ℕ)) (notes : List FileNote) (i : ℕ) (name : List ℕ) (note : FileNote) (text new whole : List ℕ)
    → i < length names → name ≡ get_or names i name → i < length notes → note ≡ get_or notes i note
    → new ≡ text ++ broken_line i note name
    → text ++ broken_lines i (drop i names) (drop i notes) ≡ whole
    → new ++ broken_lines (i + 1) (drop (i + 1) names) (drop (i + 1) notes) ≡ whole
broken_more names notes i name note text new whole within is note_within note_is e f =
    let later = broken_lines (i + 1) (drop (i + 1) names) (drop (i + 1) notes) in
    let lines : broken_lines i (drop i names) (drop i notes) ≡ broken_line i note name ++ later
    = ap (λ ns. broken_lines i ns (drop i notes)) (here_and_later names i name within is)
    ∙ ap (λ ns. broken_lines i (name ∷ drop (i + 1) names) ns) (here_and_later notes i note note_within note_is) in
    one_more text (broken_line i note name) new later whole e (ap (λ s. text ++ s) (sym lines) ∙ f)
