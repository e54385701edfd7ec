-- The lines of a list, from one place on.
use Rattle.std.proofs.Common.{◌≡◌, ◌<◌, ℕ, ◌+◌, List, ◌∷◌, ◌++◌, length, drop, get_or, sym, ap, ◌∙◌}
use Rattle.std.proofs.lemmas.List.{drop_more}
use Rattle.std.proofs.lemmas.List.Concat.{flat_map-append}
use Rattle.timing_base.specs.Media.{Media}
use Rattle.timing_base.specs.declared.capture.FileNote.{FileNote}
use Rattle.timing_base.specs.declared.row.Run.{Run}
use Rattle.timing_report.proofs.Appends.{one_more}
use Rattle.timing_report.specs.Text.{ended, text_of_lines, file_text, files_lines}
use Rattle.timing_report.specs.Verdict.{run_lines, runs_lines}

-- the item at a place, and the items after it
here_and_later : {X : Type 0} (xs : List X) (i : ℕ) (x : X) → i < length xs → x ≡ get_or xs i x → drop i xs ≡ x ∷ drop (i + 1) xs
here_and_later xs i x within is = drop_more xs i x within ∙ ap (λ y. y ∷ drop (i + 1) xs) (sym is)

-- one run more
pub runs_more : (media : Media) (runs : List Run) (i : ℕ) (run : Run) (text new whole : List ℕ)
    → i < length runs → run ≡ get_or runs i run
    → new ≡ text ++ text_of_lines (run_lines media i run)
    → text ++ text_of_lines (runs_lines media i (drop i runs)) ≡ whole
    → new ++ text_of_lines (runs_lines media (i + 1) (drop (i + 1) runs)) ≡ whole
runs_more media runs i run text new whole within is e f =
    let here = run_lines media i run in
    let later = runs_lines media (i + 1) (drop (i + 1) runs) in
    let lines : text_of_lines (runs_lines media i (drop i runs)) ≡ text_of_lines here ++ text_of_lines later
    = ap (λ rs. text_of_lines (runs_lines media i rs)) (here_and_later runs i run within is) ∙ flat_map-append ended here later in
    one_more text (text_of_lines here) new (text_of_lines later) whole e (ap (λ s. text ++ s) (sym lines) ∙ f)

-- one capture more
pub files_more : (names : List (List ℕ)) (notes : List FileNote) (i : ℕ) (name : List ℕ) (note : FileNote) (text new whole : List ℕ)
    → i < length names → name ≡ get_or names i name → i < length notes → note ≡ get_or notes i note
    → new ≡ text ++ ended (file_text i note name)
    → text ++ text_of_lines (files_lines i (drop i names) (drop i notes)) ≡ whole
    → new ++ text_of_lines (files_lines (i + 1) (drop (i + 1) names) (drop (i + 1) notes)) ≡ whole
files_more names notes i name note text new whole within is note_within note_is e f =
    let later = text_of_lines (files_lines (i + 1) (drop (i + 1) names) (drop (i + 1) notes)) in
    let lines : text_of_lines (files_lines i (drop i names) (drop i notes)) ≡ ended (file_text i note name) ++ later
    = ap (λ ns. text_of_lines (files_lines i ns (drop i notes))) (here_and_later names i name within is)
    ∙ ap (λ ns. text_of_lines (files_lines i (name ∷ drop (i + 1) names) ns)) (here_and_later notes i note note_within note_is) in
    one_more text (ended (file_text i note name)) new later whole e (ap (λ s. text ++ s) (sym lines) ∙ f)
