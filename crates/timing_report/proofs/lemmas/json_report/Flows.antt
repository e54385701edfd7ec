-- The flows of a report, from one place on.
use Rattle.std.proofs.Common.{◌≡◌, ◌<◌, ℕ, ◌+◌, List, ◌∷◌, ◌++◌, length, drop, get_or, true, sym, ap, ◌∙◌, append_assoc}
use Rattle.std.proofs.lemmas.List.{drop_more}
use Rattle.std.specs.Prelude.{map, nat_lt}
use Rattle.serde_json.specs.View.{items_of}
use Rattle.serde_json.specs.Written.{compact_text, comma_if, items_text}
use Rattle.timing_base.specs.Media.{Media}
use Rattle.timing_base.specs.declared.row.Row.{Row}
use Rattle.timing_report.specs.json_report.Json.{row_data}

-- the item at a place, and the items after it
here_and_later : {X : Type 0} (xs : List X) (i : ℕ) (x : X) → i < length xs → x ≡ get_or xs i x → drop i xs ≡ x ∷ drop (i + 1) xs
here_and_later xs i x within is = drop_more xs i x within ∙ ap (λ y. y ∷ drop (i + 1) xs) (sym is)

-- one flow more
pub flows_more : (session : List Media) (rows : List Row) (i : ℕ) (row : Row) (text comma new whole : List ℕ)
    → i < length rows → row ≡ get_or rows i row
    → comma ≡ text ++ comma_if (nat_lt 0 i) → new ≡ comma ++ compact_text (row_data session row)
    → text ++ items_text (nat_lt 0 i) (items_of (map (row_data session) (drop i rows))) ≡ whole
    → new ++ items_text true (items_of (map (row_data session) (drop (i + 1) rows))) ≡ whole
flows_more session rows i row text comma new whole within is e f g =
    let later = items_text true (items_of (map (row_data session) (drop (i + 1) rows))) in
    let here = ap (λ rs. items_text (nat_lt 0 i) (items_of (map (row_data session) rs))) (here_and_later rows i row within is) in
    ap (λ s. s ++ later) (f ∙ ap (λ s. s ++ compact_text (row_data session row)) e)
    ∙ append_assoc (text ++ comma_if (nat_lt 0 i)) (compact_text (row_data session row)) later
    ∙ append_assoc text (comma_if (nat_lt 0 i)) (compact_text (row_data session row) ++ later)
    ∙ ap (λ s. text ++ s) (sym here) ∙ g
