-- One row more of a table.
use Rattle.std.proofs.Common.{◌≡◌, ◌∙◌, ◌<◌, ◌+◌, append_assoc, Bool, codes, sym, ap, true, List, [], ◌∷◌, ◌++◌, map, length, take, ℕ}
use Rattle.std.specs.Borrow.{Bor}
use Rattle.std.specs.List.{slice_index_or}
use Rattle.std.proofs.lemmas.List.{map-append, take_more}
use Rattle.clap.specs.Words.{App, Rule, new_app, with_rule}
use Rattle.timing_words.specs.Line.{Sort, Text}
use Rattle.timing_words.specs.Clap.{bare, told}
use Rattle.timing_words.specs.Sorts.{sorts_of}

abbrev rules_of : List Sort → List Rule
rules_of xs = map (λ s. told s.valued s.name) xs

abbrev with_rules : List Rule → App
with_rules rs = record { top = record (new_app (codes "command")).top { rules = rs; no_binary_name = true; disable_help_flag = true }; subs = [] }

-- one option or flag more
bare_with : (taken : List Sort) (s : Sort) → with_rule (bare taken) (told s.valued s.name) ≡ bare (taken ++ s ∷ [])
bare_with taken s = sym (ap with_rules (map-append (λ (x : Sort). told x.valued x.name) taken (s ∷ [])))

sorts_more : (valued : Bool) (names : List (Bor Text)) (i : ℕ) (d : Bor Text) → i < length names
    → sorts_of valued (take (i + 1) names) ≡ sorts_of valued (take i names) ++ record { name = (slice_index_or names i d).now; valued = valued } ∷ []
sorts_more valued names i d lt =
    ap (sorts_of valued) (take_more names i d lt)
    ∙ map-append (λ (s : Bor Text). record { name = s.now; valued = valued }) (take i names) (slice_index_or names i d ∷ [])

pub bare_more : (taken : List Sort) (valued : Bool) (names : List (Bor Text)) (i : ℕ) (d : Bor Text) → i < length names
    → with_rule (bare (taken ++ sorts_of valued (take i names))) (told valued (slice_index_or names i d).now)
    ≡ bare (taken ++ sorts_of valued (take (i + 1) names))
bare_more taken valued names i d lt =
    bare_with (taken ++ sorts_of valued (take i names)) (record { name = (slice_index_or names i d).now; valued = valued })
    ∙ ap bare (append_assoc taken (sorts_of valued (take i names)) _)
    ∙ sym (ap (λ xs. bare (taken ++ xs)) (sorts_more valued names i d lt))
