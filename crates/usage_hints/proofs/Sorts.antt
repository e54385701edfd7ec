-- The options and flags that are found in a parser are those that the grammar has.
use Rattle.std.proofs.Common.{◌≡◌, ◌∙◌, refl, ap, List, [], ◌∷◌, ◌++◌, map, true, false, Bool, Some, filter_map}
use Rattle.std.specs.List.{cons_option}
use Rattle.clap.specs.Words.{App, Rule}
use Rattle.clap.specs.Walk.{rule_of}
use Rattle.clap.specs.declared.builder.arg.Arg.{Arg}
use Rattle.timing_words.specs.Clap.{app, names_told, told as told_rule}
use Rattle.timing_words.specs.Line.{Sort, Text}
use Rattle.usage_hints.specs.Options.{names_in, sort_in, sort_of}
use Rattle.usage_hints.specs.declared.options.Choice.{Choice}

over-rules : (args : List Arg) → filter_map (λ a. sort_in (rule_of a)) args ≡ filter_map sort_in (map rule_of args)
over-rules [] = refl
over-rules (a ∷ args) = ap (cons_option (sort_in (rule_of a))) (over-rules args)

sort-told : (b : Bool) (n : Text) → sort_in (told_rule b n) ≡ Some (record { name = n; valued = b })
sort-told true n = refl
sort-told false n = refl

abbrev rules_of : List Sort → List Rule
rules_of sorts = map (λ s. told_rule s.valued s.name) sorts ++ names_told ∷ []

of-sorts : (sorts : List Sort) → filter_map sort_in (rules_of sorts) ≡ sorts
of-sorts [] = refl
of-sorts (s ∷ rest) =
    ap (λ o. cons_option o (filter_map sort_in (rules_of rest))) (sort-told s.valued s.name) ∙ ap (λ t. s ∷ t) (of-sorts rest)

-- the arguments of a parser that was told of these
pub found-sorts : (a : App) (args : List Arg) (sorts : List Sort) → map rule_of args ≡ a.top.rules → a ≡ app sorts
    → filter_map (λ a. sort_in (rule_of a)) args ≡ sorts
found-sorts a args sorts are is = over-rules args ∙ ap (filter_map sort_in) (are ∙ ap (λ (b : App). b.top.rules) is) ∙ of-sorts sorts

-- the names of what was found
names-found : (choices : List Choice) → names_in choices ≡ map (λ (s : Sort). s.name) (map sort_of choices)
names-found [] = refl
names-found (c ∷ choices) = ap (λ t. c.name.now ∷ t) (names-found choices)

pub names_same : (choices : List Choice) (sorts : List Sort) → map sort_of choices ≡ sorts → names_in choices ≡ map (λ (s : Sort). s.name) sorts
names_same choices sorts is = names-found choices ∙ ap (map (λ (s : Sort). s.name)) is
