-- What `clap` looks up in a command that it was told of.
use Rattle.std.proofs.Common.{◌≡◌, ◌∙◌, ◌||◌, Bool, true, false, cond, refl, sym, ap, List, [], ◌∷◌, ◌++◌, map, Option, Some, None, option_map}
use Rattle.std.specs.Prelude.{find}
use Rattle.std.specs.Str.{bytes_eq}
use Rattle.std.proofs.lemmas.Slice.Eq.{bytes_eq-Decides}
use Rattle.clap.specs.Walk.{Rule, arg_by_id, arg_by_index, arg_by_long}
use Rattle.clap.specs.Simple.{built, filled, filled_from, with_index}
use Rattle.timing_words.specs.Line.{Sort, Text}
use Rattle.timing_words.specs.Clap.{app, names_id, names_told, told}

-- an option or a flag, built
abbrev pub rule : Bool → Text → Rule
rule true n = filled (told true n)
rule false n = filled (told false n)

abbrev pub sort_rule : Sort → Rule
sort_rule s = rule s.valued s.name

-- the names, built
abbrev pub names_rule : Rule
names_rule = with_index 1 (filled names_told)

abbrev pub rules : List Sort → List Rule
rules sorts = map sort_rule sorts ++ names_rule ∷ []

filled_one : (b : Bool) (n : Text) (xs : List Rule) → filled_from 1 (told b n ∷ xs) ≡ rule b n ∷ filled_from 1 xs
filled_one true n xs = refl
filled_one false n xs = refl

-- building fills in each argument
pub filled_rules : (sorts : List Sort) → filled_from 1 (map (λ s. told s.valued s.name) sorts ++ names_told ∷ []) ≡ rules sorts
filled_rules [] = refl
filled_rules (s ∷ rest) = filled_one s.valued s.name _ ∙ ap (λ xs. sort_rule s ∷ xs) (filled_rules rest)

pub built_rules : (sorts : List Sort) → (built (app sorts)).top.rules ≡ rules sorts
built_rules sorts = filled_rules sorts

or_no : (a : Bool) → (a || false) ≡ a
or_no true = refl
or_no false = refl

long_one : (b : Bool) (m n : Text) (xs : List Rule) → arg_by_long (rule b m ∷ xs) n ≡ cond (bytes_eq m n) (Some (rule b m)) (arg_by_long xs n)
long_one true m n xs = ap (λ b. cond b (Some (rule true m)) (arg_by_long xs n)) (or_no (bytes_eq m n))
long_one false m n xs = ap (λ b. cond b (Some (rule false m)) (arg_by_long xs n)) (or_no (bytes_eq m n))

id_one : (b : Bool) (m n : Text) (xs : List Rule) → arg_by_id (rule b m ∷ xs) n ≡ cond (bytes_eq m n) (Some (rule b m)) (arg_by_id xs n)
id_one true m n xs = refl
id_one false m n xs = refl

index_one : (b : Bool) (m : Text) (xs : List Rule) → arg_by_index (rule b m ∷ xs) 1 ≡ arg_by_index xs 1
index_one true m xs = refl
index_one false m xs = refl

map_cond : (b : Bool) (s : Sort) (o : Option Sort) → option_map sort_rule (cond b (Some s) o) ≡ cond b (Some (sort_rule s)) (option_map sort_rule o)
map_cond true s o = refl
map_cond false s o = refl

-- an option or flag by the name in a word
pub by_long : (sorts : List Sort) (n : Text) → arg_by_long (rules sorts) n ≡ option_map sort_rule (find (λ s. bytes_eq s.name n) sorts)
by_long [] n = refl
by_long (s ∷ rest) n = long_one s.valued s.name n (rules rest)
    ∙ ap (λ o. cond (bytes_eq s.name n) (Some (sort_rule s)) o) (by_long rest n)
    ∙ sym (map_cond (bytes_eq s.name n) s _)

-- the names by their place
pub by_index : (sorts : List Sort) → arg_by_index (rules sorts) 1 ≡ Some names_rule
by_index [] = refl
by_index (s ∷ rest) = index_one s.valued s.name (rules rest) ∙ by_index rest

-- an option or flag by its id, which is its name
pub by_id : (sorts : List Sort) (n : Text) (s : Sort) → find (λ x. bytes_eq x.name n) sorts ≡ Some s → arg_by_id (rules sorts) n ≡ Some (sort_rule s)
by_id [] n s e = cc
by_id (x ∷ rest) n s e = id_one x.valued x.name n (rules rest) ∙ go (bytes_eq x.name n) e (by_id rest n s)
  where
    go : (b : Bool) → cond b (Some x) (find (λ y. bytes_eq y.name n) rest) ≡ Some s
        → (find (λ y. bytes_eq y.name n) rest ≡ Some s → arg_by_id (rules rest) n ≡ Some (sort_rule s))
        → cond b (Some (sort_rule x)) (arg_by_id (rules rest) n) ≡ Some (sort_rule s)
    go true e ih = ap (option_map sort_rule) e
    go false e ih = ih e

-- the names by their id
pub names_by_id : (sorts : List Sort) → find (λ x. bytes_eq x.name names_id) sorts ≡ None → arg_by_id (rules sorts) names_id ≡ Some names_rule
names_by_id [] e = refl
names_by_id (x ∷ rest) e = id_one x.valued x.name names_id (rules rest) ∙ go (bytes_eq x.name names_id) e (names_by_id rest)
  where
    go : (b : Bool) → cond b (Some x) (find (λ y. bytes_eq y.name names_id) rest) ≡ None
        → (find (λ y. bytes_eq y.name names_id) rest ≡ None → arg_by_id (rules rest) names_id ≡ Some names_rule)
        → cond b (Some (sort_rule x)) (arg_by_id (rules rest) names_id) ≡ Some names_rule
    go true e ih = cc
    go false e ih = ih e

-- what was found has the name
pub found_name : (sorts : List Sort) (n : Text) (s : Sort) → find (λ x. bytes_eq x.name n) sorts ≡ Some s → s.name ≡ n
found_name [] n s e = cc
found_name (x ∷ rest) n s e = go (bytes_eq x.name n) refl e (found_name rest n s)
  where
    go : (b : Bool) → bytes_eq x.name n ≡ b → cond b (Some x) (find (λ y. bytes_eq y.name n) rest) ≡ Some s
        → (find (λ y. bytes_eq y.name n) rest ≡ Some s → s.name ≡ n) → s.name ≡ n
    go true t e ih = let same : x ≡ s = cc in ap (λ (y : Sort). y.name) (sym same) ∙ (bytes_eq-Decides x.name n).0 t
    go false t e ih = ih e

-- and is found by its own
pub found_again : (sorts : List Sort) (n : Text) (s : Sort) → find (λ x. bytes_eq x.name n) sorts ≡ Some s → find (λ x. bytes_eq x.name s.name) sorts ≡ Some s
found_again sorts n s e = ap (λ m. find (λ x. bytes_eq x.name m) sorts) (found_name sorts n s e) ∙ e
