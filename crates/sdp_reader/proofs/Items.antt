-- The parameters of a list and of a part, one by one.
use Rattle.std.proofs.Common.{◌≡◌, ◌<◌, ◌==◌, ◌+◌, ◌||◌, ℕ, Bool, true, false, List, [], ◌∷◌, ◌++◌, Option, Some, None, map, length, take, get_or, set, arith}
use Rattle.std.proofs.Common.{refl, sym, ap, ◌∙◌, append_assoc}
use Rattle.std.specs.Option.{option_to_list}
use Rattle.std.specs.List.{slice_split, filter_map, list_any}
use Rattle.std.proofs.lemmas.List.{map-append}
use Rattle.std.proofs.lemmas.Grind.{common_steps, take_at_read}
use Rattle.sdp_reader.specs.Parameters.{Item, row_of, is_of}

pub filter_map-cons : {X Y : Type 0} (h : X → Option Y) (o : Option Y) (x : X) (xs : List X) → o ≡ h x
    → filter_map h (x ∷ xs) ≡ option_to_list o ++ filter_map h xs
filter_map-cons h None x xs e = rw (← e) refl
filter_map-cons h (Some y) x xs e = rw (← e) refl

-- a piece is taken off, and its item, if it is one, added
pub items-step : {Y : Type 0} (h : List ℕ → Option Y) (c : ℕ) (new old : List Y) (o : Option Y) (xs piece after : List ℕ)
    → new ≡ old ++ option_to_list o → o ≡ h piece → slice_split (λ x. x == c) xs ≡ piece ∷ slice_split (λ x. x == c) after
    → new ++ filter_map h (slice_split (λ x. x == c) after) ≡ old ++ filter_map h (slice_split (λ x. x == c) xs)
items-step h c new old o xs piece after a b e =
    ap (λ l. l ++ filter_map h (slice_split (λ x. x == c) after)) a
    ∙ append_assoc old (option_to_list o) (filter_map h (slice_split (λ x. x == c) after))
    ∙ ap (λ l. old ++ l) (sym (filter_map-cons h o piece (slice_split (λ x. x == c) after) b))
    ∙ ap (λ l. old ++ filter_map h l) (sym e)

-- nothing is added
pub append_nil : {A : Type 0} (xs : List A) → xs ++ [] ≡ xs
append_nil [] = refl
append_nil (x ∷ xs) = ap (λ l. x ∷ l) (append_nil xs)

-- one item more in front
pub take-push : {A B : Type 0} (g : A → B) (xs : List A) (i : ℕ) (d : A) → i < length xs → map g (take (i + 1) xs) ≡ map g (take i xs) ++ g (get_or xs i d) ∷ []
take-push g xs i d h = ap (map g) (take_at_read xs i d h).1 ∙ map-append g (take i xs) (get_or xs i d ∷ [])

-- a test of a list with one more at its end
pub list_any-push : {A : Type 0} (p : A → Bool) (xs : List A) (x : A) → list_any p (xs ++ x ∷ []) ≡ (p x || list_any p xs)
list_any-push p [] x = grind (arith, common_steps)
list_any-push p (y ∷ ys) x = grind (arith, common_steps, list_any-push p ys x)

set_seen : (seen : List Bool) (row k : ℕ) (a b : Bool) → row < length seen → get_or seen k false ≡ a → (row == k) ≡ b
    → get_or (set seen row true) k false ≡ (b || a)
set_seen seen row k a true l e h = grind (arith, common_steps)
set_seen seen row k a false l e h = grind (arith, common_steps)

-- one row more that was seen
pub seen-step : {A : Type 0} (g : A → Item) (seen : List Bool) (row : ℕ) (xs : List A) (i : ℕ) (d : A) (k : ℕ)
    → row ≡ row_of (g (get_or xs i d)).name → row < length seen → i < length xs
    → get_or seen k false ≡ list_any (is_of k) (map g (take i xs))
    → get_or (set seen row true) k false ≡ list_any (is_of k) (map g (take (i + 1) xs))
seen-step g seen row xs i d k e l h s =
    let t = take-push g xs i d h in
    let p = list_any-push (is_of k) (map g (take i xs)) (g (get_or xs i d)) in
    set_seen seen row k (list_any (is_of k) (map g (take i xs))) (row_of (g (get_or xs i d)).name == k) l s (ap (λ r. r == k) e)
    ∙ sym (ap (list_any (is_of k)) t ∙ p)
