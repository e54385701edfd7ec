-- Items grouped by a key, in the order in which the keys first occur. Only the first `most` keys are listed; the items
-- of all later keys are only counted.
use Rattle.std.specs.Prelude.{◌≡◌, ℕ, Bool, not, List, [], ◌∷◌, map, take, Some}
use Rattle.std.specs.List.{count_by, filter, list_any}
use Rattle.std.specs.Map.{keys_of, lookup}

module _ {K : Type 0} (same : K → K → Bool) where
  -- the keys of a list, each once, in the order in which they first occur
  abbrev pub distinct : List K → List K
  distinct [] = []
  distinct (k ∷ ks) = k ∷ filter (λ other. not (same k other)) (distinct ks)

  -- whether a key is in a list of keys
  abbrev pub is_among : List K → K → Bool
  is_among keys k = list_any (same k) keys

module _ {K X : Type 0} (same : K → K → Bool) (key : X → K) (most : ℕ) where
  -- the keys that are listed: the first `most`
  abbrev pub told : List X → List K
  told items = take most (distinct same (map key items))

  -- the items with this key
  abbrev pub items_of : List X → K → List X
  items_of items k = filter (λ x. same k (key x)) items

  -- the number of items with a key that isn't listed
  abbrev pub count_more : List X → ℕ
  count_more items = count_by (λ x. not (is_among same (told items) (key x))) items

  -- the entries are the listed keys in their order, each with a value that stands for the items with that key, and
  -- `more` is the number of the other items
  pub record HaveItems {V : Type 0} (For : V → List X → Type 0) (entries : List (K × V)) (more : ℕ) (items : List X)
      : Type 0 where
    pub keys_are : keys_of entries ≡ told items
    pub each : (k : K) (v : V) → lookup (same k) entries ≡ Some v → For v (items_of items k)
    pub more_is : more ≡ count_more items
