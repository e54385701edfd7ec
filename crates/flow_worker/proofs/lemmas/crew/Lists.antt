-- Lists, place by place.
use Rattle.std.proofs.Common.{◌≡◌, ◌<◌, ℕ, zero, suc, Bool, true, false, cond, List, [], ◌∷◌, ◌++◌, length, map, filter, slice_index_or, inl, inr, append-nil}
use Rattle.std.proofs.Common.{refl, sym, ap, ap₂, ◌∙◌, arith, append_assoc}
use Rattle.std.specs.Prelude.{All}
use Rattle.std.proofs.Math.Seq.{get_or-append_seam}
use Rattle.std.proofs.lemmas.Bool.{cases_lt}
use Rattle.std.proofs.lemmas.List.{get_or_append_left, length-append}
use Rattle.flow_worker.specs.crew.Columns.{dealt, dealt_all}
use Rattle.flow_worker.specs.crew.Jobs.{numbers}
use Rattle.flow_worker.proofs.lemmas.crew.Dealing.{dealt-at, length-dealt}

pub length-numbers : (n : ℕ) → length (numbers n) ≡ n
length-numbers zero = refl
length-numbers (suc n) = let a = length-append (numbers n) (n ∷ []) in let b = length-numbers n in omega (arith, a, b)

-- a number is at its own place
pub numbers-at : (n i d : ℕ) → i < n → slice_index_or (numbers n) i d ≡ i
numbers-at zero i d h = absurd (omega (arith, h))
numbers-at (suc n) i d h =
    let long = length-numbers n in
    elim (cases_lt i n) as (λ _. slice_index_or (numbers n ++ n ∷ []) i d ≡ i) [
      | inl before ↦ get_or_append_left (numbers n) (n ∷ []) d i (omega (arith, before, long)) ∙ numbers-at n i d before
      | inr after ↦
          let last : i ≡ length (numbers n) = omega (arith, after, h, long) in
          let same : n ≡ i = omega (arith, after, h) in
          ap (λ k. slice_index_or (numbers n ++ n ∷ []) k d) last ∙ get_or-append_seam (numbers n) n [] d ∙ same
    ]

-- lists with the same of each
pub at_map : {A B : Type 0} (f : A → B) (xs : List A) (ys : List B) (n : ℕ) (a : A) (b : B) → ys ≡ map f xs → n < length xs
    → slice_index_or ys n b ≡ f (slice_index_or xs n a)
at_map f [] ys n a b e h = absurd (omega (arith, h))
at_map f (x ∷ xs) ys zero a b e h = ap (λ l. slice_index_or l zero b) e
at_map f (x ∷ xs) ys (suc n) a b e h = ap (λ l. slice_index_or l (suc n) b) e ∙ at_map f xs (map f xs) n a b refl (omega (arith, h))

-- the list of each place of rows that are dealt out
pub dealt_all-at : {X : Type 0} (rows : List (List X)) (lists : List (List X)) (w n : ℕ) (d : X) → n < w → length lists ≡ w → All (λ row. length row ≡ w) rows
    → slice_index_or (dealt_all rows lists) n [] ≡ slice_index_or lists n [] ++ map (λ row. slice_index_or row n d) rows
dealt_all-at [] lists w n d h long each = sym (append-nil (slice_index_or lists n []))
dealt_all-at (row ∷ rows) lists w n d h long each =
    let one : length row ≡ w = each 0 row (omega arith) in
    let rest : All (λ r. length r ≡ w) rows = λ k e m. each (suc k) e (omega (arith, m)) in
    dealt_all-at rows (dealt row lists) w n d h (length-dealt row lists ∙ long) rest
    ∙ ap (λ l. l ++ map (λ r. slice_index_or r n d) rows) (dealt-at row lists n d (omega (arith, one, h)) (omega (arith, one, long)))
    ∙ append_assoc (slice_index_or lists n []) (slice_index_or row n d ∷ []) (map (λ r. slice_index_or r n d) rows)

-- tests that agree on the items keep the same
pub filter-agree : {A : Type 0} (p q : A → Bool) (xs : List A) → All (λ x. p x ≡ q x) xs → filter p xs ≡ filter q xs
filter-agree p q [] each = refl
filter-agree p q (x ∷ xs) each =
    ap₂ (λ (b : Bool) (l : List _). cond b (x ∷ l) l) (each 0 x (omega arith)) (filter-agree p q xs (λ k d m. each (suc k) d (omega (arith, m))))

kept_as : {A B : Type 0} (f g : A → B) (x : A) (kept : List A) (b c : Bool) → b ≡ c → (c ≡ true → f x ≡ g x) → map f kept ≡ map g kept
    → map f (cond b (x ∷ kept) kept) ≡ map g (cond b (x ∷ kept) kept)
kept_as f g x kept true c e same rest = ap₂ (λ y l. y ∷ l) (same (sym e)) rest
kept_as f g x kept false c e same rest = rest

-- what agrees on the items that are kept gives the same of them
pub map_kept-agree : {A B : Type 0} (p : A → Bool) (f g : A → B) (xs : List A) → All (λ x. p x ≡ true → f x ≡ g x) xs
    → map f (filter p xs) ≡ map g (filter p xs)
map_kept-agree p f g [] each = refl
map_kept-agree p f g (x ∷ xs) each =
    kept_as f g x (filter p xs) (p x) (p x) refl (each 0 x (omega arith)) (map_kept-agree p f g xs (λ k d m. each (suc k) d (omega (arith, m))))

-- items that each value keeps
pub map-same : {A B : Type 0} (f : A → B) (g : B → A) (xs : List A) → ((x : A) → g (f x) ≡ x) → map g (map f xs) ≡ xs
map-same f g [] each = refl
map-same f g (x ∷ xs) each = ap₂ (λ y l. y ∷ l) (each x) (map-same f g xs each)

-- an item of a list that has one
pub some_item : {A : Type 0} (xs : List A) (n : ℕ) → n < length xs → A
some_item [] n h = absurd (omega (arith, h))
some_item (x ∷ xs) n h = x

-- within a list the default doesn't count
pub at_default : {A : Type 0} (xs : List A) (n : ℕ) (a b : A) → n < length xs → slice_index_or xs n a ≡ slice_index_or xs n b
at_default [] n a b h = absurd (omega (arith, h))
at_default (x ∷ xs) zero a b h = refl
at_default (x ∷ xs) (suc n) a b h = at_default xs n a b (omega (arith, h))

-- lists with the same at each place are one
pub same_at : {A : Type 0} (xs ys : List A) → length xs ≡ length ys → ((n : ℕ) (a : A) → n < length xs → slice_index_or xs n a ≡ slice_index_or ys n a)
    → xs ≡ ys
same_at [] [] long each = refl
same_at [] (y ∷ ys) long each = absurd (omega (arith, long))
same_at (x ∷ xs) [] long each = absurd (omega (arith, long))
same_at (x ∷ xs) (y ∷ ys) long each =
    ap₂ (λ z l. z ∷ l) (each 0 x (omega arith)) (same_at xs ys (omega (arith, long)) (λ n a h. each (suc n) a (omega (arith, h))))
