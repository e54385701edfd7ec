-- Each item is among the items of one key that is told, or is one more.
use Rattle.std.proofs.Common.{◌≡◌, ℕ, zero, suc, ◌+◌, ◌≤◌, Bool, true, false, cond, not, ◌||◌, List, [], ◌∷◌, map, filter, filter_map, length, take, count_by}
use Rattle.std.proofs.Common.{sum_by, Option, Some, None, refl, sym, ap, ◌∙◌, arith, true≢false}
use Rattle.std.specs.List.{cons_option}
use Rattle.std.proofs.lemmas.Bool.{or_parts}
use Rattle.std.proofs.lemmas.List.Sums.{sum_by-cons}
use Rattle.capture_scan.proofs.Groups.{TellsApart, flips, one_of}
use Rattle.capture_scan.specs.Groups.{count_more, distinct, is_among, items_of, told}

-- sums over lists
sum-zero : {X : Type 0} (f : X → ℕ) (xs : List X) → ((x : X) → f x ≡ 0) → sum_by f xs ≡ 0
sum-zero f [] h = refl
sum-zero f (x ∷ xs) h = sum_by-cons f x xs ∙ omega (arith, h x, sum-zero f xs h)

sum-plus : {X : Type 0} (f g h : X → ℕ) (xs : List X) → ((x : X) → f x ≡ g x + h x) → sum_by f xs ≡ sum_by g xs + sum_by h xs
sum-plus f g h [] e = refl
sum-plus f g h (x ∷ xs) e =
    omega (arith, e x, sum-plus f g h xs e, sum_by-cons f x xs, sum_by-cons g x xs, sum_by-cons h x xs)

-- how often an item passes a test, after others were left out
count-none : {X : Type 0} (p q : X → Bool) (xs : List X) → ((x : X) → p x ≡ true → q x ≡ false) → count_by p (filter q xs) ≡ 0
count-none p q [] h = refl
count-none p q (x ∷ xs) h = by (count-none p q xs h) (q x) refl (p x) refl
  where
    by : count_by p (filter q xs) ≡ 0 → (b : Bool) → q x ≡ b → (c : Bool) → p x ≡ c → count_by p (filter q (x ∷ xs)) ≡ 0
    by rest false e c f = ap (λ (t : Bool). count_by p (cond t (x ∷ filter q xs) (filter q xs))) e ∙ rest
    by rest true e true f = absurd (true≢false (sym e ∙ h x f))
    by rest true e false f =
        let one : one_of (p x) ≡ 0 = ap one_of f in
        ap (λ (t : Bool). count_by p (cond t (x ∷ filter q xs) (filter q xs))) e
        ∙ (sum_by-cons (λ y. cond (p y) 1 0) x (filter q xs) ∙ omega (arith, one, rest))

count-filter : {X : Type 0} (p q : X → Bool) (xs : List X) → count_by p (filter q xs) ≤ count_by p xs
count-filter p q [] = omega arith
count-filter p q (x ∷ xs) = by (count-filter p q xs) (q x) refl
  where
    all : count_by p (x ∷ xs) ≡ cond (p x) 1 0 + count_by p xs
    all = sum_by-cons (λ y. cond (p y) 1 0) x xs

    by : count_by p (filter q xs) ≤ count_by p xs → (b : Bool) → q x ≡ b → count_by p (filter q (x ∷ xs)) ≤ count_by p (x ∷ xs)
    by rest false e =
        let here : count_by p (filter q (x ∷ xs)) ≡ count_by p (filter q xs) = ap (λ (t : Bool). count_by p (cond t (x ∷ filter q xs) (filter q xs))) e in
        at _ _ _ _ _ here all rest
      where
        at : (a b c d k : ℕ) → a ≡ b → c ≡ k + d → b ≤ d → a ≤ c
        at a b c d k p q r = omega arith
    by rest true e =
        let here : count_by p (filter q (x ∷ xs)) ≡ count_by p (x ∷ filter q xs) = ap (λ (t : Bool). count_by p (cond t (x ∷ filter q xs) (filter q xs))) e in
        at _ _ _ _ _ (here ∙ sum_by-cons (λ y. cond (p y) 1 0) x (filter q xs)) all rest
      where
        at : (a b c d k : ℕ) → a ≡ k + b → c ≡ k + d → b ≤ d → a ≤ c
        at a b c d k p q r = omega arith

count-take : {X : Type 0} (p : X → Bool) (n : ℕ) (xs : List X) → count_by p (take n xs) ≤ count_by p xs
count-take p zero xs = omega arith
count-take p (suc n) [] = omega arith
count-take p (suc n) (x ∷ xs) =
    at _ _ _ _ _ (sum_by-cons (λ y. cond (p y) 1 0) x (take n xs)) (sum_by-cons (λ y. cond (p y) 1 0) x xs) (count-take p n xs)
  where
    at : (a b c d k : ℕ) → a ≡ k + b → c ≡ k + d → b ≤ d → a ≤ c
    at a b c d k p q r = omega arith

module _ {K : Type 0} {same : K → K → Bool} (laws : TellsApart same) where
  -- of keys that are told apart each stands once
  distinct-once : (ks : List K) (k : K) → count_by (λ j. same j k) (distinct same ks) ≤ 1
  distinct-once [] k = omega arith
  distinct-once (x ∷ xs) k = by (distinct-once xs k) (same x k) refl
    where
      all : count_by (λ j. same j k) (distinct same (x ∷ xs))
          ≡ cond (same x k) 1 0 + count_by (λ j. same j k) (filter (λ other. not (same x other)) (distinct same xs))
      all = sum_by-cons (λ j. cond (same j k) 1 0) x (filter (λ other. not (same x other)) (distinct same xs))

      by : count_by (λ j. same j k) (distinct same xs) ≤ 1 → (b : Bool) → same x k ≡ b → count_by (λ j. same j k) (distinct same (x ∷ xs)) ≤ 1
      by rest true e = at _ _ _ all (ap one_of e) (count-none (λ j. same j k) (λ other. not (same x other)) (distinct same xs) gone)
        where
          gone : (j : K) → same j k ≡ true → not (same x j) ≡ false
          gone j h = ap not (ap (λ (t : K). same x t) (laws.equal j k h) ∙ e)

          at : (a b c : ℕ) → a ≡ b + c → b ≡ 1 → c ≡ 0 → a ≤ 1
          at a b c p q r = omega arith
      by rest false e = at _ _ _ _ all (ap one_of e) (count-filter (λ j. same j k) (λ other. not (same x other)) (distinct same xs)) rest
        where
          at : (a b c d : ℕ) → a ≡ b + c → b ≡ 0 → c ≤ d → d ≤ 1 → a ≤ 1
          at a b c d p q r s = omega arith

  -- a key stands among others as often as it is counted there
  count-absent : (ks : List K) (k : K) → is_among same ks k ≡ false → count_by (λ j. same j k) ks ≡ 0
  count-absent [] k h = refl
  count-absent (x ∷ xs) k h =
      let parts = or_parts (same k x) (is_among same xs k) h in
      at _ _ _ (sum_by-cons (λ j. cond (same j k) 1 0) x xs) (ap one_of (flips laws x k ∙ parts.0)) (count-absent xs k parts.1)
    where
      at : (a b c : ℕ) → a ≡ b + c → b ≡ 0 → c ≡ 0 → a ≡ 0
      at a b c p q r = omega arith

  count-present : (ks : List K) (k : K) → is_among same ks k ≡ true → 1 ≤ count_by (λ j. same j k) ks
  count-present [] k h = absurd (true≢false (sym h))
  count-present (x ∷ xs) k h = by (count-present xs k) (same k x) refl
    where
      all : count_by (λ j. same j k) (x ∷ xs) ≡ cond (same x k) 1 0 + count_by (λ j. same j k) xs
      all = sum_by-cons (λ j. cond (same j k) 1 0) x xs

      by : (is_among same xs k ≡ true → 1 ≤ count_by (λ j. same j k) xs) → (b : Bool) → same k x ≡ b → 1 ≤ count_by (λ j. same j k) (x ∷ xs)
      by more true e = at _ _ _ all (ap one_of (flips laws x k ∙ e))
        where
          at : (a b c : ℕ) → a ≡ b + c → b ≡ 1 → 1 ≤ a
          at a b c p q = omega arith
      by more false e =
          let rest : is_among same xs k ≡ true = sym (ap (λ (t : Bool). t || is_among same xs k) e) ∙ h in
          at _ _ _ all (more rest)
        where
          at : (a b c : ℕ) → a ≡ b + c → 1 ≤ c → 1 ≤ a
          at a b c p q = omega arith

  one_place : (ks : List K) (k : K) → count_by (λ j. same j k) ks ≤ 1 → count_by (λ j. same j k) ks + cond (not (is_among same ks k)) 1 0 ≡ 1
  one_place ks k once = by (is_among same ks k) refl
    where
      by : (b : Bool) → is_among same ks k ≡ b → count_by (λ j. same j k) ks + cond (not (is_among same ks k)) 1 0 ≡ 1
      by true e = at _ _ once (count-present ks k e) (ap (λ (t : Bool). one_of (not t)) e)
        where
          at : (a b : ℕ) → a ≤ 1 → 1 ≤ a → b ≡ 0 → a + b ≡ 1
          at a b p q r = omega arith
      by false e = at _ _ (count-absent ks k e) (ap (λ (t : Bool). one_of (not t)) e)
        where
          at : (a b : ℕ) → a ≡ 0 → b ≡ 1 → a + b ≡ 1
          at a b p q = omega arith

module _ {K X : Type 0} {same : K → K → Bool} (laws : TellsApart same) (key : X → K) (most : ℕ) where
  one_longer : (b : Bool) (x : X) (xs : List X) → length (cond b (x ∷ xs) xs) ≡ cond b 1 0 + length xs
  one_longer true x xs = omega arith
  one_longer false x xs = omega arith

  items-once : (ks : List K) → ((k : K) → count_by (λ j. same j k) ks ≤ 1) → (xs : List X)
      → sum_by (λ k. length (items_of same key most xs k)) ks + count_by (λ x. not (is_among same ks (key x))) xs ≡ length xs
  items-once ks once [] = at _ (sum-zero (λ k. length (items_of same key most [] k)) ks (λ _. refl))
    where
      at : (a : ℕ) → a ≡ 0 → a + 0 ≡ 0
      at a p = omega arith
  items-once ks once (x ∷ xs) =
      at _ _ _ _ _ _ _
      (sum-plus (λ k. length (items_of same key most (x ∷ xs) k)) (λ k. cond (same k (key x)) 1 0) (λ k. length (items_of same key most xs k)) ks
      (λ k. one_longer (same k (key x)) x (items_of same key most xs k)))
      (sum_by-cons (λ y. cond (not (is_among same ks (key y))) 1 0) x xs)
      (one_place laws ks (key x) (once (key x)))
      (items-once ks once xs)
    where
      at : (a b c d e f n : ℕ) → a ≡ b + c → d ≡ e + f → b + e ≡ 1 → c + f ≡ n → a + d ≡ suc n
      at a b c d e f n p q r s = omega arith

  -- the items of the keys that are told, and the others, are all
  pub told-once : (xs : List X) → sum_by (λ k. length (items_of same key most xs k)) (told same key most xs) + count_more same key most xs ≡ length xs
  told-once xs = items-once (told same key most xs) once xs
    where
      once : (k : K) → count_by (λ j. same j k) (told same key most xs) ≤ 1
      once k = at _ _ (count-take (λ j. same j k) most (distinct same (map key xs))) (distinct-once laws (map key xs) k)
        where
          at : (a b : ℕ) → a ≤ b → b ≤ 1 → a ≤ 1
          at a b p q = omega arith

-- the sum over what a function gives of some items
pub sum-filter_map : {X Y : Type 0} (f : Y → ℕ) (h : X → Option Y) (g : X → ℕ) (xs : List X) → ((x : X) → sum_by f (cons_option (h x) []) ≡ g x)
    → sum_by f (filter_map h xs) ≡ sum_by g xs
sum-filter_map f h g [] e = refl
sum-filter_map {Y = Y} f h g (x ∷ xs) e = by (sum-filter_map f h g xs e) (h x) refl
  where
    all : sum_by g (x ∷ xs) ≡ g x + sum_by g xs
    all = sum_by-cons g x xs

    by : sum_by f (filter_map h xs) ≡ sum_by g xs → (o : Option Y) → h x ≡ o → sum_by f (filter_map h (x ∷ xs)) ≡ sum_by g (x ∷ xs)
    by rest None p = at _ _ _ _ (ap (λ (o : Option Y). sum_by f (cons_option o (filter_map h xs))) p ∙ rest)
        (sym (ap (λ (o : Option Y). sum_by f (cons_option o [])) p) ∙ e x) all
      where
        at : (a b c d : ℕ) → a ≡ b → 0 ≡ c → d ≡ c + b → a ≡ d
        at a b c d p q r = omega arith
    by rest (Some y) p =
        at _ _ _ _ _ _ (ap (λ (o : Option Y). sum_by f (cons_option o (filter_map h xs))) p ∙ sum_by-cons f y (filter_map h xs))
        (sym (sum_by-cons f y []) ∙ (sym (ap (λ (o : Option Y). sum_by f (cons_option o [])) p) ∙ e x)) rest all
      where
        at : (a b c d k l : ℕ) → a ≡ k + b → k + 0 ≡ c → b ≡ d → l ≡ c + d → a ≡ l
        at a b c d k l p q r s = omega arith
