-- Items by their keys, with one item more.
use Rattle.std.proofs.Common.{◌≡◌, ℕ, zero, suc, ◌+◌, ◌≤◌, ◌<◌, Bool, true, false, Some, None, cond, not, ◌||◌, List, [], ◌∷◌, ◌++◌, map, length, take}
use Rattle.std.proofs.Common.{filter, count_by, refl, sym, ap, subst, ◌∙◌, arith, true≢false}
use Rattle.std.specs.Cmp.{IsEquivalence}
use Rattle.std.specs.List.{list_any}
use Rattle.std.specs.Map.{keys_of, lookup}
use Rattle.std.proofs.lemmas.Bool.{or_parts, or_right}
use Rattle.std.proofs.lemmas.List.{append-nil, length-take, length_push, map_push, take-append-le, take_all}
use Rattle.std.proofs.lemmas.List.Elements.{filter-append}
use Rattle.std.proofs.lemmas.List.Sums.{sum_by-cons, sum_by_push}
use Rattle.capture_scan.proofs.Counting.{none_some, some_same}
use Rattle.capture_scan.specs.Groups.{HaveItems, count_more, distinct, is_among, items_of, told}

-- 1 where a test holds
abbrev pub one_of : Bool → ℕ
one_of b = cond b 1 0

-- keys that are told apart by a test
pub record TellsApart {K : Type 0} (same : K → K → Bool) : Type 0 where
  pub itself : (k : K) → same k k ≡ true
  pub equal : (j k : K) → same j k ≡ true → j ≡ k

-- those that aren't the same as x
abbrev apart : {K : Type 0} → (K → K → Bool) → K → List K → List K
apart same x ks = filter (λ other. not (same x other)) ks

-- whether a key is among these, by the answer for the first and the others
among-cons : {K : Type 0} (same : K → K → Bool) (x k : K) (xs : List K) (b : Bool) → same k x ≡ b → is_among same (x ∷ xs) k ≡ (b || is_among same xs k)
among-cons same x k xs b e = ap (λ (t : Bool). t || is_among same xs k) e

-- the first that a filter keeps or leaves out
filter-cons : {K : Type 0} (p : K → Bool) (x : K) (xs : List K) (b : Bool) → p x ≡ b → filter p (x ∷ xs) ≡ cond b (x ∷ filter p xs) (filter p xs)
filter-cons p x xs b e = ap (λ (t : Bool). cond t (x ∷ filter p xs) (filter p xs)) e

module _ {K : Type 0} {same : K → K → Bool} (laws : TellsApart same) where
  pub flips : (j k : K) → same j k ≡ same k j
  flips j k = by (same j k) (same k j) refl refl
    where
      by : (b c : Bool) → same j k ≡ b → same k j ≡ c → same j k ≡ same k j
      by true c e f = ap (λ (x : K). same j x) (sym (laws.equal j k e)) ∙ ap (λ (x : K). same x j) (laws.equal j k e)
      by false true e f = ap (λ (x : K). same x k) (sym (laws.equal k j f)) ∙ ap (λ (x : K). same k x) (laws.equal k j f)
      by false false e f = e ∙ sym f

  -- a key that a filter passes over
  among-filter : (p : K → Bool) (ks : List K) (k : K) → p k ≡ true → is_among same (filter p ks) k ≡ is_among same ks k
  among-filter p [] k h = refl
  among-filter p (x ∷ xs) k h = by (p x) refl (same k x) refl (among-filter p xs k h)
    where
      by : (b : Bool) → p x ≡ b → (c : Bool) → same k x ≡ c → is_among same (filter p xs) k ≡ is_among same xs k
          → is_among same (filter p (x ∷ xs)) k ≡ is_among same (x ∷ xs) k
      by true e c f rest = ap (λ (l : List K). is_among same l k) (filter-cons p x xs true e) ∙ ap (λ (t : Bool). same k x || t) rest
      by false e true f rest = absurd (true≢false (sym h ∙ (ap p (laws.equal k x f) ∙ e)))
      by false e false f rest = ap (λ (l : List K). is_among same l k) (filter-cons p x xs false e) ∙ (rest ∙ sym (among-cons same x k xs false f))

  -- each key is among those that are told apart, and no other
  pub among-distinct : (ks : List K) (k : K) → is_among same (distinct same ks) k ≡ is_among same ks k
  among-distinct [] k = refl
  among-distinct (x ∷ xs) k = by (same k x) refl (among-distinct xs k)
    where
      by : (c : Bool) → same k x ≡ c → is_among same (distinct same xs) k ≡ is_among same xs k
          → is_among same (distinct same (x ∷ xs)) k ≡ is_among same (x ∷ xs) k
      by true f rest = among-cons same x k (apart same x (distinct same xs)) true f ∙ sym (among-cons same x k xs true f)
      by false f rest =
          let passes : not (same x k) ≡ true = ap not (flips x k ∙ f) in
          ap (λ (t : Bool). same k x || t) (among-filter (λ other. not (same x other)) (distinct same xs) k passes ∙ rest)

  -- one key more, which a filter keeps or leaves out
  filter-push : (p : K → Bool) (ks : List K) (b : Bool) (k : K) → (b ≡ false → p k ≡ true)
      → filter p (ks ++ cond b [] (k ∷ [])) ≡ filter p ks ++ cond b [] (k ∷ [])
  filter-push p ks true k h = ap (filter p) (append-nil ks) ∙ sym (append-nil (filter p ks))
  filter-push p ks false k h = filter-append p ks (k ∷ []) ∙ ap (λ (l : List K). filter p ks ++ l) (filter-cons p k [] true (h refl))

  filter-gone : (p : K → Bool) (ks : List K) (b : Bool) (k : K) → p k ≡ false → filter p (ks ++ cond b [] (k ∷ [])) ≡ filter p ks ++ []
  filter-gone p ks true k h = ap (filter p) (append-nil ks) ∙ sym (append-nil (filter p ks))
  filter-gone p ks false k h = filter-append p ks (k ∷ []) ∙ ap (λ (l : List K). filter p ks ++ l) (filter-cons p k [] false h)

  pub distinct-push : (ks : List K) (k : K) → distinct same (ks ++ k ∷ []) ≡ distinct same ks ++ cond (is_among same ks k) [] (k ∷ [])
  distinct-push [] k = refl
  distinct-push (x ∷ xs) k = by (same k x) refl (ap (apart same x) (distinct-push xs k))
    where
      by : (c : Bool) → same k x ≡ c
          → apart same x (distinct same (xs ++ k ∷ [])) ≡ apart same x (distinct same xs ++ cond (is_among same xs k) [] (k ∷ []))
          → x ∷ apart same x (distinct same (xs ++ k ∷ [])) ≡ x ∷ (apart same x (distinct same xs) ++ cond (c || is_among same xs k) [] (k ∷ []))
      by true f rest =
          let gone : not (same x k) ≡ false = ap not (flips x k ∙ f) in
          ap (λ (l : List K). x ∷ l) (rest ∙ filter-gone (λ other. not (same x other)) (distinct same xs) (is_among same xs k) k gone)
      by false f rest =
          let own : not (same x k) ≡ true = ap not (flips x k ∙ f) in
          ap (λ (l : List K). x ∷ l) (rest ∙ filter-push (λ other. not (same x other)) (distinct same xs) (is_among same xs k) k (λ _. own))

  -- a key among the first so many is among all
  among-take : (n : ℕ) (ks : List K) (k : K) → is_among same (take n ks) k ≡ true → is_among same ks k ≡ true
  among-take zero ks k h = absurd (true≢false (sym h))
  among-take (suc n) [] k h = h
  among-take (suc n) (x ∷ xs) k h = by (same k x) refl (among-take n xs k)
    where
      by : (c : Bool) → same k x ≡ c → (is_among same (take n xs) k ≡ true → is_among same xs k ≡ true) → is_among same (x ∷ xs) k ≡ true
      by true f rest = among-cons same x k xs true f
      by false f rest = among-cons same x k xs false f ∙ rest (sym (among-cons same x k (take n xs) false f) ∙ h)

-- the entries of a map that has no key like this
among-absent : {K V : Type 0} (test : K → Bool) (es : List (K × V)) → lookup test es ≡ None → list_any test (keys_of es) ≡ false
among-absent test [] e = refl
among-absent test (x ∷ xs) e = by (test x.0) refl e (among-absent test xs)
  where
    by : (b : Bool) → test x.0 ≡ b → cond b (Some x.1) (lookup test xs) ≡ None → (lookup test xs ≡ None → list_any test (keys_of xs) ≡ false)
        → (b || list_any test (keys_of xs)) ≡ false
    by true f is rest = none_some x.1 (sym is)
    by false f is rest = rest is

-- and of one that has
among-present : {K V : Type 0} (test : K → Bool) (es : List (K × V)) (v : V) → lookup test es ≡ Some v → list_any test (keys_of es) ≡ true
among-present test [] v e = none_some v e
among-present test (x ∷ xs) v e = by (test x.0) refl e (among-present test xs v)
  where
    by : (b : Bool) → test x.0 ≡ b → cond b (Some x.1) (lookup test xs) ≡ Some v → (lookup test xs ≡ Some v → list_any test (keys_of xs) ≡ true)
        → (b || list_any test (keys_of xs)) ≡ true
    by true f is rest = refl
    by false f is rest = rest is

pub equivalence : {K : Type 0} {same : K → K → Bool} → TellsApart same → IsEquivalence same
equivalence {same = same} laws = record {
  refl = laws.itself;
  symm = flips laws;
  congr = λ x y z e. ap (λ k. same k z) (laws.equal x y e);
}

module _ {K X : Type 0} {same : K → K → Bool} (laws : TellsApart same) (key : X → K) (most : ℕ) where
  -- the keys with one item more
  keys-push : (xs : List X) (x : X) → distinct same (map key (xs ++ x ∷ []))
      ≡ distinct same (map key xs) ++ cond (is_among same (map key xs) (key x)) [] (key x ∷ [])
  keys-push xs x = ap (distinct same) (map_push key xs x) ∙ distinct-push laws (map key xs) (key x)

  -- its key is told already, or there is no room for it, or it is told now
  told-among : (xs : List X) (x : X) → is_among same (told same key most xs) (key x) ≡ true
      → told same key most (xs ++ x ∷ []) ≡ told same key most xs
  told-among xs x h =
      let ds = distinct same (map key xs) in
      let there : is_among same (map key xs) (key x) ≡ true = sym (among-distinct laws (map key xs) (key x)) ∙ among-take laws most ds (key x) h in
      ap (take most) (keys-push xs x ∙ ap (λ (t : Bool). ds ++ cond t [] (key x ∷ [])) there ∙ append-nil ds)

  told-full : (xs : List X) (x : X) → most ≤ length (told same key most xs)
      → told same key most (xs ++ x ∷ []) ≡ told same key most xs
  told-full xs x full =
      let ds = distinct same (map key xs) in
      let long : most ≤ length ds = omega (arith, full, length-take most ds) in
      ap (take most) (keys-push xs x) ∙ take-append-le most ds (cond (is_among same (map key xs) (key x)) [] (key x ∷ [])) long

  all-told : (xs : List X) → length (told same key most xs) < most → told same key most xs ≡ distinct same (map key xs)
  all-told xs room =
      let ds = distinct same (map key xs) in
      take_all most ds (omega (arith, room, length-take most ds))

  -- where all keys are told, one that isn't told isn't there
  absent : (xs : List X) (k : K) → length (told same key most xs) < most → is_among same (told same key most xs) k ≡ false
      → is_among same (map key xs) k ≡ false
  absent xs k room new =
      sym (among-distinct laws (map key xs) k) ∙ (ap (λ (l : List K). is_among same l k) (sym (all-told xs room)) ∙ new)

  told-room : (xs : List X) (x : X) → is_among same (told same key most xs) (key x) ≡ false → length (told same key most xs) < most
      → (told same key most (xs ++ x ∷ []) ≡ told same key most xs ++ key x ∷ [])
      × (told same key most (xs ++ x ∷ []) ≡ distinct same (map key (xs ++ x ∷ [])))
  told-room xs x new room =
      let ds = distinct same (map key xs) in
      let all : told same key most xs ≡ ds = all-told xs room in
      let now : distinct same (map key (xs ++ x ∷ [])) ≡ ds ++ key x ∷ [] =
      keys-push xs x ∙ ap (λ (t : Bool). ds ++ cond t [] (key x ∷ [])) (absent xs (key x) room new) in
      let short : length ds < most = subst (λ (l : List K). length l < most) all room in
      let fits : take most (ds ++ key x ∷ []) ≡ ds ++ key x ∷ [] = take_all most (ds ++ key x ∷ []) (omega (arith, short, length_push ds (key x))) in
      (ap (take most) now ∙ fits ∙ ap (λ (l : List K). l ++ key x ∷ []) (sym all), ap (take most) now ∙ fits ∙ sym now)

  -- the items of a key
  pub items-own : (xs : List X) (x : X) → items_of same key most (xs ++ x ∷ []) (key x) ≡ items_of same key most xs (key x) ++ x ∷ []
  items-own xs x =
      filter-append (λ y. same (key x) (key y)) xs (x ∷ [])
      ∙ ap (λ (t : Bool). items_of same key most xs (key x) ++ cond t (x ∷ []) []) (laws.itself (key x))

  items-other : (xs : List X) (x : X) (q : K) → same q (key x) ≡ false → items_of same key most (xs ++ x ∷ []) q ≡ items_of same key most xs q
  items-other xs x q h =
      filter-append (λ y. same q (key y)) xs (x ∷ [])
      ∙ (ap (λ (t : Bool). items_of same key most xs q ++ cond t (x ∷ []) []) h ∙ append-nil (items_of same key most xs q))

  items-none : (xs : List X) (q : K) → is_among same (map key xs) q ≡ false → items_of same key most xs q ≡ []
  items-none [] q h = refl
  items-none (y ∷ ys) q h =
      let parts = or_parts (same q (key y)) (is_among same (map key ys) q) h in
      ap (λ (t : Bool). cond t (y ∷ items_of same key most ys q) (items_of same key most ys q)) parts.0 ∙ items-none ys q parts.1

  -- where all keys are told, no item is of another
  more-none : (ks : List K) (ys : List X) → ((k : K) → is_among same (map key ys) k ≡ true → is_among same ks k ≡ true)
      → count_by (λ y. not (is_among same ks (key y))) ys ≡ 0
  more-none ks [] h = refl
  more-none ks (y ∷ ys) h =
      let here : is_among same ks (key y) ≡ true = h (key y) (ap (λ (t : Bool). t || is_among same (map key ys) (key y)) (laws.itself (key y))) in
      let rest = more-none ks ys (λ k there. h k (or_right (same k (key y)) (is_among same (map key ys) k) there)) in
      let one : one_of (not (is_among same ks (key y))) ≡ 0 = ap (λ (t : Bool). one_of (not t)) here in
      sum_by-cons (λ x. cond (not (is_among same ks (key x))) 1 0) y ys ∙ omega (arith, one, rest)

  more-all : (xs : List X) → told same key most xs ≡ distinct same (map key xs) → count_more same key most xs ≡ 0
  more-all xs all =
      ap (λ (l : List K). count_by (λ y. not (is_among same l (key y))) xs) all
      ∙ more-none (distinct same (map key xs)) xs (λ k there. among-distinct laws (map key xs) k ∙ there)

  -- one item more, by whether its key is told
  more-push : (xs : List X) (x : X) (b : Bool) → told same key most (xs ++ x ∷ []) ≡ told same key most xs
      → is_among same (told same key most xs) (key x) ≡ b
      → count_more same key most (xs ++ x ∷ []) ≡ count_more same key most xs + cond (not b) 1 0
  more-push xs x b same_told is =
      ap (λ (l : List K). count_by (λ y. not (is_among same l (key y))) (xs ++ x ∷ [])) same_told
      ∙ (sum_by_push (λ y. cond (not (is_among same (told same key most xs) (key y))) 1 0) xs x
      ∙ ap (λ (t : Bool). count_more same key most xs + cond (not t) 1 0) is)

  module _ {V : Type 0} (For : V → List X → Type 0) (es fs : List (K × V)) (more : ℕ) (xs : List X) (x : X)
      (s : HaveItems same key most For es more xs) where
    -- whether the item's key is there
    among-entries : (b : Bool) → list_any (same (key x)) (keys_of es) ≡ b → is_among same (told same key most xs) (key x) ≡ b
    among-entries b is = ap (λ (l : List K). is_among same l (key x)) (sym s.keys_are) ∙ is

    -- the value of a key that isn't the item's
    stays : (q : K) (v : V) → same (key x) q ≡ false → lookup (same q) es ≡ Some v → For v (items_of same key most (xs ++ x ∷ []) q)
    stays q v apart is = subst (For v) (sym (items-other xs x q (flips laws q (key x) ∙ apart))) (s.each q v is)

    -- the values, where the item's key has this one, which stands for its items
    each-updated : (w : V) → ((q : K) → lookup (same q) fs ≡ cond (same (key x) q) (Some w) (lookup (same q) es))
        → For w (items_of same key most (xs ++ x ∷ []) (key x)) → (q : K) (u : V) → lookup (same q) fs ≡ Some u
        → For u (items_of same key most (xs ++ x ∷ []) q)
    each-updated w updated here q u is = by (same (key x) q) refl (sym (updated q) ∙ is)
      where
        by : (b : Bool) → same (key x) q ≡ b → cond b (Some w) (lookup (same q) es) ≡ Some u → For u (items_of same key most (xs ++ x ∷ []) q)
        by true own now =
            subst (λ (k : K). For u (items_of same key most (xs ++ x ∷ []) k)) (laws.equal (key x) q own)
            (subst (λ (t : V). For t (items_of same key most (xs ++ x ∷ []) (key x))) (some_same w u now) here)
        by false apart was = stays q u apart was

    -- the item's key is there, and its value takes the item
    pub stand-found : (v w : V) → lookup (same (key x)) es ≡ Some v
        → ((q : K) → lookup (same q) fs ≡ cond (same (key x) q) (Some w) (lookup (same q) es)) → keys_of fs ≡ keys_of es
        → ((ys : List X) → For v ys → For w (ys ++ x ∷ [])) → HaveItems same key most For fs more (xs ++ x ∷ [])
    stand-found v w at updated keys takes =
        let among = among-entries true (among-present (same (key x)) es v at) in
        let told_now = told-among xs x among in
        record {
          keys_are = keys ∙ s.keys_are ∙ sym told_now;
          each = each-updated w updated (subst (For w) (sym (items-own xs x)) (takes (items_of same key most xs (key x)) (s.each (key x) v at)));
          more_is = s.more_is ∙ sym (more-push xs x true told_now among ∙ plus_zero (count_more same key most xs));
        }
      where
        plus_zero : (n : ℕ) → n + 0 ≡ n
        plus_zero n = omega arith

    -- it isn't there, and there is room
    pub stand-new : (w : V) → lookup (same (key x)) es ≡ None
        → ((q : K) → lookup (same q) fs ≡ cond (same (key x) q) (Some w) (lookup (same q) es)) → keys_of fs ≡ keys_of es ++ key x ∷ []
        → length (keys_of es) < most → For w (x ∷ []) → HaveItems same key most For fs more (xs ++ x ∷ [])
    stand-new w none updated keys room first =
        let new = among-entries false (among-absent (same (key x)) es none) in
        let short : length (told same key most xs) < most = subst (λ (l : List K). length l < most) s.keys_are room in
        let told_now = told-room xs x new short in
        let alone : items_of same key most (xs ++ x ∷ []) (key x) ≡ x ∷ [] =
        items-own xs x ∙ ap (λ (l : List X). l ++ x ∷ []) (items-none xs (key x) (absent xs (key x) short new)) in
        record {
          keys_are = keys ∙ ap (λ (l : List K). l ++ key x ∷ []) s.keys_are ∙ sym told_now.0;
          each = each-updated w updated (subst (For w) (sym alone) first);
          more_is = s.more_is ∙ (more-all xs (all-told xs short) ∙ sym (more-all (xs ++ x ∷ []) told_now.1));
        }

    -- it isn't there, and there is no room
    pub stand-full : lookup (same (key x)) es ≡ None → most ≤ length (keys_of es) → HaveItems same key most For es (more + 1) (xs ++ x ∷ [])
    stand-full none full =
        let told_now = told-full xs x (subst (λ (l : List K). most ≤ length l) s.keys_are full) in
        record {
          keys_are = s.keys_are ∙ sym told_now;
          each = λ q u is. by q u is (same (key x) q) refl;
          more_is = ap (λ (n : ℕ). n + 1) s.more_is ∙ sym (more-push xs x false told_now (among-entries false (among-absent (same (key x)) es none)));
        }
      where
        by : (q : K) (u : V) → lookup (same q) es ≡ Some u → (b : Bool) → same (key x) q ≡ b → For u (items_of same key most (xs ++ x ∷ []) q)
        by q u is true own =
            let own_key : key x ≡ q = laws.equal (key x) q own in
            none_some u (sym none ∙ (ap (λ (k : K). lookup (same k) es) own_key ∙ is))
        by q u is false apart = stays q u apart is
