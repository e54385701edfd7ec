-- Arrivals by place, after one was put in, replaced or taken out.
use Rattle.std.proofs.Common.{◌≡◌, ◌≢◌, ℕ, zero, suc, ◌+◌, ◌*◌, ◌<◌, ◌≤◌, ◌/◌, ◌%◌, ◌^◌, ◌==◌, Bool, true, false, if◌then◌else◌, count_ones, length}
use Rattle.std.proofs.Common.{insert, take, slice_get, slice_set, List, [], ◌∷◌, ◌++◌, Option, Some, None, Result, Ok, Err, OnErr, OnOk, refl, sym, ap, ap₂, subst, ◌∙◌, arith, inl, inr}
use Rattle.std.specs.Int.{bit_at}
use Rattle.std.proofs.Math.Nat.{mod-eq_of_lt, zero-mod}
use Rattle.std.proofs.lemmas.Bool.{cases_eq, cases_lt}
use Rattle.std.proofs.lemmas.Bool.Decides.{nat_tests}
use Rattle.std.proofs.lemmas.List.{get_or-take, length-set, length-take}
use Rattle.std.proofs.lemmas.List.Edits.{get_or-insert_above, get_or-insert_at, get_or-insert_below, insert_end, length-insert}
use Rattle.std.proofs.lemmas.Nat.{mod-pow-add, mod_below, ones_cat, ones_le_self, pow_pos, shr_split, zero_from_ones}
use Rattle.std.proofs.lemmas.Nat.Bits.{bit_at-lt, bit_at_above}
use Rattle.std.proofs.lemmas.Option.{get_or_from_slice_get, slice_get-get_or, slice_get_within}
use Rattle.path_skew.specs.declared.arrival.Arrival.{Arrival}
use Rattle.path_skew.specs.declared.arrivals.Slots.{Slots}
use Rattle.path_skew.specs.Items.{Leaves, items_in, ones_below, places_in}
use Rattle.path_skew.proofs.Elements.{slice_get-set_other, slice_get-set_same}

-- the arrival at a place, by the bits of the places and the arrivals
abbrev pub at_place : (places : ℕ) → List Arrival → (place : ℕ) → Option Arrival
at_place places xs place = if bit_at places place == 1 then slice_get xs (ones_below places place) else None

-- what holds where a call succeeded holds in other words
on_ok-more : {T E : Type 0} (r : Result T E) (P Q : Type 0) → (P → Q) → OnOk r P → OnOk r Q
on_ok-more (Ok x) P Q more p = more p
on_ok-more (Err e) P Q more p = tt

-- a bit has as many ones as its value
ones_of_bit : (b : ℕ) → b < 2 → count_ones b ≡ b
ones_of_bit b within = elim (cases_eq (count_ones b) 0) as (λ _. count_ones b ≡ b) [
  | inl none ↦ none ∙ sym (zero_from_ones b none)
  | inr some ↦ omega (arith, within, some, ones_le_self b)
]

-- below the first place there is none
ones_below-zero : (bits : ℕ) → ones_below bits 0 ≡ 0
ones_below-zero bits =
    let none : bits % 2 ^ 0 ≡ 0 = omega (arith, mod_below bits (2 ^ 0) (pow_pos 0)) in
    omega (arith, ap count_ones none, ones_le_self 0)

-- one place more
ones_below-suc : (bits n : ℕ) → ones_below bits (suc n) ≡ ones_below bits n + bit_at bits n
ones_below-suc bits n =
    let sum : suc n ≡ 1 + n = omega arith in
    ap (λ k. count_ones (bits % 2 ^ k)) sum ∙ ap count_ones (mod-pow-add bits 1 n)
    ∙ ones_cat n (bit_at bits n) (bits % 2 ^ n) (mod_below bits (2 ^ n) (pow_pos n))
    ∙ ap (λ k. k + ones_below bits n) (ones_of_bit (bit_at bits n) (bit_at-lt bits n)) ∙ omega arith

-- more places have no fewer
ones_below-le : (bits m n : ℕ) → m ≤ n → ones_below bits m ≤ ones_below bits n
ones_below-le bits m zero le = let same : m ≡ 0 = omega (arith, le) in subst (λ k. ones_below bits k ≤ ones_below bits 0) (sym same) (omega arith)
ones_below-le bits m (suc n) le = elim (cases_eq m (suc n)) as (λ _. ones_below bits m ≤ ones_below bits (suc n)) [
  | inl same ↦ subst (λ k. ones_below bits k ≤ ones_below bits (suc n)) (sym same) (omega arith)
  | inr differs ↦ omega (arith, ones_below-le bits m n (omega (arith, le, differs)), ones_below-suc bits n)
]

-- below a place that is set there is one fewer than from it on
ones_below-lt : (bits m n : ℕ) → bit_at bits m ≡ 1 → m < n → ones_below bits m < ones_below bits n
ones_below-lt bits m n one lt = omega (arith, ones_below-suc bits m, one, ones_below-le bits (suc m) n (omega (arith, lt)))

-- what is kept of a number has its bit set, and stands behind those below
shown : (bits : ℕ) (xs : List Arrival) (n : ℕ) (y : Arrival) → at_place bits xs n ≡ Some y → (bit_at bits n ≡ 1) × (slice_get xs (ones_below bits n) ≡ Some y)
shown bits xs n y is = elim (cases_eq (bit_at bits n) 1) as (λ _. (bit_at bits n ≡ 1) × (slice_get xs (ones_below bits n) ≡ Some y)) [
  | inl one ↦
      let set : (bit_at bits n == 1) ≡ true = grind (arith, nat_tests, one) in
      (one, sym (ap (λ b. if b then slice_get xs (ones_below bits n) else None) set) ∙ is)
  | inr none ↦
      let unset : (bit_at bits n == 1) ≡ false = grind (arith, nat_tests, none) in
      let bad : None ≡ Some y = sym (ap (λ b. if b then slice_get xs (ones_below bits n) else None) unset) ∙ is in
      absurd cc
]

-- one bit more is set
module _ (less more place : ℕ) (unset : bit_at less place ≡ 0) (set : bit_at more place ≡ 1) (others : (i : ℕ) → i ≢ place → bit_at more i ≡ bit_at less i) where
  ones-same : (n : ℕ) → n ≤ place → ones_below more n ≡ ones_below less n
  ones-same zero le = ones_below-zero more ∙ sym (ones_below-zero less)
  ones-same (suc n) le = ones_below-suc more n ∙ ap₂ (λ a b. a + b) (ones-same n (omega (arith, le))) (others n (λ same. omega (arith, le, same)))
      ∙ sym (ones_below-suc less n)

  ones-more : (n : ℕ) → place < n → ones_below more n ≡ ones_below less n + 1
  ones-more zero lt = absurd (omega (arith, lt))
  ones-more (suc n) lt = elim (cases_eq n place) as (λ _. ones_below more (suc n) ≡ ones_below less (suc n) + 1) [
    | inl same ↦
        let bit_more : bit_at more n ≡ 1 = ap (bit_at more) same ∙ set in
        let bit_less : bit_at less n ≡ 0 = ap (bit_at less) same ∙ unset in
        omega (arith, ones_below-suc more n, ones_below-suc less n, ones-same n (omega (arith, same)), bit_more, bit_less)
    | inr differs ↦
        omega (arith, ones_below-suc more n, ones_below-suc less n, ones-more n (omega (arith, lt, differs)), others n differs)
  ]

  -- an arrival was put in
  put-here : (xs : List Arrival) (x : Arrival) → ones_below less place ≤ length xs → at_place more (insert xs (ones_below less place) x) place ≡ Some x
  put-here xs x within =
      let one : (bit_at more place == 1) ≡ true = grind (arith, nat_tests, set) in
      let at = ones_below less place in
      let inside : at < length (insert xs at x) = omega (arith, within, length-insert xs at x within) in
      ap (λ b. if b then slice_get (insert xs at x) (ones_below more place) else None) one
      ∙ ap (slice_get (insert xs at x)) (ones-same place (omega arith)) ∙ slice_get-get_or (insert xs at x) at x inside
      ∙ ap Some (get_or-insert_at xs at x x within)

  put-other : (xs : List Arrival) (x y : Arrival) (n : ℕ) → ones_below less place ≤ length xs → n ≢ place → at_place less xs n ≡ Some y
      → at_place more (insert xs (ones_below less place) x) n ≡ Some y
  put-other xs x y n within differs is =
      let at = ones_below less place in
      let bit = shown less xs n y is in
      let one : (bit_at more n == 1) ≡ true = grind (arith, nat_tests, others n differs, bit.0) in
      let inside = slice_get_within xs (ones_below less n) y bit.1 in
      let read = get_or_from_slice_get xs (ones_below less n) y y bit.1 in
      let longer = length-insert xs at x within in
      ap (λ b. if b then slice_get (insert xs at x) (ones_below more n) else None) one
      ∙ (elim (cases_lt n place) as (λ _. slice_get (insert xs at x) (ones_below more n) ≡ Some y) [
        | inl before ↦
            let less_than = ones_below-lt less n place bit.0 before in
            ap (slice_get (insert xs at x)) (ones-same n (omega (arith, before)))
            ∙ slice_get-get_or (insert xs at x) (ones_below less n) y (omega (arith, inside, longer))
            ∙ ap Some (get_or-insert_below xs at x y (ones_below less n) less_than within ∙ read)
        | inr behind ↦
            let behind_it : place < n = omega (arith, behind, differs) in
            let at_least = ones_below-le less place n behind in
            ap (slice_get (insert xs at x)) (ones-more n behind_it)
            ∙ slice_get-get_or (insert xs at x) (ones_below less n + 1) y (omega (arith, inside, longer))
            ∙ ap Some (get_or-insert_above xs at x y (ones_below less n) at_least within ∙ read)
      ])

  -- an arrival is put in
  put-length : (xs : List Arrival) (x : Arrival) (n : ℕ) → place < n → length xs ≡ ones_below less n
      → length (insert xs (ones_below less place) x) ≡ ones_below more n
  put-length xs x n lt counted =
      omega (
        arith,
        counted,
        length-insert xs (ones_below less place) x (omega (arith, counted, ones_below-le less place n (omega (arith, lt)))),
        ones-more n lt,
      )

  -- or the last is taken out
  taken-length : (xs : List Arrival) (n : ℕ) → place < n → length xs ≡ ones_below more n → ones_below more place + 1 ≡ length xs
      → length (take (ones_below more place) xs) ≡ ones_below less n
  taken-length xs n lt counted last = omega (arith, counted, last, length-take (ones_below more place) xs, ones-more n lt)

  taken-other : (xs : List Arrival) (y : Arrival) (i : ℕ) → ones_below more place + 1 ≡ length xs → i ≢ place → at_place more xs i ≡ Some y
      → at_place less (take (ones_below more place) xs) i ≡ Some y
  taken-other xs y i last differs is =
      let at = ones_below more place in
      let bit = shown more xs i y is in
      let inside = slice_get_within xs (ones_below more i) y bit.1 in
      let one : (bit_at less i == 1) ≡ true =
      let same : bit_at less i ≡ 1 = sym (others i differs) ∙ bit.0 in grind (arith, nat_tests, same) in
      ap (λ b. if b then slice_get (take at xs) (ones_below less i) else None) one
      ∙ (elim (cases_lt i place) as (λ _. slice_get (take at xs) (ones_below less i) ≡ Some y) [
        | inl before ↦
            let less_than = ones_below-lt more i place bit.0 before in
            ap (slice_get (take at xs)) (sym (ones-same i (omega (arith, before))))
            ∙ slice_get-get_or (take at xs) (ones_below more i) y (omega (arith, less_than, last, length-take at xs))
            ∙ ap Some (get_or-take at xs (ones_below more i) y less_than ∙ get_or_from_slice_get xs (ones_below more i) y y bit.1)
        | inr behind ↦ absurd (omega (arith, inside, last, ones_below-lt more place i set (omega (arith, behind, differs))))
      ])

-- two places have two arrivals
two-apart : (places i j : ℕ) → bit_at places i ≡ 1 → bit_at places j ≡ 1 → i ≢ j → ones_below places i ≢ ones_below places j
two-apart places i j one other differs same = elim (cases_lt i j) as (λ _. ⊥) [
  | inl before ↦ omega (arith, same, ones_below-lt places i j one before)
  | inr behind ↦ omega (arith, same, ones_below-lt places j i other (omega (arith, behind, differs)))
]

-- the bits of no place have no ones
ones_below-none : (n : ℕ) → ones_below 0 n ≡ 0
ones_below-none n =
    let none : 0 % 2 ^ n ≡ 0 = zero-mod (2 ^ n) in
    omega (arith, ap count_ones none, ones_le_self 0)

-- the arrivals of some slots, where these are the bits of their places, and where the arrival of a place belongs
module _ (old : Slots) (places place index : ℕ) (has : Bool) (within : place < 32) (counted : length (items_in old) ≡ ones_below (places_in old) 32)
    (are : places ≡ places_in old) (tested : has ≡ (bit_at places place == 1)) (is : index ≡ ones_below places place) where
  at : index ≡ ones_below (places_in old) place
  at = is ∙ ap (λ b. ones_below b place) are

  pub index-within : index ≤ length (items_in old)
  index-within = omega (arith, counted, at, ones_below-le (places_in old) place 32 (omega (arith, within)))

  -- where it stands there
  module _ (passed : has ≡ true) where
    set : bit_at (places_in old) place ≡ 1
    set =
        let one : bit_at places place ≡ 1 = grind (arith, nat_tests, sym tested ∙ passed) in
        ap (λ b. bit_at b place) (sym are) ∙ one

    pub index-inside : index < length (items_in old)
    index-inside = omega (arith, counted, at, ones_below-lt (places_in old) place 32 set within)

    -- it was replaced
    pub replace-counted : (new : Slots) (x : Arrival) → items_in new ≡ slice_set (items_in old) index x → places_in new ≡ places_in old
        → length (items_in new) ≡ ones_below (places_in new) 32
    replace-counted new x items same =
        ap length items ∙ length-set (items_in old) index x ∙ counted ∙ ap (λ b. ones_below b 32) (sym same)

    pub replace-here : (new : Slots) (x : Arrival) → items_in new ≡ slice_set (items_in old) index x → places_in new ≡ places_in old
        → at_place (places_in new) (items_in new) place ≡ Some x
    replace-here new x items same =
        let one : (bit_at (places_in old) place == 1) ≡ true = grind (arith, nat_tests, set) in
        ap (λ b. at_place b (items_in new) place) same ∙ ap (λ xs. at_place (places_in old) xs place) items
        ∙ ap (λ b. if b then slice_get (slice_set (items_in old) index x) (ones_below (places_in old) place) else None) one
        ∙ ap (slice_get (slice_set (items_in old) index x)) (sym at) ∙ slice_get-set_same (items_in old) index x index-inside

    pub replace-others : (new : Slots) (x : Arrival) → items_in new ≡ slice_set (items_in old) index x → places_in new ≡ places_in old → (i : ℕ) (y : Arrival)
        → i ≢ place → at_place (places_in old) (items_in old) i ≡ Some y → at_place (places_in new) (items_in new) i ≡ Some y
    replace-others new x items same i y differs was =
        let bit = shown (places_in old) (items_in old) i y was in
        let one : (bit_at (places_in old) i == 1) ≡ true = grind (arith, nat_tests, bit.0) in
        ap (λ b. at_place b (items_in new) i) same ∙ ap (λ xs. at_place (places_in old) xs i) items
        ∙ ap (λ b. if b then slice_get (slice_set (items_in old) index x) (ones_below (places_in old) i) else None) one
        ∙ slice_get-set_other (items_in old) index (ones_below (places_in old) i) x
        (λ equal. two-apart (places_in old) i place bit.0 set differs (equal ∙ at)) ∙ bit.1

    -- it was taken out
    module _ (new : Slots) (rest : ℕ) (unset : bit_at rest place ≡ 0) (others : (i : ℕ) → i ≢ place → bit_at rest i ≡ bit_at places i) where
      turned : (i : ℕ) → i ≢ place → bit_at (places_in old) i ≡ bit_at rest i
      turned i differs = ap (λ b. bit_at b i) (sym are) ∙ sym (others i differs)

      pub take-counted : Leaves old new index rest → length (items_in new) ≡ ones_below (places_in new) 32
      take-counted (inl same) = ap length same.0 ∙ counted ∙ ap (λ b. ones_below b 32) (sym same.1)
      take-counted (inr (inl gone)) = ap length gone.1 ∙ sym (ap (λ b. ones_below b 32) gone.2 ∙ ones_below-none 32)
      take-counted (inr (inr last)) = ap length last.1 ∙ ap (λ k. length (take k (items_in old))) at
          ∙ taken-length rest (places_in old) place unset set turned (items_in old) 32 within counted (omega (arith, at, last.0))
          ∙ ap (λ b. ones_below b 32) (sym last.2)

      pub take-others : Leaves old new index rest → (i : ℕ) (y : Arrival) → i ≢ place → at_place (places_in old) (items_in old) i ≡ Some y
          → at_place (places_in new) (items_in new) i ≡ Some y
      take-others (inl same) i y differs was =
          ap (λ b. at_place b (items_in new) i) same.1 ∙ ap (λ xs. at_place (places_in old) xs i) same.0 ∙ was
      take-others (inr (inl gone)) i y differs was =
          let bit = shown (places_in old) (items_in old) i y was in
          let here = slice_get_within (items_in old) (ones_below (places_in old) i) y bit.1 in
          let there = ones_below-lt (places_in old) place 32 set within in
          let apart = two-apart (places_in old) i place bit.0 set differs in
          absurd (omega (arith, here, there, apart, gone.0, counted))
      take-others (inr (inr last)) i y differs was =
          ap (λ b. at_place b (items_in new) i) last.2 ∙ ap (λ xs. at_place rest xs i) (last.1 ∙ ap (λ k. take k (items_in old)) at)
          ∙ taken-other rest (places_in old) place unset set turned (items_in old) y i (omega (arith, at, last.0)) differs was

  -- where none stands there, and one is put in
  module _ (failed : has ≡ false) (new : Slots) (after : ℕ) (x : Arrival) (set_after : bit_at after place ≡ 1)
      (others : (i : ℕ) → i ≢ place → bit_at after i ≡ bit_at places i) where
    unset_before : bit_at (places_in old) place ≡ 0
    unset_before =
        let differs : bit_at places place ≢ 1 = grind (arith, nat_tests, sym tested ∙ failed) in
        ap (λ b. bit_at b place) (sym are) ∙ omega (arith, bit_at-lt places place, differs)

    others_before : (i : ℕ) → i ≢ place → bit_at after i ≡ bit_at (places_in old) i
    others_before i differs = others i differs ∙ ap (λ b. bit_at b i) are

    stands : items_in new ≡ insert (items_in old) index x → items_in new ≡ insert (items_in old) (ones_below (places_in old) place) x
    stands items = items ∙ ap (λ k. insert (items_in old) k x) at

    pub insert-counted : {T E : Type 0} (r : Result T E) → OnOk r (items_in new ≡ insert (items_in old) index x) → OnOk r (places_in new ≡ after)
        → OnErr r (items_in new ≡ items_in old) → OnErr r (places_in new ≡ places_in old) → length (items_in new) ≡ ones_below (places_in new) 32
    insert-counted (Ok done) items now same_items same_places = ap length (stands items)
        ∙ put-length (places_in old) after place unset_before set_after others_before (items_in old) x 32 within counted ∙ ap (λ b. ones_below b 32) (sym now)
    insert-counted (Err full) items now same_items same_places = ap length same_items ∙ counted ∙ ap (λ b. ones_below b 32) (sym same_places)

    pub insert-here : items_in new ≡ insert (items_in old) index x → places_in new ≡ after → at_place (places_in new) (items_in new) place ≡ Some x
    insert-here items now = ap (λ b. at_place b (items_in new) place) now ∙ ap (λ xs. at_place after xs place) (stands items)
        ∙ put-here (places_in old) after place unset_before set_after others_before (items_in old) x (omega (arith, at, index-within))

    pub insert-others : items_in new ≡ insert (items_in old) index x → places_in new ≡ after → (i : ℕ) (y : Arrival) → i ≢ place
        → at_place (places_in old) (items_in old) i ≡ Some y → at_place (places_in new) (items_in new) i ≡ Some y
    insert-others items now i y differs was = ap (λ b. at_place b (items_in new) i) now ∙ ap (λ xs. at_place after xs i) (stands items)
        ∙ put-other (places_in old) after place unset_before set_after others_before (items_in old) x y i (omega (arith, at, index-within)) differs was

-- where no place stands at this one or behind it, all arrivals stand before it
module _ (old : Slots) (places place : ℕ) (within : place < 32) (counted : length (items_in old) ≡ ones_below (places_in old) 32)
    (are : places ≡ places_in old) (fits : places < 2 ^ 32) (none : places / 2 ^ place ≡ 0) where
  none-above : places < 2 ^ place
  none-above =
      let split : 0 * 2 ^ place + places % 2 ^ place ≡ places = ap (λ q. q * 2 ^ place + places % 2 ^ place) (sym none) ∙ shr_split places place in
      omega (arith, split, mod_below places (2 ^ place) (pow_pos place))

  all-below : length (items_in old) ≡ ones_below places place
  all-below = counted ∙ ap (λ b. ones_below b 32) (sym are) ∙ ap count_ones (mod-eq_of_lt fits ∙ sym (mod-eq_of_lt none-above))

  not_set : false ≡ (bit_at places place == 1)
  not_set =
      let unset : bit_at places place ≡ 0 = bit_at_above places place place none-above (omega arith) in
      grind (arith, nat_tests, unset)

  module _ (new : Slots) (after : ℕ) (x : Arrival) (set_after : bit_at after place ≡ 1) (others : (i : ℕ) → i ≢ place → bit_at after i ≡ bit_at places i) where
    at_end : items_in new ≡ items_in old ++ x ∷ [] → items_in new ≡ insert (items_in old) (length (items_in old)) x
    at_end items = items ∙ sym (insert_end (items_in old) x)

    pub push-counted : {T E : Type 0} (r : Result T E) → OnOk r (items_in new ≡ items_in old ++ x ∷ []) → OnOk r (places_in new ≡ after)
        → OnErr r (items_in new ≡ items_in old) → OnErr r (places_in new ≡ places_in old) → length (items_in new) ≡ ones_below (places_in new) 32
    push-counted r items now same_items same_places = insert-counted old places place (length (items_in old)) false within counted are not_set all-below refl new
        after x set_after others r (on_ok-more r _ _ at_end items) now same_items same_places

    pub push-here : items_in new ≡ items_in old ++ x ∷ [] → places_in new ≡ after → at_place (places_in new) (items_in new) place ≡ Some x
    push-here items now = insert-here old places place (length (items_in old)) false within counted are not_set all-below refl new after x set_after others
        (at_end items) now

    pub push-others : items_in new ≡ items_in old ++ x ∷ [] → places_in new ≡ after → (i : ℕ) (y : Arrival) → i ≢ place
        → at_place (places_in old) (items_in old) i ≡ Some y → at_place (places_in new) (items_in new) i ≡ Some y
    push-others items now = insert-others old places place (length (items_in old)) false within counted are not_set all-below refl new after x set_after others
        (at_end items) now
