-- What is kept of two flows after one page was written to, and after steps that follow each other.
use Rattle.std.proofs.Common.{◌≡◌, ◌≢◌, ℕ, ◌+◌, ◌*◌, ◌/◌, ◌%◌, ◌==◌, true, false, not, cond, if◌then◌else◌, nat_eq, [], ◌∷◌, ◌++◌, length, slice_get, slice_set}
use Rattle.std.proofs.Common.{get_or, ◌<◌, Option, Some, None, Result, Ok, Err, IfOk, refl, sym, ap, subst, ◌∙◌, arith, inl, inr}
use Rattle.std.specs.List.{position_or_len}
use Rattle.std.proofs.lemmas.Bool.{cases_Bool, cases_eq}
use Rattle.std.proofs.lemmas.Bool.Decides.{nat_tests}
use Rattle.std.proofs.lemmas.List.Folds.{position_or_len_push}
use Rattle.std.proofs.lemmas.List.{length_push}
use Rattle.std.proofs.lemmas.List.Sums.{passes_at_first, position_or_len_is, prefix_len-le-length}
use Rattle.std.proofs.lemmas.Nat.{div-add-mod'}
use Rattle.std.proofs.lemmas.Option.{get_or_from_slice_get, slice_get-get_or, slice_get_past, slice_get_within}
use Rattle.path_skew.specs.declared.arrival.Arrival.{Arrival}
use Rattle.path_skew.specs.declared.pages.Found.{Found}
use Rattle.path_skew.specs.declared.pages.Found.TheVariants.{Again, Opens}
use Rattle.path_skew.specs.declared.pages.Page.{Page}
use Rattle.path_skew.specs.declared.pages.Pages.{Pages}
use Rattle.path_skew.specs.declared.pages.Side.{Side}
use Rattle.path_skew.specs.declared.pages.Side.TheVariants.{First, Second}
use Rattle.path_skew.specs.Kept.{HasPage, opposite, page_at, page_of, page_view, view}
use Rattle.path_skew.specs.Listed.{pages_of}
use Rattle.path_skew.specs.Search.{IsFound}
use Rattle.path_skew.specs.View.{IsOpened, IsSame, Meets, View, Waits}
use Rattle.path_skew.proofs.Elements.{slice_get-append, slice_get-set_other, slice_get-set_same, slice_get_push}
use Rattle.path_skew.proofs.Searches.{pages-distinct}

-- steps that follow each other
waits-same : (v w : View) (n : ℕ) → IsSame v w → Waits v n → Waits w n
waits-same v w n s waits = s.own n ∙ waits ∙ ap not (sym (s.other n))

pub same-more : (u v w : View) → IsSame u v → IsSame v w → IsSame u w
same-more u v w s t = record {
  own = λ n. t.own n ∙ s.own n;
  other = λ n. t.other n ∙ s.other n;
  kept = λ n x waits is. t.kept n x (waits-same u v n s waits) (s.kept n x waits is);
}

same-opened : (u v w : View) (number : ℕ) (arrival : Arrival) (found : Option Arrival) → IsSame u v → IsOpened v w number arrival found
    → IsOpened u w number arrival found
same-opened u v w number arrival found s o =
    let absent : u.own number ≡ false = sym (s.own number) ∙ o.absent in
    record {
      absent = absent;
      own = λ n. o.own n ∙ ap (λ b. if n == number then true else b) (s.own n);
      other = λ n. o.other n ∙ s.other n;
      kept = λ n x differs waits is. o.kept n x differs (waits-same u v n s waits) (s.kept n x waits is);
      alone = λ lone. o.alone (s.other number ∙ lone);
      both = λ had x is. o.both (s.other number ∙ had) x (s.kept number x (absent ∙ ap not (sym had)) is);
    }

pub same-meets : (u v w : View) (number : ℕ) (arrival : Arrival) (r : Found) → IsSame u v → Meets v w number arrival r → Meets u w number arrival r
same-meets u v w number arrival Again s m = (sym (s.own number) ∙ m.0, same-more u v w s m.1)
same-meets u v w number arrival (Opens found) s m = same-opened u v w number arrival found s m

opened-same : (u v w : View) (number : ℕ) (arrival : Arrival) (found : Option Arrival) → IsOpened u v number arrival found → IsSame v w
    → IsOpened u w number arrival found
opened-same u v w number arrival found o s = record {
  absent = o.absent;
  own = λ n. s.own n ∙ o.own n;
  other = λ n. s.other n ∙ o.other n;
  kept = λ n x differs waits is. s.kept n x (waits-opened u v n number arrival found o differs waits) (o.kept n x differs waits is);
  alone = λ lone. (
    (o.alone lone).0,
    s.kept number arrival (own_now ∙ ap not (sym (o.other number ∙ lone))) (o.alone lone).1,
  );
  both = o.both;
}
  where
    own_now : v.own number ≡ true
    own_now =
        let one : (number == number) ≡ true = grind (arith, nat_tests) in
        o.own number ∙ ap (λ b. if b then true else u.own number) one

    waits-opened : (u v : View) (n number : ℕ) (arrival : Arrival) (found : Option Arrival) → IsOpened u v number arrival found → n ≢ number → Waits u n
        → Waits v n
    waits-opened u v n number arrival found o differs waits =
        let none : (n == number) ≡ false = grind (arith, nat_tests, differs) in
        o.own n ∙ ap (λ b. if b then true else u.own n) none ∙ waits ∙ ap not (sym (o.other n))

pub meets-same : (u v w : View) (number : ℕ) (arrival : Arrival) (r : Found) → Meets u v number arrival r → IsSame v w → Meets u w number arrival r
meets-same u v w number arrival Again m s = (m.0, same-more u v w m.1 s)
meets-same u v w number arrival (Opens found) m s = opened-same u v w number arrival found m s

-- a number by its page and its place there
same_number : (n number : ℕ) → n / 32 ≡ number / 32 → n % 32 ≡ number % 32 → n ≡ number
same_number n number page place = sym (div-add-mod' n 32) ∙ ap (λ q. q * 32 + n % 32) page ∙ ap (λ r. number / 32 * 32 + r) place ∙ div-add-mod' number 32

same_test : (n number : ℕ) → n / 32 ≡ number / 32 → (n % 32 == number % 32) ≡ (n == number)
same_test n number page = elim (cases_eq (n % 32) (number % 32)) as (λ _. (n % 32 == number % 32) ≡ (n == number)) [
  | inl same ↦
      let e : n ≡ number = same_number n number page same in
      grind (arith, nat_tests)
  | inr differs ↦
      let e : n ≢ number = λ same. differs (ap (λ k. k % 32) same) in
      grind (arith, nat_tests)
]

-- one page was written to
module _ (m n : Pages) (page : ℕ) (here new : Option Page) (was : page_at m page ≡ here)
    (is : (q : ℕ) → page_at n q ≡ cond (nat_eq page q) new (page_at m q)) where
  -- what holds of that page, and of a page that stays, holds of the page of each number
  by_page : (P : Option Page → Option Page → ℕ → Type 0) (number : ℕ) → (number / 32 ≡ page → P here new (number % 32))
      → (number / 32 ≢ page → (p : Option Page) → P p p (number % 32)) → P (page_of m number) (page_of n number) (number % 32)
  by_page P number there others = elim (cases_eq (number / 32) page) as (λ _. P (page_of m number) (page_of n number) (number % 32)) [
    | inl same ↦
        let one : nat_eq page (number / 32) ≡ true = grind (arith, nat_tests) in
        let old : page_of m number ≡ here = ap (page_at m) same ∙ was in
        let now : page_of n number ≡ new = is (number / 32) ∙ ap (λ b. cond b new (page_of m number)) one in
        subst (λ p. P p (page_of n number) (number % 32)) (sym old) (subst (λ p. P here p (number % 32)) (sym now) (there same))
    | inr differs ↦
        let none : nat_eq page (number / 32) ≡ false = grind (arith, nat_tests) in
        let now : page_of n number ≡ page_of m number = is (number / 32) ∙ ap (λ b. cond b new (page_of m number)) none in
        subst (λ p. P (page_of m number) p (number % 32)) (sym now) (others differs (page_of m number))
  ]

  same-pages : (side : Side) → IsSame (page_view side here) (page_view side new) → IsSame (view side m) (view side n)
  same-pages side s = record {
    own = λ k. by_page (λ p q i. (page_view side q).own i ≡ (page_view side p).own i) k (λ _. s.own (k % 32)) (λ _ p. refl);
    other = λ k. by_page (λ p q i. (page_view side q).other i ≡ (page_view side p).other i) k (λ _. s.other (k % 32)) (λ _ p. refl);
    kept = λ k. by_page (λ p q i. (x : Arrival) → Waits (page_view side p) i → (page_view side p).kept i ≡ Some x → (page_view side q).kept i ≡ Some x) k
        (λ _. s.kept (k % 32)) (λ _ p x waits e. e);
  }

  opened-pages : (side : Side) (number : ℕ) (arrival : Arrival) (found : Option Arrival) → number / 32 ≡ page
      → IsOpened (page_view side here) (page_view side new) (number % 32) arrival found
      → IsOpened (view side m) (view side n) number arrival found
  opened-pages side number arrival found there o = record {
    absent = by_page (λ p q i. (page_view side p).own i ≡ false) number (λ _. o.absent) (λ differs p. absurd (differs there));
    own = λ k. by_page (λ p q i. (page_view side q).own i ≡ (if k == number then true else (page_view side p).own i)) k
        (λ in_page. o.own (k % 32) ∙ ap (λ b. if b then true else (page_view side here).own (k % 32)) (same_test k number (in_page ∙ sym there)))
        (λ differs p. ap (λ b. if b then true else (page_view side p).own (k % 32)) (sym (other_number k differs)));
    other = λ k. by_page (λ p q i. (page_view side q).other i ≡ (page_view side p).other i) k (λ _. o.other (k % 32)) (λ _ p. refl);
    kept = λ k x. by_page (λ p q i. k ≢ number → Waits (page_view side p) i → (page_view side p).kept i ≡ Some x → (page_view side q).kept i ≡ Some x) k
        (λ in_page differs. o.kept (k % 32) x (λ same. differs (same_number k number (in_page ∙ sym there) same))) (λ _ p differs waits e. e);
    alone = by_page (λ p q i. (page_view side p).other i ≡ false → (found ≡ None) × ((page_view side q).kept i ≡ Some arrival)) number (λ _. o.alone)
        (λ differs p. absurd (differs there));
    both = by_page (λ p q i. (page_view side p).other i ≡ true → (x : Arrival) → (page_view side p).kept i ≡ Some x → found ≡ Some x) number (λ _. o.both)
        (λ differs p. absurd (differs there));
  }
    where
      other_number : (k : ℕ) → k / 32 ≢ page → (k == number) ≡ false
      other_number k differs =
          let e : k ≢ number = λ same. differs (ap (λ i. i / 32) same ∙ there) in
          grind (arith, nat_tests)

  meets-pages : (side : Side) (number : ℕ) (arrival : Arrival) (r : Found) → number / 32 ≡ page
      → Meets (page_view side here) (page_view side new) (number % 32) arrival r → Meets (view side m) (view side n) number arrival r
  meets-pages side number arrival Again there met = (
    by_page (λ p q i. (page_view side p).own i ≡ true) number (λ _. met.0) (λ differs p. absurd (differs there)),
    same-pages side met.1,
  )
  meets-pages side number arrival (Opens found) there met = opened-pages side number arrival found there met

-- a page stands where it is looked for
module _ (m : Pages) (found : ∥ IsFound m.directory.entries.items ∥₁) where
  place-of : (place page : ℕ) → HasPage m page place → position_or_len (nat_eq page) (pages_of m.directory) ≡ place
  place-of place page here =
      let within = slice_get_within (pages_of m.directory) place page here in
      position_or_len_is (nat_eq page) (pages_of m.directory) place page (omega (arith, within))
      (λ k before. elim (cases_Bool (nat_eq page (get_or (pages_of m.directory) k page))) as
      (λ _. nat_eq page (get_or (pages_of m.directory) k page) ≡ false) [
        | inl same ↦
            let twice : get_or (pages_of m.directory) k page ≡ page = grind (arith, nat_tests, same) in
            let there : slice_get (pages_of m.directory) k ≡ Some page =
            slice_get-get_or (pages_of m.directory) k page (omega (arith, before, within)) ∙ ap Some twice
            in
            absurd (omega (arith, before, pages-distinct m.directory.entries.items k place page found there here))
        | inr differs ↦ differs
      ]) (λ _.
      let read : get_or (pages_of m.directory) place page ≡ page = get_or_from_slice_get (pages_of m.directory) place page page here in
      grind (arith, nat_tests, read))

-- a page was written to
module _ (m n : Pages) (place page : ℕ) (here new : Page) (found : ∥ IsFound m.directory.entries.items ∥₁) (stands : HasPage m page place)
    (at : slice_get m.pages.items place ≡ Some here) (listed : pages_of n.directory ≡ pages_of m.directory)
    (is : n.pages.items ≡ slice_set m.pages.items place new) where
  was-written : page_at m page ≡ Some here
  was-written = ap (slice_get m.pages.items) (place-of m found place page stands) ∙ at

  is-written : (q : ℕ) → page_at n q ≡ cond (nat_eq page q) (Some new) (page_at m q)
  is-written q =
      let looked : page_at n q ≡ slice_get (slice_set m.pages.items place new) (position_or_len (nat_eq q) (pages_of m.directory)) =
      ap (λ ps. slice_get n.pages.items (position_or_len (nat_eq q) ps)) listed
      ∙ ap (λ xs. slice_get xs (position_or_len (nat_eq q) (pages_of m.directory))) is
      in
      elim (cases_eq q page) as (λ _. page_at n q ≡ cond (nat_eq page q) (Some new) (page_at m q)) [
        | inl same ↦
            let one : nat_eq page q ≡ true = grind (arith, nat_tests, same) in
            let there : position_or_len (nat_eq q) (pages_of m.directory) ≡ place = ap (λ k. position_or_len (nat_eq k) (pages_of m.directory)) same
            ∙ place-of m found place page stands in
            looked ∙ ap (slice_get (slice_set m.pages.items place new)) there
            ∙ slice_get-set_same m.pages.items place new (slice_get_within m.pages.items place here at)
            ∙ sym (ap (λ b. cond b (Some new) (page_at m q)) one)
        | inr differs ↦
            let none : nat_eq page q ≡ false = grind (arith, nat_tests, differs) in
            let apart : position_or_len (nat_eq q) (pages_of m.directory) ≢ place = λ same.
            let within : position_or_len (nat_eq q) (pages_of m.directory) < length (pages_of m.directory) =
            omega (arith, same, slice_get_within (pages_of m.directory) place page stands)
            in
            let passes = passes_at_first (nat_eq q) (pages_of m.directory) page within in
            let read : get_or (pages_of m.directory) (position_or_len (nat_eq q) (pages_of m.directory)) page ≡ page =
            ap (λ k. get_or (pages_of m.directory) k page) same ∙ get_or_from_slice_get (pages_of m.directory) place page page stands
            in
            differs (grind (arith, nat_tests, passes, read)) in
            looked ∙ slice_get-set_other m.pages.items place (position_or_len (nat_eq q) (pages_of m.directory)) new apart
            ∙ sym (ap (λ b. cond b (Some new) (page_at m q)) none)
      ]

  pub meets-written : (side : Side) (number : ℕ) (arrival : Arrival) (r : Found) → number / 32 ≡ page
      → Meets (page_view side (Some here)) (page_view side (Some new)) (number % 32) arrival r → Meets (view side m) (view side n) number arrival r
  meets-written = meets-pages m n page (Some here) (Some new) was-written is-written

-- a page was opened
module _ (m n : Pages) (page : ℕ) (new : Page) (found : ∥ IsFound n.directory.entries.items ∥₁) (listed : length (pages_of m.directory) ≡ length m.pages.items)
    (added : pages_of n.directory ≡ pages_of m.directory ++ page ∷ []) (is : n.pages.items ≡ m.pages.items ++ new ∷ []) where
  last : HasPage n page (length (pages_of m.directory))
  last = ap (λ ps. slice_get ps (length (pages_of m.directory))) added ∙ slice_get_push (pages_of m.directory) page

  -- it wasn't there
  place-absent : position_or_len (nat_eq page) (pages_of m.directory) ≡ length (pages_of m.directory)
  place-absent = position_or_len_is (nat_eq page) (pages_of m.directory) (length (pages_of m.directory)) page (omega arith)
      (λ k before. elim (cases_Bool (nat_eq page (get_or (pages_of m.directory) k page))) as
      (λ _. nat_eq page (get_or (pages_of m.directory) k page) ≡ false) [
        | inl same ↦
            let twice : get_or (pages_of m.directory) k page ≡ page = grind (arith, nat_tests, same) in
            let there : slice_get (pages_of n.directory) k ≡ Some page = ap (λ ps. slice_get ps k) added
            ∙ slice_get-append (pages_of m.directory) (page ∷ []) k before ∙ slice_get-get_or (pages_of m.directory) k page before ∙ ap Some twice in
            absurd (omega (arith, before, pages-distinct n.directory.entries.items k (length (pages_of m.directory)) page found there last))
        | inr differs ↦ differs
      ]) (λ past. absurd (omega (arith, past)))

  was-absent : page_at m page ≡ None
  was-absent = ap (slice_get m.pages.items) place-absent ∙ slice_get_past m.pages.items (length (pages_of m.directory)) (omega (arith, listed))

  is-there : (q : ℕ) → page_at n q ≡ cond (nat_eq page q) (Some new) (page_at m q)
  is-there q =
      let len = length (pages_of m.directory) in
      let old = position_or_len (nat_eq q) (pages_of m.directory) in
      let looked : page_at n q ≡ slice_get (m.pages.items ++ new ∷ []) (cond (nat_eq old len) (len + cond (nat_eq q page) 0 1) old) =
      ap (λ ps. slice_get n.pages.items (position_or_len (nat_eq q) ps)) added
      ∙ ap (slice_get n.pages.items) (position_or_len_push (nat_eq q) (pages_of m.directory) page)
      ∙ ap (λ xs. slice_get xs (cond (nat_eq old len) (len + cond (nat_eq q page) 0 1) old)) is
      in
      elim (cases_eq q page) as (λ _. page_at n q ≡ cond (nat_eq page q) (Some new) (page_at m q)) [
        | inl same ↦
            let one : nat_eq page q ≡ true = grind (arith, nat_tests, same) in
            let turned : nat_eq q page ≡ true = grind (arith, nat_tests, same) in
            let end : old ≡ len = ap (λ k. position_or_len (nat_eq k) (pages_of m.directory)) same ∙ place-absent in
            let ends : nat_eq old len ≡ true = grind (arith, nat_tests, end) in
            looked ∙ ap (λ b. slice_get (m.pages.items ++ new ∷ []) (cond b (len + cond (nat_eq q page) 0 1) old)) ends
            ∙ ap (λ b. slice_get (m.pages.items ++ new ∷ []) (len + cond b 0 1)) turned
            ∙ ap (slice_get (m.pages.items ++ new ∷ [])) (omega (arith, listed)) ∙ slice_get_push m.pages.items new
            ∙ sym (ap (λ b. cond b (Some new) (page_at m q)) one)
        | inr differs ↦
            let none : nat_eq page q ≡ false = grind (arith, nat_tests, differs) in
            let turned : nat_eq q page ≡ false = grind (arith, nat_tests, differs) in
            looked ∙ (elim (cases_eq old len) as
            (λ _. slice_get (m.pages.items ++ new ∷ []) (cond (nat_eq old len) (len + cond (nat_eq q page) 0 1) old) ≡ page_at m q) [
              | inl end ↦
                  let ends : nat_eq old len ≡ true = grind (arith, nat_tests, end) in
                  ap (λ b. slice_get (m.pages.items ++ new ∷ []) (cond b (len + cond (nat_eq q page) 0 1) old)) ends
                  ∙ ap (λ b. slice_get (m.pages.items ++ new ∷ []) (len + cond b 0 1)) turned
                  ∙ slice_get_past (m.pages.items ++ new ∷ []) (len + 1) (omega (arith, listed, length_push m.pages.items new))
                  ∙ sym (slice_get_past m.pages.items old (omega (arith, end, listed)))
              | inr inside ↦
                  let ends : nat_eq old len ≡ false = grind (arith, nat_tests, inside) in
                  let within = prefix_len-le-length (λ x. not (nat_eq q x)) (pages_of m.directory) in
                  ap (λ b. slice_get (m.pages.items ++ new ∷ []) (cond b (len + cond (nat_eq q page) 0 1) old)) ends
                  ∙ slice_get-append m.pages.items (new ∷ []) old (omega (arith, within, inside, listed))
            ]) ∙ sym (ap (λ b. cond b (Some new) (page_at m q)) none)
      ]

  pub same-opened_page : ((side : Side) (i : ℕ) → (page_view side (Some new)).own i ≡ false) → (side : Side) → IsSame (view side m) (view side n)
  same-opened_page empty side = same-pages m n page None (Some new) was-absent is-there side record {
    own = empty side;
    other = λ i. other side i ∙ empty (opposite side) i;
    kept = λ i x waits none. absurd (let bad : None ≡ Some x = none in cc);
  }
    where
      other : (side : Side) (i : ℕ) → (page_view side (Some new)).other i ≡ (page_view (opposite side) (Some new)).own i
      other First i = refl
      other Second i = refl

-- what holds of a result holds of it in other words
pub if_ok-more : {T E : Type 0} (r : Result T E) (P Q : T → Type 0) → ((x : T) → P x → Q x) → IfOk r P → IfOk r Q
if_ok-more (Ok x) P Q more p = more x p
if_ok-more (Err e) P Q more p = tt
