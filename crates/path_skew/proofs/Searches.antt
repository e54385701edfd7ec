-- The search in a directory finds each entry, also after one more was hung in.
use Rattle.std.proofs.Common.{◌≡◌, ◌≢◌, ℕ, zero, suc, ◌+◌, ◌<◌, ◌≤◌, ◌/◌, ◌%◌, ◌==◌, Bool, true, false, if◌then◌else◌, List, [], ◌∷◌, ◌++◌, length}
use Rattle.std.proofs.Common.{get_or, nat_lt, slice_get, slice_set, Option, Some, None, refl, sym, ap, subst, ◌∙◌, arith, inl, inr}
use Rattle.std.specs.Option.{option_map, option_map_or}
use Rattle.std.proofs.Math.Logic.{∥∥₁_elim}
use Rattle.std.proofs.Props.{props}
use Rattle.std.proofs.lemmas.Bool.{cases_eq, cases_lt, cases_order}
use Rattle.std.proofs.lemmas.Bool.Decides.{nat_tests}
use Rattle.std.proofs.lemmas.List.{length_push, length-set, map-append}
use Rattle.std.proofs.lemmas.Option.{same_Some, slice_get-map, slice_get_read, slice_get_within}
use Rattle.path_skew.specs.declared.directory.Entry.{Entry}
use Rattle.path_skew.specs.Search.{below, digits_after, pages_in, place_after, with_below, Enters, GoesOn, IsAt, IsBehind, IsEnd, IsFound, IsLinked, IsWay}
use Rattle.path_skew.proofs.Elements.{slice_get-append, slice_get-set_other, slice_get-set_same, slice_get_push}

-- one entry stands at a place
same_entry : (es : List Entry) (i : ℕ) (d e : Entry) → slice_get es i ≡ Some d → slice_get es i ≡ Some e → d ≡ e
same_entry es i d e one other = same_Some d e (sym one ∙ other)

-- the search comes to no entry of its page twice
no_page_before : (es : List Entry) (page k l i j : ℕ) (e : Entry) → IsWay es page k i → IsWay es page l j → slice_get es i ≡ Some e → e.page ≡ page
    → l ≤ k
no_page_before es page k l i j e here there at is = elim (cases_lt k l) as (λ _. l ≤ k) [
  | inl before ↦
      let on = there.goes_on k before in
      let same : on.entry ≡ e = same_entry es i on.entry e (ap (slice_get es) (sym here.to) ∙ on.here) at in
      absurd (on.other (ap (λ x. x.page) same ∙ is))
  | inr behind ↦ behind
]

way-of_page : (es : List Entry) (page place : ℕ) (e : Entry) → IsFound es → slice_get es place ≡ Some e → e.page ≡ page
    → (steps : ℕ) × IsWay es page steps place
way-of_page es page place e found at is = subst (λ p. (steps : ℕ) × IsWay es p steps place) is (found place e at)

-- a page has one entry
found-distinct : (es : List Entry) (i j : ℕ) (d e : Entry) → IsFound es → slice_get es i ≡ Some d → slice_get es j ≡ Some e → d.page ≡ e.page → i ≡ j
found-distinct es i j d e found at_d at_e same =
    let here = way-of_page es e.page i d found at_d same in
    let there = way-of_page es e.page j e found at_e refl in
    let one = no_page_before es e.page here.0 there.0 i j d here.1 there.1 at_d same in
    let other = no_page_before es e.page there.0 here.0 j i e there.1 here.1 at_e refl in
    let steps : here.0 ≡ there.0 = omega (arith, one, other) in
    sym here.1.to ∙ ap (place_after es e.page) steps ∙ there.1.to

pub pages-distinct : (es : List Entry) (i j page : ℕ) → ∥ IsFound es ∥₁ → slice_get (pages_in es) i ≡ Some page → slice_get (pages_in es) j ≡ Some page
    → i ≡ j
pages-distinct es i j page known at_i at_j =
    let d = entry-at es i page at_i in
    let e = entry-at es j page at_j in
    ∥∥₁_elim known (hlevel props) (λ found. found-distinct es i j d.0 e.0 found d.1 e.1 (d.2 ∙ sym e.2))
  where
    entry-at : (es : List Entry) (i page : ℕ) → slice_get (pages_in es) i ≡ Some page → (e : Entry) × (slice_get es i ≡ Some e) × (e.page ≡ page)
    entry-at es i page at = by (slice_get es i) refl
      where
        by : (o : Option Entry) → slice_get es i ≡ o → (e : Entry) × (slice_get es i ≡ Some e) × (e.page ≡ page)
        by None is = absurd (let bad : None ≡ Some page = sym (slice_get-map (λ e. e.page) es i ∙ ap (option_map (λ e. e.page)) is) ∙ at in cc)
        by (Some e) is = (e, is, same_Some e.page page (sym (slice_get-map (λ e. e.page) es i ∙ ap (option_map (λ e. e.page)) is) ∙ at))

-- the search is at the next place after one step more
next-place : (es : List Entry) (page steps place digits next : ℕ) → place_after es page steps ≡ place → digits_after page steps ≡ digits
    → GoesOn es page place digits next → place_after es page (suc steps) ≡ next
next-place es page steps place digits next to left on =
    ap (λ o. option_map_or (λ e. below e (digits_after page steps)) o 0) (ap (slice_get es) to ∙ on.here) ∙ ap (below on.entry) left ∙ on.below

way-next : (es : List Entry) (page steps place digits next : ℕ) → IsWay es page steps place → digits_after page steps ≡ digits
    → GoesOn es page place digits next → IsWay es page (suc steps) next
way-next es page steps place digits next way left on =
    let to = next-place es page steps place digits next way.to left on in
    record {
      to = to;
      goes_on = λ k within.
          elim (cases_lt k steps) as (λ _. GoesOn es page (place_after es page k) (digits_after page k) (place_after es page (suc k))) [
            | inl before ↦ way.goes_on k before
            | inr last ↦
                let same : steps ≡ k = omega (arith, within, last) in
                subst (λ n. GoesOn es page (place_after es page n) (digits_after page n) (place_after es page (suc n))) same record {
                  entry = on.entry;
                  here = ap (slice_get es) way.to ∙ on.here;
                  other = on.other;
                  below = ap (below on.entry) left ∙ on.below ∙ sym to;
                  some = λ none. on.some (sym to ∙ none);
                }
          ];
    }

pub at-next : (es : List Entry) (page place digits next : ℕ) → IsAt es page place digits → GoesOn es page place digits next
    → IsAt es page next (digits / 2)
at-next es page place digits next at on = record {
  steps = suc at.steps;
  way = way-next es page at.steps place digits next at.way at.left on;
  left = ap (λ d. d / 2) at.left;
}

-- an entry, and that entry with another hung below it
below-with_below : (a : Entry) (digits left link : ℕ) → below a digits ≡ 0 → below a left ≢ 0 → below (with_below a digits link) left ≡ below a left
below-with_below a digits left link = by (digits % 2 == 0) (left % 2 == 0)
  where
    by : (b c : Bool) → (if b then a.zero else a.one) ≡ 0 → (if c then a.zero else a.one) ≢ 0
        → (if c then (if b then record a { zero = link } else record a { one = link }).zero else (if b then record a { zero = link } else record a
        { one = link }).one) ≡ (if c then a.zero else a.one)
    by true true free goes = absurd (goes free)
    by true false free goes = refl
    by false true free goes = refl
    by false false free goes = absurd (goes free)

below_itself : (a : Entry) (digits link : ℕ) → below (with_below a digits link) digits ≡ link
below_itself a digits link = by (digits % 2 == 0)
  where
    by : (b : Bool) → (if b then (if b then record a { zero = link } else record a { one = link }).zero else (if b then record a { zero = link }
        else record a { one = link }).one) ≡ link
    by true = refl
    by false = refl

page-with_below : (a : Entry) (digits link : ℕ) → (with_below a digits link).page ≡ a.page
page-with_below a digits link = by (digits % 2 == 0)
  where
    by : (b : Bool) → (if b then record a { zero = link } else record a { one = link }).page ≡ a.page
    by true = refl
    by false = refl

behind-with_below : (a : Entry) (digits place count : ℕ) → place < count → IsBehind place count a.zero × IsBehind place count a.one
    → IsBehind place (count + 1) (with_below a digits count).zero × IsBehind place (count + 1) (with_below a digits count).one
behind-with_below a digits place count within behind = by (digits % 2 == 0)
  where
    more : (link : ℕ) → IsBehind place count link → IsBehind place (count + 1) link
    more link h some = let old = h some in (old.0, omega (arith, old.1))

    new : IsBehind place (count + 1) count
    new some = (within, omega arith)

    by : (b : Bool) → IsBehind place (count + 1) (if b then record a { zero = count } else record a { one = count }).zero
        × IsBehind place (count + 1) (if b then record a { zero = count } else record a { one = count }).one
    by true = (new, more a.one behind.1)
    by false = (more a.zero behind.0, new)

-- an entry with none below it
abbrev pub lone : ℕ → Entry
lone page = record { page = page; zero = 0; one = 0 }

-- an entry was put at the end, and hung below one of those before
module _ (es fs : List Entry) (page place digits : ℕ) (a : Entry) (at : slice_get es place ≡ Some a) (free : below a digits ≡ 0)
    (is : fs ≡ slice_set (es ++ lone page ∷ []) place (with_below a digits (length es))) where
  within : place < length es
  within = slice_get_within es place a at

  -- the entries by their places
  hung-at : slice_get fs place ≡ Some (with_below a digits (length es))
  hung-at = ap (λ l. slice_get l place) is
      ∙ slice_get-set_same (es ++ lone page ∷ []) place (with_below a digits (length es)) (omega (arith, within, length_push es (lone page)))

  hung-other : (i : ℕ) → i < length es → i ≢ place → slice_get fs i ≡ slice_get es i
  hung-other i inside differs = ap (λ l. slice_get l i) is ∙ slice_get-set_other (es ++ lone page ∷ []) place i (with_below a digits (length es)) differs
      ∙ slice_get-append es (lone page ∷ []) i inside

  hung-last : slice_get fs (length es) ≡ Some (lone page)
  hung-last = ap (λ l. slice_get l (length es)) is
      ∙ slice_get-set_other (es ++ lone page ∷ []) place (length es) (with_below a digits (length es)) (λ same. omega (arith, within, same)) ∙ slice_get_push es (lone page)

  hung-length : length fs ≡ length es + 1
  hung-length = ap length is ∙ length-set (es ++ lone page ∷ []) place (with_below a digits (length es)) ∙ length_push es (lone page)

  -- what went on goes on
  hung-goes_on : (q i left next : ℕ) → GoesOn es q i left next → GoesOn fs q i left next
  hung-goes_on q i left next on = elim (cases_eq i place) as (λ _. GoesOn fs q i left next) [
    | inl same ↦
        let it : on.entry ≡ a = same_entry es i on.entry a on.here (ap (slice_get es) same ∙ at) in
        let goes : below a left ≢ 0 = λ none. on.some (sym on.below ∙ ap (λ e. below e left) it ∙ none) in
        record {
          entry = with_below a digits (length es);
          here = ap (slice_get fs) same ∙ hung-at;
          other = λ is_q. on.other (ap (λ e. e.page) it ∙ sym (page-with_below a digits (length es)) ∙ is_q);
          below = below-with_below a digits left (length es) free goes ∙ ap (λ e. below e left) (sym it) ∙ on.below;
          some = on.some;
        }
    | inr differs ↦ record {
      entry = on.entry;
      here = hung-other i (slice_get_within es i on.entry on.here) differs ∙ on.here;
      other = on.other;
      below = on.below;
      some = on.some;
    }
  ]

  -- and comes where it came
  hung-place : (q k : ℕ) → ((j : ℕ) → j < k → GoesOn es q (place_after es q j) (digits_after q j) (place_after es q (suc j)))
      → place_after fs q k ≡ place_after es q k
  hung-place q zero goes_on = refl
  hung-place q (suc k) goes_on =
      let before = hung-place q k (λ j lt. goes_on j (omega (arith, lt))) in
      let on = hung-goes_on q (place_after es q k) (digits_after q k) (place_after es q (suc k)) (goes_on k (omega arith)) in
      next-place fs q k (place_after es q k) (digits_after q k) (place_after es q (suc k)) before refl on

  hung-way : (q steps i : ℕ) → IsWay es q steps i → IsWay fs q steps i
  hung-way q steps i way = record {
    to = hung-place q steps way.goes_on ∙ way.to;
    goes_on = λ k lt.
        let here : place_after fs q k ≡ place_after es q k = hung-place q k (λ j less. way.goes_on j (omega (arith, less, lt))) in
        let next : place_after fs q (suc k) ≡ place_after es q (suc k) = hung-place q (suc k) (λ j less. way.goes_on j (omega (arith, less, lt))) in
        let on = hung-goes_on q (place_after es q k) (digits_after q k) (place_after es q (suc k)) (way.goes_on k lt) in
        subst (λ i. GoesOn fs q i (digits_after q k) (place_after fs q (suc k))) (sym here)
        (subst (GoesOn fs q (place_after es q k) (digits_after q k)) (sym next) on);
  }

  -- each entry is found
  pub hung-found : IsFound es → IsAt es page place digits → a.page ≢ page → IsFound fs
  hung-found found came other i e here = elim (cases_order i (length es)) as (λ _. (steps : ℕ) × IsWay fs e.page steps i) [
    | inl last ↦
        let it : lone page ≡ e = same_entry fs (length es) (lone page) e hung-last (ap (slice_get fs) (sym last) ∙ here) in
        let on : GoesOn fs page place digits (length es) = record {
          entry = with_below a digits (length es);
          here = hung-at;
          other = λ is_page. other (sym (page-with_below a digits (length es)) ∙ is_page);
          below = below_itself a digits (length es);
          some = λ none. omega (arith, within, none);
        } in
        let way = way-next fs page came.steps place digits (length es) (hung-way page came.steps place came.way) came.left on in (
          suc came.steps,
          subst (λ q. IsWay fs q (suc came.steps) i) (ap (λ x. x.page) it) (subst (IsWay fs page (suc came.steps)) (sym last) way),
        )
    | inr (inl inside) ↦
        let old : (x : Entry) × (slice_get es i ≡ Some x) × (x.page ≡ e.page) = elim (cases_eq i place) as
        (λ _. (x : Entry) × (slice_get es i ≡ Some x) × (x.page ≡ e.page)) [
          | inl same ↦ (
            a,
            ap (slice_get es) same ∙ at,
            sym (page-with_below a digits (length es)) ∙ ap (λ x. x.page)
                (same_entry fs place (with_below a digits (length es)) e hung-at (ap (slice_get fs) (sym same) ∙ here)),
          )
          | inr differs ↦ (e, sym (hung-other i inside differs) ∙ here, refl)
        ] in
        let way = found i old.0 old.1 in (
          way.0,
          subst (λ q. IsWay fs q way.0 i) old.2 (hung-way old.0.page way.0 i way.1),
        )
    | inr (inr past) ↦ absurd (omega (arith, past, slice_get_within fs i e here, hung-length))
  ]

  -- and each stands before those below it
  pub hung-linked : IsLinked es → IsLinked fs
  hung-linked linked i e here = subst (λ n. IsBehind i n e.zero × IsBehind i n e.one) (sym hung-length)
      (elim (cases_order i (length es)) as (λ _. IsBehind i (length es + 1) e.zero × IsBehind i (length es + 1) e.one) [
        | inl last ↦
            let it : lone page ≡ e = same_entry fs (length es) (lone page) e hung-last (ap (slice_get fs) (sym last) ∙ here) in
            subst (λ x. IsBehind i (length es + 1) x.zero × IsBehind i (length es + 1) x.one) it
            ((λ some. absurd (some refl)), (λ some. absurd (some refl)))
        | inr (inl inside) ↦ elim (cases_eq i place) as (λ _. IsBehind i (length es + 1) e.zero × IsBehind i (length es + 1) e.one) [
          | inl same ↦
              let it = same_entry fs place (with_below a digits (length es)) e hung-at (ap (slice_get fs) (sym same) ∙ here) in
              subst (λ x. IsBehind i (length es + 1) x.zero × IsBehind i (length es + 1) x.one) it
              (behind-with_below a digits i (length es) inside (linked i a (ap (slice_get es) same ∙ at)))
          | inr differs ↦
              let old = linked i e (sym (hung-other i inside differs) ∙ here) in
              ((λ some. ((old.0 some).0, omega (arith, (old.0 some).1))), (λ some. ((old.1 some).0, omega (arith, (old.1 some).1))))
        ]
        | inr (inr past) ↦ absurd (omega (arith, past, slice_get_within fs i e here, hung-length))
      ])

-- the pages stay, and the new one stands behind them
pages-set : (es : List Entry) (i : ℕ) (a b : Entry) → slice_get es i ≡ Some a → b.page ≡ a.page → pages_in (slice_set es i b) ≡ pages_in es
pages-set [] i a b at same = refl
pages-set (e ∷ es) zero a b at same = ap (λ p. p ∷ pages_in es) (same ∙ ap (λ x. x.page) (sym (same_Some e a at)))
pages-set (e ∷ es) (suc i) a b at same = ap (λ ps. e.page ∷ ps) (pages-set es i a b at same)

pages-hung : (es : List Entry) (page place digits : ℕ) (a : Entry) → slice_get es place ≡ Some a
    → pages_in (slice_set (es ++ lone page ∷ []) place (with_below a digits (length es))) ≡ pages_in es ++ page ∷ []
pages-hung es page place digits a at =
    pages-set (es ++ lone page ∷ []) place a (with_below a digits (length es)) (slice_get-append es (lone page ∷ []) place (slice_get_within es place a at) ∙ at)
    (page-with_below a digits (length es)) ∙ map-append (λ e. e.page) es (lone page ∷ [])

-- the search in a directory stays inside it, unless that has no entry
pub end-inside : (es : List Entry) (page place digits : ℕ) → IsLinked es → IsEnd es page place digits → length es ≤ place → length es ≡ 0
end-inside es page place digits linked end past = by end.at.steps end.at.way
  where
    by : (steps : ℕ) → IsWay es page steps place → length es ≡ 0
    by zero way = omega (arith, way.to, past)
    by (suc steps) way =
        let on = way.goes_on steps (omega arith) in
        let next : below on.entry (digits_after page steps) ≡ place = on.below ∙ way.to in
        absurd (omega (arith, inside (digits_after page steps % 2 == 0) on.entry next (linked _ on.entry on.here) (λ none. on.some (way.to ∙ none)), past))
      where
        inside : (b : Bool) (e : Entry) → (if b then e.zero else e.one) ≡ place → IsBehind (place_after es page steps) (length es) e.zero
            × IsBehind (place_after es page steps) (length es) e.one → place ≢ 0 → place < length es
        inside true e is behind some = subst (λ n. n < length es) is (behind.0 (λ none. some (sym is ∙ none))).1
        inside false e is behind some = subst (λ n. n < length es) is (behind.1 (λ none. some (sym is ∙ none))).1

-- the first entry
module _ (es fs : List Entry) (page : ℕ) (none : length es ≡ 0) (is : fs ≡ es ++ lone page ∷ []) where
  first-length : length fs ≡ 1
  first-length = omega (arith, ap length is, length_push es (lone page), none)

  pub first-found : IsFound fs
  first-found i e here =
      let first : i ≡ 0 = omega (arith, slice_get_within fs i e here, first-length) in
      (0, record { to = sym first; goes_on = λ k lt. absurd (omega (arith, lt)) })

  pub first-linked : IsLinked fs
  first-linked i e here =
      let first : i ≡ length es = omega (arith, slice_get_within fs i e here, first-length, none) in
      let last : slice_get fs i ≡ Some (lone page) = ap (slice_get fs) first ∙ ap (λ l. slice_get l (length es)) is ∙ slice_get_push es (lone page) in
      let it = same_entry fs i (lone page) e last here in
      subst (λ x. IsBehind i (length fs) x.zero × IsBehind i (length fs) x.one) it ((λ some. absurd (some refl)), (λ some. absurd (some refl)))

-- an entry was put at the end, and hung where the search for its page ended
pub added-below : (es gs : List Entry) (page place digits link : ℕ) (a b : Entry) → IsEnd es page place digits
    → slice_get (pages_in es) place ≢ Some page → place < length es → gs ≡ es ++ lone page ∷ [] → a ≡ get_or gs place a → b ≡ with_below a digits link
    → link ≡ length es → (IsLinked es → IsLinked (slice_set gs place b)) × (IsFound es → IsFound (slice_set gs place b))
    × (pages_in (slice_set gs place b) ≡ pages_in es ++ page ∷ [])
added-below es gs page place digits link a b end other within pushed read hung last =
    let at : slice_get es place ≡ Some a = sym (slice_get-append es (lone page ∷ []) place within) ∙ ap (λ l. slice_get l place) (sym pushed)
    ∙ slice_get_read gs (length gs) place a refl (omega (arith, within, ap length pushed, length_push es (lone page))) read in
    let not_it : a.page ≢ page = λ is. other (slice_get-map (λ e. e.page) es place ∙ ap (option_map (λ e. e.page)) at ∙ ap Some is) in
    let free = end.ends a at not_it in
    let is : slice_set gs place b ≡ slice_set (es ++ lone page ∷ []) place (with_below a digits (length es)) =
    ap (λ l. slice_set l place b) pushed ∙ ap (slice_set (es ++ lone page ∷ []) place) (hung ∙ ap (with_below a digits) last) in (
      hung-linked es (slice_set gs place b) page place digits a at free is,
      λ found. hung-found es (slice_set gs place b) page place digits a at free is found end.at not_it,
      ap pages_in is ∙ pages-hung es page place digits a at,
    )

-- it is the first
pub added-first : (es gs : List Entry) (page place digits : ℕ) → IsLinked es → IsEnd es page place digits → length es ≤ place → gs ≡ es ++ lone page ∷ []
    → IsLinked gs × IsFound gs
added-first es gs page place digits linked end past pushed =
    let none = end-inside es page place digits linked end past in
    (first-linked es gs page none pushed, first-found es gs page none pushed)

-- a page at the end was not there
pub entered-last : (old new : List ℕ) (page place : ℕ) → Enters old new page place → place ≡ length old → new ≡ old ++ page ∷ []
entered-last old new page place entered last =
    let test : nat_lt place (length old) ≡ false = grind (arith, nat_tests, last) in
    entered.pages ∙ ap (λ b. if b then old else old ++ page ∷ []) test
