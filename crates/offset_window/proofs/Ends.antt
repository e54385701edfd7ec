-- How an end of a window moves with one packet more, whatever breaks packets.
use Rattle.std.proofs.Common.{◌≡◌, ◌≤◌, ◌<◌, ◌+◌, ◌-◌, ℕ, Bool, true, false, Option, Some, None, ap, sym, subst, ◌∙◌, arith, inl, inr}
use Rattle.std.proofs.lemmas.Bool.{cases_lt, false_from_ne_true}
use Rattle.offset_window.specs.Moves.{IsLowerBy, IsUpperBy, MovesBy}
use Rattle.offset_window.specs.Window.{Binds, BindsLower, BindsUpper, IsFirstBroken, IsGreatest, IsLeast, IsLowerEnd, IsUpperEnd, Serves}
use Rattle.offset_window.specs.declared.window.WindowEnd.{WindowEnd}
use Rattle.offset_window.specs.declared.window.WindowEnd.TheVariants.{Absent, At}

-- a packet that is broken with an offset is broken with each smaller one
abbrev pub Falls : (ℕ → ℕ → Bool) → Type 0
Falls broken = (x y i : ℕ) → x ≤ y → broken y i ≡ true → broken x i ≡ true

-- a packet that is broken with an offset is broken with each greater one
abbrev pub Rises : (ℕ → ℕ → Bool) → Type 0
Rises broken = (x y i : ℕ) → x ≤ y → y ≤ 1000000 → broken x i ≡ true → broken y i ≡ true

pub clash : (b : Bool) → b ≡ true → b ≡ false → ⊥
clash b holds fails = cc

-- the same packets under another name
pub serves-same : (a b : ℕ → ℕ → Bool) (count x : ℕ)
    → ((y i : ℕ) → i < count → a y i ≡ b y i)
    → Serves a count x
    → Serves b count x
serves-same a b count x same serves i few = sym (same x i few) ∙ serves i few

first-same : (a b : ℕ → ℕ → Bool) (count x i : ℕ)
    → ((y j : ℕ) → j < count → a y j ≡ b y j)
    → IsFirstBroken a count x i
    → IsFirstBroken b count x i
first-same a b count x i same f = record {
  within = f.within;
  here = sym (same x i f.within) ∙ f.here;
  first = λ j low. sym (same x j (omega (arith, low, f.within))) ∙ f.first j low;
}

binds-same : (is_last goes_on : Type 0) (a b : ℕ → ℕ → Bool) (count beyond : ℕ) (binding : Option ℕ)
    → ((y j : ℕ) → j < count → a y j ≡ b y j)
    → Binds is_last goes_on a count beyond binding
    → Binds is_last goes_on b count beyond binding
binds-same is_last goes_on a b count beyond None same h = h
binds-same is_last goes_on a b count beyond (Some i) same h = (h.0, first-same a b count beyond i same h.1)

pub lower-same : (a b : ℕ → ℕ → Bool) (count : ℕ) (end : WindowEnd)
    → ((y i : ℕ) → i < count → a y i ≡ b y i)
    → IsLowerEnd a count end
    → IsLowerEnd b count end
lower-same a b count Absent same none = λ x most serves.
    none x most (serves-same b a count x (λ y i few. sym (same y i few)) serves)
lower-same a b count (At x binding) same h = record {
  most = h.most;
  serves = serves-same a b count x same h.serves;
  least = λ y low serves. h.least y low (serves-same b a count y (λ z i few. sym (same z i few)) serves);
  binds = binds-same (x ≡ 0) (0 < x) a b count (x - 1) binding same h.binds;
}

pub upper-same : (a b : ℕ → ℕ → Bool) (count : ℕ) (end : WindowEnd)
    → ((y i : ℕ) → i < count → a y i ≡ b y i)
    → IsUpperEnd a count end
    → IsUpperEnd b count end
upper-same a b count Absent same none = λ x most serves.
    none x most (serves-same b a count x (λ y i few. sym (same y i few)) serves)
upper-same a b count (At x binding) same h = record {
  most = h.most;
  serves = serves-same a b count x same h.serves;
  greatest = λ y high most serves. h.greatest y high most (serves-same b a count y (λ z i few. sym (same z i few)) serves);
  binds = binds-same (x ≡ 1000000) (x < 1000000) a b count (x + 1) binding same h.binds;
}

-- what serves all packets serves all but the last
serves-fewer : (broken : ℕ → ℕ → Bool) (count x : ℕ) → Serves broken (count + 1) x → Serves broken count x
serves-fewer broken count x serves i few = serves i (omega (arith, few))

-- and one packet more, where it isn't broken
serves-more : (broken : ℕ → ℕ → Bool) (count x : ℕ) → Serves broken count x → broken x count ≡ false → Serves broken (count + 1) x
serves-more broken count x serves last i few =
    elim (cases_lt i count) as (λ _. broken x i ≡ false) [
      | inl early ↦ serves i early
      | inr late ↦
          let same : i ≡ count = omega (arith, few, late) in
          ap (broken x) same ∙ last
    ]

first-more : (broken : ℕ → ℕ → Bool) (count x i : ℕ) → IsFirstBroken broken count x i → IsFirstBroken broken (count + 1) x i
first-more broken count x i f = record { within = omega (arith, f.within); here = f.here; first = f.first }

lower_binds-more : (broken : ℕ → ℕ → Bool) (count x : ℕ) (binding : Option ℕ)
    → BindsLower broken count x binding
    → BindsLower broken (count + 1) x binding
lower_binds-more broken count x None h = h
lower_binds-more broken count x (Some i) h = (h.0, first-more broken count (x - 1) i h.1)

upper_binds-more : (broken : ℕ → ℕ → Bool) (count x : ℕ) (binding : Option ℕ)
    → BindsUpper broken count x binding
    → BindsUpper broken (count + 1) x binding
upper_binds-more broken count x None h = h
upper_binds-more broken count x (Some i) h = (h.0, first-more broken count (x + 1) i h.1)

-- an end stays where the packet isn't broken with it
lower-stays : (broken : ℕ → ℕ → Bool) (count x : ℕ) (binding : Option ℕ)
    → IsLeast broken count x binding
    → broken x count ≡ false
    → IsLeast broken (count + 1) x binding
lower-stays broken count x binding h last = record {
  most = h.most;
  serves = serves-more broken count x h.serves last;
  least = λ y low serves. h.least y low (serves-fewer broken count y serves);
  binds = lower_binds-more broken count x binding h.binds;
}

upper-stays : (broken : ℕ → ℕ → Bool) (count x : ℕ) (binding : Option ℕ)
    → IsGreatest broken count x binding
    → broken x count ≡ false
    → IsGreatest broken (count + 1) x binding
upper-stays broken count x binding h last = record {
  most = h.most;
  serves = serves-more broken count x h.serves last;
  greatest = λ y high most serves. h.greatest y high most (serves-fewer broken count y serves);
  binds = upper_binds-more broken count x binding h.binds;
}

-- so the upper end stays where the packet is broken with no offset
pub upper-quiet : (broken : ℕ → ℕ → Bool) (count : ℕ) (end : WindowEnd)
    → IsUpperEnd broken count end
    → ((x : ℕ) → x ≤ 1000000 → broken x count ≡ false)
    → IsUpperEnd broken (count + 1) end
upper-quiet broken count Absent none quiet = λ x most serves. none x most (serves-fewer broken count x serves)
upper-quiet broken count (At x binding) h quiet = upper-stays broken count x binding h (quiet x h.most)

-- with no packet all offsets serve
pub lower-none : (broken : ℕ → ℕ → Bool) → IsLowerEnd broken 0 (At 0 None)
lower-none broken = record {
  most = omega arith;
  serves = λ i few. absurd (omega (arith, few));
  least = λ y low serves. omega (arith, low);
  binds = omega arith;
}

pub upper-none : (broken : ℕ → ℕ → Bool) → IsUpperEnd broken 0 (At 1000000 None)
upper-none broken = record {
  most = omega arith;
  serves = λ i few. absurd (omega (arith, few));
  greatest = λ y high most serves. omega (arith, high, most);
  binds = omega arith;
}

-- the lower end of a packet that is broken with the one before
lower-moved : (broken : ℕ → ℕ → Bool) (count : ℕ) (here : ℕ → Bool) (x : ℕ) (binding : Option ℕ) (end : WindowEnd)
    → Falls broken
    → ((y : ℕ) → broken y count ≡ here y)
    → IsLeast broken count x binding
    → here x ≡ true
    → IsLowerBy here count end
    → IsLowerEnd broken (count + 1) end
lower-moved broken count here x binding Absent falls is h late by = λ y most serves.
    clash (broken y count) (is y ∙ by y most) (serves count (omega arith))
lower-moved broken count here x binding (At y bound) falls is h late by =
    let above : x < y = elim (cases_lt x y) as (λ _. x < y) [
      | inl less ↦ less
      | inr more ↦ absurd (clash (broken y count) (falls y x count more (is x ∙ late)) (is y ∙ by.serves))
    ] in
    record {
      most = by.most;
      serves = serves-more broken count y
          (λ i few. false_from_ne_true (broken y i) (λ holds. clash (broken x i) (falls x y i (omega (arith, above)) holds) (h.serves i few)))
          (is y ∙ by.serves);
      least = λ z low serves. clash (broken z count) (falls z (y - 1) count (omega (arith, low)) (is (y - 1) ∙ by.under)) (serves count (omega arith));
      binds = subst (BindsLower broken (count + 1) y) (sym by.binds) (
        by.some,
        record {
          within = omega arith;
          here = is (y - 1) ∙ by.under;
          first = λ j low. false_from_ne_true (broken (y - 1) j) (λ holds. clash (broken x j) (falls x (y - 1) j (omega (arith, above)) holds)
              (h.serves j low));
        },
      );
    }

-- the lower end of one packet more
pub lower-more : (broken : ℕ → ℕ → Bool) (count : ℕ) (here : ℕ → Bool) (old end : WindowEnd)
    → Falls broken
    → ((y : ℕ) → broken y count ≡ here y)
    → IsLowerEnd broken count old
    → MovesBy (IsLowerBy here count) here old end
    → IsLowerEnd broken (count + 1) end
lower-more broken count here Absent end falls is none moves =
    subst (IsLowerEnd broken (count + 1)) (sym moves) (λ x most serves. none x most (serves-fewer broken count x serves))
lower-more broken count here (At x binding) end falls is h moves =
    elim moves as (λ _. IsLowerEnd broken (count + 1) end) [
      | inl stays ↦ subst (IsLowerEnd broken (count + 1)) (sym stays.1) (lower-stays broken count x binding h (is x ∙ stays.0))
      | inr goes ↦ lower-moved broken count here x binding end falls is h goes.0 goes.1
    ]

-- the upper end of a packet that is broken with the one before
upper-moved : (broken : ℕ → ℕ → Bool) (count : ℕ) (here : ℕ → Bool) (x : ℕ) (binding : Option ℕ) (end : WindowEnd)
    → Rises broken
    → ((y z : ℕ) → y ≤ z → here y ≡ true → here z ≡ true)
    → ((y : ℕ) → y ≤ 1000000 → broken y count ≡ here y)
    → IsGreatest broken count x binding
    → here x ≡ true
    → IsUpperBy here count end
    → IsUpperEnd broken (count + 1) end
upper-moved broken count here x binding Absent rises rises_here is h early by = λ y most serves.
    clash (broken y count) (is y most ∙ by y most) (serves count (omega arith))
upper-moved broken count here x binding (At y bound) rises rises_here is h early by =
    let under : y < x = elim (cases_lt y x) as (λ _. y < x) [
      | inl less ↦ less
      | inr more ↦ absurd (clash (here y) (rises_here x y more early) by.serves)
    ] in
    let most : y < 1000000 = omega (arith, under, h.most) in
    let next : broken (y + 1) count ≡ true = is (y + 1) (omega (arith, most)) ∙ by.above in
    record {
      most = omega (arith, most);
      serves = serves-more broken count y
          (λ i few. false_from_ne_true (broken y i) (λ holds. clash (broken x i) (rises y x i (omega (arith, under)) h.most holds) (h.serves i few)))
          (is y (omega (arith, most)) ∙ by.serves);
      greatest = λ z high top serves. clash (broken z count) (rises (y + 1) z count (omega (arith, high)) top next) (serves count (omega arith));
      binds = subst (BindsUpper broken (count + 1) y) (sym by.binds) (
        most,
        record {
          within = omega arith;
          here = next;
          first = λ j low. false_from_ne_true (broken (y + 1) j) (λ holds. clash (broken x j) (rises (y + 1) x j (omega (arith, under)) h.most holds)
              (h.serves j low));
        },
      );
    }

-- the upper end of one packet more
pub upper-more : (broken : ℕ → ℕ → Bool) (count : ℕ) (here : ℕ → Bool) (old end : WindowEnd)
    → Rises broken
    → ((y z : ℕ) → y ≤ z → here y ≡ true → here z ≡ true)
    → ((y : ℕ) → y ≤ 1000000 → broken y count ≡ here y)
    → IsUpperEnd broken count old
    → MovesBy (IsUpperBy here count) here old end
    → IsUpperEnd broken (count + 1) end
upper-more broken count here Absent end rises rises_here is none moves =
    subst (IsUpperEnd broken (count + 1)) (sym moves) (λ x most serves. none x most (serves-fewer broken count x serves))
upper-more broken count here (At x binding) end rises rises_here is h moves =
    elim moves as (λ _. IsUpperEnd broken (count + 1) end) [
      | inl stays ↦ subst (IsUpperEnd broken (count + 1)) (sym stays.1) (upper-stays broken count x binding h (is x h.most ∙ stays.0))
      | inr goes ↦ upper-moved broken count here x binding end rises rises_here is h goes.0 goes.1
    ]
