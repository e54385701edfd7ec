-- There is one window and not two.
use Rattle.std.proofs.Common.{◌≡◌, ◌≤◌, ◌<◌, ◌+◌, ◌-◌, ◌⊎◌, ℕ, zero, suc, Bool, true, false, Option, Some, None, List, length, slice_index, refl, ap, sym}
use Rattle.std.proofs.Common.{subst, ◌∙◌, arith, inl, inr}
use Rattle.std.proofs.lemmas.Bool.{cases_lt}
use Rattle.timing_base.specs.Media.{Media}
use Rattle.timing_base.specs.declared.media.Kind.{Kind}
use Rattle.sender_params.specs.Reads.{anchor_of}
use Rattle.offset_window.specs.Window.{Binds, BindsLower, BindsUpper, IsFirstBroken, IsGreatest, IsLeast, IsLowerEnd, IsUpperEnd, IsWindow, Serves}
use Rattle.offset_window.specs.Window.{is_empty_with, is_over_with}
use Rattle.offset_window.specs.declared.window.Window.{Window}
use Rattle.offset_window.specs.declared.window.WindowEnd.{WindowEnd}
use Rattle.offset_window.specs.declared.window.WindowEnd.TheVariants.{Absent, At}
use Rattle.offset_window.proofs.Ends.{clash}

-- the last packet is broken, or none is
last_first : (broken : ℕ → ℕ → Bool) (x k : ℕ) (b : Bool) → broken x k ≡ b → Serves broken k x
    → ((i : ℕ) × IsFirstBroken broken (suc k) x i) ⊎ Serves broken (suc k) x
last_first broken x k true e none = inl (k, record { within = omega arith; here = e; first = none })
last_first broken x k false e none = inr (λ i few. elim (cases_lt i k) as (λ _. broken x i ≡ false) [
  | inl early ↦ none i early
  | inr late ↦
      let same : i ≡ k = omega (arith, few, late) in
      ap (broken x) same ∙ e
])

-- a first packet is broken, or none is
found_first : (broken : ℕ → ℕ → Bool) (x k : ℕ) → ((i : ℕ) × IsFirstBroken broken k x i) ⊎ Serves broken k x
found_first broken x zero = inr (λ i few. absurd (omega (arith, few)))
found_first broken x (suc k) =
    elim (found_first broken x k) as (λ _. ((i : ℕ) × IsFirstBroken broken (suc k) x i) ⊎ Serves broken (suc k) x) [
      | inl f ↦ inl (f.0, record { within = omega (arith, f.1.within); here = f.1.here; first = f.1.first })
      | inr none ↦ last_first broken x k (broken x k) refl none
    ]

-- a least offset below k serves, or none does
found_least : (broken : ℕ → ℕ → Bool) (count k : ℕ)
    → ((x : ℕ) × ((x < k) × Serves broken count x × ((y : ℕ) → y < x → Serves broken count y → ⊥)))
    ⊎ ((x : ℕ) → x < k → Serves broken count x → ⊥)
found_least broken count zero = inr (λ x few _. omega (arith, few))
found_least broken count (suc k) =
    elim (found_least broken count k) as (λ _. ((x : ℕ) × ((x < suc k) × Serves broken count x × ((y : ℕ) → y < x → Serves broken count y → ⊥)))
    ⊎ ((x : ℕ) → x < suc k → Serves broken count x → ⊥)) [
      | inl f ↦ inl (f.0, (omega (arith, f.1.0), f.1.1, f.1.2))
      | inr none ↦ elim (found_first broken k count) as (λ _. ((x : ℕ) × ((x < suc k) × Serves broken count x × ((y : ℕ) → y < x → Serves broken count y → ⊥)))
          ⊎ ((x : ℕ) → x < suc k → Serves broken count x → ⊥)) [
            | inr serves ↦ inl (k, (omega arith, serves, none))
            | inl f ↦ inr (λ x few serves. elim (cases_lt x k) as (λ _. ⊥) [
              | inl early ↦ none x early serves
              | inr late ↦
                  let same : x ≡ k = omega (arith, few, late) in
                  clash (broken k f.0) f.1.here (ap (λ y. broken y f.0) (sym same) ∙ serves f.0 f.1.within)
            ])
          ]
    ]

-- a greatest offset up to k serves, or none does
found_greatest : (broken : ℕ → ℕ → Bool) (count k : ℕ)
    → ((x : ℕ) × ((x < k) × Serves broken count x × ((y : ℕ) → x < y → y < k → Serves broken count y → ⊥)))
    ⊎ ((x : ℕ) → x < k → Serves broken count x → ⊥)
found_greatest broken count zero = inr (λ x few _. omega (arith, few))
found_greatest broken count (suc k) =
    elim (found_first broken k count) as (λ _. ((x : ℕ) × ((x < suc k) × Serves broken count x × ((y : ℕ) → x < y → y < suc k → Serves broken count y → ⊥)))
    ⊎ ((x : ℕ) → x < suc k → Serves broken count x → ⊥)) [
      | inr serves ↦ inl (k, (omega arith, serves, λ y high low _. omega (arith, high, low)))
      | inl f ↦
          let gone : (x : ℕ) → k ≤ x → x < suc k → Serves broken count x → ⊥ = λ x high low serves.
          let same : x ≡ k = omega (arith, high, low) in
          clash (broken k f.0) f.1.here (ap (λ y. broken y f.0) (sym same) ∙ serves f.0 f.1.within) in
          elim (found_greatest broken count k) as (λ _. ((x : ℕ) × ((x < suc k) × Serves broken count x
          × ((y : ℕ) → x < y → y < suc k → Serves broken count y → ⊥))) ⊎ ((x : ℕ) → x < suc k → Serves broken count x → ⊥)) [
            | inl g ↦ inl (
              g.0,
              (
                omega (arith, g.1.0),
                g.1.1,
                λ y high low serves. elim (cases_lt y k) as (λ _. ⊥) [
                  | inl early ↦ g.1.2 y high early serves
                  | inr late ↦ gone y late low serves
                ],
              ),
            )
            | inr none ↦ inr (λ x low serves. elim (cases_lt x k) as (λ _. ⊥) [
              | inl early ↦ none x early serves
              | inr late ↦ gone x late low serves
            ])
          ]
    ]

-- the least offset that serves is a lower end
least-some : (broken : ℕ → ℕ → Bool) (count x : ℕ)
    → x ≤ 1000000
    → Serves broken count x
    → ((y : ℕ) → y < x → Serves broken count y → ⊥)
    → (binding : Option ℕ) × IsLeast broken count x binding
least-some broken count x most serves least =
    elim (cases_lt 0 x) as (λ _. (binding : Option ℕ) × IsLeast broken count x binding) [
      | inr nothing ↦ (None, record { most = most; serves = serves; least = least; binds = omega (arith, nothing) })
      | inl some ↦ elim (found_first broken (x - 1) count) as (λ _. (binding : Option ℕ) × IsLeast broken count x binding) [
        | inl f ↦ (Some f.0, record { most = most; serves = serves; least = least; binds = (some, f.1) })
        | inr under ↦ absurd (least (x - 1) (omega (arith, some)) under)
      ]
    ]

greatest-some : (broken : ℕ → ℕ → Bool) (count x : ℕ)
    → x ≤ 1000000
    → Serves broken count x
    → ((y : ℕ) → x < y → y ≤ 1000000 → Serves broken count y → ⊥)
    → (binding : Option ℕ) × IsGreatest broken count x binding
greatest-some broken count x most serves greatest =
    elim (cases_lt x 1000000) as (λ _. (binding : Option ℕ) × IsGreatest broken count x binding) [
      | inr top ↦ (None, record { most = most; serves = serves; greatest = greatest; binds = omega (arith, top, most) })
      | inl some ↦ elim (found_first broken (x + 1) count) as (λ _. (binding : Option ℕ) × IsGreatest broken count x binding) [
        | inl f ↦ (Some f.0, record { most = most; serves = serves; greatest = greatest; binds = (some, f.1) })
        | inr above ↦ absurd (greatest (x + 1) (omega arith) (omega (arith, some)) above)
      ]
    ]

lower-some : (broken : ℕ → ℕ → Bool) (count : ℕ) → (end : WindowEnd) × IsLowerEnd broken count end
lower-some broken count =
    elim (found_least broken count 1000001) as (λ _. (end : WindowEnd) × IsLowerEnd broken count end) [
      | inl f ↦
          let b = least-some broken count f.0 (omega (arith, f.1.0)) f.1.1 f.1.2 in
          (At f.0 b.0, b.1)
      | inr none ↦ (Absent, λ x most serves. none x (omega (arith, most)) serves)
    ]

upper-some : (broken : ℕ → ℕ → Bool) (count : ℕ) → (end : WindowEnd) × IsUpperEnd broken count end
upper-some broken count =
    elim (found_greatest broken count 1000001) as (λ _. (end : WindowEnd) × IsUpperEnd broken count end) [
      | inl f ↦
          let b = greatest-some broken count f.0 (omega (arith, f.1.0)) f.1.1 (λ y high most serves. f.1.2 y high (omega (arith, most)) serves) in
          (At f.0 b.0, b.1)
      | inr none ↦ (Absent, λ x most serves. none x (omega (arith, most)) serves)
    ]

pub window-some : (m : Media) (n : ℕ) (stamps : List ℕ) (kind : Kind) → (w : Window) × IsWindow m n stamps kind w
window-some m n stamps kind =
    let lower = lower-some (is_empty_with m n (anchor_of m (slice_index stamps 0)) stamps kind) (length stamps) in
    let upper = upper-some (is_over_with m n (anchor_of m (slice_index stamps 0)) stamps kind) (length stamps) in
    (record { lower = lower.0; upper = upper.0 }, record { lower = lower.1; upper = upper.1 })

-- of two first packets neither is before the other
first-once : (broken : ℕ → ℕ → Bool) (count x i j : ℕ) → IsFirstBroken broken count x i → IsFirstBroken broken count x j → i ≡ j
first-once broken count x i j f g =
    elim (cases_lt i j) as (λ _. i ≡ j) [
      | inl less ↦ absurd (clash (broken x i) f.here (g.first i less))
      | inr rest ↦ elim (cases_lt j i) as (λ _. i ≡ j) [
        | inl more ↦ absurd (clash (broken x j) g.here (f.first j more))
        | inr same ↦ omega (arith, rest, same)
      ]
    ]

binds-once : (is_last goes_on : Type 0) (broken : ℕ → ℕ → Bool) (count beyond : ℕ) (a b : Option ℕ) → (is_last → goes_on → ⊥)
    → Binds is_last goes_on broken count beyond a → Binds is_last goes_on broken count beyond b → a ≡ b
binds-once is_last goes_on broken count beyond None None apart f g = refl
binds-once is_last goes_on broken count beyond None (Some j) apart f g = absurd (apart f g.0)
binds-once is_last goes_on broken count beyond (Some i) None apart f g = absurd (apart g f.0)
binds-once is_last goes_on broken count beyond (Some i) (Some j) apart f g = ap Some (first-once broken count beyond i j f.1 g.1)

lower-once : (broken : ℕ → ℕ → Bool) (count : ℕ) (a b : WindowEnd) → IsLowerEnd broken count a → IsLowerEnd broken count b → a ≡ b
lower-once broken count Absent Absent f g = refl
lower-once broken count Absent (At y c) f g = absurd (f y g.most g.serves)
lower-once broken count (At x b) Absent f g = absurd (g x f.most f.serves)
lower-once broken count (At x b) (At y c) f g =
    let same : x ≡ y = elim (cases_lt x y) as (λ _. x ≡ y) [
      | inl less ↦ absurd (g.least x less f.serves)
      | inr rest ↦ elim (cases_lt y x) as (λ _. x ≡ y) [
        | inl more ↦ absurd (f.least y more g.serves)
        | inr equal ↦ omega (arith, rest, equal)
      ]
    ] in
    let binding : b ≡ c = binds-once (y ≡ 0) (0 < y) broken count (y - 1) b c (λ last on. omega (arith, last, on))
    (subst (λ z. BindsLower broken count z b) same f.binds) g.binds in
    ap (λ z. At z b) same ∙ ap (At y) binding

upper-once : (broken : ℕ → ℕ → Bool) (count : ℕ) (a b : WindowEnd) → IsUpperEnd broken count a → IsUpperEnd broken count b → a ≡ b
upper-once broken count Absent Absent f g = refl
upper-once broken count Absent (At y c) f g = absurd (f y g.most g.serves)
upper-once broken count (At x b) Absent f g = absurd (g x f.most f.serves)
upper-once broken count (At x b) (At y c) f g =
    let same : x ≡ y = elim (cases_lt x y) as (λ _. x ≡ y) [
      | inl less ↦ absurd (f.greatest y less g.most g.serves)
      | inr rest ↦ elim (cases_lt y x) as (λ _. x ≡ y) [
        | inl more ↦ absurd (g.greatest x more f.most f.serves)
        | inr equal ↦ omega (arith, rest, equal)
      ]
    ] in
    let binding : b ≡ c = binds-once (y ≡ 1000000) (y < 1000000) broken count (y + 1) b c (λ last on. omega (arith, last, on))
    (subst (λ z. BindsUpper broken count z b) same f.binds) g.binds in
    ap (λ z. At z b) same ∙ ap (At y) binding

pub window-once : (m : Media) (n : ℕ) (stamps : List ℕ) (kind : Kind) (w other : Window)
    → IsWindow m n stamps kind w
    → IsWindow m n stamps kind other
    → w ≡ other
window-once m n stamps kind w other f g =
    let with_lower : WindowEnd → Window = λ end. record { lower = end; upper = w.upper } in
    let with_upper : WindowEnd → Window = λ end. record { lower = other.lower; upper = end } in
    ap with_lower (lower-once (is_empty_with m n (anchor_of m (slice_index stamps 0)) stamps kind) (length stamps) w.lower other.lower f.lower g.lower)
    ∙ ap with_upper (upper-once (is_over_with m n (anchor_of m (slice_index stamps 0)) stamps kind) (length stamps) w.upper other.upper f.upper g.upper)
