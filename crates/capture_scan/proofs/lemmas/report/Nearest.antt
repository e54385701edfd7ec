-- Where the step of a known rate is within a hundredth of the mean, that of the nearest is.
use Rattle.std.proofs.Common.{◌≡◌, ◌∙◌, ℕ, ◌+◌, ◌*◌, ◌<◌, ◌≤◌, Bool, true, false, ◌&&◌, ◌||◌, List, [], ◌∷◌, ◌⊎◌, inl, inr, refl, sym, ap, ap₂, arith}
use Rattle.std.specs.Prelude.{⊤, if◌then◌else◌, nat_le}
use Rattle.std.specs.List.{list_any}
use Rattle.std.proofs.lemmas.Bool.Decides.{nat_tests}
use Rattle.std.proofs.lemmas.Nat.{mul-le}
use Rattle.capture_scan.specs.declared.stream.Rate.{Rate}
use Rattle.capture_scan.specs.report.Rates.{exact, faster, is_known, is_slow, is_within, nearest_from, sixteenths, slowed, slowest}
use Rattle.capture_scan.specs.declared.report.rate.FrameRate.{FrameRate}

-- ---- a step of x, and a mean of m

abbrev within : (m x : ℕ) → Bool
within m x = nat_le (99 * m) (200 * x) && nat_le (200 * x) (101 * m)

low-or-high : (m x : ℕ) → within m x ≡ false → (200 * x < 99 * m) ⊎ (101 * m < 200 * x)
low-or-high m x h = by (nat_le (99 * m) (200 * x)) refl (nat_le (200 * x) (101 * m)) refl h
  where
    by : (a : Bool) → nat_le (99 * m) (200 * x) ≡ a → (b : Bool) → nat_le (200 * x) (101 * m) ≡ b → (a && b) ≡ false
        → (200 * x < 99 * m) ⊎ (101 * m < 200 * x)
    by false e b f k = inl (grind (arith, nat_tests))
    by true e false f k = inr (grind (arith, nat_tests))
    by true e true f k = cc

and_no : (a : Bool) → (a && false) ≡ false
and_no true = refl
and_no false = refl

below : (m x : ℕ) → 200 * x < 99 * m → within m x ≡ false
below m x h = let e : nat_le (99 * m) (200 * x) ≡ false = grind (arith, nat_tests) in ap (λ b. b && nat_le (200 * x) (101 * m)) e

above : (m x : ℕ) → 101 * m < 200 * x → within m x ≡ false
above m x h = let e : nat_le (200 * x) (101 * m) ≡ false = grind (arith, nat_tests) in ap (λ b. nat_le (99 * m) (200 * x) && b) e ∙ and_no (nat_le (99 * m)
    (200 * x))

-- where the mean is half-way between two steps or greater, and the longer isn't within, no shorter one is
slow-none : (m x y z : ℕ) → z ≤ y → y ≤ x → x + y ≤ m → within m x ≡ false → within m z ≡ false
slow-none m x y z zy yx sum h = by (low-or-high m x h)
  where
    by : (200 * x < 99 * m) ⊎ (101 * m < 200 * x) → within m z ≡ false
    by (inl l) = below m z (omega (arith, l, zy, yx))
    by (inr r) = below m z (omega (arith, r, zy, sum))

-- where it is less, and the shorter isn't within, the longer isn't
fast-none : (m x y : ℕ) → y ≤ x → m < x + y → within m y ≡ false → within m x ≡ false
fast-none m x y yx sum h = by (low-or-high m y h)
  where
    by : (200 * y < 99 * m) ⊎ (101 * m < 200 * y) → within m x ≡ false
    by (inl l) = above m x (omega (arith, l, sum))
    by (inr r) = above m x (omega (arith, r, yx))

-- ---- lists of rates, the slower before the faster

abbrev Descends : ℕ → List FrameRate → Type 0
Descends e [] = ⊤
Descends e (r ∷ rest) = (r.eighths ≤ e) × Descends r.eighths rest

times : (a b s : ℕ) → a ≤ b → a * s ≤ b * s
times a b s h = mul-le a s b s h (omega arith)

later-none : (fields : Bool) (rate : Rate) (x y e : ℕ) (rates : List FrameRate) → Descends e rates → e * rate.steps ≤ y → y ≤ x
    → x + y ≤ sixteenths fields * rate.ticks → within (sixteenths fields * rate.ticks) x ≡ false → list_any (is_within fields rate) rates ≡ false
later-none fields rate x y e [] d small yx sum h = refl
later-none fields rate x y e (r ∷ rest) d small yx sum h =
    let t = times r.eighths e rate.steps d.0 in
    let less : r.eighths * rate.steps ≤ y = omega (arith, t, small) in
    ap₂ (λ a b. a || b) (slow-none (sixteenths fields * rate.ticks) x y (r.eighths * rate.steps) less yx sum h)
    (later-none fields rate x y r.eighths rest d.1 less yx sum h)

or_parts : (a b : Bool) → (a || b) ≡ false → (a ≡ false) × (b ≡ false)
or_parts true b h = cc
or_parts false b h = (refl, h)

none-known : (fields : Bool) (rate : Rate) (slow : FrameRate) (rest : List FrameRate) → Descends slow.eighths rest
    → is_within fields rate (nearest_from fields rate slow rest) ≡ false → list_any (is_within fields rate) (slow ∷ rest) ≡ false
none-known fields rate slow [] d h = ap (λ b. b || false) h
none-known fields rate slow (next ∷ rest) d h =
    by-test (is_slow fields rate slow next) refl h (λ k. none-known fields rate next rest d.1 k)
  where
    m : ℕ
    m = sixteenths fields * rate.ticks

    x : ℕ
    x = slow.eighths * rate.steps

    y : ℕ
    y = next.eighths * rate.steps

    yx : y ≤ x
    yx = times next.eighths slow.eighths rate.steps d.0

    spread : (slow.eighths + next.eighths) * rate.steps ≡ x + y
    spread = omega arith

    by-test : (b : Bool) → is_slow fields rate slow next ≡ b
        → is_within fields rate (if b then slow else nearest_from fields rate next rest) ≡ false
        → (is_within fields rate (nearest_from fields rate next rest) ≡ false → list_any (is_within fields rate) (next ∷ rest) ≡ false)
        → list_any (is_within fields rate) (slow ∷ next ∷ rest) ≡ false
    by-test true e k later =
        let half : (slow.eighths + next.eighths) * rate.steps ≤ m = grind (arith, nat_tests) in
        let sum : x + y ≤ m = omega (arith, half, spread) in
        ap₂ (λ a b. a || b) k (later-none fields rate x y next.eighths (next ∷ rest) (omega arith, d.1) (omega arith) yx sum k)
    by-test false e k later =
        let half : m < (slow.eighths + next.eighths) * rate.steps = grind (arith, nat_tests) in
        let sum : m < x + y = omega (arith, half, spread) in
        let none = later k in
        let o = or_parts (is_within fields rate next) (list_any (is_within fields rate) rest) none in
        ap₂ (λ a b. a || b) (fast-none m x y yx sum o.0) none

or_true : (a : Bool) → (a || true) ≡ true
or_true true = refl
or_true false = refl

one-known : (fields : Bool) (rate : Rate) (slow : FrameRate) (rest : List FrameRate)
    → is_within fields rate (nearest_from fields rate slow rest) ≡ true → list_any (is_within fields rate) (slow ∷ rest) ≡ true
one-known fields rate slow [] h = ap (λ b. b || false) h
one-known fields rate slow (next ∷ rest) h = by-test (is_slow fields rate slow next) h (λ k. one-known fields rate next rest k)
  where
    by-test : (b : Bool) → is_within fields rate (if b then slow else nearest_from fields rate next rest) ≡ true
        → (is_within fields rate (nearest_from fields rate next rest) ≡ true → list_any (is_within fields rate) (next ∷ rest) ≡ true)
        → list_any (is_within fields rate) (slow ∷ next ∷ rest) ≡ true
    by-test true k later = ap (λ b. b || list_any (is_within fields rate) (next ∷ rest)) k
    by-test false k later = ap (λ b. is_within fields rate slow || b) (later k) ∙ or_true (is_within fields rate slow)

hundreds-descend : Descends 12000 (exact 100 7200 ∷ slowed 120 6006 ∷ exact 120 6000 ∷ [])
hundreds-descend = (omega arith, (omega arith, (omega arith, tt)))

fast-descend : Descends 24000 (exact 50 14400 ∷ slowed 60 12012 ∷ exact 60 12000 ∷ exact 100 7200 ∷ slowed 120 6006 ∷ exact 120 6000 ∷ [])
fast-descend = (omega arith, (omega arith, (omega arith, hundreds-descend)))

faster-descend : Descends 30030 faster
faster-descend = (omega arith, (omega arith, (omega arith, (omega arith, fast-descend))))

-- the nearest is within exactly where one is
pub known-any : (fields : Bool) (rate : Rate) → is_known fields rate ≡ list_any (is_within fields rate) (slowest ∷ faster)
known-any fields rate = by-test (is_known fields rate) refl
  where
    by-test : (b : Bool) → is_known fields rate ≡ b → is_known fields rate ≡ list_any (is_within fields rate) (slowest ∷ faster)
    by-test true e = e ∙ sym (one-known fields rate slowest faster e)
    by-test false e = e ∙ sym (none-known fields rate slowest faster faster-descend e)
