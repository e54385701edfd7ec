-- The width of columns.
use Rattle.std.proofs.Common.{◌≡◌, ◌≤◌, ◌<◌, ◌+◌, ◌*◌, ◌/◌, ◌^◌, ℕ, zero, suc, Bool, true, false, nat_lt, max, ◌⊎◌, inl, inr, ap, ◌∙◌, sym, subst, refl, arith}
use Rattle.std.proofs.Math.Nat.{mul-le-mul_right, mul-le-mul_left, one-le-mul}
use Rattle.std.proofs.lemmas.Bool.{cases_Bool, cases_eq, cases_lt, le-ltb, lt-ltb, ltb-false, ltb-true}
use Rattle.std.proofs.lemmas.Grind.{div_ceil_times, pow_more}
use Rattle.std.proofs.lemmas.Nat.{pow_below, pow_pos}
use Rattle.std.specs.Int.{IsPowerOfTwo, div_ceil}
use Rattle.flow_measure.specs.Columns.{IsWidth, columns_of, width_of}
use Rattle.flow_measure.specs.Counts.{count_of}
use Rattle.flow_measure.proofs.Counted.{count_of-more, count_of-no, count_of-yes}

-- a quotient that is rounded up is 1 or more
pub ceil-some : (a b : ℕ) → 1 ≤ a → 1 ≤ b → 1 ≤ div_ceil a b
ceil-some a b some few = elim (cases_lt 0 (div_ceil a b)) as (λ _. 1 ≤ div_ceil a b) [
  | inl more ↦ omega (arith, more)
  | inr none ↦
      let e : div_ceil a b * b ≡ 0 * b = ap (λ x. x * b) (omega (arith, none)) in
      absurd (omega (arith, (div_ceil_times a b (omega (arith, few))).0, e, some))
]

-- of columns of that width no more are needed
pub ceil-back : (a b : ℕ) → 1 ≤ a → 1 ≤ b → div_ceil a (div_ceil a b) ≤ b
ceil-back a b some few =
    let w = div_ceil a b in
    let w_some : 0 < w = omega (arith, ceil-some a b some few) in
    let fits = (div_ceil_times a b (omega (arith, few))).0 in
    let back = (div_ceil_times a w w_some).1 in
    elim (cases_lt b (div_ceil a w)) as (λ _. div_ceil a w ≤ b) [
      | inl more ↦
          let p : (b + 1) * w ≤ div_ceil a w * w = mul-le-mul_right w (omega (arith, more)) in
          absurd (omega (arith, p, back, fits))
      | inr enough ↦ enough
    ]

-- they take all of it
pub ceil-room : (a b : ℕ) → 1 ≤ b → a ≤ div_ceil a b * b
ceil-room a b some = (div_ceil_times a b (omega (arith, some))).0

-- a quotient that is rounded up is the least that takes all of it
pub ceil-least : (a b n : ℕ) → 1 ≤ b → a ≤ n * b → div_ceil a b ≤ n
ceil-least a b n some enough = elim (cases_lt n (div_ceil a b)) as (λ _. div_ceil a b ≤ n) [
  | inl more ↦
      let p : (n + 1) * b ≤ div_ceil a b * b = mul-le-mul_right b (omega (arith, more)) in
      absurd (omega (arith, p, (div_ceil_times a b (omega (arith, some))).1, enough))
  | inr few ↦ few
]

-- so many numbers fit into so many columns of a width exactly where there are as many places
pub fits-room : (count most w : ℕ) → 1 ≤ w → div_ceil count w ≤ most → count ≤ most * w
fits-room count most w some fits =
    let p : div_ceil count w * w ≤ most * w = mul-le-mul_right w fits in
    omega (arith, p, ceil-room count w some)

-- a greater power of two has a greater exponent
pub power-above : (k l : ℕ) → 2 ^ k < 2 ^ l → k < l
power-above k l less = elim (cases_lt k l) as (λ _. k < l) [
  | inl below ↦ below
  | inr above ↦ absurd (elim (cases_eq k l) [
    | inl same ↦ omega (arith, ap (λ x. 2 ^ x) same, less)
    | inr other ↦ omega (arith, pow_below l k (omega (arith, above, other)), less)
  ])
]

pub power-rises : (k l : ℕ) → k ≤ l → 2 ^ k ≤ 2 ^ l
power-rises k l most = elim (cases_eq k l) as (λ _. 2 ^ k ≤ 2 ^ l) [
  | inl same ↦ omega (arith, ap (λ x. 2 ^ x) same)
  | inr other ↦ omega (arith, pow_below k l (omega (arith, most, other)))
]

-- a greater one is twice as great at least
pub power-twice : (k l : ℕ) → 2 ^ k < 2 ^ l → 2 * 2 ^ k ≤ 2 ^ l
power-twice k l less = omega (arith, pow_more 2 k, power-rises (k + 1) l (omega (arith, power-above k l less)))

-- it is above its exponent
pub power-high : (k : ℕ) → k < 2 ^ k
power-high zero = omega (arith, pow_pos 0)
power-high (suc k) =
    let e : suc k ≡ k + 1 = omega arith in
    let p : 2 ^ suc k ≡ 2 ^ (k + 1) = ap (λ x. 2 ^ x) e in
    omega (arith, p, pow_more 2 k, power-high k)

-- a test that holds up to a place and not from there on is counted up to that place
pub count_of-until : (test : ℕ → Bool) (until count : ℕ) → until ≤ count → ((k : ℕ) → k < until → test k ≡ true)
    → ((k : ℕ) → until ≤ k → test k ≡ false) → count_of test count ≡ until
count_of-until test until zero most holds fails = omega (arith, most)
count_of-until test until (suc count) most holds fails =
    let next : suc count ≡ count + 1 = omega arith in
    let e = ap (count_of test) next in
    elim (cases_lt count until) as (λ _. count_of test (suc count) ≡ until) [
      | inl last ↦
          let here = count_of-yes test count (holds count last) in
          let before = count_of-all test count (λ k few. holds k (omega (arith, few, last))) in
          omega (arith, e, here, before, last, most)
      | inr past ↦
          let here = count_of-no test count (fails count past) in
          let before = count_of-until test until count past holds fails in
          omega (arith, e, here, before)
    ]
  where
    count_of-all : (test : ℕ → Bool) (count : ℕ) → ((k : ℕ) → k < count → test k ≡ true) → count_of test count ≡ count
    count_of-all test zero holds = omega arith
    count_of-all test (suc count) holds =
        let next : suc count ≡ count + 1 = omega arith in
        let e = ap (count_of test) next in
        let here = count_of-yes test count (holds count (omega arith)) in
        let before = count_of-all test count (λ k few. holds k (omega (arith, few))) in
        omega (arith, e, here, before)

-- ---- the width of a curve

-- there is one such width
pub width-once : (count most w other : ℕ) → IsWidth count most w → IsWidth count most other → w ≡ other
width-once count most w other h g =
    let here = subst (λ x. div_ceil count x ≤ most) h.power.1 h.fits in
    let there = subst (λ x. div_ceil count x ≤ most) g.power.1 g.fits in
    omega (arith, h.least g.power.0 there, g.least h.power.0 here, h.power.1, g.power.1)

-- the least power of two that is enough has an exponent below the count
record Enough (count most k : ℕ) : Type 0 where
  fits : div_ceil count (2 ^ k) ≤ most
  before : (j : ℕ) → j < k → most < div_ceil count (2 ^ j)
  few : k ≤ count

first-enough : (count most k : ℕ) → k ≤ count → div_ceil count (2 ^ k) ≤ most → (j : ℕ) × Enough count most j
first-enough count most zero few fits =
    (0, record { fits = fits; before = λ j none. absurd (omega (arith, none)); few = few })
first-enough count most (suc k) few fits = elim (cases_lt most (div_ceil count (2 ^ k))) as (λ _. (j : ℕ) × Enough count most j) [
  | inl many ↦ (
    suc k,
    record {
      fits = fits;
      before = λ j less. elim (cases_eq j k) as (λ _. most < div_ceil count (2 ^ j)) [
        | inl same ↦ subst (λ x. most < div_ceil count (2 ^ x)) (sym same) many
        | inr other ↦ fewer-before j k (omega (arith, less, other)) many
      ];
      few = few;
    },
  )
  | inr enough ↦ first-enough count most k (omega (arith, few)) enough
]
  where
    fewer-before : (j k : ℕ) → j ≤ k → most < div_ceil count (2 ^ k) → most < div_ceil count (2 ^ j)
    fewer-before j k less many = elim (cases_lt most (div_ceil count (2 ^ j))) as (λ _. most < div_ceil count (2 ^ j)) [
      | inl more ↦ more
      | inr enough ↦
          let room = fits-room count most (2 ^ j) (omega (arith, pow_pos j)) enough in
          let p : most * 2 ^ j ≤ most * 2 ^ k = mul-le-mul_left most (power-rises j k less) in
          absurd (omega (arith, ceil-least count (2 ^ k) most (omega (arith, pow_pos k)) (omega (arith, room, p)), many))
    ]

-- a width is one where it is enough, and half of it isn't
pub IsWidth-from : (count most k : ℕ) → count ≤ most * 2 ^ k → ((j : ℕ) → j < k → most * 2 ^ j < count) → IsWidth count most (2 ^ k)
IsWidth-from count most k enough before = record {
  power = (k, omega arith);
  fits = ceil-least count (2 ^ k) most (omega (arith, pow_pos k)) enough;
  least = λ j fits. elim (cases_lt j k) as (λ _. 2 ^ k ≤ 2 ^ j) [
    | inl less ↦ absurd (omega (arith, before j less, fits-room count most (2 ^ j) (omega (arith, pow_pos j)) fits))
    | inr most ↦ power-rises k j most
  ];
}

-- the defined width is the least power of two that is enough
pub width_of-is : (count most : ℕ) → 1 ≤ most → IsWidth count most (width_of count most)
unfolding width_of
width_of-is count most some =
    let enough : div_ceil count (2 ^ count) ≤ most =
    let p : 1 * 2 ^ count ≤ most * 2 ^ count = mul-le-mul_right (2 ^ count) some in
    ceil-least count (2 ^ count) most (omega (arith, pow_pos count)) (omega (arith, p, power-high count)) in
    let first = first-enough count most count (omega arith) enough in
    let k = first.0 in
    let many : (j : ℕ) → j < k → most * 2 ^ j < count =
    λ j less. elim (cases_lt (most * 2 ^ j) count) as (λ _. most * 2 ^ j < count) [
      | inl more ↦ more
      | inr room ↦ absurd (omega (arith, first.1.before j less, ceil-least count (2 ^ j) most (omega (arith, pow_pos j)) room))
    ] in
    let after : (j : ℕ) → k ≤ j → div_ceil count (2 ^ j) ≤ most =
    λ j past.
    let p : most * 2 ^ k ≤ most * 2 ^ j = mul-le-mul_left most (power-rises k j past) in
    ceil-least count (2 ^ j) most (omega (arith, pow_pos j)) (omega (arith, p, fits-room count most (2 ^ k) (omega (arith, pow_pos k)) first.1.fits)) in
    let doubled : count_of (λ j. nat_lt most (div_ceil count (2 ^ j))) count ≡ k =
    count_of-until (λ j. nat_lt most (div_ceil count (2 ^ j))) k count first.1.few
    (λ j less. lt-ltb most (div_ceil count (2 ^ j)) (first.1.before j less))
    (λ j past. le-ltb most (div_ceil count (2 ^ j)) (after j past)) in
    subst (λ x. IsWidth count most (2 ^ x)) (sym doubled)
    (IsWidth-from count most k (fits-room count most (2 ^ k) (omega (arith, pow_pos k)) first.1.fits) many)

-- it is 1 or more
pub width-some : (count most : ℕ) → 1 ≤ width_of count most
unfolding width_of
width-some count most = omega (arith, pow_pos (count_of (λ k. nat_lt most (div_ceil count (2 ^ k))) count))

-- where all numbers fit it is 1
pub width-fits : (count most : ℕ) → count ≤ most → width_of count most ≡ 1
unfolding width_of
width-fits count most fits =
    let narrow : (k : ℕ) → div_ceil count (2 ^ k) ≤ most =
    λ k.
    let p : count * 1 ≤ count * 2 ^ k = mul-le-mul_left count (omega (arith, pow_pos k)) in
    omega (arith, ceil-least count (2 ^ k) count (omega (arith, pow_pos k)) (omega (arith, p)), fits) in
    let none : count_of (λ k. nat_lt most (div_ceil count (2 ^ k))) count ≡ 0 =
    count_of-until (λ k. nat_lt most (div_ceil count (2 ^ k))) 0 count (omega arith) (λ k few. absurd (omega (arith, few)))
    (λ k past. le-ltb most (div_ceil count (2 ^ k)) (narrow k)) in
    ap (λ k. 2 ^ k) none

-- of no number it is 1
pub width-none : (most : ℕ) → width_of 0 most ≡ 1
unfolding width_of
width-none most = refl

-- numbers for which there is room keep the width
pub width-stays : (count next most w : ℕ) → 1 ≤ w → IsWidth count most w → count ≤ next → next ≤ most * w → IsWidth next most w
width-stays count next most w some h more room = record {
  power = h.power;
  fits = ceil-least next w most some room;
  least = λ k fits. h.least k
      (ceil-least count (2 ^ k) most (omega (arith, pow_pos k)) (omega (arith, more, fits-room next most (2 ^ k) (omega (arith, pow_pos k)) fits)));
}

-- one number for which there is none doubles it
pub width-doubles : (count most w : ℕ) → 1 ≤ w → 1 ≤ most → IsWidth count most w → count ≡ most * w → IsWidth (count + 1) most (2 * w)
width-doubles count most w some some_most h full =
    let k = h.power.0 in
    let is : w ≡ 2 ^ k = h.power.1 in
    let twice : 2 ^ (k + 1) ≡ 2 * w = omega (arith, pow_more 2 k, is) in
    let p : 1 ≤ most * w = one-le-mul some_most some in
    let two : most * (2 * w) ≡ most * w + most * w = omega arith in
    record {
      power = (k + 1, sym twice);
      fits = ceil-least (count + 1) (2 * w) most (omega (arith, some)) (omega (arith, full, p, two));
      least = λ j fits.
          let room = fits-room (count + 1) most (2 ^ j) (omega (arith, pow_pos j)) fits in
          let above : 2 ^ k < 2 ^ j = elim (cases_lt (2 ^ k) (2 ^ j)) as (λ _. 2 ^ k < 2 ^ j) [
            | inl above ↦ above
            | inr below ↦
                let q : most * 2 ^ j ≤ most * w = mul-le-mul_left most (omega (arith, below, is)) in
                absurd (omega (arith, room, q, full))
          ] in
          omega (arith, power-twice k j above, is);
    }

-- the width that is found from the quotient
pub width-found : (count most r : ℕ) → 1 ≤ most → IsPowerOfTwo r → div_ceil count most ≤ r → r / 2 < max 1 (div_ceil count most)
    → IsWidth count most r
width-found count most r some power low high =
    let k = power.0 in
    let is : r ≡ 2 ^ k = power.1 in
    let enough : count ≤ most * 2 ^ k =
    let p : div_ceil count most * most ≤ r * most = mul-le-mul_right most low in
    let q : r * most ≡ most * 2 ^ k = omega (arith, ap (λ x. x * most) is) in
    omega (arith, p, q, ceil-room count most some) in
    subst (IsWidth count most) (sym is)
    (IsWidth-from count most k enough
    (λ j less. elim (cases_lt (most * 2 ^ j) count) as (λ _. most * 2 ^ j < count) [
      | inl more ↦ more
      | inr room ↦
          let d : div_ceil count most ≤ 2 ^ j = ceil-least count most (2 ^ j) some (omega (arith, room)) in
          absurd (omega (arith, d, pow_pos j, high, is, power-twice j k (pow_below j k less)))
    ]))

-- a number more keeps the width where there is room for it, and doubles it where there is none
pub width_of-more : (seen most w : ℕ) → 1 ≤ most → w ≡ width_of seen most → seen + 1 ≤ most * w → w ≡ width_of (seen + 1) most
width_of-more seen most w some is room =
    let some_w : 1 ≤ w = omega (arith, is, width-some seen most) in
    width-once (seen + 1) most w (width_of (seen + 1) most)
    (width-stays seen (seen + 1) most w some_w (subst (IsWidth seen most) (sym is) (width_of-is seen most some)) (omega arith) room)
    (width_of-is (seen + 1) most some)

pub width_of-full : (seen most w : ℕ) → 1 ≤ most → w ≡ width_of seen most → seen ≡ most * w → 2 * w ≡ width_of (seen + 1) most
width_of-full seen most w some is full =
    let some_w : 1 ≤ w = omega (arith, is, width-some seen most) in
    width-once (seen + 1) most (2 * w) (width_of (seen + 1) most)
    (width-doubles seen most w some_w some (subst (IsWidth seen most) (sym is) (width_of-is seen most some)) full)
    (width_of-is (seen + 1) most some)

-- it has room for the next number, and less than a column of it stays free
pub room-doubled : (most w : ℕ) → 1 ≤ w → (most * w + 1 ≤ (most / 2 + 1) * (w * 2)) × ((most / 2 + 1) * (w * 2) ≤ most * w + w * 2)
room-doubled most w some =
    let p = most / 2 in
    let twice : (p + 1) * (w * 2) ≡ 2 * p * w + w * 2 = omega arith in
    elim (cases_eq (2 * p) most) as (λ _. (most * w + 1 ≤ (p + 1) * (w * 2)) × ((p + 1) * (w * 2) ≤ most * w + w * 2)) [
      | inl whole ↦
          let e : 2 * p * w ≡ most * w = ap (λ x. x * w) whole in
          (omega (arith, e, twice, some), omega (arith, e, twice))
      | inr rest ↦
          let one : 2 * p + 1 ≡ most = omega (arith, rest) in
          let e : (2 * p + 1) * w ≡ most * w = ap (λ x. x * w) one in
          let split : (2 * p + 1) * w ≡ 2 * p * w + w = omega arith in
          (omega (arith, e, twice, split, some), omega (arith, e, twice, split))
    ]

-- one number more than full columns hold leaves half of them, and one
pub columns-full : (most k : ℕ) → 1 ≤ most → columns_of (most * 2 ^ k + 1) most ≡ most / 2 + 1
columns-full most k some =
    let w = 2 ^ k in
    let count = most * w + 1 in
    let some_w : 1 ≤ w = omega (arith, pow_pos k) in
    let before : (j : ℕ) → j < k → most * 2 ^ j < most * w =
    λ j less.
    let p : most * (2 ^ j + 1) ≤ most * w = mul-le-mul_left most (omega (arith, pow_below j k less)) in
    omega (arith, p, some) in
    let full = IsWidth-from (most * w) most k (omega arith) before in
    let is : width_of count most ≡ 2 * w =
    width-once count most (width_of count most) (2 * w) (width_of-is count most some) (width-doubles (most * w) most w some_w some full (omega arith)) in
    let room = (room-doubled most w some_w).0 in
    let low : div_ceil count (2 * w) ≤ most / 2 + 1 = ceil-least count (2 * w) (most / 2 + 1) (omega (arith, some_w)) (omega (arith, room)) in
    let high : most / 2 < div_ceil count (2 * w) = elim (cases_lt (most / 2) (div_ceil count (2 * w))) as (λ _. most / 2 < div_ceil count (2 * w)) [
      | inl more ↦ more
      | inr enough ↦
          let held = fits-room count (most / 2) (2 * w) (omega (arith, some_w)) enough in
          let p : 2 * (most / 2) * w ≤ most * w = mul-le-mul_right w (omega arith) in
          absurd (omega (arith, held, p))
    ] in
    ap (div_ceil count) is ∙ omega (arith, low, high)

-- no fewer numbers than two or more columns are as many as a column takes
pub width-below : (count most : ℕ) → 2 ≤ most → most ≤ count → width_of count most ≤ count
width-below count most some enough =
    let h = width_of-is count most (omega (arith, some)) in
    let w = width_of count most in
    elim (cases_lt count w) as (λ _. w ≤ count) [
      | inl above ↦ absurd (too-wide h.power.0 h.power.1 above)
      | inr below ↦ below
    ]
  where
    too-wide : (k : ℕ) → width_of count most ≡ 2 ^ k → count < width_of count most → ⊥
    too-wide zero is above = omega (arith, is, above, some, enough)
    too-wide (suc j) is above =
        let h = width_of-is count most (omega (arith, some)) in
        let next : suc j ≡ j + 1 = omega arith in
        let twice : 2 ^ suc j ≡ 2 * 2 ^ j = ap (λ x. 2 ^ x) next ∙ omega (arith, pow_more 2 j) in
        let p : 2 * 2 ^ j ≤ most * 2 ^ j = mul-le-mul_right (2 ^ j) some in
        let fits = ceil-least count (2 ^ j) most (omega (arith, pow_pos j)) (omega (arith, above, is, twice, p)) in
        omega (arith, h.least j fits, is, twice, pow_pos j)

-- ---- bins

-- the width of bins, without a sum that may be too great
pub width-next : (limit : ℕ) → limit / 64 + 1 ≡ div_ceil (limit + 1) 64
width-next limit =
    let fits = div_ceil_times (limit + 1) 64 (omega arith) in
    omega (arith, fits.0, fits.1)
