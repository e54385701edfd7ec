-- An eye with one number more.
use Rattle.std.proofs.Common.{◌≡◌, ◌<◌, ◌≤◌, ◌+◌, ◌-◌, ◌/◌, ◌%◌, ◌*◌, ℕ, ℤ, pos, List, length, map, set, take, max, min, vec_len}
use Rattle.std.proofs.Common.{inl, inr, ap, ◌∙◌, sym, subst, arith}
use Rattle.std.proofs.Math.Nat.{mul-le-mul_right}
use Rattle.std.proofs.lemmas.Bool.{cases_lt}
use Rattle.std.proofs.lemmas.Grind.{div_ceil_times}
use Rattle.std.proofs.lemmas.List.{get_or-map, length-map, map-set}
use Rattle.std.proofs.lemmas.Nat.{div-add-mod', div-mul-add, mod-mul-add}
use Rattle.std.specs.Int.{div_ceil}
use Rattle.std.specs.List.{slice_index_or}
use Rattle.flow_measure.specs.Columns.{AreColumns, AreExtremes, AreEye, column_at, places_in}
use Rattle.flow_measure.specs.Extremes.{extremes_of, only}
use Rattle.flow_measure.specs.Stands.{DrawsEye, eye_column_of, eye_columns}
use Rattle.flow_measure.specs.declared.columns.Column.{Column}
use Rattle.flow_measure.specs.declared.columns.Extremes.{Extremes}
use Rattle.flow_measure.specs.declared.columns.eye.Eye.{Eye}
use Rattle.flow_measure.proofs.Drawn.{Widens, columns-more, columns-shown, within-more}
use Rattle.flow_measure.proofs.Widths.{ceil-room}

-- how many columns there are
pub columns-long : {N : Type 0} (value : N → ℤ) (e : Eye N) → length (eye_columns value e) ≡ vec_len e.columns
columns-long value e = omega (arith, length-map e.columns.items (extremes_of value), e.columns.ok.0)

-- what is read of one
pub column-read : {N : Type 0} (value : N → ℤ) (e : Eye N) (k : ℕ) (x : Column N) → k < vec_len e.columns
    → x ≡ slice_index_or e.columns.items k x → column_at (eye_columns value e) k ≡ extremes_of value x
column-read value e k x few read =
    get_or-map (extremes_of value) e.columns.items k x (only (pos 0)) (omega (arith, few, e.columns.ok.0)) ∙ ap (extremes_of value) (sym read)

-- the column of a place in the last group
column-is : (group width before place column seen : ℕ) → 1 ≤ group → before % group ≡ 0 → seen ≡ before + place → place < group
    → column * width ≤ place → place < column * width + width → (seen % group) / width ≡ column
column-is group width before place column seen some whole es few low high =
    let split : seen ≡ before / group * group + place = omega (arith, es, div-add-mod' before group, whole) in
    let here : seen % group ≡ place = ap (λ x. x % group) split ∙ mod-mul-add (before / group) group place few in
    let part : place ≡ column * width + (place - column * width) = omega (arith, low) in
    ap (λ x. x / width) (here ∙ part) ∙ div-mul-add column width (place - column * width) (omega (arith, low, high))

-- a column that isn't the last begins before the group ends
pub before-end : (group width opened : ℕ) → 1 ≤ width → opened < div_ceil group width → opened * width < group
before-end group width opened some few =
    let p : (opened + 1) * width ≤ div_ceil group width * width = mul-le-mul_right width (omega (arith, few)) in
    omega (arith, p, (div_ceil_times group width (omega (arith, some))).1)

-- they take the whole group
pub group-whole : (group width opened : ℕ) → 1 ≤ width → opened ≡ div_ceil group width → min (opened * width) group ≡ group
group-whole group width opened some all = omega (arith, ap (λ x. x * width) all, ceil-room group width some)

-- one group more
pub group-more : (before group seen : ℕ) → 1 ≤ group → before % group ≡ 0 → seen ≡ before + group → seen % group ≡ 0
group-more before group seen some whole es =
    let split : seen ≡ (before / group + 1) * group + 0 = omega (arith, es, div-add-mod' before group, whole) in
    ap (λ x. x % group) split ∙ mod-mul-add (before / group + 1) group 0 (omega (arith, some))

-- the column of the next number: that of the one before where it has room, else the next one
pub last-column : {N : Type 0} (e : Eye N) → 0 < e.room → (0 < e.opened) × (eye_column_of e e.seen ≡ e.opened - 1)
last-column e some =
    let more : 0 < e.opened = elim (cases_lt 0 e.opened) as (λ _. 0 < e.opened) [
      | inl more ↦ more
      | inr none ↦
          let p : e.opened * e.width ≡ 0 * e.width = ap (λ x. x * e.width) (omega (arith, none)) in
          absurd (omega (arith, e.room_few, some, p))
    ] in
    let q : e.opened * e.width ≡ (e.opened - 1) * e.width + e.width =
    let back : e.opened ≡ (e.opened - 1) + 1 = omega (arith, more) in omega (arith, ap (λ x. x * e.width) back) in
    let place = min (e.opened * e.width) e.group - e.room in (
      more,
      column-is e.group e.width e.before place (e.opened - 1) e.seen e.group_some e.whole (omega (arith, e.filled, e.room_few))
          (omega (arith, some, e.room_few)) (omega (arith, e.room_few)) (omega (arith, q, some, e.room_few)),
    )

pub next-column : {N : Type 0} (e : Eye N) → e.room ≡ 0 → e.opened < vec_len e.columns → eye_column_of e e.seen ≡ e.opened
next-column e none few =
    let early = before-end e.group e.width e.opened e.width_some (omega (arith, few, e.columns_are)) in
    column-is e.group e.width e.before (e.opened * e.width) e.opened e.seen e.group_some e.whole (omega (arith, e.filled, none, early)) early
    (omega arith) (omega (arith, e.width_some))

-- an eye of which one column has the next number, and no other one changes
pub eye-more : {N : Type 0} (value : N → ℤ) (b c : Eye N) (numbers : ℕ → ℤ) (k : ℕ) (e : Column N)
    → c.group ≡ b.group
    → c.width ≡ b.width
    → c.seen ≡ b.seen + 1
    → c.begun ≡ max b.begun (k + 1)
    → c.columns.items ≡ set b.columns.items k e
    → eye_column_of b b.seen ≡ k
    → k ≤ b.begun
    → k < vec_len b.columns
    → Widens b.begun k (numbers b.seen) (column_at (eye_columns value b) k) (extremes_of value e)
    → DrawsEye value b numbers
    → DrawsEye value c numbers
eye-more value b c numbers k e eg ew es eb ec here next inside w h =
    let changed : eye_columns value c ≡ set (eye_columns value b) k (extremes_of value e) =
    ap (map (extremes_of value)) ec ∙ map-set (extremes_of value) b.columns.items k e in
    let all = columns-more (eye_column_of b) numbers b.seen b.begun k (eye_columns value b) (extremes_of value e) here next
    (omega (arith, columns-long value b, inside)) h.within h.each w in
    let within = within-more (eye_column_of b) b.seen b.begun k here h.within in
    let same : (i : ℕ) → eye_column_of c i ≡ eye_column_of b i = λ i. ap (λ g. (i % g) / c.width) eg ∙ ap (λ u. (i % b.group) / u) ew in
    record {
      within = λ i few. omega (arith, within i (omega (arith, few, es)), same i, eb);
      each = λ j few.
          subst (λ n. AreExtremes numbers (places_in (eye_column_of c) n j) (column_at (eye_columns value c) j)) (sym es)
          (subst (λ g. AreExtremes numbers (places_in (λ i. (i % g) / c.width) (b.seen + 1) j) (column_at (eye_columns value c) j)) (sym eg)
          (subst (λ u. AreExtremes numbers (places_in (λ i. (i % b.group) / u) (b.seen + 1) j) (column_at (eye_columns value c) j)) (sym ew)
          (subst (λ l. AreExtremes numbers (places_in (eye_column_of b) (b.seen + 1) j) (column_at l j)) (sym changed)
          (all j (omega (arith, few, eb))))));
    }

-- the same columns, of the same numbers
pub eye-same : {N : Type 0} (value : N → ℤ) (b c : Eye N) (numbers : ℕ → ℤ)
    → c.group ≡ b.group
    → c.width ≡ b.width
    → c.seen ≡ b.seen
    → c.begun ≡ b.begun
    → c.columns.items ≡ b.columns.items
    → DrawsEye value b numbers
    → DrawsEye value c numbers
eye-same value b c numbers eg ew es eb ec h =
    let same : (i : ℕ) → eye_column_of c i ≡ eye_column_of b i = λ i. ap (λ g. (i % g) / c.width) eg ∙ ap (λ u. (i % b.group) / u) ew in
    record {
      within = λ i few. omega (arith, h.within i (omega (arith, few, es)), same i, eb);
      each = λ k few.
          subst (λ n. AreExtremes numbers (places_in (eye_column_of c) n k) (column_at (eye_columns value c) k)) (sym es)
          (subst (λ g. AreExtremes numbers (places_in (λ i. (i % g) / c.width) b.seen k) (column_at (eye_columns value c) k)) (sym eg)
          (subst (λ u. AreExtremes numbers (places_in (λ i. (i % b.group) / u) b.seen k) (column_at (eye_columns value c) k)) (sym ew)
          (subst (λ l. AreExtremes numbers (places_in (eye_column_of b) b.seen k) (column_at (map (extremes_of value) l) k)) (sym ec)
          (h.each k (omega (arith, few, eb))))));
    }

-- the eye of all numbers
pub eye-drawn : {N : Type 0} (value : N → ℤ) (e : Eye N) (numbers : ℕ → ℤ) → DrawsEye value e numbers
    → AreEye e.group e.most numbers e.seen (take e.begun (eye_columns value e))
eye-drawn value e numbers h =
    let most : e.begun ≤ length (eye_columns value e) =
    omega (arith, e.begun_most, e.columns.ok.0, length-map e.columns.items (extremes_of value)) in
    subst (λ w. AreColumns (λ i. (i % e.group) / w) numbers e.seen (take e.begun (eye_columns value e))) e.width_is
    (columns-shown (eye_column_of e) numbers e.seen e.begun (eye_columns value e) most h.within h.each)
