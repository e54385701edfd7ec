use Rattle.std.proofs.Common.{◌≡◌, ◌≤◌, ◌<◌, ◌+◌, ◌-◌, ◌*◌, ◌/◌, ℕ, set, ap, ◌∙◌, sym, subst, arith}
use Rattle.flow_measure.specs.Columns.{column_at, width_of}
use Rattle.flow_measure.specs.Extremes.{extremes_of, joined, only}
use Rattle.flow_measure.specs.Stands.{curve_columns}
use Rattle.flow_measure.proofs.Curved.{curve-doubled}
use Rattle.flow_measure.proofs.Widths.{room-doubled, width_of-full}
use Rattle.flow_measure.proofs.columns.curve.Curve.double.Goals as goal

-- the numbers in columns that are all full
full : (seen room begun most w : ℕ) → seen + room ≡ begun * w → room ≡ 0 → begun ≡ most → seen ≡ most * w
full seen room begun most w filled none all = omega (arith, filled, none, ap (λ x. x * w) all)

-- the room for the next one
room-is : (len most w width seen count : ℕ) → len ≡ most → width ≡ w → seen ≡ count → count ≡ most * w → 1 ≤ w
    → (seen + 1 ≤ (len / 2 + 1) * (width * 2)) × ((len / 2 + 1) * (width * 2) ≤ seen + width * 2)
room-is len most w width seen count el ew es ec some =
    let room = room-doubled most w some in
    let same : (len / 2 + 1) * (width * 2) ≡ (most / 2 + 1) * (w * 2) =
    ap (λ x. (x / 2 + 1) * (width * 2)) el ∙ ap (λ x. (most / 2 + 1) * (x * 2)) ew in
    (omega (arith, room.0, same, es, ec), omega (arith, room.1, same, es, ec, ew))

pub overflow_sub-self : goal.overflow_sub-self
overflow_sub-self g c =
    let s = c.args.self.now in
    let j = c.join.ensures in
    (room-is c.len-pairs.result s.most s.width c.join.new.self.width c.join.new.self.seen s.seen (omega (arith, c.len-pairs.ensures, s.columns_most))
    j.width j.seen (full s.seen s.room s.begun s.most s.width s.filled c.requires.full c.requires.none) s.width_some).0

pub invariant_of-self-clause-filled : goal.invariant_of-self-clause-filled
invariant_of-self-clause-filled g c =
    let s = c.args.self.now in
    let j = c.join.ensures in
    let room = room-is c.len-pairs.result s.most s.width c.join.new.self.width c.join.new.self.seen s.seen (omega (arith, c.len-pairs.ensures, s.columns_most))
    j.width j.seen (full s.seen s.room s.begun s.most s.width s.filled c.requires.full c.requires.none) s.width_some in
    omega (arith, room.0)

pub invariant_of-self-clause-room_few : goal.invariant_of-self-clause-room_few
invariant_of-self-clause-room_few g c =
    let s = c.args.self.now in
    let j = c.join.ensures in
    let room = room-is c.len-pairs.result s.most s.width c.join.new.self.width c.join.new.self.seen s.seen (omega (arith, c.len-pairs.ensures, s.columns_most))
    j.width j.seen (full s.seen s.room s.begun s.most s.width s.filled c.requires.full c.requires.none) s.width_some in
    omega (arith, room.0, room.1)

pub invariant_of-self-clause-width_is : goal.invariant_of-self-clause-width_is
invariant_of-self-clause-width_is g c =
    let s = c.args.self.now in
    let j = c.join.ensures in
    let twice = width_of-full s.seen s.most s.width s.most_some s.width_is
    (full s.seen s.room s.begun s.most s.width s.filled c.requires.full c.requires.none) in
    let same : width_of (c.join.new.self.seen + 1) c.join.new.self.most ≡ width_of (s.seen + 1) s.most =
    ap (λ x. width_of (x + 1) c.join.new.self.most) j.seen ∙ ap (width_of (s.seen + 1)) j.most in
    omega (arith, twice, same, j.width)

pub returns-clause-draws : goal.returns-clause-draws
returns-clause-draws g c = λ numbers h e.
    let s = c.args.self.now in
    let mid = c.join.new.self in
    let j = c.join.ensures in
    let value = g.N.Integer.value in
    let len : c.len-pairs.result ≡ s.most = omega (arith, c.len-pairs.ensures, s.columns_most) in
    let last : only (value c.args.number) ≡ only (numbers s.seen) = ap only (sym e) in
    let columns = curve_columns value s in
    let b = c.behind.ensures in
    let e_last = extremes_of value c.behind.result in
    let number = only (value c.args.number) in
    let odd : 2 * (s.most / 2) + 1 ≡ s.most → e_last ≡ joined (column_at (curve_columns value mid) (2 * (s.most / 2))) number =
    subst (λ m. 2 * (m / 2) + 1 ≡ m → e_last ≡ joined (column_at (curve_columns value mid) (2 * (m / 2))) number) j.most b.odd in
    let even : 2 * (s.most / 2) ≡ s.most → e_last ≡ number = subst (λ m. 2 * (m / 2) ≡ m → e_last ≡ number) j.most b.even in
    curve-doubled value s mid _ numbers c.behind.result
    (full s.seen s.room s.begun s.most s.width s.filled c.requires.full c.requires.none) c.requires.none j.most
    (omega (arith, j.width)) (omega (arith, j.seen)) (omega (arith, len)) (ap (λ m. set mid.columns.items (m / 2) c.behind.result) len)
    j.joined
    (λ one. odd one
    ∙ ap (λ x. joined x number) (j.alone (s.most / 2) one)
    ∙ ap (joined (column_at columns (2 * (s.most / 2)))) last)
    (λ one. even one ∙ last) h
