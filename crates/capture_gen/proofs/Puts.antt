-- Texts that are written piece by piece.
use Rattle.std.proofs.Common.{◌+◌, ◌<◌, ℕ, List, ◌++◌, take, length, sym, arith, subst, length-append, Ok, Err}
use Rattle.std.specs.Result.{IsErr}
use Rattle.std.specs.Prelude.{Option, Result}
use Rattle.std.specs.List.{flat_map, range_with_len}
use Rattle.std.specs.Io.KnownBytes.{Appends}
use Rattle.std.proofs.KnownBytes.{Appends-trans}
use Rattle.std.proofs.lemmas.List.{take-append-le}
use Rattle.std.proofs.Math.Seq.{take-append-add}
use Rattle.timing_outside.specs.Written.{AppendsFront, PutsAll}
use Rattle.capture_gen.proofs.Lists.{flat_map-range_more, flat_map-range_cut}

-- a front of a text is one of any longer text
pub front_longer : (a b : Option (List ℕ)) (xs ys : List ℕ) → AppendsFront a b xs → AppendsFront a b (xs ++ ys)
front_longer a b xs ys p =
    (p.0, omega (arith, p.1, length-append xs ys), subst (Appends a b) (sym (take-append-le p.0 xs ys (omega (arith, p.1)))) p.2)

-- a whole piece, and then a front of the next one
pub front_after : (a b c : Option (List ℕ)) (xs ys : List ℕ) → Appends a b xs → AppendsFront b c ys → AppendsFront a c (xs ++ ys)
front_after a b c xs ys p q = (
  length xs + q.0,
  omega (arith, q.1, length-append xs ys),
  subst (Appends a c) (sym (take-append-add xs ys q.0))
      (Appends-trans a b c xs (take q.0 ys) p q.2),
)

-- a whole piece, and then what comes of the next one
pub puts_after : {T E : Type 0} (a b c : Option (List ℕ)) (xs ys : List ℕ) (r : Result T E)
    → Appends a b xs → PutsAll b c r ys → PutsAll a c r (xs ++ ys)
puts_after a b c xs ys (Ok x) p q = Appends-trans a b c xs ys p q
puts_after a b c xs ys (Err e) p q = front_after a b c xs ys p q

-- after an `Err`
pub puts_err : {T E : Type 0} (a b : Option (List ℕ)) (r : Result T E) (xs : List ℕ) → IsErr r → AppendsFront a b xs → PutsAll a b r xs
puts_err a b (Ok x) xs h p = cc
puts_err a b (Err e) xs h p = p

-- one piece more
pub appends_more : (a b c : Option (List ℕ)) (f : ℕ → List ℕ) (k : ℕ)
    → Appends a b (flat_map f (range_with_len 0 k)) → Appends b c (f k) → Appends a c (flat_map f (range_with_len 0 (k + 1)))
appends_more a b c f k p q = subst (Appends a c) (sym (flat_map-range_more f k)) (Appends-trans a b c _ _ p q)

-- k of n pieces, and a front of the next one
pub front_of_pieces : (a b c : Option (List ℕ)) (f : ℕ → List ℕ) (k n : ℕ) → k < n
    → Appends a b (flat_map f (range_with_len 0 k)) → AppendsFront b c (f k) → AppendsFront a c (flat_map f (range_with_len 0 n))
front_of_pieces a b c f k n h p q =
    let now = flat_map f (range_with_len 0 (k + 1)) in
    let more : AppendsFront a c now = subst (AppendsFront a c) (sym (flat_map-range_more f k)) (front_after a b c _ _ p q) in
    subst (AppendsFront a c) (sym (flat_map-range_cut f (k + 1) n (omega arith))) (front_longer a c now _ more)
