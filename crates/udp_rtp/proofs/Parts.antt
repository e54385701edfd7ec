-- The parts of four bytes that are read as one number.
use Rattle.std.proofs.Common.{◌≡◌, ◌<◌, ◌+◌, ◌*◌, ◌/◌, ◌%◌, ◌^◌, ℕ, Bool, true, false, List, slice_index, arith, ap, refl, sym, ◌∙◌}
use Rattle.std.specs.Prelude.{◌==◌, ◌&&◌}
use Rattle.std.proofs.lemmas.Bool.Decides.{nat_tests}
use Rattle.std.proofs.lemmas.List.{get_or-drop}
use Rattle.udp_rtp.specs.Numbers.{number16, number32}

tested-not : (a b : ℕ) → (a ≡ b → ⊥) → (a == b) ≡ false
tested-not a b h = grind (arith, nat_tests)

-- a number of two bytes, and of four
pub two-at : (frame : List ℕ) (p : ℕ) → number16 frame p ≡ slice_index frame (p + 0) * 256 + slice_index frame (p + 1)
two-at frame p = omega (arith, get_or-drop p frame 0 0, get_or-drop p frame 1 0)

pub four-at : (frame : List ℕ) (p : ℕ)
    → number32 frame p ≡ slice_index frame (p + 0) * 2 ^ 24 + slice_index frame (p + 1) * 2 ^ 16 + slice_index frame (p + 2) * 2 ^ 8 + slice_index frame (p + 3)
four-at frame p = omega (arith, get_or-drop p frame 0 0, get_or-drop p frame 1 0, get_or-drop p frame 2 0, get_or-drop p frame 3 0)

-- the first two of the four bytes from 20 on, and the last one
pub first-two : (frame : List ℕ) → slice_index frame 22 < 2 ^ 8 → slice_index frame 23 < 2 ^ 8 → number32 frame 20 / 65536 ≡ number16 frame 20
first-two frame third last = omega (arith, two-at frame 20, four-at frame 20, third, last)

pub last-one : (frame : List ℕ) → slice_index frame 23 < 2 ^ 8 → number32 frame 20 % 256 ≡ slice_index frame 23
last-one frame last = omega (arith, four-at frame 20, last)

-- both of them tested in that number: where the first test holds the second one decides, and else it decides
pub second-decides : (frame : List ℕ) (four : ℕ) → slice_index frame 22 < 2 ^ 8 → slice_index frame 23 < 2 ^ 8 → four ≡ number32 frame 20
    → four / 65536 % 16384 ≡ 0 → (four % 256 == 17) ≡ ((number16 frame 20 % 2 ^ 14 == 0) && (slice_index frame 23 == 17))
second-decides frame four third last e none =
    let one : number16 frame 20 % 2 ^ 14 ≡ 0 = omega (arith, first-two frame third last, e, none) in
    let two : four % 256 ≡ slice_index frame 23 = ap (λ x. x % 256) e ∙ last-one frame last in
    rw (one, two) refl

pub first-fails : (frame : List ℕ) (four : ℕ) → slice_index frame 22 < 2 ^ 8 → slice_index frame 23 < 2 ^ 8 → four ≡ number32 frame 20
    → (four / 65536 % 16384 ≡ 0 → ⊥) → (four / 65536 % 16384 == 0) ≡ ((number16 frame 20 % 2 ^ 14 == 0) && (slice_index frame 23 == 17))
first-fails frame four third last e some =
    let one : four / 65536 ≡ number16 frame 20 = ap (λ x. x / 65536) e ∙ first-two frame third last in
    let no : (number16 frame 20 % 2 ^ 14 == 0) ≡ false = tested-not _ _ (λ none. some (ap (λ x. x % 16384) one ∙ none)) in
    rw (one, no) refl

pub tested : (a b : ℕ) → a ≡ b → (a == b) ≡ true
tested a b h = grind (arith, nat_tests)

pub equal : (a b : ℕ) → (a == b) ≡ true → a ≡ b
equal a b h = grind (arith, nat_tests)

pub both-true : (a b : Bool) → a ≡ true → b ≡ true → (a && b) ≡ true
both-true true b e f = f
both-true false b e f = cc

-- two tests that hold together are one
pub same-test : (a b : Bool) → (a ≡ true → b ≡ true) → (b ≡ true → a ≡ true) → a ≡ b
same-test true b there back = sym (there refl)
same-test false true there back = back refl
same-test false false there back = refl
