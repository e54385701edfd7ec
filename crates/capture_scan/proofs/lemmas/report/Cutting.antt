-- Texts that are cut at a byte: what stands before its first place, and after it.
use Rattle.std.proofs.Common.{◌≡◌, ◌≢◌, ◌∙◌, ℕ, zero, suc, ◌+◌, ◌<◌, Bool, true, false, ◌==◌, ◌&&◌, List, [], ◌∷◌, ◌++◌, length, get_or, refl, sym}
use Rattle.std.proofs.Common.{ap, arith, take, drop}
use Rattle.std.specs.Prelude.{not}
use Rattle.std.specs.List.{list_all, slice_split, position_or_len}
use Rattle.std.proofs.lemmas.List.{take_at, drop_at, take_all, append_assoc, get_or_append_left, get_or_at, length_push}
use Rattle.std.proofs.lemmas.List.Sums.{position_or_len_is}
use Rattle.std.proofs.lemmas.Bool.Decides.{nat_tests}
use Rattle.std.proofs.lemmas.Grind.{common_steps}
use Rattle.sdp_reader.specs.Bytes.{after, before, holds}

pub both_true : (a b : Bool) → (a && b) ≡ true → (a ≡ true) × (b ≡ true)
both_true true b h = (refl, h)
both_true false b h = cc

pub and_true : (a b : Bool) → a ≡ true → b ≡ true → (a && b) ≡ true
and_true a b h k = rw (h, k) refl

-- a text of which each byte passes, after another one
pub all-append : (p : ℕ → Bool) (xs ys : List ℕ) → list_all p xs ≡ true → list_all p ys ≡ true → list_all p (xs ++ ys) ≡ true
all-append p [] ys h k = k
all-append p (x ∷ xs) ys h k =
    let b = both_true (p x) (list_all p xs) h in
    and_true (p x) (list_all p (xs ++ ys)) b.0 (all-append p xs ys b.1 k)

-- no byte of the text is c
abbrev pub lacks : ℕ → List ℕ → Bool
lacks c xs = list_all (λ x. not (x == c)) xs

abbrev Lacks : ℕ → List ℕ → Type 0
Lacks c xs = (i : ℕ) → i < length xs → get_or xs i 0 ≢ c

differs : (x c : ℕ) → not (x == c) ≡ true → x ≢ c
differs x c h = grind (arith, nat_tests)

at_each : (c : ℕ) (xs : List ℕ) → lacks c xs ≡ true → Lacks c xs
at_each c [] h i lt = absurd (omega arith)
at_each c (x ∷ xs) h zero lt = differs x c (both_true (not (x == c)) (lacks c xs) h).0
at_each c (x ∷ xs) h (suc i) lt = at_each c xs (both_true (not (x == c)) (lacks c xs) h).1 i (omega arith)

same_test : (c : ℕ) → (c == c) ≡ true
same_test c = grind (arith, nat_tests)

position-lacks : (c : ℕ) (xs : List ℕ) → Lacks c xs → position_or_len (λ x. x == c) xs ≡ length xs
position-lacks c xs h =
    position_or_len_is (λ x. x == c) xs (length xs) 0 (omega arith) (λ k lt. let ne = h k lt in grind (arith, nat_tests)) (λ lt. absurd (omega arith))

position-at : (c : ℕ) (xs ys : List ℕ) → Lacks c xs → position_or_len (λ x. x == c) (xs ++ c ∷ ys) ≡ length xs
position-at c xs ys h =
    position_or_len_is (λ x. x == c) (xs ++ c ∷ ys) (length xs) 0 (grind (arith, common_steps))
    (λ k lt. let ne = h k lt in rw get_or_append_left (grind (arith, nat_tests))) (λ _. rw (get_or_at xs c ys 0 (length xs) refl) (same_test c))

pub before-lacks : (c : ℕ) (xs : List ℕ) → lacks c xs ≡ true → before c xs ≡ xs
before-lacks c xs h = ap (λ n. take n xs) (position-lacks c xs (at_each c xs h)) ∙ take_all (length xs) xs (omega arith)

pub before-at : (c : ℕ) (xs ys : List ℕ) → lacks c xs ≡ true → before c (xs ++ c ∷ ys) ≡ xs
before-at c xs ys h = ap (λ n. take n (xs ++ c ∷ ys)) (position-at c xs ys (at_each c xs h)) ∙ take_at xs (c ∷ ys) (length xs) refl

pub after-at : (c : ℕ) (xs ys : List ℕ) → lacks c xs ≡ true → after c (xs ++ c ∷ ys) ≡ ys
after-at c xs ys h =
    ap (λ n. drop (n + 1) (xs ++ c ∷ ys)) (position-at c xs ys (at_each c xs h))
    ∙ ap (drop (length xs + 1)) (sym (append_assoc xs (c ∷ []) ys)) ∙ drop_at (xs ++ c ∷ []) ys (length xs + 1) (length_push xs c)

pub holds-at : (c : ℕ) (xs ys : List ℕ) → lacks c xs ≡ true → holds c (xs ++ c ∷ ys) ≡ true
holds-at c xs ys h = let e = position-at c xs ys (at_each c xs h) in grind (arith, common_steps)

pub holds-lacks : (c : ℕ) (xs : List ℕ) → lacks c xs ≡ true → holds c xs ≡ false
holds-lacks c xs h = let e = position-lacks c xs (at_each c xs h) in grind (arith, common_steps)

not_true : (b : Bool) → not b ≡ true → b ≡ false
not_true true h = cc
not_true false h = refl

pub split-lacks : (c : ℕ) (xs : List ℕ) → lacks c xs ≡ true → slice_split (λ x. x == c) xs ≡ xs ∷ []
split-lacks c [] h = refl
split-lacks c (x ∷ xs) h =
    let b = both_true (not (x == c)) (lacks c xs) h in
    rw (not_true (x == c) b.0, split-lacks c xs b.1) refl

pub split-at : (c : ℕ) (xs ys : List ℕ) → lacks c xs ≡ true → slice_split (λ x. x == c) (xs ++ c ∷ ys) ≡ xs ∷ slice_split (λ x. x == c) ys
split-at c [] ys h = rw (same_test c) refl
split-at c (x ∷ xs) ys h =
    let b = both_true (not (x == c)) (lacks c xs) h in
    rw (not_true (x == c) b.0, split-at c xs ys b.1) refl
