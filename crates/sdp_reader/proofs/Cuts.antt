-- The first place of a byte, by a search, and what it cuts.
use Rattle.std.proofs.Common.{Bool, ◌≡◌, ◌<◌, ◌==◌, ◌+◌, ◌-◌, ℕ, List, [], ◌∷◌, length, take, drop, false, true, Some, None, arith, sym, ap, ◌∙◌, take_all}
use Rattle.std.specs.List.{position_or_len, slice_split}
use Rattle.std.proofs.lemmas.List.Sums.{position_or_len_is}
use Rattle.std.proofs.lemmas.List.Splits.{slice_split_first, slice_split_none}
use Rattle.std.proofs.lemmas.List.Elements.{All-from_get_or}
use Rattle.std.proofs.lemmas.List.{drop_all, take_rest}
use Rattle.std.proofs.lemmas.Grind.{common_steps}
use Rattle.memchr.specs.Find.{IsFirstByte, is_byte}
use Rattle.sdp_reader.specs.Bytes.{before, after, holds}

not_true : (b : Bool) → (b ≡ true → ⊥) → b ≡ false
not_true b h = grind arith

found_at : (c : ℕ) (xs : List ℕ) (k : ℕ) → IsFirstByte (is_byte c) xs (Some k) → position_or_len (λ x. x == c) xs ≡ k
found_at c xs k h = position_or_len_is (λ x. x == c) xs k 0 (omega (arith, h.0.high)) (λ j m. not_true _ (h.0.before j (omega arith) m)) (λ _. h.1)

found_nowhere : (c : ℕ) (xs : List ℕ) → IsFirstByte (is_byte c) xs None → position_or_len (λ x. x == c) xs ≡ length xs
found_nowhere c xs h =
    position_or_len_is (λ x. x == c) xs (length xs) 0 (omega arith) (λ j m. not_true _ (h j (omega arith) m)) (λ m. absurd (omega (arith, m)))

-- where the byte is found at k
pub holds_at : (c : ℕ) (xs : List ℕ) (k : ℕ) → IsFirstByte (is_byte c) xs (Some k) → holds c xs ≡ true
holds_at c xs k h = let e = found_at c xs k h in let l : k < length xs = h.0.high in grind (arith, common_steps)

pub before_at : (c : ℕ) (xs : List ℕ) (k : ℕ) → IsFirstByte (is_byte c) xs (Some k) → take k xs ≡ before c xs
before_at c xs k h = ap (λ n. take n xs) (sym (found_at c xs k h))

pub after_at : (c : ℕ) (xs : List ℕ) (k : ℕ) → IsFirstByte (is_byte c) xs (Some k) → take (length xs - (k + 1)) (drop (k + 1) xs) ≡ after c xs
after_at c xs k h = take_rest xs (k + 1) ∙ ap (λ n. drop (n + 1) xs) (sym (found_at c xs k h))

pub pieces_at : (c : ℕ) (xs : List ℕ) (k : ℕ) → IsFirstByte (is_byte c) xs (Some k)
    → slice_split (λ x. x == c) xs ≡ take k xs ∷ slice_split (λ x. x == c) (take (length xs - (k + 1)) (drop (k + 1) xs))
pieces_at c xs k h =
    let e = found_at c xs k h in
    let l : k < length xs = h.0.high in
    slice_split_first (λ x. x == c) xs 0 (omega arith)
    ∙ ap (λ p. p ∷ slice_split (λ x. x == c) (after c xs)) (sym (before_at c xs k h))
    ∙ ap (λ p. take k xs ∷ slice_split (λ x. x == c) p) (sym (after_at c xs k h))

-- where it is found nowhere
pub holds_none : (c : ℕ) (xs : List ℕ) → IsFirstByte (is_byte c) xs None → holds c xs ≡ false
holds_none c xs h = let e = found_nowhere c xs h in grind (arith, common_steps)

pub before_none : (c : ℕ) (xs : List ℕ) → IsFirstByte (is_byte c) xs None → before c xs ≡ xs
before_none c xs h = ap (λ n. take n xs) (found_nowhere c xs h) ∙ take_all (length xs) xs (omega arith)

pub after_none : (c : ℕ) (xs : List ℕ) → IsFirstByte (is_byte c) xs None → after c xs ≡ []
after_none c xs h = ap (λ n. drop (n + 1) xs) (found_nowhere c xs h) ∙ drop_all (length xs + 1) xs (omega arith)

pub pieces_none : (c : ℕ) (xs : List ℕ) → IsFirstByte (is_byte c) xs None → slice_split (λ x. x == c) xs ≡ xs ∷ []
pieces_none c xs h = slice_split_none (λ x. x == c) xs (All-from_get_or (λ x. (x == c) ≡ false) xs 0 (λ i l. not_true _ (h i (omega arith) l)))
