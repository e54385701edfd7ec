-- Trimming byte by byte.
use Rattle.std.proofs.Common.{◌≡◌, ◌≤◌, ◌<◌, ◌+◌, ◌-◌, ℕ, List, [], ◌∷◌, ◌++◌, length, take, false, true, cond, arith, get_or, sym, ap, ◌∙◌, refl}
use Rattle.std.proofs.lemmas.Grind.{common_steps}
use Rattle.sdp_reader.specs.Bytes.{is_blank, trim_end, onto_trimmed}

trim_end-push_blank : (xs : List ℕ) (b : ℕ) → is_blank b ≡ true → trim_end (xs ++ b ∷ []) ≡ trim_end xs
trim_end-push_blank [] b h = ap (λ t. cond t [] (b ∷ [])) h
trim_end-push_blank (x ∷ xs) b h = ap (onto_trimmed x) (trim_end-push_blank xs b h)

onto_trimmed-push : (x : ℕ) (xs : List ℕ) (b : ℕ) → onto_trimmed x (xs ++ b ∷ []) ≡ x ∷ (xs ++ b ∷ [])
onto_trimmed-push x [] b = refl
onto_trimmed-push x (y ∷ ys) b = refl

trim_end-push_other : (xs : List ℕ) (b : ℕ) → is_blank b ≡ false → trim_end (xs ++ b ∷ []) ≡ xs ++ b ∷ []
trim_end-push_other [] b h = ap (λ t. cond t [] (b ∷ [])) h
trim_end-push_other (x ∷ xs) b h = ap (onto_trimmed x) (trim_end-push_other xs b h) ∙ onto_trimmed-push x xs b

pub last_of : (xs : List ℕ) (n : ℕ) → 0 < n → n ≤ length xs → take n xs ≡ take (n - 1) xs ++ get_or xs (n - 1) 0 ∷ []
last_of xs n p h = let e : n - 1 + 1 ≡ n = omega arith in let l : n - 1 < length xs = omega arith in ap (λ m. take m xs) (sym e) ∙ grind (arith, common_steps)

-- a blank at the end of a front is dropped
pub trim_end-blank : (xs : List ℕ) (n : ℕ) → 0 < n → n ≤ length xs → is_blank (get_or xs (n - 1) 0) ≡ true → trim_end (take n xs) ≡ trim_end (take (n - 1) xs)
trim_end-blank xs n p h b = ap trim_end (last_of xs n p h) ∙ trim_end-push_blank (take (n - 1) xs) (get_or xs (n - 1) 0) b

-- a front that ends with another byte stays
pub trim_end-other : (xs : List ℕ) (n : ℕ) → 0 < n → n ≤ length xs → is_blank (get_or xs (n - 1) 0) ≡ false → trim_end (take n xs) ≡ take n xs
trim_end-other xs n p h b = ap trim_end (last_of xs n p h) ∙ trim_end-push_other (take (n - 1) xs) (get_or xs (n - 1) 0) b ∙ sym (last_of xs n p h)
