-- Fronts of a text that grow.
use Rattle.std.proofs.Common.{◌≡◌, ◌+◌, ◌-◌, ◌≤◌, ◌++◌, List, ℕ, length, take, drop, sym, ap, ◌∙◌, arith, subst, length-drop}
use Rattle.std.proofs.lemmas.List.{drop-take, drop-drop, take-append-drop, length-take}
use Rattle.std.proofs.Math.Seq.{take-append_seam}
use Rattle.std.proofs.lemmas.Grind.{common_steps}
use Rattle.std.specs.Prelude.{Option}
use Rattle.std.specs.Io.KnownBytes.{Appends}
use Rattle.std.proofs.KnownBytes.{Appends-trans}

-- of two takes the shorter counts
pub take_shorter : (m n : ℕ) (xs : List ℕ) → m ≤ n → take m (take n xs) ≡ take m xs
take_shorter m n xs h = grind (arith, common_steps)

-- the next n elements stand behind the first m
pub take-more : (m n : ℕ) (xs : List ℕ) → take (m + n) xs ≡ take m xs ++ take n (drop m xs)
take-more m n xs =
    sym (ap (λ l. l ++ drop m (take (m + n) xs)) (sym (take_shorter m (m + n) xs (omega arith))) ∙ take-append-drop m (take (m + n) xs))
    ∙ ap (λ l. take m xs ++ l) (drop-take m n xs)

-- a front that was appended, and then the next piece of the same text
pub appends_next : (a b c : Option (List ℕ)) (m n : ℕ) (xs : List ℕ) → n ≤ length xs - m
    → Appends a b (take m xs) → Appends b c (take n (take (length xs - m) (drop m xs))) → Appends a c (take (m + n) xs)
appends_next a b c m n xs h p q =
    subst (Appends a c) (sym (take-more m n xs))
    (Appends-trans a b c _ _ p (subst (Appends b c) (take_shorter n (length xs - m) (drop m xs) h) q))

-- a piece of a text that was copied to the front of a buffer, and what is left of the text
pub piece_copied : (text copy rest : List ℕ) (at n : ℕ) → copy ≡ take ((at + n) - at) (drop at text) → at + n ≤ length text
    → drop at text ≡ take n (copy ++ rest) ++ drop (at + n) text
piece_copied t copy rest at n h k =
    let e : (at + n) - at ≡ n = omega arith in
    let c : copy ≡ take n (drop at t) = h ∙ ap (λ j. take j (drop at t)) e in
    let long : length copy ≡ n = ap length c ∙ omega (arith, length-take n (drop at t), length-drop at t) in
    let front : take n (copy ++ rest) ≡ copy = ap (λ j. take j (copy ++ rest)) (sym long) ∙ take-append_seam copy rest in
    sym (ap (λ l. l ++ drop (at + n) t) (front ∙ c) ∙ ap (λ l. take n (drop at t) ++ l) (sym (drop-drop n at t)) ∙ take-append-drop n (drop at t))
