-- Cutting lines off the front of a text, one by one.
use Rattle.std.proofs.Common.{◌≡◌, ◌≢◌, ◌<◌, ◌==◌, ◌+◌, ◌-◌, ℕ, false, cond, List, [], ◌∷◌, ◌++◌, length, take, get_or, arith, refl, sym, ap, ◌∙◌, append_assoc}
use Rattle.std.proofs.Common.{take_all}
use Rattle.std.specs.List.{slice_split}
use Rattle.std.proofs.lemmas.List.Splits.{length-slice_split}
use Rattle.std.proofs.lemmas.Grind.{common_steps}
use Rattle.sdp_reader.specs.Bytes.{trim_end}
use Rattle.sdp_reader.specs.Lines.{TextLine, numbered, without_cr}
use Rattle.sdp_reader.proofs.Trims.{last_of}

without_cr-push_cr : (xs : List ℕ) → without_cr (xs ++ 13 ∷ []) ≡ xs
without_cr-push_cr [] = refl
without_cr-push_cr (x ∷ []) = refl
without_cr-push_cr (x ∷ y ∷ xs) = ap (λ l. x ∷ l) (without_cr-push_cr (y ∷ xs))

without_cr-push_other : (xs : List ℕ) (b : ℕ) → (b == 13) ≡ false → without_cr (xs ++ b ∷ []) ≡ xs ++ b ∷ []
without_cr-push_other [] b h = ap (λ t. cond t [] (b ∷ [])) h
without_cr-push_other (x ∷ []) b h = ap (λ t. x ∷ cond t [] (b ∷ [])) h
without_cr-push_other (x ∷ y ∷ xs) b h = ap (λ l. x ∷ l) (without_cr-push_other (y ∷ xs) b h)

all_but_last : (xs : List ℕ) → 0 < length xs → xs ≡ take (length xs - 1) xs ++ get_or xs (length xs - 1) 0 ∷ []
all_but_last xs h = sym (take_all (length xs) xs (omega arith)) ∙ last_of xs (length xs) h (omega arith)

pub without_cr-cr : (xs : List ℕ) → 0 < length xs → get_or xs (length xs - 1) 0 ≡ 13 → take (length xs - 1) xs ≡ without_cr xs
without_cr-cr xs h e =
    sym (ap without_cr (all_but_last xs h ∙ ap (λ b. take (length xs - 1) xs ++ b ∷ []) e) ∙ without_cr-push_cr (take (length xs - 1) xs))

pub without_cr-other : (xs : List ℕ) → 0 < length xs → get_or xs (length xs - 1) 0 ≢ 13 → xs ≡ without_cr xs
without_cr-other xs h e =
    let b : (get_or xs (length xs - 1) 0 == 13) ≡ false = grind (arith, common_steps) in
    all_but_last xs h ∙ sym (without_cr-push_other (take (length xs - 1) xs) (get_or xs (length xs - 1) 0) b) ∙ sym (ap without_cr (all_but_last xs h))

pub without_cr-empty : (xs : List ℕ) → length xs ≡ 0 → xs ≡ without_cr xs
without_cr-empty [] h = refl
without_cr-empty (x ∷ xs) h = absurd (omega arith)

more : (n : ℕ) (piece : List ℕ) (ps : List (List ℕ)) → 0 < length ps
    → numbered n (piece ∷ ps) ≡ record { number = n; text = trim_end (without_cr piece) } ∷ numbered (n + 1) ps
more n piece [] h = absurd (omega arith)
more n piece (p ∷ ps) h = refl

-- a line that a LF ends is taken off
pub numbered-line : (done : List TextLine) (n : ℕ) (xs piece after : List ℕ)
    → slice_split (λ x. x == 10) xs ≡ piece ∷ slice_split (λ x. x == 10) after
    → (done ++ record { number = n; text = trim_end (without_cr piece) } ∷ []) ++ numbered (n + 1) (slice_split (λ x. x == 10) after)
    ≡ done ++ numbered n (slice_split (λ x. x == 10) xs)
numbered-line done n xs piece after h =
    let some : 0 < length (slice_split (λ x. x == 10) after) = omega (arith, length-slice_split (λ x. x == 10) after) in
    append_assoc done (record { number = n; text = trim_end (without_cr piece) } ∷ []) (numbered (n + 1) (slice_split (λ x. x == 10) after))
    ∙ ap (λ l. done ++ l) (sym (ap (numbered n) h ∙ more n piece (slice_split (λ x. x == 10) after) some))
