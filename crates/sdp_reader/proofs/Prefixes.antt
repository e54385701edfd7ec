-- Stripping a prefix byte by byte.
use Rattle.std.proofs.Common.{◌≡◌, ◌<◌, ℕ, List, [], ◌∷◌, length, drop, None, arith, refl, length-drop}
use Rattle.sdp_reader.specs.Bytes.{after_prefix}

too_short : (ps xs : List ℕ) → 0 < length ps → length xs < 1 → after_prefix ps xs ≡ None
too_short [] xs h e = absurd (omega arith)
too_short (p ∷ ps) [] h e = refl
too_short (p ∷ ps) (x ∷ xs) h e = absurd (omega arith)

-- a text that ends before the prefix does
pub after_prefix-short : (ps xs : List ℕ) (i : ℕ) → i < length ps → length xs < 1 → after_prefix (drop i ps) xs ≡ None
after_prefix-short ps xs i h e = too_short (drop i ps) xs (omega (arith, length-drop i ps)) e
