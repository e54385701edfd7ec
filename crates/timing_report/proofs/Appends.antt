-- Pieces that were added to a text, one after another.
use Rattle.std.proofs.Common.{◌≡◌, ℕ, List, [], ◌++◌, sym, ap, ◌∙◌, append_assoc, append-nil}
use Rattle.std.specs.Prelude.{Result, Ok, Err, IfOk}

-- two pieces
pub two : (old a b mid new : List ℕ) → mid ≡ old ++ a → new ≡ mid ++ b → new ≡ old ++ (a ++ b)
two old a b mid new e f = f ∙ ap (λ s. s ++ b) e ∙ append_assoc old a b

-- the second, where it was added
pub two_ok : {V E : Type 0} (r : Result V E) (old a b mid new : List ℕ) → mid ≡ old ++ a → IfOk r (λ _. new ≡ mid ++ b)
    → IfOk r (λ _. new ≡ old ++ (a ++ b))
two_ok (Ok v) old a b mid new e f = two old a b mid new e f
two_ok (Err x) old a b mid new e f = tt

-- three pieces, and nothing after them
pub three_ok : {V E : Type 0} (r : Result V E) (old a b c first second new : List ℕ) → first ≡ old ++ a → second ≡ first ++ b
    → IfOk r (λ _. new ≡ second ++ c) → IfOk r (λ _. new ≡ old ++ (a ++ (b ++ (c ++ []))))
three_ok (Ok v) old a b c first second new e f g =
    two old a (b ++ (c ++ [])) first new e (two first b (c ++ []) second new f (g ∙ ap (λ s. second ++ s) (sym (append-nil c))))
three_ok (Err x) old a b c first second new e f g = tt

-- a line, its end, and what stands below it
pub line_ok : {V E : Type 0} (r : Result V E) (old line end below first second new : List ℕ) → first ≡ old ++ line → second ≡ first ++ end
    → IfOk r (λ _. new ≡ second ++ below) → IfOk r (λ _. new ≡ old ++ ((line ++ end) ++ below))
line_ok (Ok v) old line end below first second new e f g = two old (line ++ end) below second new (two old line end first second e f) g
line_ok (Err x) old line end below first second new e f g = tt

-- the front of a line, the rest of it, and what stands below it
pub front_ok : {V E : Type 0} (r : Result V E) (old front rest end below first new : List ℕ) → first ≡ old ++ front
    → IfOk r (λ _. new ≡ first ++ ((rest ++ end) ++ below)) → IfOk r (λ _. new ≡ old ++ (((front ++ rest) ++ end) ++ below))
front_ok (Ok v) old front rest end below first new e f =
    two old front ((rest ++ end) ++ below) first new e f
    ∙ ap (λ s. old ++ s) (sym (append_assoc front (rest ++ end) below) ∙ ap (λ s. s ++ below) (sym (append_assoc front rest end)))
front_ok (Err x) old front rest end below first new e f = tt

-- one piece more, in a text that has a known whole with the pieces that are to come
pub one_more : (text more new rest whole : List ℕ) → new ≡ text ++ more → text ++ (more ++ rest) ≡ whole → new ++ rest ≡ whole
one_more text more new rest whole e f = ap (λ s. s ++ rest) e ∙ append_assoc text more rest ∙ f
