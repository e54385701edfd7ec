-- Lemmas on the part of a buffer that is held.
use Rattle.std.proofs.Common.{subst, ◌≡◌, ◌≤◌, ◌+◌, ◌-◌, ℕ, List, ◌++◌, length, take, drop, None, Some, sym, ap, ◌∙◌, arith, append_assoc, length-drop}
use Rattle.std.proofs.lemmas.List.{drop-take, drop-drop, drop-append-le, take-append-le, length-take, length-take-le, nil_from_length}
use Rattle.std.proofs.lemmas.List.Edits.{take-paste}
use Rattle.std.proofs.Math.Seq.{take-append-add}
use Rattle.std.proofs.lemmas.Grind.{common_steps}
use Rattle.std.specs.List.{copy_within}
use Rattle.std.specs.Prelude.{Option}
use Rattle.std.specs.Io.KnownBytes.{Consumes, Keeps, prepend_known}

-- what is held after the first c bytes are let go
pub held-after_skip : (f s c : ℕ) (xs : List ℕ) → s + c ≤ f → take (f - (s + c)) (drop (s + c) xs) ≡ drop c (take (f - s) (drop s xs))
held-after_skip f s c xs h =
    let e : c + (f - (s + c)) ≡ f - s = omega arith in
    sym (ap (λ k. drop c (take k (drop s xs))) (sym e) ∙ drop-take c (f - (s + c)) (drop s xs) ∙ ap (take (f - (s + c))) (drop-drop c s xs))

-- what is held after it was moved down to p
pub held-moved : (f s p : ℕ) (xs ys : List ℕ) → s ≤ f → f ≤ length xs → p ≤ s → ys ≡ copy_within xs s f p
    → take ((p + (f - s)) - p) (drop p ys) ≡ take (f - s) (drop s xs)
held-moved f s p xs ys h m l e =
    let n = f - s in
    let bare : (p + n) - p ≡ n = omega arith in
    let long : length (take p xs) ≡ p = length-take-le p xs (omega arith) in
    let front : take (p + n) ys ≡ take p xs ++ take n (drop s xs) =
    ap (take (p + n)) e ∙ take-paste xs p (drop s xs) n (omega arith) (omega (arith, length-drop s xs)) in
    ap (λ k. take k (drop p ys)) bare ∙ sym (drop-take p n ys) ∙ ap (drop p) front
    ∙ drop-append-le p (take p xs) (take n (drop s xs)) (omega (arith, long))
    ∙ ap (λ x. x ++ take n (drop s xs)) (nil_from_length (drop p (take p xs)) (omega (arith, length-drop p (take p xs), long)))

-- of two takes the shorter counts
pub take-take_shorter : (c n : ℕ) (xs : List ℕ) → c ≤ n → take c (take n xs) ≡ take c xs
take-take_shorter c n xs h = grind (arith, common_steps)

-- the last n bytes of a record that was let go
pub behind-after_record : (f s n : ℕ) (xs : List ℕ) → s + (16 + n) ≤ f → take n (drop ((s + (16 + n)) - n) xs) ≡ take n (drop 16 (take (f - s) (drop s xs)))
behind-after_record f s n xs h =
    let k = (f - s) - 16 in
    let e : 16 + k ≡ f - s = omega arith in
    let i : s + 16 ≡ (s + (16 + n)) - n = omega arith in
    let cut : drop 16 (take (f - s) (drop s xs)) ≡ take k (drop (s + 16) xs) =
    ap (λ j. drop 16 (take j (drop s xs))) (sym e) ∙ drop-take 16 k (drop s xs) ∙ ap (take k) (drop-drop 16 s xs) in
    sym (ap (take n) cut ∙ take-take_shorter n k (drop (s + 16) xs) (omega arith) ∙ ap (λ j. take n (drop j xs)) i)

-- what is held stays in front of what is written behind it
pub held-before : (f s : ℕ) (xs r : List ℕ) → s ≤ f → f ≤ length xs → drop s (take f xs ++ r) ≡ take (f - s) (drop s xs) ++ r
held-before f s xs r h k =
    let e : s + (f - s) ≡ f = omega arith in
    drop-append-le s (take f xs) r (omega (arith, length-take f xs)) ∙ ap (λ l. l ++ r) (ap (λ j. drop s (take j xs)) (sym e) ∙ drop-take s (f - s) xs)

-- a read puts its bytes behind what was held
pub held-after_read : (f s n : ℕ) (xs new post : List ℕ) → s ≤ f → f ≤ length xs → n ≤ length new
    → take ((f + n) - s) (drop s (take f xs ++ (new ++ post))) ≡ take (f - s) (drop s xs) ++ take n new
held-after_read f s n xs new post h k m =
    let old = take (f - s) (drop s xs) in
    let long : length old ≡ f - s = omega (arith, length-take (f - s) (drop s xs), length-drop s xs) in
    let e : (f + n) - s ≡ length old + n = omega (arith, long) in
    ap (take ((f + n) - s)) (held-before f s xs (new ++ post) h k) ∙ ap (λ j. take j (old ++ (new ++ post))) e ∙ take-append-add old (new ++ post) n
    ∙ ap (λ l. old ++ l) (take-append-le n new post m)

-- a read that failed leaves what was held
pub held-after_fail : (f s : ℕ) (xs r : List ℕ) → s ≤ f → f ≤ length xs → take (f - s) (drop s (take f xs ++ r)) ≡ take (f - s) (drop s xs)
held-after_fail f s xs r h k =
    let old = take (f - s) (drop s xs) in
    let long : length old ≡ f - s = omega (arith, length-take (f - s) (drop s xs), length-drop s xs) in
    ap (take (f - s)) (held-before f s xs r h k) ∙ take-append-le (f - s) old r (omega (arith, long))
    ∙ take-take_shorter (f - s) (f - s) (drop s xs) (omega arith)

-- what a read consumed stands behind what was held
pub Keeps-read : (a b : Option (List ℕ)) (h bs : List ℕ) → Consumes a b bs → Keeps (prepend_known h a) (prepend_known (h ++ bs) b)
Keeps-read None b h bs p = tt
Keeps-read (Some x) None h bs p = absurd p
Keeps-read (Some x) (Some y) h bs p = append_assoc h bs y ∙ ap (λ l. h ++ l) (sym p)

-- and after a read that failed the same is left
pub Keeps-failed : (a b : Option (List ℕ)) (h : List ℕ) → Keeps a b → Keeps (prepend_known h a) (prepend_known h b)
Keeps-failed None b h p = tt
Keeps-failed (Some x) None h p = absurd p
Keeps-failed (Some x) (Some y) h p = ap (λ l. h ++ l) p

-- the bytes ahead of a window after a read of n bytes
pub ahead-read : (a b : Option (List ℕ)) (f s n : ℕ) (xs ys new post zs : List ℕ) → ys ≡ xs → zs ≡ take f ys ++ (new ++ post) → s ≤ f → f ≤ length xs
    → n ≤ length new → Consumes a b (take n new)
    → Keeps (prepend_known (take (f - s) (drop s xs)) a) (prepend_known (take ((f + n) - s) (drop s zs)) b)
ahead-read a b f s n xs ys new post zs e i h k m p =
    subst (λ l. Keeps (prepend_known (take (f - s) (drop s xs)) a) (prepend_known l b))
    (sym (held-after_read f s n xs new post h k m) ∙ ap (λ l. take ((f + n) - s) (drop s l)) (ap (λ l. take f l ++ (new ++ post)) (sym e) ∙ sym i))
    (Keeps-read a b (take (f - s) (drop s xs)) (take n new) p)

-- and after one that failed
pub ahead-failed : (a b : Option (List ℕ)) (f s : ℕ) (xs ys r zs : List ℕ) → ys ≡ xs → zs ≡ take f ys ++ r → s ≤ f → f ≤ length xs → Keeps a b
    → Keeps (prepend_known (take (f - s) (drop s xs)) a) (prepend_known (take (f - s) (drop s zs)) b)
ahead-failed a b f s xs ys r zs e i h k p =
    subst (λ l. Keeps (prepend_known (take (f - s) (drop s xs)) a) (prepend_known (take (f - s) l) b))
    (sym (ap (drop s) (i ∙ ap (λ l. take f l ++ r) e)))
    (subst (λ l. Keeps (prepend_known (take (f - s) (drop s xs)) a) (prepend_known l b)) (sym (held-after_fail f s xs r h k))
    (Keeps-failed a b (take (f - s) (drop s xs)) p))

-- what is ahead, by what was held before
pub Keeps-held : (a b : Option (List ℕ)) (h k l : List ℕ) → h ≡ k → Keeps (prepend_known h a) (prepend_known l b)
    → Keeps (prepend_known k a) (prepend_known l b)
Keeps-held a b h k l e p = subst (λ x. Keeps (prepend_known x a) (prepend_known l b)) e p
