-- Lemmas on the parts of a buffer, after bytes were written into it.
use Rattle.std.proofs.Common.{◌≡◌, ◌≤◌, ◌+◌, ◌-◌, ℕ, List, ◌++◌, length, take, drop, sym, ap, ◌∙◌, arith, rules, append_assoc}
use Rattle.std.proofs.lemmas.List.{same_lists, places, drop-take, drop-drop}
use Rattle.std.proofs.lemmas.Grind.{common_steps}

-- the bytes from a place to another
abbrev pub range : (from to : ℕ) → List ℕ → List ℕ
range from to xs = take (to - from) (drop from xs)

-- the written bytes
pub range-put : (p to : ℕ) (xs bs r : List ℕ) → p ≤ length xs → to ≡ p + length bs → range p to (take p xs ++ (bs ++ r)) ≡ bs
range-put p to xs bs r h e = same_lists _ _ (search (rules, places)) (λ k d m. grind (arith, places))

-- what stands behind them
pub range-put_after : (p from to : ℕ) (xs bs : List ℕ) → p + length bs ≤ from → p + length bs ≤ length xs
    → range from to (take p xs ++ (bs ++ drop (p + length bs) xs)) ≡ range from to xs
range-put_after p from to xs bs h m = same_lists _ _ (search (rules, places)) (λ k d l. grind (arith, places))

-- what stands before them
pub range-put_before : (p from to : ℕ) (xs r : List ℕ) → to ≤ p → p ≤ length xs → range from to (take p xs ++ r) ≡ range from to xs
range-put_before p from to xs r h m = same_lists _ _ (search (rules, places)) (λ k d l. grind (arith, places))

-- a part that was moved down leaves the length
pub moved_length : (k e : ℕ) (xs : List ℕ) → k ≤ e → e ≤ length xs → length (take 0 xs ++ (range k e xs ++ drop (0 + (e - k)) xs)) ≡ length xs
moved_length k e xs h m = search (rules, places)

-- a write leaves the length
pub put_length : (p : ℕ) (xs bs : List ℕ) → p + length bs ≤ length xs → length (take p xs ++ (bs ++ drop (p + length bs) xs)) ≡ length xs
put_length p xs bs h = search (rules, places)

-- what is held after the first c bytes are let go
pub range-skip : (f s c : ℕ) (xs : List ℕ) → s + c ≤ f → range (s + c) f xs ≡ drop c (range s f xs)
range-skip f s c xs h =
    let e : c + (f - (s + c)) ≡ f - s = omega arith in
    sym (ap (λ k. drop c (take k (drop s xs))) (sym e) ∙ drop-take c (f - (s + c)) (drop s xs) ∙ ap (take (f - (s + c))) (drop-drop c s xs))

-- two neighbouring parts
pub range-join : (a b c : ℕ) (xs : List ℕ) → a ≤ b → b ≤ c → c ≤ length xs → range a c xs ≡ range a b xs ++ range b c xs
range-join a b c xs h m l = same_lists _ _ (search (rules, places)) (λ k d n. grind (arith, places))

-- the front of a part
pub take-range : (n a b : ℕ) (xs : List ℕ) → n ≤ b - a → take n (range a b xs) ≡ range a (a + n) xs
take-range n a b xs h = grind (arith, common_steps)

-- a part of a front
pub range-take : (f a b : ℕ) (xs : List ℕ) → b ≤ f → range a b (take f xs) ≡ range a b xs
range-take f a b xs h = same_lists _ _ (search (rules, places)) (λ k d m. grind (arith, places))

-- a part of what stands before a place
pub range-front : (f a b : ℕ) (xs ys : List ℕ) → take f ys ≡ take f xs → b ≤ f → range a b ys ≡ range a b xs
range-front f a b xs ys e h = sym (range-take f a b ys h) ∙ ap (range a b) e ∙ range-take f a b xs h

-- what was read stands behind what was held
pub held-read : (s f n : ℕ) (xs ys : List ℕ) → take f ys ≡ take f xs → s ≤ f → f + n ≤ length ys → range s (f + n) ys ≡ range s f xs ++ take n (drop f ys)
held-read s f n xs ys e h m =
    let d : (f + n) - f ≡ n = omega arith in
    range-join s f (f + n) ys h (omega arith) m ∙ ap (λ l. l ++ range f (f + n) ys) (range-front f s f xs ys e (omega arith)) ∙ ap
    (λ k. range s f xs ++ take k (drop f ys)) d

-- what is held after both parts were moved down, the second one to p
pub held-moved : (k e s f p : ℕ) (xs ys zs : List ℕ) → k ≤ e → e ≤ s → s ≤ f → f ≤ length xs → p ≤ s
    → ys ≡ take 0 xs ++ (range k e xs ++ drop (0 + (e - k)) xs)
    → zs ≡ take p ys ++ (range s f ys ++ drop (p + (f - s)) ys)
    → range p (p + (f - s)) zs ≡ range s f xs
held-moved k e s f p xs ys zs a b c d q first second =
    let long : length (range k e xs) ≡ e - k = search (rules, places) in
    let first_is : ys ≡ take 0 xs ++ (range k e xs ++ drop (0 + length (range k e xs)) xs) = first ∙ ap (λ n. take 0 xs ++ (range k e xs ++ drop (0 + n) xs))
    (sym long) in
    let same : range s f ys ≡ range s f xs = ap (range s f) first_is ∙ range-put_after 0 s f xs (range k e xs) (omega (arith, long)) (omega (arith, long)) in
    let total : length ys ≡ length xs = ap length first ∙ moved_length k e xs a (omega arith) in
    let part : length (range s f ys) ≡ f - s = ap length same ∙ search (rules, places) in
    ap (range p (p + (f - s))) second ∙ range-put p (p + (f - s)) ys (range s f ys) _ (omega (arith, total)) (omega (arith, part)) ∙ same

-- and what is kept
pub kept-moved : (k e s f p : ℕ) (xs ys zs r : List ℕ) → k ≤ e → e ≤ s → s ≤ f → f ≤ length xs → p ≤ s → e - k ≤ p
    → ys ≡ take 0 xs ++ (range k e xs ++ drop (0 + (e - k)) xs)
    → zs ≡ take p ys ++ r
    → range 0 (e - k) zs ≡ range k e xs
kept-moved k e s f p xs ys zs r a b c d q m first second =
    let long : length (range k e xs) ≡ e - k = search (rules, places) in
    let total : length ys ≡ length xs = ap length first ∙ moved_length k e xs a (omega arith) in
    ap (range 0 (e - k)) second ∙ range-put_before p 0 (e - k) ys r m (omega (arith, total))
    ∙ ap (range 0 (e - k)) first ∙ range-put 0 (e - k) xs (range k e xs) _ (omega arith) (omega (arith, long))

-- the record that is kept
pub kept-record : (s f c : ℕ) (xs ys head : List ℕ) → s + (28 + c) ≤ f → f ≤ length xs → length head ≡ 16
    → ys ≡ take ((s + 28) - 16) xs ++ (head ++ drop (((s + 28) - 16) + length head) xs)
    → range ((s + 28) - 16) ((s + 28) + c) ys ≡ head ++ take c (drop 28 (range s f xs))
kept-record s f c xs ys head h m long e =
    let p = (s + 28) - 16 in
    let total : length ys ≡ length xs = ap length e ∙ put_length p xs head (omega arith) in
    let n : ((s + 28) + c) - (s + 28) ≡ c = omega arith in
    let front : range p (s + 28) ys ≡ head = ap (range p (s + 28)) e ∙ range-put p (s + 28) xs head _ (omega arith) (omega arith) in
    let back : range (s + 28) ((s + 28) + c) ys ≡ take c (drop 28 (range s f xs)) =
    ap (range (s + 28) ((s + 28) + c)) e ∙ range-put_after p (s + 28) ((s + 28) + c) xs head (omega arith) (omega arith)
    ∙ sym (take-range c (s + 28) f xs (omega arith)) ∙ ap (take c) (range-skip f s 28 xs (omega arith)) in
    range-join p (s + 28) ((s + 28) + c) ys (omega arith) (omega arith) (omega (arith, total)) ∙ ap (λ l. l ++ range (s + 28) ((s + 28) + c) ys) front ∙ ap
    (λ l. head ++ l) back

-- and what is held behind it
pub held-record : (s f c : ℕ) (xs ys head : List ℕ) → s + (28 + c) ≤ f → f ≤ length xs → length head ≡ 16
    → ys ≡ take ((s + 28) - 16) xs ++ (head ++ drop (((s + 28) - 16) + length head) xs)
    → range ((s + 28) + c) f ys ≡ drop (28 + c) (range s f xs)
held-record s f c xs ys head h m long e =
    let p : (s + 28) + c ≡ s + (28 + c) = omega arith in
    ap (range ((s + 28) + c) f) e ∙ range-put_after ((s + 28) - 16) ((s + 28) + c) f xs head (omega arith) (omega arith)
    ∙ ap (λ k. range k f xs) p ∙ range-skip f s (28 + c) xs h

-- a part has its length
pub length-part : (a n : ℕ) (xs : List ℕ) → a + n ≤ length xs → length (take n (drop a xs)) ≡ n
length-part a n xs h = search (rules, places)

-- the data of a packet, as they are cut out of what is looked at
pub data-seen : (n : ℕ) (seen h : List ℕ) → seen ≡ h → take ((28 + n) - 28) (drop 28 seen) ≡ take n (drop 28 h)
data-seen n seen h is =
    let bare : (28 + n) - 28 ≡ n = omega arith in
    ap (λ k. take k (drop 28 seen)) bare ∙ ap (λ x. take n (drop 28 x)) is

front-put : (at n : ℕ) (out bs post : List ℕ) → at ≤ length out → length bs ≡ n → take (at + n) (take at out ++ (bs ++ post)) ≡ take at out ++ bs
front-put at n out bs post l e = same_lists _ _ (search (rules, places)) (λ k d m. grind (arith, places))

-- two pieces that are put one behind the other
pub pieces-put : (at n m : ℕ) (out mid now a b r : List ℕ) → length a ≡ n → length b ≡ m → at + n + m ≤ length out
    → mid ≡ take at out ++ (a ++ drop (at + length a) out) → now ≡ take (at + n) mid ++ (b ++ r)
    → take (at + n + m) now ≡ take at out ++ (a ++ b)
pieces-put at n m out mid now a b r e f l first second =
    let long : length mid ≡ length out = ap length first ∙ put_length at out a (omega (arith, e)) in
    ap (take (at + n + m)) second ∙ front-put (at + n) m mid b r (omega (arith, long)) f
    ∙ ap (λ x. x ++ b) (ap (take (at + n)) first ∙ front-put at n out a _ (omega arith) e)
    ∙ append_assoc (take at out) a b
