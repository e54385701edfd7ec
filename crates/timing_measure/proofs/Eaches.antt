-- Two lists, item by item.
use Rattle.std.proofs.Common.{◌≡◌, ◌<◌, ◌+◌, ℕ, zero, suc, List, [], ◌∷◌, ◌++◌, length, take, get_or, ap, ap₂, ◌∙◌, sym, subst, arith, refl, append-nil}
use Rattle.std.proofs.Common.{append_assoc}
use Rattle.std.specs.Prelude.{All}
use Rattle.std.proofs.lemmas.List.{length-take-le, take_more}
use Rattle.std.proofs.lemmas.List.Elements.{All-head, All-tail}
use Rattle.timing_measure.specs.Each.{AllPairs, EachOf}
use Rattle.timing_measure.specs.flows.Taken.{IsThrough}

-- one more of each
each-append : {X Y : Type 0} (P : ℕ → X → Y → Type 0) (number : ℕ) (xs : List X) (ys : List Y) (x : X) (y : Y) → EachOf P number xs ys
    → P (number + length xs) x y → EachOf P number (xs ++ x ∷ []) (ys ++ y ∷ [])
each-append P number [] [] x y h is = (subst (λ (n : ℕ). P n x y) (omega arith) is, tt)
each-append P number [] (b ∷ ys) x y h is = absurd h
each-append P number (a ∷ xs) [] x y h is = absurd h
each-append P number (a ∷ xs) (b ∷ ys) x y h is =
    let far : number + length (a ∷ xs) ≡ number + 1 + length xs = omega arith in
    (h.0, each-append P (number + 1) xs ys x y h.1 (subst (λ (n : ℕ). P n x y) far is))

pub pairs-append : {X Y : Type 0} (R : X → Y → Type 0) (xs : List X) (ys : List Y) (x : X) (y : Y) → AllPairs R xs ys → R x y
    → AllPairs R (xs ++ x ∷ []) (ys ++ y ∷ [])
pairs-append R [] [] x y h is = (is, tt)
pairs-append R [] (b ∷ ys) x y h is = absurd h
pairs-append R (a ∷ xs) [] x y h is = absurd h
pairs-append R (a ∷ xs) (b ∷ ys) x y h is = (h.0, pairs-append R xs ys x y h.1 is)

-- the first items, and the next one
pub next-taken : {X : Type 0} (n : ℕ) (xs : List X) (x : X) → n < length xs → get_or xs n x ≡ x → take (n + 1) xs ≡ take n xs ++ x ∷ []
next-taken n xs x within at = take_more xs n x within ∙ ap (λ y. take n xs ++ y ∷ []) at

pub each-more : {X Y : Type 0} (P : ℕ → X → Y → Type 0) (first n : ℕ) (xs : List X) (ys more : List Y) (x : X) (y : Y) → n < length xs
    → get_or xs n x ≡ x → EachOf P first (take n xs) ys → P (first + n) x y → more ≡ ys ++ y ∷ [] → EachOf P first (take (n + 1) xs) more
each-more P first n xs ys more x y within at h is e =
    let long : first + length (take n xs) ≡ first + n = omega (arith, length-take-le n xs (omega arith)) in
    subst (λ l. EachOf P first l more) (sym (next-taken n xs x within at))
    (subst (EachOf P first (take n xs ++ x ∷ [])) (sym e)
    (each-append P first (take n xs) ys x y h (subst (λ (k : ℕ). P k x y) (sym long) is)))

-- of two items in one place
each-get : {X Y : Type 0} (P : ℕ → X → Y → Type 0) (number n : ℕ) (xs : List X) (ys : List Y) (x : X) (y : Y) → n < length xs → n < length ys
    → EachOf P number xs ys → P (number + n) (get_or xs n x) (get_or ys n y)
each-get P number n [] ys x y within there h = absurd (omega (arith, within))
each-get P number n (a ∷ xs) [] x y within there h = absurd h
each-get P number zero (a ∷ xs) (b ∷ ys) x y within there h = subst (λ (k : ℕ). P k a b) (omega arith) h.0
each-get P number (suc n) (a ∷ xs) (b ∷ ys) x y within there h =
    let far : number + 1 + n ≡ number + suc n = omega arith in
    subst (λ (k : ℕ). P k (get_or xs n x) (get_or ys n y)) far
    (each-get P (number + 1) n xs ys x y (omega (arith, within)) (omega (arith, there)) h.1)

pub each-in : {X Y : Type 0} (P : ℕ → X → Y → Type 0) (n : ℕ) (xs : List X) (ys : List Y) (x : X) (y : Y) → n < length xs → n < length ys
    → get_or xs n x ≡ x → get_or ys n y ≡ y → EachOf P 0 xs ys → P n x y
each-in P n xs ys x y within there at also h =
    let near : 0 + n ≡ n = omega arith in
    subst (λ (k : ℕ). P k x y) near (subst (P (0 + n) x) also (subst (λ a. P (0 + n) a (get_or ys n y)) at (each-get P 0 n xs ys x y within there h)))

-- one thing and then another, of items in one place
pub each-pairs : {X Y Z : Type 0} (P : ℕ → X → Y → Type 0) (R : Y → Z → Type 0) (Q : ℕ → X → Z → Type 0)
    → ((n : ℕ) (x : X) (y : Y) (z : Z) → P n x y → R y z → Q n x z)
    → (n : ℕ) (xs : List X) (ys : List Y) (zs : List Z) → EachOf P n xs ys → AllPairs R ys zs → EachOf Q n xs zs
each-pairs P R Q step n [] [] [] h k = tt
each-pairs P R Q step n [] [] (z ∷ zs) h k = absurd k
each-pairs P R Q step n [] (y ∷ ys) zs h k = absurd h
each-pairs P R Q step n (x ∷ xs) [] zs h k = absurd h
each-pairs P R Q step n (x ∷ xs) (y ∷ ys) [] h k = absurd k
each-pairs P R Q step n (x ∷ xs) (y ∷ ys) (z ∷ zs) h k = (step n x y z h.0 k.0, each-pairs P R Q step (n + 1) xs ys zs h.1 k.1)

-- what holds of each holds of one
pub each-at : {X Y : Type 0} (P Q : ℕ → X → Y → Type 0) (n : ℕ) (xs : List X) (past rest : List Y) (y : Y) → EachOf P n xs (past ++ y ∷ rest)
    → EachOf Q n xs (past ++ y ∷ rest) → (k : ℕ) × (x : X) × P k x y × Q k x y
each-at P Q n [] [] rest y h k = absurd h
each-at P Q n [] (z ∷ past) rest y h k = absurd h
each-at P Q n (x ∷ xs) [] rest y h k = (n, x, h.0, k.0)
each-at P Q n (x ∷ xs) (z ∷ past) rest y h k = each-at P Q (n + 1) xs past rest y h.1 k.1

-- the lists are of one length
pub each-long : {X Y : Type 0} (P : ℕ → X → Y → Type 0) (n : ℕ) (xs : List X) (ys : List Y) → EachOf P n xs ys → length ys ≡ length xs
each-long P n [] [] h = refl
each-long P n [] (y ∷ ys) h = absurd h
each-long P n (x ∷ xs) [] h = absurd h
each-long P n (x ∷ xs) (y ∷ ys) h = ap suc (each-long P (n + 1) xs ys h.1)

-- where each has one, the lists are one
pub each-once : {X Y : Type 0} (P : ℕ → X → Y → Type 0) → ((n : ℕ) (x : X) (y z : Y) → P n x y → P n x z → y ≡ z)
    → (n : ℕ) (xs : List X) (ys zs : List Y) → EachOf P n xs ys → EachOf P n xs zs → ys ≡ zs
each-once P once n [] [] [] h k = refl
each-once P once n [] [] (z ∷ zs) h k = absurd k
each-once P once n [] (y ∷ ys) zs h k = absurd h
each-once P once n (x ∷ xs) [] zs h k = absurd h
each-once P once n (x ∷ xs) (y ∷ ys) [] h k = absurd k
each-once P once n (x ∷ xs) (y ∷ ys) (z ∷ zs) h k = ap₂ (λ a l. a ∷ l) (once n x y z h.0 k.0) (each-once P once (n + 1) xs ys zs h.1 k.1)

-- what holds of each, and what follows from it
pub each-then : {X Y : Type 0} (P Q : ℕ → X → Y → Type 0) → ((n : ℕ) (x : X) (y : Y) → P n x y → Q n x y)
    → (n : ℕ) (xs : List X) (ys : List Y) → EachOf P n xs ys → EachOf Q n xs ys
each-then P Q step n [] [] h = tt
each-then P Q step n [] (y ∷ ys) h = absurd h
each-then P Q step n (x ∷ xs) [] h = absurd h
each-then P Q step n (x ∷ xs) (y ∷ ys) h = (step n x y h.0, each-then P Q step (n + 1) xs ys h.1)

-- none has ended yet
pub through-begin : {X Y : Type 0} (R : X → Y → Type 0) (all left : List X) (done : List Y) → done ≡ [] → left ≡ all → IsThrough R all done left
through-begin R all left done none same = record { past = []; whole = sym same; ended = subst (AllPairs R []) (sym none) tt }

-- one more has ended
pub through-next : {X Y : Type 0} (R : X → Y → Type 0) (all : List X) (done more : List Y) (left later : List X) (x : X) (y : Y) → left ≡ x ∷ later
    → more ≡ done ++ y ∷ [] → R x y → IsThrough R all done left → IsThrough R all more later
through-next R all done more left later x y e pushed is h = record {
  past = h.past ++ x ∷ [];
  whole = h.whole ∙ ap (λ l. h.past ++ l) e ∙ sym (append_assoc h.past (x ∷ []) later);
  ended = subst (AllPairs R (h.past ++ x ∷ [])) (sym pushed) (pairs-append R h.past done x y h.ended is);
}

-- all have
pub through-end : {X Y : Type 0} (R : X → Y → Type 0) (all : List X) (done : List Y) (left : List X) → length left ≡ 0 → IsThrough R all done left
    → AllPairs R all done
through-end R all done [] e h = subst (λ l. AllPairs R l done) (sym (h.whole ∙ append-nil h.past)) h.ended
through-end R all done (x ∷ left) e h = absurd (omega (arith, e))

-- what holds of all holds of one
all-at : {X : Type 0} (P : X → Type 0) (past rest : List X) (x : X) → All P (past ++ x ∷ rest) → P x
all-at P [] rest x h = All-head P x rest h
all-at P (y ∷ past) rest x h = all-at P past rest x (All-tail P y (past ++ x ∷ rest) h)

-- the next one, of which holds what holds of all
pub through-one : {X Y : Type 0} (R : X → Y → Type 0) (P : X → Type 0) (all : List X) (done : List Y) (left later : List X) (x : X) → left ≡ x ∷ later
    → IsThrough R all done left → All P all → P x
through-one R P all done left later x e h every =
    all-at P h.past later x (subst (All P) (h.whole ∙ ap (λ l. h.past ++ l) e) every)
