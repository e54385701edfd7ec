-- The messages of each sender, and how many they are together.
use Rattle.std.proofs.Common.{◌≡◌, ◌≢◌, ◌≤◌, ◌<◌, ◌+◌, ◌*◌, ◌^◌, ◌==◌, ◌⊎◌, ℕ, zero, suc, Bool, true, false, List, [], ◌∷◌, ◌++◌, length, map, filter, cond}
use Rattle.std.proofs.Common.{eqb, sum_by, sym, refl, ap, ◌∙◌, subst, inl, inr, arith, length-append}
use Rattle.std.proofs.lemmas.Bool.{ne_eqb, cases_lt}
use Rattle.std.proofs.lemmas.Bool.Decides.{eqb_tells}
use Rattle.std.proofs.lemmas.List.{map-append}
use Rattle.std.proofs.lemmas.List.Elements.{filter-append}
use Rattle.std.proofs.lemmas.List.Sums.{sum_by-cons, sum_by-append}
use Rattle.ruled_intake.specs.declared.message.Message.{Message}
use Rattle.ruled_intake.specs.declared.rule.Entry.{Entry}
use Rattle.ruled_intake.specs.Lanes.{IsPrefix, IsWithin, count_of, messages, of, packets}

pub same_test : (n : ℕ) → eqb n n ≡ true
same_test n = grind arith

-- the test of an equal number
pub equal_test : (m n : ℕ) → m ≡ n → eqb m n ≡ true
equal_test m n e = ap (λ j. eqb j n) e ∙ same_test n

-- a message of the sender stands before those that follow
pub of-here : (f : ℕ) (e : Entry) (es : List Entry) → e.from ≡ f → of f (e ∷ es) ≡ e.message ∷ of f es
of-here f e es is =
    ap (λ b. messages (cond b (e ∷ filter (λ (x : Entry). x.from == f) es) (filter (λ (x : Entry). x.from == f) es))) (equal_test e.from f is)

-- a message of another sender is none of this one's
pub of-there : (f : ℕ) (e : Entry) (es : List Entry) → e.from ≢ f → of f (e ∷ es) ≡ of f es
of-there f e es is =
    ap (λ b. messages (cond b (e ∷ filter (λ (x : Entry). x.from == f) es) (filter (λ (x : Entry). x.from == f) es))) (ne_eqb e.from f is)

pub of-append : (f : ℕ) (xs ys : List Entry) → of f (xs ++ ys) ≡ of f xs ++ of f ys
of-append f xs ys = ap messages (filter-append (λ e. e.from == f) xs ys) ∙ map-append (λ (e : Entry). e.message) (filter (λ (e : Entry). e.from == f) xs)
    (filter (λ (e : Entry). e.from == f) ys)

-- the values of a function below n, added up
abbrev pub below : ℕ → (ℕ → ℕ) → ℕ
below zero g = 0
below (suc n) g = below n g + g n

-- two functions with the same values
pub below-same : (n : ℕ) (g h : ℕ → ℕ) → ((p : ℕ) → p < n → g p ≡ h p) → below n g ≡ below n h
below-same zero g h same = refl
below-same (suc n) g h same = omega (arith, below-same n g h (λ p m. same p (omega (arith, m))), same n (omega arith))

below-zero : (n : ℕ) → below n (λ _. 0) ≡ 0
below-zero zero = refl
below-zero (suc n) = omega (arith, below-zero n)

-- one value is larger by a, the others are the same
below-one : (n q a : ℕ) (g h : ℕ → ℕ) → q < n → g q ≡ a + h q → ((p : ℕ) → p ≢ q → g p ≡ h p) → below n g ≡ a + below n h
below-one zero q a g h m here there = absurd (omega (arith, m))
below-one (suc n) q a g h m here there = elim (cases_lt q n) as (λ _. below n g + g n ≡ a + (below n h + h n)) [
  | inl early ↦ omega (arith, below-one n q a g h early here there, there n (λ e. omega (arith, e, early)))
  | inr last ↦
      let is : n ≡ q = omega (arith, m, last) in
      let at_n : g n ≡ a + h n = ap g is ∙ here ∙ ap (λ j. a + h j) (sym is) in
      omega (arith, at_n, below-same n g h (λ p k. there p (λ e. omega (arith, e, k, is))))
]

below-le : (n most : ℕ) (g : ℕ → ℕ) → ((p : ℕ) → g p ≤ most) → below n g ≤ n * most
below-le zero most g le = omega arith
below-le (suc n) most g le = omega (arith, below-le n most g le, le n)

cons-nil : {X : Type 0} (x : X) (xs : List X) → x ∷ xs ≡ [] → ⊥
cons-nil x xs e = let l : length (x ∷ xs) ≡ 0 = ap length e in omega (arith, l)

-- where all entries are of senders below n, the messages weigh what those of each sender weigh together
pub weight-spread : (h : Message → ℕ) (n : ℕ) (es : List Entry) → ((p : ℕ) → n ≤ p → of p es ≡ []) → sum_by h (messages es) ≡ below n (λ p. sum_by h (of p es))
weight-spread h n [] none = sym (below-zero n)
weight-spread h n (e ∷ es) none =
    let early : e.from < n = elim (cases_lt e.from n) as (λ _. e.from < n) [
      | inl m ↦ m
      | inr late ↦ absurd (cons-nil e.message (of e.from es) (sym (of-here e.from e es refl) ∙ none e.from late))
    ] in
    let rest : (p : ℕ) → n ≤ p → of p es ≡ [] = λ p m. sym (of-there p e es (λ is. omega (arith, is, m, early))) ∙ none p m in
    sum_by-cons h e.message (messages es) ∙ ap (λ k. h e.message + k) (weight-spread h n es rest)
    ∙ sym (below-one n e.from (h e.message) (λ p. sum_by h (of p (e ∷ es))) (λ p. sum_by h (of p es)) early
    (ap (sum_by h) (of-here e.from e es refl) ∙ sum_by-cons h e.message (of e.from es))
    (λ p apart. ap (sum_by h) (of-there p e es (λ is. apart (sym is)))))

-- a list is as long as its elements weigh with 1 each
pub length-weight : {X : Type 0} (xs : List X) → length xs ≡ sum_by (λ _. 1) xs
length-weight [] = refl
length-weight {X} (x ∷ xs) = omega (arith, length-weight xs, sum_by-cons (λ (_ : X). 1) x xs)

pub length-messages : (es : List Entry) → length (messages es) ≡ length es
length-messages [] = refl
length-messages (e ∷ es) = omega (arith, length-messages es)

-- the first entries weigh no more than n senders that keep a limit
weight-first : (h : Message → ℕ) (n most : ℕ) (sent : ℕ → List Message) (got items : List Entry) → ((f : ℕ) → of f (got ++ items) ≡ sent f)
    → ((f : ℕ) → n ≤ f → sent f ≡ []) → ((f : ℕ) → sum_by h (sent f) ≤ most) → sum_by h (messages got) ≤ n * most
weight-first h n most sent got items tells none few =
    let all : sum_by h (messages (got ++ items)) ≡ below n (λ f. sum_by h (of f (got ++ items))) = weight-spread h n (got ++ items) (λ f m. tells f ∙ none f m)
    in
    let parts : sum_by h (messages (got ++ items)) ≡ sum_by h (messages got) + sum_by h (messages items) =
    ap (sum_by h) (map-append (λ (e : Entry). e.message) got items) ∙ sum_by-append h (messages got) (messages items) in
    omega (arith, all, parts, below-le n most (λ f. sum_by h (of f (got ++ items))) (λ f. subst (λ l. sum_by h l ≤ most) (sym (tells f)) (few f)))

-- what was taken keeps the limits of 16 senders together
pub within-first : (n : ℕ) (sent : ℕ → List Message) (got items : List Entry) → n ≤ 16 → ((f : ℕ) → of f (got ++ items) ≡ sent f)
    → ((f : ℕ) → n ≤ f → sent f ≡ []) → ((f : ℕ) → IsWithin (2 ^ 37) (sent f)) → IsWithin (2 ^ 41) (messages got)
within-first n sent got items few tells none within = record {
  few_messages =
      let w = weight-first (λ _. 1) n (2 ^ 37) sent got items tells none (λ f. omega (arith, length-weight (sent f), (within f).few_messages)) in
      omega (arith, few, w, length-weight (messages got));
  few_packets = omega (arith, few, weight-first count_of n (2 ^ 37) sent got items tells none (λ f. (within f).few_packets));
}
