-- A text is within an edit of another exactly where they differ in one place at most.
use Rattle.std.proofs.Common.{◌≡◌, ◌≤◌, ◌==◌, ◌||◌, ℕ, Bool, true, false, if◌then◌else◌, List, [], ◌∷◌, ◌++◌, length, arith, refl, ap, sym, ◌∙◌}
use Rattle.std.proofs.Common.{eqb-true, eq-eqb}
use Rattle.std.specs.Str.{bytes_eq}
use Rattle.std.proofs.lemmas.Slice.Eq.{bytes_eq-Decides}
use Rattle.sdp_notes.specs.Near.{DifferInOnePlace, is_within_an_edit}

-- ---- from an edit to the place

-- the same first byte
one-more : (x y : ℕ) (xs ys : List ℕ) → x ≡ y → DifferInOnePlace xs ys → DifferInOnePlace (x ∷ xs) (y ∷ ys)
one-more x y xs ys e d = record {
  front = x ∷ d.front;
  back = d.back;
  of_one = d.of_one;
  of_other = d.of_other;
  one_is = ap (λ l. x ∷ l) d.one_is;
  other_is = ap (λ l. y ∷ l) d.other_is ∙ ap (λ b. b ∷ (d.front ++ (d.of_other ++ d.back))) (sym e);
  one_few = d.one_few;
  other_few = d.other_few;
}

-- the texts differ in their first place
at-first : (one other back a b : List ℕ) → one ≡ a ++ back → other ≡ b ++ back → length a ≤ 1 → length b ≤ 1 → DifferInOnePlace one other
at-first one other back a b p q k l = record {
  front = [];
  back = back;
  of_one = a;
  of_other = b;
  one_is = p;
  other_is = q;
  one_few = k;
  other_few = l;
}

empty : (xs : List ℕ) → (length xs == 0) ≡ true → xs ≡ []
empty [] h = refl
empty (x ∷ xs) h = absurd (omega (arith, eqb-true (length (x ∷ xs)) 0 h))

changed : (x y : ℕ) (xs ys : List ℕ) → xs ≡ ys → DifferInOnePlace (x ∷ xs) (y ∷ ys)
changed x y xs ys e = at-first (x ∷ xs) (y ∷ ys) ys (x ∷ []) (y ∷ []) (ap (λ l. x ∷ l) e) refl (omega arith) (omega arith)

removed : (x : ℕ) (xs ys : List ℕ) → xs ≡ ys → DifferInOnePlace (x ∷ xs) ys
removed x xs ys e = at-first (x ∷ xs) ys ys (x ∷ []) [] (ap (λ l. x ∷ l) e) refl (omega arith) (omega arith)

added : (y : ℕ) (xs ys : List ℕ) → xs ≡ ys → DifferInOnePlace xs (y ∷ ys)
added y xs ys e = at-first xs (y ∷ ys) ys [] (y ∷ []) e refl (omega arith) (omega arith)

-- one of three ways, where the first bytes differ
in-first : (x y : ℕ) (xs ys : List ℕ) (a b c : Bool) → bytes_eq xs ys ≡ a → bytes_eq xs (y ∷ ys) ≡ b → bytes_eq (x ∷ xs) ys ≡ c
    → (a || (b || c)) ≡ true → DifferInOnePlace (x ∷ xs) (y ∷ ys)
in-first x y xs ys true b c p q r h = changed x y xs ys ((bytes_eq-Decides xs ys).0 p)
in-first x y xs ys false true c p q r h = removed x xs (y ∷ ys) ((bytes_eq-Decides xs (y ∷ ys)).0 q)
in-first x y xs ys false false true p q r h = added y (x ∷ xs) ys ((bytes_eq-Decides (x ∷ xs) ys).0 r)
in-first x y xs ys false false false p q r h = absurd (cc)

either : {A : Type 0} (t a b : Bool) → (if t then a else b) ≡ true → (t ≡ true → a ≡ true → A) → (b ≡ true → A) → A
either true a b h f g = f refl h
either false a b h f g = g h

pub edit-differ : (one other : List ℕ) → is_within_an_edit one other ≡ true → DifferInOnePlace one other
edit-differ [] [] h = at-first [] [] [] [] [] refl refl (omega arith) (omega arith)
edit-differ [] (y ∷ ys) h = added y [] ys (sym (empty ys h))
edit-differ (x ∷ xs) [] h = removed x xs [] (empty xs h)
edit-differ (x ∷ xs) (y ∷ ys) h =
    let same : (x == y) ≡ true → is_within_an_edit xs ys ≡ true → DifferInOnePlace (x ∷ xs) (y ∷ ys) =
    λ e w. one-more x y xs ys (eqb-true x y e) (edit-differ xs ys w) in
    let other : (bytes_eq xs ys || (bytes_eq xs (y ∷ ys) || bytes_eq (x ∷ xs) ys)) ≡ true → DifferInOnePlace (x ∷ xs) (y ∷ ys) =
    in-first x y xs ys (bytes_eq xs ys) (bytes_eq xs (y ∷ ys)) (bytes_eq (x ∷ xs) ys) refl refl refl in
    either (x == y) _ _ h same other

-- ---- from the place to an edit

text-itself : (xs : List ℕ) → bytes_eq xs xs ≡ true
text-itself xs = (bytes_eq-Decides xs xs).1 refl

first_of_three : (a b c : Bool) → a ≡ true → (a || (b || c)) ≡ true
first_of_three a b c h = ap (λ t. t || (b || c)) h

second_of_three : (a b c : Bool) → b ≡ true → (a || (b || c)) ≡ true
second_of_three true b c h = refl
second_of_three false b c h = ap (λ t. t || c) h

third_of_three : (a b c : Bool) → c ≡ true → (a || (b || c)) ≡ true
third_of_three true b c h = refl
third_of_three false true c h = refl
third_of_three false false c h = h

both_ways : (t a b : Bool) → a ≡ true → b ≡ true → (if t then a else b) ≡ true
both_ways true a b p q = p
both_ways false a b p q = q

itself : (xs : List ℕ) → is_within_an_edit xs xs ≡ true
itself [] = refl
itself (x ∷ xs) =
    both_ways (x == x) _ _ (itself xs) (first_of_three (bytes_eq xs xs) (bytes_eq xs (x ∷ xs)) (bytes_eq (x ∷ xs) xs) (text-itself xs))

without-first : (c : ℕ) (xs : List ℕ) → is_within_an_edit (c ∷ xs) xs ≡ true
without-first c [] = refl
without-first c (x ∷ xs) = both_ways (c == x) _ _ (without-first x xs) (second_of_three _ _ _ (text-itself (x ∷ xs)))

with-first : (c : ℕ) (xs : List ℕ) → is_within_an_edit xs (c ∷ xs) ≡ true
with-first c [] = refl
with-first c (x ∷ xs) = both_ways (x == c) _ _ (with-first x xs) (third_of_three _ _ _ (text-itself (x ∷ xs)))

other-first : (c d : ℕ) (xs : List ℕ) → is_within_an_edit (c ∷ xs) (d ∷ xs) ≡ true
other-first c d xs =
    both_ways (c == d) _ _ (itself xs) (first_of_three (bytes_eq xs xs) (bytes_eq xs (d ∷ xs)) (bytes_eq (c ∷ xs) xs) (text-itself xs))

differing : (a b back : List ℕ) → length a ≤ 1 → length b ≤ 1 → is_within_an_edit (a ++ back) (b ++ back) ≡ true
differing [] [] back k l = itself back
differing (c ∷ []) [] back k l = without-first c back
differing [] (d ∷ []) back k l = with-first d back
differing (c ∷ []) (d ∷ []) back k l = other-first c d back
differing (c ∷ e ∷ a) b back k l = absurd (omega arith)
differing [] (d ∷ e ∷ b) back k l = absurd (omega arith)
differing (c ∷ []) (d ∷ e ∷ b) back k l = absurd (omega arith)

behind : (front a b : List ℕ) → is_within_an_edit a b ≡ true → is_within_an_edit (front ++ a) (front ++ b) ≡ true
behind [] a b h = h
behind (x ∷ front) a b h = ap (λ t. if t then is_within_an_edit (front ++ a) (front ++ b)
    else (bytes_eq (front ++ a) (front ++ b) || (bytes_eq (front ++ a) (x ∷ (front ++ b)) || bytes_eq (x ∷ (front ++ a)) (front ++ b))))
    (eq-eqb x x refl) ∙ behind front a b h

pub differ-edit : (one other : List ℕ) → DifferInOnePlace one other → is_within_an_edit one other ≡ true
differ-edit one other d =
    ap (λ l. is_within_an_edit l other) d.one_is ∙ ap (is_within_an_edit (d.front ++ (d.of_one ++ d.back))) d.other_is
    ∙ behind d.front (d.of_one ++ d.back) (d.of_other ++ d.back) (differing d.of_one d.of_other d.back d.one_few d.other_few)
