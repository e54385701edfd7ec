-- Lemmas on the text of the blocks of a rest: one block, and what comes of the next.
use Rattle.std.proofs.Common.{refl, ◌≡◌, ◌≤◌, ◌<◌, ◌+◌, ◌-◌, ◌^◌, ℕ, zero, suc, Bool, true, false, List, [], ◌∷◌, ◌++◌, length, take, drop, None, Some, sym, ap}
use Rattle.std.proofs.Common.{◌∙◌, arith, length-drop, length-append}
use Rattle.std.proofs.lemmas.Bool.Decides.{nat_tests}
use Rattle.std.proofs.lemmas.List.{drop-drop}
use Rattle.std.specs.Prelude.{◌==◌, nat_lt, not, if◌then◌else◌, Option}
use Rattle.std.specs.Option.{option_map_or}
use Rattle.pcapng_reader.specs.declared.block.Order.{Order}
use Rattle.pcapng_reader.specs.declared.block.Kind.{Kind}
use Rattle.pcapng_reader.specs.declared.block.Kind.TheVariants as kind
use Rattle.pcapng_reader.specs.declared.stage.Body.{Body}
use Rattle.pcapng_reader.specs.Classic.{number, Section, Given, ended, cut, broken, bare_head, content, least_length, is_length, kind_of, order_by, total_by}
use Rattle.pcapng_reader.specs.Classic.{sized_block, ordered_block, block, go_on, blocks_by, blocks}
use Rattle.pcapng_reader.specs.Converting.{after, head_text}
use Rattle.pcapng_reader.proofs.Numbers.{number-front, number-drop, kind_of-front, order_by-front}

-- what comes of the next block, where there is one
same_later : (f g : Section → List ℕ) (x : Option Section) → ((next : Section) → x ≡ Some next → f next ≡ g next) → option_map_or f x [] ≡ option_map_or g x []
same_later f g None h = refl
same_later f g (Some next) h = h next refl

go_on-same : (f g : Section → List ℕ) (x : Given) → ((next : Section) → x.next ≡ Some next → f next ≡ g next) → go_on f x ≡ go_on g x
go_on-same f g x h = ap (λ l. x.bytes ++ l) (same_later f g x.next h)

-- a block has the fewest bytes of its kind
pub total-least : (k : Kind) (total : ℕ) → is_length k total ≡ true → least_length k ≤ total
total-least k total h = grind (arith, nat_tests)

-- a block that another follows has its least length
is_length-least : (k : Kind) (total : ℕ) → is_length k total ≡ true → 12 ≤ total
is_length-least kind.Section total h = grind (arith, nat_tests)
is_length-least kind.Interface total h = grind (arith, nat_tests)
is_length-least kind.Packet total h = grind (arith, nat_tests)
is_length-least kind.Other total h = grind (arith, nat_tests)

not_broken : (b : Bool) (x : Given) (next : Section) → (if not b then broken else x).next ≡ Some next → b ≡ true
not_broken true x next h = refl
not_broken false x next h = cc

sized-next : (o : Order) (k : Kind) (total : ℕ) (s : Section) (a : List ℕ) (next : Section) → (sized_block o k total s a).next ≡ Some next → 12 ≤ total
sized-next o k total s a next h = is_length-least k total (not_broken (is_length k total) _ next h)

ordered-next : (o : Option Order) (s : Section) (a : List ℕ) (next : Section) → (ordered_block o s a).next ≡ Some next → 12 ≤ total_by o a
ordered-next None s a next h = cc
ordered-next (Some o) s a next h = sized-next o (kind_of o a) (number o 4 4 a) s a next h

not_short : (b c : Bool) (x : Given) (next : Section) → (if b then ended else if c then cut else x).next ≡ Some next → x.next ≡ Some next
not_short true c x next h = cc
not_short false true x next h = cc
not_short false false x next h = h

block-next : (s : Section) (a : List ℕ) (next : Section) → (block s a).next ≡ Some next → 12 ≤ total_by (order_by s.order a) a
block-next s a next h =
    ordered-next (order_by s.order a) s a next (not_short (length a == 0) (nat_lt (length a) 12) (ordered_block (order_by s.order a) s a) next h)

-- a bound of the number of blocks that is no bound
blocks_by-more : (n m : ℕ) (s : Section) (a : List ℕ) → length a ≤ n → length a ≤ m → blocks_by n s a ≡ blocks_by m s a
blocks_by-more zero zero s a h l = refl
blocks_by-more zero (suc m) s [] h l = refl
blocks_by-more zero (suc m) s (x ∷ xs) h l = absurd (omega arith)
blocks_by-more (suc n) zero s [] h l = refl
blocks_by-more (suc n) zero s (x ∷ xs) h l = absurd (omega arith)
blocks_by-more (suc n) (suc m) s a h l =
    let total = total_by (order_by s.order a) a in
    go_on-same (λ next. blocks_by n next (drop total a)) (λ next. blocks_by m next (drop total a)) (block s a)
    (λ next e.
    let least : 12 ≤ total = block-next s a next e in
    blocks_by-more n m next (drop total a) (omega (arith, length-drop total a)) (omega (arith, length-drop total a)))

-- the text of a rest is what its first block gives, and then the text of what follows
pub blocks-step : (s : Section) (a : List ℕ) → blocks s a ≡ go_on (λ next. blocks next (drop (total_by (order_by s.order a) a) a)) (block s a)
unfolding blocks
blocks-step s [] = refl
blocks-step s (x ∷ xs) =
    let a = x ∷ xs in
    let total = total_by (order_by s.order a) a in
    go_on-same (λ next. blocks_by (length xs) next (drop total a)) (λ next. blocks_by (length (drop total a)) next (drop total a)) (block s a)
    (λ next e.
    let least : 12 ≤ total = block-next s a next e in
    blocks_by-more (length xs) (length (drop total a)) next (drop total a) (omega (arith, length-drop total a)) (omega arith))

-- no block
pub blocks-none : (s : Section) (a : List ℕ) → length a ≡ 0 → blocks s a ≡ []
unfolding blocks
blocks-none s [] h = refl
blocks-none s (x ∷ xs) h = absurd (omega arith)

block-short : (s : Section) (a : List ℕ) → 0 < length a → length a < 12 → block s a ≡ cut
block-short s a p h = grind (arith, nat_tests)

block-long : (s : Section) (a : List ℕ) → 12 ≤ length a → block s a ≡ ordered_block (order_by s.order a) s a
block-long s a h = grind (arith, nat_tests)

-- the head of a block is cut
pub blocks-short : (s : Section) (a : List ℕ) → 0 < length a → length a < 12 → blocks s a ≡ 0 ∷ []
blocks-short s a p h =
    blocks-step s a ∙ ap (go_on (λ next. blocks next (drop (total_by (order_by s.order a) a) a))) (block-short s a p h)

-- a section with no byte order
pub blocks-unordered : (s : Section) (h r : List ℕ) → 12 ≤ length h → order_by s.order h ≡ None → blocks s (h ++ r) ≡ bare_head 0 (2 ^ 32 - 1)
blocks-unordered s h r m e =
    let a = h ++ r in
    let long : 12 ≤ length a = omega (arith, length-append h r) in
    blocks-step s a ∙ ap (go_on (λ next. blocks next (drop (total_by (order_by s.order a) a) a)))
    (block-long s a long ∙ ap (λ o. ordered_block o s a) (order_by-front s.order h r m ∙ e))

-- a block whose byte order is known
pub blocks-head : (s : Section) (h r : List ℕ) (o : Order) → 12 ≤ length h → order_by s.order h ≡ Some o
    → blocks s (h ++ r) ≡ head_text o (kind_of o h) (number o 4 4 h) s (h ++ r)
unfolding head_text
blocks-head s h r o m e =
    let a = h ++ r in
    let long : 12 ≤ length a = omega (arith, length-append h r) in
    let order : order_by s.order a ≡ Some o = order_by-front s.order h r m ∙ e in
    let total : number o 4 4 a ≡ number o 4 4 h = number-front o 4 4 h r (omega arith) in
    blocks-step s a
    ∙ ap (go_on (λ next. blocks next (drop (total_by (order_by s.order a) a) a))) (block-long s a long)
    ∙ ap (λ x. go_on (λ next. blocks next (drop (total_by x a) a)) (ordered_block x s a)) order
    ∙ ap (λ n. go_on (λ next. blocks next (drop n a)) (sized_block o (kind_of o a) n s a)) total
    ∙ ap (λ k. go_on (λ next. blocks next (drop (number o 4 4 h) a)) (sized_block o k (number o 4 4 h) s a)) (kind_of-front o h r (omega arith))

-- what a block gives, by whether its kind may have that length
abbrev by_length : Order → Kind → (total : ℕ) → Section → List ℕ → Bool → Given
by_length o k total s a b =
    if not b then broken
    else if nat_lt (length a) total then cut
    else if not (number o 4 (total - 4) a == total) then broken
    else content k o s (take total a)

-- a length that no block of its kind has
pub head-broken : (o : Order) (k : Kind) (total : ℕ) (s : Section) (a : List ℕ) → is_length k total ≡ false → head_text o k total s a ≡ bare_head 0 (2 ^ 32 - 1)
unfolding head_text
head-broken o k total s a e =
    ap (λ b. go_on (λ next. blocks next (drop total a)) (by_length o k total s a b)) e

-- a block that is cut
pub head-short : (o : Order) (k : Kind) (total : ℕ) (s : Section) (a : List ℕ) → is_length k total ≡ true → length a < total → head_text o k total s a ≡ 0 ∷ []
unfolding head_text
head-short o k total s a e h =
    let short : nat_lt (length a) total ≡ true = grind (arith, nat_tests) in
    ap (λ b. go_on (λ next. blocks next (drop total a)) (by_length o k total s a b)) e
    ∙ ap (λ b. go_on (λ next. blocks next (drop total a))
    (if b then cut
    else if not (number o 4 (total - 4) a == total) then broken
    else content k o s (take total a))) short

-- so many bytes stand, before and after the first are let go
short_by : (n k : ℕ) (a : List ℕ) (total : ℕ) → n + k ≡ total → n ≤ length a → nat_lt (length a) total ≡ nat_lt (length (drop n a)) k
short_by n k a total e l =
    let long : length (drop n a) ≡ length a - n = length-drop n a in
    grind (arith, nat_tests)

long_by : (a : List ℕ) (total : ℕ) → nat_lt (length a) total ≡ false → total ≤ length a
long_by a total h = grind (arith, nat_tests)

is_same : (m n : ℕ) → m ≡ n → (m == n) ≡ true
is_same m n h = grind (arith, nat_tests)

-- where its end stands: the same in words of what is left
same_ends : (b c : Bool) (x y : Given) → (c ≡ false → x ≡ y) → (if c then cut else if b then broken else x) ≡ (if c then cut else if b then broken else y)
same_ends b true x y h = refl
same_ends true false x y h = refl
same_ends false false x y h = h refl

-- a block whose end stands, and what it gives is known
pub head-whole : (o : Order) (k : Kind) (total : ℕ) (s : Section) (a : List ℕ) (x : Given) → is_length k total ≡ true → total ≤ length a
    → number o 4 (total - 4) a ≡ total → content k o s (take total a) ≡ x → head_text o k total s a ≡ go_on (λ next. blocks next (drop total a)) x
unfolding head_text
head-whole o k total s a x e l n h =
    let long : nat_lt (length a) total ≡ false = grind (arith, nat_tests) in
    ap (λ b. go_on (λ next. blocks next (drop total a)) (by_length o k total s a b)) e
    ∙ ap (λ b. go_on (λ next. blocks next (drop total a))
    (if b then cut else if not (number o 4 (total - 4) a == total) then broken else content k o s (take total a))) long
    ∙ ap (λ b. go_on (λ next. blocks next (drop total a)) (if not b then broken else content k o s (take total a)))
    (is_same (number o 4 (total - 4) a) total n)
    ∙ ap (go_on (λ next. blocks next (drop total a))) h

-- the first bytes of a block are let go, and what it gives is known
pub head-passes : (o : Order) (k : Kind) (total n : ℕ) (s : Section) (a : List ℕ) (x : Given) → is_length k total ≡ true → n + 4 ≤ total → n ≤ length a
    → (total ≤ length a → content k o s (take total a) ≡ x)
    → head_text o k total s a ≡ after (record { order = o; total = total; left = (total - 4) - n }) (drop n a) x
unfolding head_text after
head-passes o k total n s a x e m l h =
    let left = (total - 4) - n in
    let rest = drop n a in
    let sum : n + (left + 4) ≡ total = omega arith in
    let place : n + left ≡ total - 4 = omega arith in
    let short : nat_lt (length a) total ≡ nat_lt (length rest) (left + 4) = short_by n (left + 4) a total sum l in
    let number_is : number o 4 (total - 4) a ≡ number o 4 left rest = ap (λ p. number o 4 p a) (sym place) ∙ sym (number-drop o 4 left n a) in
    let tail : drop total a ≡ drop (left + 4) rest = ap (λ p. drop p a) (sym sum) ∙ sym (drop-drop (left + 4) n a) in
    ap (λ b. go_on (λ next. blocks next (drop total a)) (by_length o k total s a b)) e
    ∙ ap (go_on (λ next. blocks next (drop total a)))
    (same_ends (not (number o 4 (total - 4) a == total)) (nat_lt (length a) total) (content k o s (take total a)) x (λ f. h (long_by a total f)))
    ∙ ap (λ b. go_on (λ next. blocks next (drop total a)) (if b then cut else if not (number o 4 (total - 4) a == total) then broken else x)) short
    ∙ ap (λ y. go_on (λ next. blocks next (drop total a)) (if nat_lt (length rest) (left + 4) then cut else if not (y == total) then broken else x)) number_is
    ∙ ap (λ y. go_on (λ next. blocks next y) (if nat_lt (length rest) (left + 4) then cut else if not (number o 4 left rest == total) then broken else x)) tail

-- the same within a block
pub after-passes : (b : Body) (n : ℕ) (a : List ℕ) (x : Given) → n ≤ b.left → n ≤ length a
    → after b a x ≡ after (record { order = b.order; total = b.total; left = b.left - n }) (drop n a) x
unfolding after
after-passes b n a x m l =
    let left = b.left - n in
    let rest = drop n a in
    let sum : n + (left + 4) ≡ b.left + 4 = omega arith in
    let place : n + left ≡ b.left = omega arith in
    let short : nat_lt (length a) (b.left + 4) ≡ nat_lt (length rest) (left + 4) = short_by n (left + 4) a (b.left + 4) sum l in
    let number_is : number b.order 4 b.left a ≡ number b.order 4 left rest = ap (λ p. number b.order 4 p a) (sym place) ∙ sym (number-drop b.order 4 left n a)
    in
    let tail : drop (b.left + 4) a ≡ drop (left + 4) rest = ap (λ p. drop p a) (sym sum) ∙ sym (drop-drop (left + 4) n a) in
    ap (λ c. go_on (λ next. blocks next (drop (b.left + 4) a)) (if c then cut else if not (number b.order 4 b.left a == b.total) then broken else x)) short
    ∙ ap (λ y. go_on (λ next. blocks next (drop (b.left + 4) a)) (if nat_lt (length rest) (left + 4) then cut else if not (y == b.total) then broken else x))
    number_is
    ∙ ap (λ y. go_on (λ next. blocks next y) (if nat_lt (length rest) (left + 4) then cut else if not (number b.order 4 left rest == b.total) then broken
    else x)) tail

-- a block that is cut
pub after-short : (b : Body) (a : List ℕ) (x : Given) → length a < b.left + 4 → after b a x ≡ 0 ∷ []
unfolding after
after-short b a x h =
    let short : nat_lt (length a) (b.left + 4) ≡ true = grind (arith, nat_tests) in
    ap (λ c. go_on (λ next. blocks next (drop (b.left + 4) a)) (if c then cut else if not (number b.order 4 b.left a == b.total) then broken else x)) short

-- the second total length
pub after-end : (b : Body) (a : List ℕ) (x : Given) → b.left ≡ 0 → 4 ≤ length a → number b.order 4 0 a ≡ b.total → after b a x
    ≡ go_on (λ next. blocks next (drop 4 a)) x
unfolding after
after-end b a x z h e =
    let long : nat_lt (length a) (b.left + 4) ≡ false = grind (arith, nat_tests) in
    let same : (number b.order 4 b.left a == b.total) ≡ true = ap (λ p. number b.order 4 p a == b.total) z ∙ is_same (number b.order 4 0 a) b.total e in
    ap (λ c. go_on (λ next. blocks next (drop (b.left + 4) a)) (if c then cut else if not (number b.order 4 b.left a == b.total) then broken else x)) long
    ∙ ap (λ c. go_on (λ next. blocks next (drop (b.left + 4) a)) (if not c then broken else x)) same
    ∙ ap (λ p. go_on (λ next. blocks next (drop (p + 4) a)) x) z

-- another number in its place
pub after-broken : (b : Body) (a : List ℕ) (x : Given) → b.left ≡ 0 → 4 ≤ length a → (number b.order 4 0 a == b.total) ≡ false → after b a x
    ≡ bare_head 0 (2 ^ 32 - 1)
unfolding after
after-broken b a x z h e =
    let long : nat_lt (length a) (b.left + 4) ≡ false = grind (arith, nat_tests) in
    let other : (number b.order 4 b.left a == b.total) ≡ false = ap (λ p. number b.order 4 p a == b.total) z ∙ e in
    ap (λ c. go_on (λ next. blocks next (drop (b.left + 4) a)) (if c then cut else if not (number b.order 4 b.left a == b.total) then broken else x)) long
    ∙ ap (λ c. go_on (λ next. blocks next (drop (b.left + 4) a)) (if not c then broken else x)) other
