-- Lemmas on what the front of a text says of the whole.
use Rattle.std.proofs.Common.{refl, ◌≡◌, ◌≤◌, ◌+◌, ℕ, List, ◌++◌, length, take, drop, Some, sym, ap, ◌∙◌, arith, length-drop, length-append}
use Rattle.std.proofs.lemmas.List.{drop-append-le, drop-drop, take-append-drop, length-take-le}
use Rattle.std.proofs.lemmas.Bool.Decides.{nat_tests}
use Rattle.std.specs.Prelude.{◌==◌, if◌then◌else◌}
use Rattle.byteorder.specs.Endian.{big_number, little_number}
use Rattle.byteorder.specs.Numbers.{big_from-append, little_from-append}
use Rattle.pcapng_reader.specs.declared.block.Order.{Order}
use Rattle.pcapng_reader.specs.declared.block.Order.TheVariants.{Big, Little}
use Rattle.pcapng_reader.specs.Classic.{number, begins_section, kind_by, kind_of, order_of, order_by}

-- a number in the front of a text is that of the text
pub number-front : (o : Order) (n p : ℕ) (h r : List ℕ) → p + n ≤ length h → number o n p (h ++ r) ≡ number o n p h
number-front Big n p h r m =
    ap (big_number n) (drop-append-le p h r (omega arith)) ∙ big_from-append n (drop p h) r (omega (arith, length-drop p h))
number-front Little n p h r m =
    ap (little_number n) (drop-append-le p h r (omega arith)) ∙ little_from-append n (drop p h) r (omega (arith, length-drop p h))

-- a number in a front
pub number-take : (o : Order) (n p t : ℕ) (a : List ℕ) → p + n ≤ t → t ≤ length a → number o n p (take t a) ≡ number o n p a
number-take o n p t a m l =
    sym (number-front o n p (take t a) (drop t a) (omega (arith, length-take-le t a l))) ∙ ap (number o n p) (take-append-drop t a)

-- a number behind the first bytes
pub number-drop : (o : Order) (n p k : ℕ) (a : List ℕ) → number o n p (drop k a) ≡ number o n (k + p) a
number-drop Big n p k a = ap (big_number n) (drop-drop p k a)
number-drop Little n p k a = ap (little_number n) (drop-drop p k a)

-- the type of a block stands in its front
pub kind_of-front : (o : Order) (h r : List ℕ) → 4 ≤ length h → kind_of o (h ++ r) ≡ kind_of o h
kind_of-front o h r m = ap kind_by (number-front o 4 0 h r m)

begins-long : (b : List ℕ) → 4 ≤ length b → begins_section b ≡ (number Big 4 0 b == 0x0a0d0d0a)
begins-long b m = grind (arith, nat_tests)

-- the first four bytes tell whether a section begins
pub begins-front : (h r : List ℕ) → 4 ≤ length h → begins_section (h ++ r) ≡ begins_section h
begins-front h r m =
    begins-long (h ++ r) (omega (arith, length-append h r)) ∙ ap (λ n. n == 0x0a0d0d0a) (number-front Big 4 0 h r m) ∙ sym (begins-long h m)

order_of-front : (h r : List ℕ) → 12 ≤ length h → order_of (h ++ r) ≡ order_of h
order_of-front h r m =
    rw (number-front Big 4 8 h r (omega arith), number-front Little 4 8 h r (omega arith)) refl

-- the first twelve bytes tell the byte order of a block
pub order_by-front : (o : Order) (h r : List ℕ) → 12 ≤ length h → order_by o (h ++ r) ≡ order_by o h
order_by-front o h r m =
    ap (λ b. if b then order_of (h ++ r) else Some o) (begins-front h r (omega arith))
    ∙ ap (λ x. if begins_section h then x else Some o) (order_of-front h r m)
