-- The first fault of joined lists.
use Rattle.std.proofs.Common.{◌≡◌, ◌<◌, ◌+◌, ◌==◌, ◌&&◌, ◌||◌, if◌then◌else◌, ℕ, Bool, true, false, cond, List, [], ◌∷◌, ◌++◌, Option, Some, None, nat_lt}
use Rattle.std.proofs.Common.{length, drop, get_or, map, add-one, drop-cons, arith, refl, sym, ap, ◌∙◌}
use Rattle.std.specs.List.{flat_map}
use Rattle.std.proofs.lemmas.Grind.{common_steps}
use Rattle.sdp_reader.specs.declared.fault.SdpCause.{SdpCause}
use Rattle.sdp_reader.specs.declared.fault.SdpCause.TheVariants.{NotText, NoVersion, BadLine, BadMedia, NoConnection, BadAddress, BadParameter}
use Rattle.sdp_reader.specs.declared.fault.SdpCause.TheVariants.{RepeatedParameter, MissingParameter, BadRate, Segmented, ExtendedUdp, SameTarget, TooManyMedia}
use Rattle.sdp_reader.specs.declared.fault.SdpCause.TheVariants.{NoVideo, TooLarge}
use Rattle.sdp_reader.specs.declared.fault.SdpFault.{SdpFault}
use Rattle.sdp_reader.specs.Fault.{number_of, comes_before, first_of, least}

-- nothing after
pub first_of-none : (a : Option SdpFault) → first_of a None ≡ a
first_of-none None = refl
first_of-none (Some f) = refl

-- places in the order, by line and by number
abbrev pub earlier : ℕ → ℕ → ℕ → ℕ → Bool
earlier a m b n = nat_lt a b || ((a == b) && nat_lt m n)

earlier-then : (a m b n c k : ℕ) → earlier a m b n ≡ true → earlier b n c k ≡ true → earlier a m c k ≡ true
earlier-then a m b n c k p q = grind (arith, common_steps)

earlier-never : (a m b n c k : ℕ) → earlier a m b n ≡ false → earlier b n c k ≡ false → earlier a m c k ≡ false
earlier-never a m b n c k p q = grind (arith, common_steps)

earlier-self : (a m : ℕ) → earlier a m a m ≡ false
earlier-self a m = grind (arith, common_steps)

earlier-back : (a m b n : ℕ) → earlier a m b n ≡ true → earlier b n a m ≡ false
earlier-back a m b n p = grind (arith, common_steps)

-- the order of faults
pub before-then : (f g h : SdpFault) → comes_before f g ≡ true → comes_before g h ≡ true → comes_before f h ≡ true
before-then f g h p q = earlier-then f.line (number_of f.what) g.line (number_of g.what) h.line (number_of h.what) p q

pub before-never : (f g h : SdpFault) → comes_before f g ≡ false → comes_before g h ≡ false → comes_before f h ≡ false
before-never f g h p q = earlier-never f.line (number_of f.what) g.line (number_of g.what) h.line (number_of h.what) p q

pub before-self : (f : SdpFault) → comes_before f f ≡ false
before-self f = earlier-self f.line (number_of f.what)

pub before-back : (f g : SdpFault) → comes_before f g ≡ true → comes_before g f ≡ false
before-back f g p = earlier-back f.line (number_of f.what) g.line (number_of g.what) p

both_ways : (t : Bool) → t ≡ true → t ≡ false → ⊥
both_ways true p q = cc
both_ways false p q = cc

-- the earlier of three, by their order in pairs
three : (f g h : SdpFault) (gf hg hf : Bool) → comes_before g f ≡ gf → comes_before h g ≡ hg → comes_before h f ≡ hf
    → first_of (cond gf (Some g) (Some f)) (Some h) ≡ first_of (Some f) (cond hg (Some h) (Some g))
three f g h true true true a b e = ap (λ t. cond t (Some h) (Some g)) b ∙ sym (ap (λ t. cond t (Some h) (Some f)) e)
three f g h true true false a b e = absurd (both_ways (comes_before h f) (before-then h g f b a) e)
three f g h true false hf a b e = ap (λ t. cond t (Some h) (Some g)) b ∙ sym (ap (λ t. cond t (Some g) (Some f)) a)
three f g h false true hf a b e = refl
three f g h false false true a b e = absurd (both_ways (comes_before h f) e (before-never h g f b a))
three f g h false false false a b e = ap (λ t. cond t (Some h) (Some f)) e ∙ sym (ap (λ t. cond t (Some g) (Some f)) a)

pub first_of-assoc : (a b c : Option SdpFault) → first_of (first_of a b) c ≡ first_of a (first_of b c)
first_of-assoc None b c = refl
first_of-assoc (Some f) None c = refl
first_of-assoc (Some f) (Some g) None = first_of-none (first_of (Some f) (Some g))
first_of-assoc (Some f) (Some g) (Some h) = three f g h _ _ _ refl refl refl

-- the cause of a number
abbrev cause_numbered : ℕ → SdpCause
cause_numbered n =
    if n == 1 then NotText
    else if n == 2 then NoVersion
    else if n == 3 then BadLine
    else if n == 4 then BadMedia
    else if n == 5 then NoConnection
    else if n == 6 then BadAddress
    else if n == 7 then BadParameter
    else if n == 8 then RepeatedParameter
    else if n == 9 then MissingParameter
    else if n == 10 then BadRate
    else if n == 11 then Segmented
    else if n == 12 then ExtendedUdp
    else if n == 13 then SameTarget
    else if n == 14 then TooManyMedia
    else if n == 15 then NoVideo
    else TooLarge

cause_numbered-number_of : (c : SdpCause) → cause_numbered (number_of c) ≡ c
cause_numbered-number_of NotText = refl
cause_numbered-number_of NoVersion = refl
cause_numbered-number_of BadLine = refl
cause_numbered-number_of BadMedia = refl
cause_numbered-number_of NoConnection = refl
cause_numbered-number_of BadAddress = refl
cause_numbered-number_of BadParameter = refl
cause_numbered-number_of RepeatedParameter = refl
cause_numbered-number_of MissingParameter = refl
cause_numbered-number_of BadRate = refl
cause_numbered-number_of Segmented = refl
cause_numbered-number_of ExtendedUdp = refl
cause_numbered-number_of SameTarget = refl
cause_numbered-number_of TooManyMedia = refl
cause_numbered-number_of NoVideo = refl
cause_numbered-number_of TooLarge = refl

one_line : (a m b n : ℕ) → earlier a m b n ≡ false → earlier b n a m ≡ false → a ≡ b
one_line a m b n p q = grind (arith, common_steps)

one_number : (a m b n : ℕ) → earlier a m b n ≡ false → earlier b n a m ≡ false → m ≡ n
one_number a m b n p q = grind (arith, common_steps)

-- two faults of which neither comes first are one
one_fault : (f g : SdpFault) → comes_before f g ≡ false → comes_before g f ≡ false → f ≡ g
one_fault f g p q =
    let line = one_line f.line (number_of f.what) g.line (number_of g.what) p q in
    let number = one_number f.line (number_of f.what) g.line (number_of g.what) p q in
    let cause : f.what ≡ g.what = sym (cause_numbered-number_of f.what) ∙ ap cause_numbered number ∙ cause_numbered-number_of g.what in
    λ i. record { line = line i; what = cause i }

either_way : (f g : SdpFault) (gf fg : Bool) → comes_before g f ≡ gf → comes_before f g ≡ fg → cond gf (Some g) (Some f) ≡ cond fg (Some f) (Some g)
either_way f g true true p q = sym (ap (λ t. cond t (Some f) (Some g)) (sym q ∙ before-back g f p))
either_way f g true false p q = refl
either_way f g false true p q = refl
either_way f g false false p q = ap Some (one_fault f g q p)

pub first_of-comm : (a b : Option SdpFault) → first_of a b ≡ first_of b a
first_of-comm None b = sym (first_of-none b)
first_of-comm (Some f) None = refl
first_of-comm (Some f) (Some g) = either_way f g _ _ refl refl

-- the middle two of four, the other way round
pub first_of-middle : (a b c d : Option SdpFault) → first_of (first_of a b) (first_of c d) ≡ first_of (first_of a c) (first_of b d)
first_of-middle a b c d =
    first_of-assoc a b (first_of c d)
    ∙ ap (first_of a) (sym (first_of-assoc b c d) ∙ ap (λ t. first_of t d) (first_of-comm b c) ∙ first_of-assoc c b d)
    ∙ sym (first_of-assoc a c (first_of b d))

-- the first of two lists
pub least-append : (xs ys : List SdpFault) → least (xs ++ ys) ≡ first_of (least xs) (least ys)
least-append [] ys = refl
least-append (x ∷ xs) ys = ap (first_of (Some x)) (least-append xs ys) ∙ sym (first_of-assoc (Some x) (least xs) (least ys))

-- the element at a place comes first of those from there on
pub at_front : {A : Type 0} (xs : List A) (i : ℕ) (d : A) → i < length xs → drop i xs ≡ get_or xs i d ∷ drop (i + 1) xs
at_front xs i d h = rw (add-one, drop-cons xs i d) refl

-- the faults of one element more
pub least-step : {A B : Type 0} (f : B → List SdpFault) (g : A → B) (fault r s : Option SdpFault) (xs : List A) (i : ℕ) (d : A)
    → r ≡ first_of fault s → s ≡ least (f (g (get_or xs i d))) → i < length xs
    → first_of r (least (flat_map f (map g (drop (i + 1) xs)))) ≡ first_of fault (least (flat_map f (map g (drop i xs))))
least-step f g fault r s xs i d a b h =
    ap (λ t. first_of t (least (flat_map f (map g (drop (i + 1) xs))))) (a ∙ ap (first_of fault) b)
    ∙ first_of-assoc fault (least (f (g (get_or xs i d)))) (least (flat_map f (map g (drop (i + 1) xs))))
    ∙ ap (first_of fault) (sym (least-append (f (g (get_or xs i d))) (flat_map f (map g (drop (i + 1) xs)))))
    ∙ ap (λ l. first_of fault (least (flat_map f (map g l)))) (sym (at_front xs i d h))

-- the first of four lists, found in pairs
pub least-four : (a b c d : List SdpFault) (r x y z w u v : Option SdpFault)
    → r ≡ first_of x y → x ≡ least a → y ≡ first_of z w → z ≡ least b → w ≡ first_of u v → u ≡ least c → v ≡ least d
    → r ≡ least (a ++ (b ++ (c ++ d)))
least-four a b c d r x y z w u v rs xs ys zs ws us vs =
    let last : w ≡ least (c ++ d) = ws ∙ ap (λ t. first_of t v) us ∙ ap (first_of (least c)) vs ∙ sym (least-append c d) in
    let rest : y ≡ least (b ++ (c ++ d)) = ys ∙ ap (λ t. first_of t w) zs ∙ ap (first_of (least b)) last ∙ sym (least-append b (c ++ d)) in
    rs ∙ ap (λ t. first_of t y) xs ∙ ap (first_of (least a)) rest ∙ sym (least-append a (b ++ (c ++ d)))
