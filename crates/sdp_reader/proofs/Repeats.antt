-- Those that come after one like them, told one by one with a history.
use Rattle.std.proofs.Common.{◌≡◌, ◌<◌, ◌+◌, ◌||◌, ℕ, Bool, true, false, cond, List, [], ◌∷◌, ◌++◌, Option, Some, None, map, length, take, drop, get_or, refl}
use Rattle.std.proofs.Common.{sym, ap, ◌∙◌}
use Rattle.std.specs.List.{flat_map, list_any}
use Rattle.std.proofs.lemmas.Grind.{take_at_read}
use Rattle.sdp_reader.specs.declared.fault.SdpCause.{SdpCause}
use Rattle.sdp_reader.specs.declared.fault.SdpFault.{SdpFault}
use Rattle.sdp_reader.specs.Fault.{first_of, least}
use Rattle.sdp_reader.specs.Lines.{at, repeats}
use Rattle.sdp_reader.proofs.Items.{list_any-push, take-push}
use Rattle.sdp_reader.proofs.Least.{first_of-assoc, first_of-comm, first_of-middle, least-append, at_front, before-self}

-- a cause where one of two facts holds
at-or : (line : ℕ) (cause : SdpCause) (p q : Bool) → least (at line cause (p || q)) ≡ first_of (least (at line cause p)) (least (at line cause q))
at-or line cause true true = let f : SdpFault = record { line = line; what = cause } in sym (ap (λ t. cond t (Some f) (Some f)) (before-self f))
at-or line cause true false = refl
at-or line cause false true = refl
at-or line cause false false = refl

-- the cause on the lines of those that pass one of two tests
tests-or : {A : Type 0} (line : A → ℕ) (cause : SdpCause) (p q : A → Bool) (xs : List A)
    → least (flat_map (λ x. at (line x) cause (p x || q x)) xs)
    ≡ first_of (least (flat_map (λ x. at (line x) cause (p x)) xs)) (least (flat_map (λ x. at (line x) cause (q x)) xs))
tests-or line cause p q [] = refl
tests-or line cause p q (x ∷ xs) =
    let ps = flat_map (λ y. at (line y) cause (p y)) xs in
    let qs = flat_map (λ y. at (line y) cause (q y)) xs in
    let px = at (line x) cause (p x) in
    let qx = at (line x) cause (q x) in
    let both = flat_map (λ y. at (line y) cause (p y || q y)) xs in
    least-append (at (line x) cause (p x || q x)) both
    ∙ ap (λ t. first_of t (least both)) (at-or (line x) cause (p x) (q x))
    ∙ ap (first_of (first_of (least px) (least qx))) (tests-or line cause p q xs)
    ∙ first_of-middle (least px) (least qx) (least ps) (least qs)
    ∙ ap (λ t. first_of t (first_of (least qx) (least qs))) (sym (least-append px ps))
    ∙ ap (first_of (least (px ++ ps))) (sym (least-append qx qs))

none_passes : {A : Type 0} (line : A → ℕ) (cause : SdpCause) (xs : List A) → least (flat_map (λ x. at (line x) cause false) xs) ≡ None
none_passes line cause [] = refl
none_passes line cause (x ∷ xs) = none_passes line cause xs

-- the cause on the line of each that comes after one like it, be it of `earlier` or of the list
abbrev pub repeats_after : {A : Type 0} → (A → ℕ) → SdpCause → (A → A → Bool) → List A → List A → List SdpFault
repeats_after line cause alike earlier [] = []
repeats_after line cause alike earlier (x ∷ xs) =
    at (line x) cause (list_any (λ e. alike e x) earlier) ++ repeats_after line cause alike (earlier ++ x ∷ []) xs

-- those alike to an earlier one, and those alike to one of the list
least-repeats_after : {A : Type 0} (line : A → ℕ) (cause : SdpCause) (alike : A → A → Bool) (earlier xs : List A)
    → least (repeats_after line cause alike earlier xs)
    ≡ first_of (least (flat_map (λ x. at (line x) cause (list_any (λ e. alike e x) earlier)) xs)) (least (repeats line cause alike xs))
least-repeats_after line cause alike earlier [] = refl
least-repeats_after line cause alike earlier (x ∷ xs) =
    let here = at (line x) cause (list_any (λ e. alike e x) earlier) in
    let old = flat_map (λ y. at (line y) cause (list_any (λ e. alike e y) earlier)) xs in
    let new = flat_map (λ y. at (line y) cause (alike x y)) xs in
    let later = repeats line cause alike xs in
    let split : least (flat_map (λ y. at (line y) cause (list_any (λ e. alike e y) (earlier ++ x ∷ []))) xs) ≡ first_of (least new) (least old) =
    (λ i. least (flat_map (λ y. at (line y) cause (list_any-push (λ e. alike e y) earlier x i)) xs))
    ∙ tests-or line cause (alike x) (λ y. list_any (λ e. alike e y) earlier) xs in
    least-append here (repeats_after line cause alike (earlier ++ x ∷ []) xs)
    ∙ ap (first_of (least here)) (least-repeats_after line cause alike (earlier ++ x ∷ []) xs)
    ∙ ap (λ t. first_of (least here) (first_of t (least later))) (split ∙ first_of-comm (least new) (least old))
    ∙ ap (first_of (least here)) (first_of-assoc (least old) (least new) (least later))
    ∙ sym (first_of-assoc (least here) (least old) (first_of (least new) (least later)))
    ∙ ap (λ t. first_of t (first_of (least new) (least later))) (sym (least-append here old))
    ∙ ap (first_of (least (here ++ old))) (sym (least-append new later))

-- with nothing before, the repeats of the list
pub repeats_after-none : {A : Type 0} (line : A → ℕ) (cause : SdpCause) (alike : A → A → Bool) (xs : List A)
    → least (repeats_after line cause alike [] xs) ≡ least (repeats line cause alike xs)
repeats_after-none line cause alike xs =
    least-repeats_after line cause alike [] xs ∙ ap (λ t. first_of t (least (repeats line cause alike xs))) (none_passes line cause xs)

-- one more
repeats_after-next : {A : Type 0} (line : A → ℕ) (cause : SdpCause) (alike : A → A → Bool) (fault r s : Option SdpFault)
    (earlier later : List A) (x : A) (b : Bool)
    → r ≡ first_of fault s → s ≡ least (at (line x) cause b) → b ≡ list_any (λ e. alike e x) earlier
    → first_of r (least (repeats_after line cause alike (earlier ++ x ∷ []) later))
    ≡ first_of fault (least (repeats_after line cause alike earlier (x ∷ later)))
repeats_after-next line cause alike fault r s earlier later x b p q e =
    let here = at (line x) cause (list_any (λ e. alike e x) earlier) in
    let rest = repeats_after line cause alike (earlier ++ x ∷ []) later in
    ap (λ t. first_of t (least rest)) (p ∙ ap (first_of fault) (q ∙ ap (λ t. least (at (line x) cause t)) e))
    ∙ first_of-assoc fault (least here) (least rest)
    ∙ ap (first_of fault) (sym (least-append here rest))

-- one more of a list that is walked
pub repeats_after-step : {A B : Type 0} (line : B → ℕ) (cause : SdpCause) (alike : B → B → Bool) (g : A → B)
    (fault r s : Option SdpFault) (xs : List A) (i : ℕ) (d : A) (b : Bool)
    → r ≡ first_of fault s → s ≡ least (at (line (g (get_or xs i d))) cause b)
    → b ≡ list_any (λ e. alike e (g (get_or xs i d))) (map g (take i xs)) → i < length xs
    → first_of r (least (repeats_after line cause alike (map g (take (i + 1) xs)) (map g (drop (i + 1) xs))))
    ≡ first_of fault (least (repeats_after line cause alike (map g (take i xs)) (map g (drop i xs))))
repeats_after-step line cause alike g fault r s xs i d b p q e h =
    ap (λ l. first_of r (least (repeats_after line cause alike l (map g (drop (i + 1) xs))))) (take-push g xs i d h)
    ∙ repeats_after-next line cause alike fault r s (map g (take i xs)) (map g (drop (i + 1) xs)) (g (get_or xs i d)) b p q e
    ∙ ap (λ l. first_of fault (least (repeats_after line cause alike (map g (take i xs)) (map g l)))) (sym (at_front xs i d h))

-- the same, of the list itself
pub repeats_after-walk : {A : Type 0} (line : A → ℕ) (cause : SdpCause) (alike : A → A → Bool)
    (fault r s : Option SdpFault) (xs : List A) (i : ℕ) (d : A) (b : Bool)
    → r ≡ first_of fault s → s ≡ least (at (line (get_or xs i d)) cause b)
    → b ≡ list_any (λ e. alike e (get_or xs i d)) (take i xs) → i < length xs
    → first_of r (least (repeats_after line cause alike (take (i + 1) xs) (drop (i + 1) xs)))
    ≡ first_of fault (least (repeats_after line cause alike (take i xs) (drop i xs)))
repeats_after-walk line cause alike fault r s xs i d b p q e h =
    ap (λ l. first_of r (least (repeats_after line cause alike l (drop (i + 1) xs)))) (take_at_read xs i d h).1
    ∙ repeats_after-next line cause alike fault r s (take i xs) (drop (i + 1) xs) (get_or xs i d) b p q e
    ∙ ap (λ l. first_of fault (least (repeats_after line cause alike (take i xs) l))) (sym (at_front xs i d h))
