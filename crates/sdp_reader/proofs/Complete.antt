-- A raw part without a fault has all that a stream has to have.
use Rattle.std.proofs.Common.{◌≡◌, ◌==◌, ◌||◌, ℕ, Bool, true, false, cond, List, [], ◌∷◌, ◌++◌, Option, Some, None, find, arith, refl, sym, ◌∙◌, subst}
use Rattle.std.specs.Option.{option_map, option_and_then, is_some, is_none}
use Rattle.std.specs.List.{flat_map}
use Rattle.std.proofs.lemmas.Grind.{common_steps}
use Rattle.timing_base.specs.declared.address.Address.{Address}
use Rattle.sdp_reader.specs.declared.fault.SdpCause.{SdpCause}
use Rattle.sdp_reader.specs.declared.fault.SdpCause.TheVariants.{BadAddress, MissingParameter}
use Rattle.sdp_reader.specs.declared.fault.SdpFault.{SdpFault}
use Rattle.sdp_reader.specs.declared.line.Video.{Video}
use Rattle.sdp_reader.specs.declared.parameter.Name.{Name}
use Rattle.sdp_reader.specs.declared.parameter.Name.TheVariants.{Width, Height, ExactFrameRate}
use Rattle.sdp_reader.specs.declared.parameter.Rate.{Rate}
use Rattle.sdp_reader.specs.Fault.{first_of, least}
use Rattle.sdp_reader.specs.Lines.{TextLine, at}
use Rattle.sdp_reader.specs.Parameters.{Item, row_of, is_of, unless, cause_of, at_most_one, item_faults, repeated_faults, value_size, value_rate, item_named}
use Rattle.sdp_reader.specs.Parts.{RawPart, address_of, connection_faults, is_missing, part_faults, good_address, media_with, media_of}
use Rattle.sdp_reader.proofs.Least.{least-append}

some_of : (t : Bool) (f g : SdpFault) → cond t (Some g) (Some f) ≡ None → ⊥
some_of true f g h = cc
some_of false f g h = cc

-- the first of two is none where both are
both_none : (a b : Option SdpFault) → first_of a b ≡ None → (a ≡ None) × (b ≡ None)
both_none None b h = (refl, h)
both_none (Some f) None h = absurd (cc)
both_none (Some f) (Some g) h = absurd (some_of _ _ _ h)

pub append-none : (xs ys : List SdpFault) → least (xs ++ ys) ≡ None → (least xs ≡ None) × (least ys ≡ None)
append-none xs ys h = both_none (least xs) (least ys) (sym (least-append xs ys) ∙ h)

-- a fault that isn't told doesn't stand
pub at-none : (line : ℕ) (cause : SdpCause) (stands : Bool) → least (at line cause stands) ≡ None → stands ≡ false
at-none line cause true h = absurd (cc)
at-none line cause false h = refl

is_some-from : {A : Type 0} (o : Option A) → is_none o ≡ false → is_some o ≡ true
is_some-from None h = absurd (cc)
is_some-from (Some x) h = refl

connected : (line : ℕ) (o : Option TextLine) → least (connection_faults line o) ≡ None → is_some (option_and_then address_of o) ≡ true
connected line None h = absurd (cc)
connected line (Some l) h = is_some-from (address_of l) (at-none l.number BadAddress (is_none (address_of l)) h)

none_caused : (line : ℕ) (o : Option SdpCause) → least (at_most_one line o) ≡ None → o ≡ None
none_caused line None h = refl
none_caused line (Some cause) h = absurd (cc)

-- an item that is found passes, and has no cause
abbrev FoundFits : (Item → Bool) → Option Item → Type 0
FoundFits p None = Unit {0}
FoundFits p (Some i) = (p i ≡ true) × (cause_of i.name i ≡ None)

-- the item that is found has no fault
found_fits : (p : Item → Bool) (items : List Item) (t : Bool) (x : Item) → p x ≡ t → least (item_faults x ++ flat_map item_faults items) ≡ None
    → ((o : Option Item) → find p items ≡ o → least (flat_map item_faults items) ≡ None → FoundFits p o)
    → FoundFits p (cond t (Some x) (find p items))
found_fits p items true x e h rest = (e, none_caused x.line (cause_of x.name x) (append-none (item_faults x) (flat_map item_faults items) h).0)
found_fits p items false x e h rest = rest (find p items) refl (append-none (item_faults x) (flat_map item_faults items) h).1

find-fits : (p : Item → Bool) (items : List Item) → least (flat_map item_faults items) ≡ None → FoundFits p (find p items)
find-fits p [] h = tt
find-fits p (x ∷ xs) h = found_fits p xs (p x) x refl h (λ o e n. subst (FoundFits p) e (find-fits p xs n))

unless-none : (fits : Bool) (cause : SdpCause) → unless fits cause ≡ None → fits ≡ true
unless-none true cause h = refl
unless-none false cause h = absurd (cc)

width_fits : (n : Name) (i : Item) → (row_of n == 0) ≡ true → cause_of n i ≡ None → is_some (value_size i) ≡ true
width_fits Width i e h = unless-none _ _ h
width_fits _ i e h = absurd (cc)

height_fits : (n : Name) (i : Item) → (row_of n == 1) ≡ true → cause_of n i ≡ None → is_some (value_size i) ≡ true
height_fits Height i e h = unless-none _ _ h
height_fits _ i e h = absurd (cc)

rate_fits : (n : Name) (i : Item) → (row_of n == 2) ≡ true → cause_of n i ≡ None → is_some (value_rate i) ≡ true
rate_fits ExactFrameRate i e h = unless-none _ _ h
rate_fits _ i e h = absurd (cc)

value_stands : {A : Type 0} (p : Item → Bool) (f : Item → Option A) (o : Option Item)
    → is_none o ≡ false → FoundFits p o
    → ((i : Item) → p i ≡ true → cause_of i.name i ≡ None → is_some (f i) ≡ true)
    → is_some (option_and_then f o) ≡ true
value_stands p f None s h fits = absurd (cc)
value_stands p f (Some i) s h fits = fits i h.0 h.1

all_stand : (line : ℕ) (video : Video) (items : List Item) (a : Option Address) (w h : Option ℕ) (r : Option Rate)
    → is_some a ≡ true → is_some w ≡ true → is_some h ≡ true → is_some r ≡ true
    → is_some (option_and_then (λ x. option_and_then (λ y. option_and_then (λ z. option_map (media_with line video items x y z) r) h) w) a) ≡ true
all_stand line video items None w h r p q s t = absurd (cc)
all_stand line video items (Some a) None h r p q s t = absurd (cc)
all_stand line video items (Some a) (Some w) None r p q s t = absurd (cc)
all_stand line video items (Some a) (Some w) (Some h) None p q s t = absurd (cc)
all_stand line video items (Some a) (Some w) (Some h) (Some r) p q s t = refl

none_of_three : (a b c : Bool) → ((a || b) || c) ≡ false → (a ≡ false) × (b ≡ false) × (c ≡ false)
none_of_three true b c h = absurd (grind (arith, common_steps))
none_of_three false true c h = absurd (grind (arith, common_steps))
none_of_three false false true h = absurd (grind (arith, common_steps))
none_of_three false false false h = (refl, refl, refl)

-- so the part has a stream
pub media_stands : (r : RawPart) → least (part_faults r) ≡ None → is_some (media_of r) ≡ true
media_stands r h =
    let first = append-none (connection_faults r.line r.connection) (at r.line MissingParameter (is_missing r.items)
    ++ (flat_map item_faults r.items ++ repeated_faults r.items)) h in
    let second = append-none (at r.line MissingParameter (is_missing r.items)) (flat_map item_faults r.items ++ repeated_faults r.items) first.1 in
    let third = append-none (flat_map item_faults r.items) (repeated_faults r.items) second.1 in
    let missing = none_of_three (is_none (item_named Width r.items)) (is_none (item_named Height r.items)) (is_none (item_named ExactFrameRate r.items))
    (at-none r.line MissingParameter (is_missing r.items) second.0) in
    all_stand r.line r.video r.items (good_address r) (option_and_then value_size (item_named Width r.items))
    (option_and_then value_size (item_named Height r.items)) (option_and_then value_rate (item_named ExactFrameRate r.items))
    (connected r.line r.connection first.0)
    (value_stands (is_of 0) value_size (item_named Width r.items) missing.0 (find-fits (is_of 0) r.items third.0) (λ i. width_fits i.name i))
    (value_stands (is_of 1) value_size (item_named Height r.items) missing.1 (find-fits (is_of 1) r.items third.0) (λ i. height_fits i.name i))
    (value_stands (is_of 2) value_rate (item_named ExactFrameRate r.items) missing.2 (find-fits (is_of 2) r.items third.0) (λ i. rate_fits i.name i))
