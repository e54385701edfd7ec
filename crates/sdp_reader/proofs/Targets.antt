-- No two media of a session have one target: the later would have the fault SameTarget.
use Rattle.std.proofs.Common.{◌≡◌, ℕ, zero, suc, true, false, List, [], ◌∷◌, slice_get, Option, Some, None, Ok, Err, map, length, nat_lt, refl, sym, ap, ◌∙◌}
use Rattle.std.proofs.Common.{arith, Result}
use Rattle.std.specs.Prelude.{IfOk}
use Rattle.std.specs.Option.{option_map, option_and_then}
use Rattle.std.specs.List.{flat_map}
use Rattle.std.proofs.lemmas.Grind.{common_steps}
use Rattle.timing_base.specs.declared.address.Address.{Address}
use Rattle.timing_base.specs.Media.{Media}
use Rattle.timing_base.proofs.Targets.{target-itself}
use Rattle.timing_base.specs.Targets.{is_same_target, target_of, HaveOwnTargets}
use Rattle.timing_base.specs.declared.target.Target.{Target}
use Rattle.sdp_reader.specs.declared.fault.SdpCause.TheVariants.{SameTarget}
use Rattle.sdp_reader.specs.declared.fault.SdpError.{SdpError}
use Rattle.sdp_reader.specs.declared.fault.SdpError.TheVariants.{Refused, OutOfMemory}
use Rattle.sdp_reader.specs.declared.line.Video.{Video}
use Rattle.sdp_reader.specs.declared.parameter.Name.TheVariants.{Width, Height, ExactFrameRate}
use Rattle.sdp_reader.specs.declared.parameter.Rate.{Rate}
use Rattle.sdp_reader.specs.declared.part.Destination.{Destination}
use Rattle.sdp_reader.specs.Answer.{Tells}
use Rattle.sdp_reader.specs.Fault.{least}
use Rattle.sdp_reader.specs.Lines.{TextLine, lines, at, repeats}
use Rattle.sdp_reader.specs.Parameters.{Item, value_size, value_rate, item_named}
use Rattle.sdp_reader.specs.Parts.{RawPart, good_address, media_with, media_of}
use Rattle.sdp_reader.specs.Session.{raw_parts, target_at, destination_of, are_same, have_one_target, target_faults, answer, session}
use Rattle.sdp_reader.proofs.Complete.{append-none, at-none}
use Rattle.sdp_reader.proofs.Sessions.{session_ok, answer-each, answer-targets}

-- a later part has another target where SameTarget isn't told of it
other_target : (d later : Destination) (m n : Media) → d.target ≡ Some (target_of m) → later.target ≡ Some (target_of n) → have_one_target d later ≡ false
    → target_of m ≡ target_of n → ⊥
other_target d later m n p q apart same =
    let here : are_same later.target d.target ≡ is_same_target (target_of n) (target_of n) =
    ap (λ t. are_same t d.target) q ∙ ap (are_same (Some (target_of n))) (p ∙ ap (λ t. Some t) same) in
    let both : true ≡ false = sym (here ∙ target-itself (target_of n)) ∙ apart in
    absurd (cc)

some_head : {A : Type 0} (x y : A) (xs ys : List A) → x ∷ xs ≡ y ∷ ys → x ≡ y
some_head x y xs ys e = cc

some_tail : {A : Type 0} (x y : A) (xs ys : List A) → x ∷ xs ≡ y ∷ ys → xs ≡ ys
some_tail x y xs ys e = cc

-- the targets of parts, and those of their media
abbrev AreTargets : List Destination → List Media → Type 0
AreTargets ds media = map (λ d. d.target) ds ≡ map (λ m. Some (target_of m)) media

-- the parts after one have other targets
others-apart : (d : Destination) (m : Media) (ds : List Destination) (media : List Media) (j : ℕ) (n : Media) → d.target ≡ Some (target_of m)
    → AreTargets ds media
    → least (flat_map (λ later. at later.line SameTarget (have_one_target d later)) ds) ≡ None → slice_get media j ≡ Some n → target_of m ≡ target_of n → ⊥
others-apart d m ds [] j n p e h at same = cc
others-apart d m [] (x ∷ xs) j n p e h at same = cc
others-apart d m (c ∷ cs) (x ∷ xs) zero n p e h here same =
    let told = append-none (at c.line SameTarget (have_one_target d c)) (flat_map (λ later. at later.line SameTarget (have_one_target d later)) cs) h in
    let is : x ≡ n = cc in
    other_target d c m n p (some_head _ _ _ _ e ∙ ap (λ y. Some (target_of y)) is) (at-none c.line SameTarget (have_one_target d c) told.0) same
others-apart d m (c ∷ cs) (x ∷ xs) (suc j) n p e h here same =
    let told = append-none (at c.line SameTarget (have_one_target d c)) (flat_map (λ later. at later.line SameTarget (have_one_target d later)) cs) h in
    others-apart d m cs xs j n p (some_tail _ _ _ _ e) told.1 here same

-- one media more
own-cons : (m : Media) (ms : List Media) → HaveOwnTargets ms → ((j : ℕ) (n : Media) → slice_get ms j ≡ Some n → target_of m ≡ target_of n → ⊥)
    → HaveOwnTargets (m ∷ ms)
own-cons m ms own apart zero zero a b p q same = refl
own-cons m ms own apart zero (suc j) a b p q same =
    let is : m ≡ a = cc in absurd (apart j b q (ap (λ y. target_of y) is ∙ same))
own-cons m ms own apart (suc i) zero a b p q same =
    let is : m ≡ b = cc in absurd (apart i a p (ap (λ y. target_of y) is ∙ sym same))
own-cons m ms own apart (suc i) (suc j) a b p q same = ap (λ k. suc k) (own i j a b p q same)

-- media have targets of their own where no part is told for its target
own_targets : (ds : List Destination) (media : List Media) → AreTargets ds media → least (target_faults ds) ≡ None → HaveOwnTargets media
own_targets ds [] e h i j m n p q same = absurd (cc)
own_targets [] (x ∷ xs) e h i j m n p q same = absurd (cc)
own_targets (d ∷ ds) (x ∷ xs) e h i j m n p q same =
    let told = append-none (flat_map (λ later. at later.line SameTarget (have_one_target d later)) ds)
    (repeats (λ part. part.line) SameTarget have_one_target ds) h in
    own-cons x xs (own_targets ds xs (some_tail _ _ _ _ e) told.1) (λ k y at alike.
    others-apart d x ds xs k y (some_head _ _ _ _ e) (some_tail _ _ _ _ e) told.0 at alike)
    i j m n p q same

-- the target of a stream is that of its part
stream_target : (line : ℕ) (video : Video) (items : List Item) (a : Option Address) (w h : Option ℕ) (r : Option Rate) (m : Media)
    → option_and_then (λ x. option_and_then (λ y. option_and_then (λ z. option_map (media_with line video items x y z) r) h) w) a ≡ Some m
    → target_at a video.port ≡ Some (target_of m)
stream_target line video items None w h r m e = absurd (cc)
stream_target line video items (Some a) None h r m e = absurd (cc)
stream_target line video items (Some a) (Some w) None r m e = absurd (cc)
stream_target line video items (Some a) (Some w) (Some h) None m e = absurd (cc)
stream_target line video items (Some a) (Some w) (Some h) (Some r) m e =
    let is : media_with line video items a w h r ≡ m = cc in ap (λ y. Some (target_of y)) is

media_target : (r : RawPart) (m : Media) → media_of r ≡ Some m → (destination_of r).target ≡ Some (target_of m)
media_target r m e =
    stream_target r.line r.video r.items (good_address r) (option_and_then value_size (item_named Width r.items))
    (option_and_then value_size (item_named Height r.items))
    (option_and_then value_rate (item_named ExactFrameRate r.items)) m e

media_targets : (rs : List RawPart) (media : List Media) → map media_of rs ≡ map (λ m. Some m) media → AreTargets (map destination_of rs) media
media_targets [] [] e = refl
media_targets [] (m ∷ ms) e = absurd (cc)
media_targets (r ∷ rs) [] e = absurd (cc)
media_targets (r ∷ rs) (m ∷ ms) e =
    ap (λ t. t ∷ map (λ d. d.target) (map destination_of rs)) (media_target r m (some_head _ _ _ _ e))
    ∙ ap (λ ts. Some (target_of m) ∷ ts) (media_targets rs ms (some_tail _ _ _ _ e))

-- no two media of these lines have one target
answer-own : (ls : List TextLine) (media : List Media) → answer ls ≡ Ok media → HaveOwnTargets media
answer-own ls media h =
    own_targets (map destination_of (raw_parts ls)) media (media_targets (raw_parts ls) media (answer-each ls media h)) (answer-targets ls media h)

-- nor of what is told of them
pub told-own : (ls : List TextLine) (result : Result (List Media) SdpError) → Tells (answer ls) result → IfOk result (λ media. HaveOwnTargets media)
told-own ls (Ok media) h = answer-own ls media h
told-own ls (Err (Refused fault)) h = tt
told-own ls (Err OutOfMemory) h = tt

-- no two media of a session have one target
pub targets-own : (bytes : List ℕ) (media : List Media) → session bytes ≡ Ok media → HaveOwnTargets media
targets-own bytes media h = answer-own (lines bytes) media (session_ok (nat_lt 1048576 (length bytes)) _ (answer (lines bytes)) media h)
