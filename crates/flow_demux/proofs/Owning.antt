-- Flows of which no two go to one target.
use Rattle.std.proofs.Common.{◌≡◌, ◌<◌, ◌+◌, ℕ, zero, suc, false, List, [], ◌∷◌, ◌++◌, length, take, get_or, Some, inl, inr, refl, sym, ap, ◌∙◌}
use Rattle.std.proofs.Common.{subst, arith}
use Rattle.std.specs.Prelude.{All, ◌⊎◌, slice_get}
use Rattle.std.proofs.lemmas.Bool.{cases_Bool}
use Rattle.std.proofs.lemmas.List.{map_more}
use Rattle.std.proofs.lemmas.List.Elements.{All-head, All-map, All-tail}
use Rattle.timing_base.proofs.Targets.{same-target}
use Rattle.timing_base.specs.Media.{Media}
use Rattle.timing_base.specs.Targets.{HaveOwnTargets, target_of}
use Rattle.timing_base.specs.declared.target.Target.{Target}
use Rattle.udp_rtp.specs.Flow.{is_same_target}
use Rattle.flow_demux.specs.Takings.{media_in}
use Rattle.flow_demux.specs.declared.media_flow.MediaFlow.{MediaFlow}

-- those behind the first have other targets than it, and their own
pub own-rest : (m : Media) (ms : List Media) → HaveOwnTargets (m ∷ ms) → HaveOwnTargets ms
own-rest m ms h = λ i j x y a b e. let same : suc i ≡ suc j = h (suc i) (suc j) x y a b e in omega (arith, same)

pub own-first : (m n : Media) (ms : List Media) (j : ℕ) → HaveOwnTargets (m ∷ ms) → slice_get ms j ≡ Some n → target_of m ≡ target_of n → ⊥
own-first m n ms j h at e = let same : 0 ≡ suc j = h 0 (suc j) m n refl at e in absurd (omega (arith, same))

own-cons : (m : Media) (ms : List Media) → HaveOwnTargets ms → ((j : ℕ) (n : Media) → slice_get ms j ≡ Some n → target_of m ≡ target_of n → ⊥)
    → HaveOwnTargets (m ∷ ms)
own-cons m ms own apart zero zero a b p q same = refl
own-cons m ms own apart zero (suc j) a b p q same =
    let is : m ≡ a = cc in absurd (apart j b q (ap (λ y. target_of y) is ∙ same))
own-cons m ms own apart (suc i) zero a b p q same =
    let is : m ≡ b = cc in absurd (apart i a p (ap (λ y. target_of y) is ∙ sym same))
own-cons m ms own apart (suc i) (suc j) a b p q same = ap (λ k. suc k) (own i j a b p q same)

-- a place in a list with one more
get-push : (ms : List Media) (m x : Media) (j : ℕ) → slice_get (ms ++ m ∷ []) j ≡ Some x → (slice_get ms j ≡ Some x) ⊎ (m ≡ x)
get-push [] m x zero at = inr cc
get-push [] m x (suc j) at = cc
get-push (n ∷ ms) m x zero at = inl at
get-push (n ∷ ms) m x (suc j) at = get-push ms m x j at

pub own-none : HaveOwnTargets []
own-none i j m n at also e = cc

-- one that goes elsewhere more
own-push : (ms : List Media) (m : Media) → HaveOwnTargets ms → All (λ n. target_of n ≡ target_of m → ⊥) ms → HaveOwnTargets (ms ++ m ∷ [])
own-push [] m own other = own-cons m [] own-none (λ j n at e. cc)
own-push (n ∷ ms) m own other =
    own-cons n (ms ++ m ∷ []) (own-push ms m (own-rest n ms own) (All-tail (λ x. target_of x ≡ target_of m → ⊥) n ms other))
    (λ j x at e. elim (get-push ms m x j at) as (λ _. ⊥) [
      | inl here ↦ own-first n x ms j own here e
      | inr last ↦ All-head (λ x. target_of x ≡ target_of m → ⊥) n ms other (e ∙ sym (ap (λ y. target_of y) last))
    ])

-- the first flows have targets of their own, and so has one more
pub own-more : {F : Type 0} (n : ℕ) (flows : List (MediaFlow F)) (flow : MediaFlow F) → n < length flows → get_or flows n flow ≡ flow
    → HaveOwnTargets (media_in (take n flows)) → All (λ (f : MediaFlow F). target_of f.media ≡ target_of flow.media → ⊥) (take n flows)
    → HaveOwnTargets (media_in (take (n + 1) flows))
own-more {F} n flows flow within at own other =
    let next : media_in (take (n + 1) flows) ≡ media_in (take n flows) ++ flow.media ∷ [] =
    map_more (λ (f : MediaFlow F). f.media) flows n flow within ∙ ap (λ (f : MediaFlow F). media_in (take n flows) ++ f.media ∷ []) at in
    subst HaveOwnTargets (sym next)
    (own-push (media_in (take n flows)) flow.media own
    (All-map (λ m. target_of m ≡ target_of flow.media → ⊥) (λ (f : MediaFlow F). f.media) (take n flows) other))

-- one flow has a target of its own
pub own-one : {F : Type 0} (flows : List (MediaFlow F)) → length flows ≡ 1 → HaveOwnTargets (media_in flows)
own-one [] one = absurd (omega (arith, one))
own-one (f ∷ []) one = own-cons f.media [] own-none (λ j n at e. cc)
own-one (f ∷ g ∷ fs) one = absurd (omega (arith, one))

-- the media of a flow in its place
pub media-at : {F : Type 0} (fs : List (MediaFlow F)) (j : ℕ) (d : MediaFlow F) → j < length fs → slice_get (media_in fs) j ≡ Some (get_or fs j d).media
media-at [] j d within = absurd (omega arith)
media-at (f ∷ fs) zero d within = refl
media-at (f ∷ fs) (suc j) d within = media-at fs j d (omega arith)

-- targets that differ
pub differs-by : (a b : Target) → (b ≡ a → ⊥) → is_same_target a b ≡ false
differs-by a b differs = elim (cases_Bool (is_same_target a b)) as (λ _. is_same_target a b ≡ false) [
  | inl same ↦ absurd (differs (sym (same-target a b same)))
  | inr other ↦ other
]
