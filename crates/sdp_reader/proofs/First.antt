-- The least fault is one of the faults, and none of them comes before it.
use Rattle.std.proofs.Common.{◌≡◌, ◌⊎◌, inl, inr, Bool, true, false, cond, List, [], ◌∷◌, Option, Some, None, refl, sym, ap, ◌∙◌, subst, ⊎_elim}
use Rattle.sdp_reader.specs.declared.fault.SdpFault.{SdpFault}
use Rattle.sdp_reader.specs.Fault.{comes_before, first_of, least, IsAmong}
use Rattle.sdp_reader.proofs.Least.{before-never, before-self, before-back}

chosen_among : (g h f : SdpFault) (gs : List SdpFault) (t : Bool) → cond t (Some h) (Some g) ≡ Some f → IsAmong h gs → (f ≡ g) ⊎ IsAmong f gs
chosen_among g h f gs true e m = let s : h ≡ f = cc in inr (subst (λ x. IsAmong x gs) s m)
chosen_among g h f gs false e m = let s : f ≡ g = cc in inl s

step_among : (g f : SdpFault) (gs : List SdpFault) (o : Option SdpFault) → ((h : SdpFault) → o ≡ Some h → IsAmong h gs) → first_of (Some g) o ≡ Some f
    → (f ≡ g) ⊎ IsAmong f gs
step_among g f gs None among e = let s : f ≡ g = cc in inl s
step_among g f gs (Some h) among e = chosen_among g h f gs (comes_before h g) e (among h refl)

pub least-among : (fs : List SdpFault) (f : SdpFault) → least fs ≡ Some f → IsAmong f fs
least-among [] f e = absurd (cc)
least-among (g ∷ gs) f e = step_among g f gs (least gs) (least-among gs) e

the_same : (h f : SdpFault) → Some h ≡ Some f → h ≡ f
the_same h f e = cc

-- of two that which is chosen: the other doesn't come before it
chosen_low : (g h f : SdpFault) (t : Bool) → comes_before h g ≡ t → cond t (Some h) (Some g) ≡ Some f
    → (comes_before g f ≡ false) × (comes_before h f ≡ false)
chosen_low g h f true b e =
    let s : h ≡ f = the_same h f e in
    (ap (comes_before g) (sym s) ∙ before-back h g b, ap (comes_before h) (sym s) ∙ before-self h)
chosen_low g h f false b e =
    let s : g ≡ f = the_same g f e in
    (ap (comes_before g) (sym s) ∙ before-self g, ap (comes_before h) (sym s) ∙ b)

step_before : (f g x : SdpFault) (gs : List SdpFault) (o : Option SdpFault)
    → ((h : SdpFault) → o ≡ Some h → IsAmong x gs → comes_before x h ≡ false) → (o ≡ None → IsAmong x gs → ⊥)
    → first_of (Some g) o ≡ Some f → (x ≡ g) ⊎ IsAmong x gs → comes_before x f ≡ false
step_before f g x gs None before never e m =
    ⊎_elim (λ s. ap (λ y. comes_before y f) (s ∙ the_same g f e) ∙ before-self f) (λ n. absurd (never refl n)) m
step_before f g x gs (Some h) before never e m =
    let low = chosen_low g h f (comes_before h g) refl e in
    ⊎_elim (λ s. ap (λ y. comes_before y f) s ∙ low.0) (λ n. before-never x h f (before h refl n) low.1) m

never_chosen : (g h : SdpFault) (t : Bool) → cond t (Some h) (Some g) ≡ None → ⊥
never_chosen g h true e = cc
never_chosen g h false e = cc

never_none : (g : SdpFault) (o : Option SdpFault) → first_of (Some g) o ≡ None → ⊥
never_none g None e = cc
never_none g (Some h) e = never_chosen g h (comes_before h g) e

-- no fault is left out
pub least-none : (fs : List SdpFault) (x : SdpFault) → least fs ≡ None → IsAmong x fs → ⊥
least-none [] x e m = m
least-none (g ∷ gs) x e m = never_none g (least gs) e

pub least-before : (fs : List SdpFault) (f x : SdpFault) → least fs ≡ Some f → IsAmong x fs → comes_before x f ≡ false
least-before [] f x e m = absurd m
least-before (g ∷ gs) f x e m = step_before f g x gs (least gs) (λ h s n. least-before gs h x s n) (λ s n. least-none gs x s n) e m
