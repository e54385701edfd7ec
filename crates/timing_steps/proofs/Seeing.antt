-- What a part of a run saw of its shelf, as what the whole run saw.
use Rattle.std.proofs.Common.{◌≡◌, ◌≤◌, ℕ, List, [], ◌∷◌, Option, Some, arith, ◌∙◌, sym, subst, inl, inr}
use Rattle.std.proofs.lemmas.List.Elements.{All-weaker}
use Rattle.std.specs.Prelude.{Result, Ok}
use Rattle.timing_base.specs.Media.{Media}
use Rattle.timing_outside.specs.Causes.{Rose}
use Rattle.timing_outside.specs.Shelves.{StaysAs}
use Rattle.sdp_reader.specs.Session.{session}
use Rattle.timing_steps.specs.Answers.{Answer, AreThere, AreTold, CaptureRose, HasRisen, Inputs, OnSession, ReadsCaptures, ReadsSession, Yields}
use Rattle.timing_steps.specs.declared.failure.Failure.{Failure}

-- the second is of a part of the run of the first
pub record Sees (i j : Inputs) : Type 0 where
  pub texts : (n : List ℕ) → j.texts n ≡ i.texts n
  pub lacks : (n : List ℕ) → i.lacks n → j.lacks n
  pub before : (n : List ℕ) → i.before n ≤ j.before n
  pub now : (n : List ℕ) → j.now n ≤ i.now n

-- one call, and then another
pub stays-then : {H : Type 0} (text : H → List ℕ → Option (List ℕ)) (Lacks : H → List ℕ → Type 0) (faults : H → List ℕ → ℕ) (old mid new : H)
    → StaysAs text Lacks faults old mid → StaysAs text Lacks faults mid new
    → StaysAs text Lacks faults old new
stays-then text Lacks faults old mid new h k = record {
  lacks = λ n lacks. k.lacks n (h.lacks n lacks);
  texts = λ n. k.texts n ∙ h.texts n;
  later = λ n. later-still _ _ _ (h.later n) (k.later n);
}
  where
    later-still : (a b c : ℕ) → a ≤ b → b ≤ c → a ≤ c
    later-still a b c h k = omega (arith, h, k)

-- what was seen of a shelf that tells this of its names
abbrev pub seen-by : {H : Type 0} → (text : H → List ℕ → Option (List ℕ)) → (lacks : H → List ℕ → Type 0) → (faults : H → List ℕ → ℕ) → (old new : H) → Inputs
seen-by text lacks faults old new = record { texts = text old; lacks = lacks old; before = faults old; now = faults new }

-- a part of a run that ends with it
pub sees-rest : {H : Type 0} (text : H → List ℕ → Option (List ℕ)) (Lacks : H → List ℕ → Type 0) (faults : H → List ℕ → ℕ) (old mid new : H)
    → StaysAs text Lacks faults old mid
    → Sees (seen-by text Lacks faults old new) (seen-by text Lacks faults mid new)
sees-rest text Lacks faults old mid new h = record { texts = h.texts; lacks = h.lacks; before = h.later; now = λ n. omega arith }

-- a count that rose in a part of a run rose in the run
pub rose-within : (a b c d : ℕ) → a ≤ b → c ≤ d → Rose b c → Rose a d
rose-within a b c d h k r = omega (arith, h, k, r)

pub risen-seen : (i j : Inputs) (name : List ℕ) → Sees i j → HasRisen j name → HasRisen i name
risen-seen i j name s h = rose-within (i.before name) (j.before name) (j.now name) (i.now name) (s.before name) (s.now name) h

pub capture-seen : (i j : Inputs) (names : List (List ℕ)) (number : ℕ) → Sees i j → CaptureRose j.before j.now names number
    → CaptureRose i.before i.now names number
capture-seen i j names number s h = record { within = h.within; rose = risen-seen i j _ s h.rose }

-- captures that were read in a part of a run
pub there-seen : (i j : Inputs) (names : List (List ℕ)) → Sees i j → AreThere j.lacks names → AreThere i.lacks names
there-seen i j names s h = All-weaker (λ n. ¬ j.lacks n) (λ n. ¬ i.lacks n) (λ n there lacks. there (s.lacks n lacks)) names h

pub told-seen : (i j : Inputs) (names texts : List (List ℕ)) → Sees i j → AreTold i.texts names texts → AreTold j.texts names texts
told-seen i j [] [] s h = tt
told-seen i j [] (t ∷ ts) s h = absurd h
told-seen i j (n ∷ ns) [] s h = absurd h
told-seen i j (n ∷ ns) (t ∷ ts) s h = (s.texts n ∙ h.0, told-seen i j ns ts s h.1)

pub captures-seen : (i j : Inputs) (outcome : Result Answer Failure) (names : List (List ℕ)) (next : List (List ℕ) → Type 0) → Sees i j
    → ReadsCaptures j outcome names next → ReadsCaptures i outcome names next
captures-seen i j outcome names next s (inl h) = inl (h.0, h.1, capture-seen i j names h.0 s h.2)
captures-seen i j outcome names next s (inr h) = inr (there-seen i j names s h.0, λ texts told. h.1 texts (told-seen i j names texts s told))

-- a description that was read leads on to what follows for its media
pub follows-session : (i : Inputs) (outcome : Result Answer Failure) (name : List ℕ) (media : List Media) (next : List Media → Type 0) → ¬ i.lacks name
    → ((text : List ℕ) → i.texts name ≡ Some text → session text ≡ Ok media)
    → Yields outcome (next media) → Yields outcome (ReadsSession i outcome name next)
follows-session i outcome name media next there told (inl memory) = inl memory
follows-session i outcome name media next there told (inr h) = inr (inr (there, λ text t. subst (λ s. OnSession s outcome next) (sym (told text t)) h))

-- what follows from what was yielded
pub yields-on : (outcome : Result Answer Failure) (P Q : Type 0) → (P → Q) → Yields outcome P → Yields outcome Q
yields-on outcome P Q h (inl memory) = inl memory
yields-on outcome P Q h (inr p) = inr (h p)
