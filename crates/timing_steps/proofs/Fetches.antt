-- Sources that are fetched one by one.
use Rattle.std.proofs.Common.{◌≡◌, ◌≤◌, ◌<◌, ◌+◌, ℕ, zero, suc, List, [], ◌∷◌, ◌++◌, length, take, Option, refl, arith, ap, ◌∙◌, sym, subst, add-one}
use Rattle.std.proofs.Common.{append_assoc, append-nil}
use Rattle.std.proofs.lemmas.List.Elements.{All-append, All-cons, All-nil, All-push, All-weaker}
use Rattle.std.specs.Prelude.{All, IsErrOf, Result, Ok, Err, slice_index_or}
use Rattle.timing_outside.specs.Causes.{Rose}
use Rattle.timing_outside.specs.declared.shelf.OpenFault.{OpenFault}
use Rattle.timing_outside.specs.declared.shelf.OpenFault.TheVariants.{Failed, OutOfMemory}
use Rattle.timing_report.specs.declared.status.Input.{Input}
use Rattle.timing_report.specs.declared.status.Input.TheVariants.{Capture}
use Rattle.timing_steps.specs.Answers.{AreThere, CaptureRose, OnReadFault}
use Rattle.timing_steps.specs.declared.failure.Failure.{Failure}
use Rattle.timing_steps.specs.Fetched.{AreFetched, Returning, unread}

-- one name and its source more
pub fetched-push : {S : Type 0} (name : S → List ℕ) (left : S → Option (List ℕ)) (faults : S → ℕ) (texts : List ℕ → Option (List ℕ)) (names : List (List ℕ))
    (n : List ℕ) (sources : List S) (s : S)
    → AreFetched name left faults texts names sources → name s ≡ n → left s ≡ texts n → faults s ≡ 0 → AreFetched name left faults texts (names ++ n ∷ [])
    (sources ++ s ∷ [])
fetched-push name left faults texts [] n [] s before named whole fresh = (named, whole, fresh, tt)
fetched-push name left faults texts [] n (x ∷ xs) s before named whole fresh = absurd before
fetched-push name left faults texts (m ∷ ms) n [] s before named whole fresh = absurd before
fetched-push name left faults texts (m ∷ ms) n (x ∷ xs) s before named whole fresh =
    (before.0, before.1, before.2, fetched-push name left faults texts ms n xs s before.3 named whole fresh)

-- one name more that the shelf doesn't lack, by what it said then and before
pub there-push : (before now : List ℕ → Type 0) (names : List (List ℕ)) (n : List ℕ) → AreThere before names → ((m : List ℕ) → before m → now m) → ¬ now n
    → AreThere before (names ++ n ∷ [])
there-push before now names n h kept there =
    All-append (λ m. ¬ before m) names (n ∷ []) h (All-cons (λ m. ¬ before m) n [] (λ lacks. there (kept n lacks)) (All-nil (λ m. ¬ before m)))

-- the first names, and the next one
pub take-next : (names : List (List ℕ)) (k : ℕ) → k < length names → take (k + 1) names ≡ take k names ++ slice_index_or names k [] ∷ []
take-next [] k h = absurd (omega arith)
take-next (n ∷ ns) zero h = refl
take-next (n ∷ ns) (suc k) h = rw add-one (ap (λ rest. n ∷ rest) (let r = take-next ns k (omega arith) in rw add-one at r))

-- what rose from a later count rose from an earlier one
pub rose-earlier : (a b c : ℕ) → a ≤ b → Rose b c → Rose a c
rose-earlier a b c h r = omega (arith, h, r)

-- why an input wasn't opened: by its own count, where that failed
pub unread-cause : (fault : OpenFault) (i : Input) (P : Input → Type 0) → (fault ≡ Failed → P i) → OnReadFault (unread fault i) P
unread-cause Failed i P h = h refl
unread-cause OutOfMemory i P h = tt

-- the capture that couldn't be fetched is the one whose count rose
pub fetch-cause : (before mid now : List ℕ → ℕ) (names : List (List ℕ)) (number : ℕ) (name asked : List ℕ) (fault : OpenFault) (e : Failure)
    → number < length names → slice_index_or names number [] ≡ name → asked ≡ name → ((n : List ℕ) → before n ≤ mid n)
    → (fault ≡ Failed → Rose (mid asked) (now asked)) → e ≡ unread fault (Capture number)
    → OnReadFault e (λ i. (x : ℕ) × (i ≡ Capture x) × CaptureRose before now names x)
fetch-cause before mid now names number name asked fault e within is same later rose told =
    subst (λ failure. OnReadFault failure (λ i. (x : ℕ) × (i ≡ Capture x) × CaptureRose before now names x)) (sym told)
    (unread-cause fault (Capture number) (λ i. (x : ℕ) × (i ≡ Capture x) × CaptureRose before now names x) (λ failed. (
      number,
      refl,
      record {
        within = within;
        rose = subst (λ n. Rose (before n) (now n)) (same ∙ sym is) (rose-earlier (before asked) (mid asked) (now asked) (later asked) (rose failed));
      },
    )))

-- an answer with this fault
pub err-of : {S : Type 0} (r : Result S OpenFault) (fault : OpenFault) → r ≡ Err fault → fault ≡ Failed → IsErrOf r Failed
err-of r fault e h = e ∙ ap Err h

-- of an answer that isn't this fault
abbrev Fetched : {S : Type 0} → Result S OpenFault → Type 0
Fetched (Ok s) = Unit {0}
Fetched (Err e) = ⊥

-- a source is no fault
pub not-err : {S : Type 0} (r : Result S OpenFault) (s : S) → r ≡ Ok s → IsErrOf r Failed → ⊥
not-err r s e failed = subst Fetched (sym e ∙ failed) tt

-- no source went back yet
pub returning-start : {S : Type 0} (name : S → List ℕ) (faults : S → ℕ) (before : List ℕ → ℕ) (all rest : List S) → rest ≡ all
    → Returning name faults before before all rest
returning-start name faults before all rest e = record {
  done = [];
  whole = sym e;
  raised = All-nil (λ s. 0 < faults s → Rose (before (name s)) (before (name s)));
}

-- one source more went back
pub returning-next : {S : Type 0} (name : S → List ℕ) (faults : S → ℕ) (before mid now : List ℕ → ℕ) (all some rest : List S) (s : S)
    → some ≡ s ∷ rest → ((n : List ℕ) → before n ≤ mid n) → ((n : List ℕ) → mid n ≤ now n) → (0 < faults s → Rose (mid (name s)) (now (name s)))
    → Returning name faults before mid all some → Returning name faults before now all rest
returning-next name faults before mid now all some rest s e earlier later rose h = record {
  done = h.done ++ s ∷ [];
  whole = h.whole ∙ ap (λ l. h.done ++ l) e ∙ sym (append_assoc h.done (s ∷ []) rest);
  raised =
      All-push (λ x. 0 < faults x → Rose (before (name x)) (now (name x))) h.done s
      (All-weaker (λ x. 0 < faults x → Rose (before (name x)) (mid (name x))) (λ x. 0 < faults x → Rose (before (name x)) (now (name x)))
      (λ x r failed. rose-later (before (name x)) (mid (name x)) (now (name x)) (later (name x)) (r failed)) h.done h.raised)
      (λ failed. rose-earlier (before (name s)) (mid (name s)) (now (name s)) (earlier (name s)) (rose failed));
}
  where
    rose-later : (a b c : ℕ) → b ≤ c → Rose a b → Rose a c
    rose-later a b c h r = omega (arith, h, r)

-- all went back
pub returning-all : {S : Type 0} (name : S → List ℕ) (faults : S → ℕ) (before now : List ℕ → ℕ) (all rest : List S) → length rest ≡ 0
    → Returning name faults before now all rest
    → All (λ s. 0 < faults s → Rose (before (name s)) (now (name s))) all
returning-all name faults before now all [] none h =
    subst (All (λ s. 0 < faults s → Rose (before (name s)) (now (name s)))) (sym (h.whole ∙ append-nil h.done)) h.raised
returning-all name faults before now all (s ∷ rest) none h = absurd (omega (arith, none))
