-- A rest is printed behind what was written.
use Rattle.std.proofs.Common.{◌≡◌, ◌≤◌, ◌+◌, ◌++◌, [], ◌∷◌, ℕ, suc, List, length, take, Option, Ok, Err, inl, inr, ap, ◌∙◌, sym, subst, arith}
use Rattle.std.proofs.Common.{append-nil, length-append}
use Rattle.std.specs.Prelude.{◌⊎◌, IfErr, IfOk, Result}
use Rattle.std.specs.Io.KnownBytes.{Appends}
use Rattle.std.proofs.KnownBytes.{Appends-trans}
use Rattle.timing_report.specs.declared.status.Input.{Input}
use Rattle.timing_report.specs.declared.status.Status.{Status}
use Rattle.timing_steps.specs.Answers.{Answer}
use Rattle.timing_steps.specs.Ran.{IsAnswered, Leaves, Output}
use Rattle.timing_steps.specs.Streams.{HasStreamCause, OnFailure, Rests, StreamLeaves}
use Rattle.timing_steps.specs.declared.failure.Failure.{Failure}
use Rattle.timing_steps.specs.declared.failure.Failure.TheVariants as failure
use Rattle.timing_steps.proofs.Endings.{kept-none}

-- the front of a text, behind another
pub take-more : (a b : List ℕ) (k : ℕ) → take (length a + k) (a ++ b) ≡ a ++ take k b
take-more [] b k =
    let e : 0 + k ≡ k = omega arith in
    ap (λ j. take j b) e
take-more (x ∷ a) b k =
    let e : length (x ∷ a) + k ≡ suc (length a + k) = omega arith in
    ap (λ j. take j (x ∷ (a ++ b))) e ∙ ap (λ l. x ∷ l) (take-more a b k)

-- why there is none is so still
failed-later : (old mid new : Option (List ℕ)) (before between now : ℕ) (e : Failure) (InputRose : Input → Type 0) → between ≤ now
    → OnFailure (record { old = old; new = mid; before = before; now = between }) e InputRose
    → OnFailure (record { old = old; new = new; before = before; now = now }) e InputRose
failed-later old mid new before between now (failure.ReadFault input) InputRose later h = h
failed-later old mid new before between now failure.WriteFault InputRose later h = omega (arith, later, h)
failed-later old mid new before between now failure.OutOfMemory InputRose later h = tt

-- a run whose rest was printed: the whole outcome, what follows for it, its cause, and how it ends
pub record Printed (o : Output) (Follows : Result Answer Failure → Type 0) (Begins : List ℕ → Type 0) (InputRose : Input → Type 0) (ends : Status)
    : Type 0 where
  pub outcome : Result Answer Failure
  pub follows : (outcome ≡ Err failure.WriteFault) ⊎ Follows outcome
  pub cause : HasStreamCause o outcome InputRose
  pub printed : StreamLeaves o Begins outcome ends

-- a failure in the place of an answer
abbrev the_error : Failure → Result Answer Failure
the_error e = Err e

-- a write failed, or what follows
follows-from : (e : Failure) (Follows : Result Answer Failure → Type 0) → (e ≡ failure.WriteFault) ⊎ Follows (Err e)
    → ((the_error e ≡ the_error failure.WriteFault) ⊎ Follows (Err e))
follows-from e Follows (inl w) = inl (ap the_error w)
follows-from e Follows (inr f) = inr f

pub printed-rest : (old mid new : Option (List ℕ)) (before between now : ℕ) (Follows : Result Answer Failure → Type 0) (Begins : List ℕ → Type 0)
    (InputRose : Input → Type 0) (rest : Result Answer Failure) (ends : Status) → before ≤ between → between ≤ now
    → Rests (record { old = old; new = mid; before = before; now = between }) Follows Begins rest
    → IfOk rest (λ r. IsAnswered r.status)
    → IfErr rest (λ e. OnFailure (record { old = old; new = mid; before = before; now = between }) e InputRose)
    → Leaves (record { old = mid; new = new; before = between; now = now }) rest ends
    → Printed (record { old = old; new = new; before = before; now = now }) Follows Begins InputRose ends
printed-rest old mid new before between now Follows Begins InputRose (Ok rest) ends first second h kept cause (inl p) = record {
  outcome = Ok (record { text = h.0 ++ rest.text; status = rest.status });
  follows = inr h.2;
  cause = kept;
  printed = inl (p.0, Appends-trans old mid new h.0 rest.text h.1 p.1);
}
printed-rest old mid new before between now Follows Begins InputRose (Ok rest) ends first second h kept cause (inr p) = record {
  outcome = Ok (record { text = h.0 ++ rest.text; status = rest.status });
  follows = inr h.2;
  cause = kept;
  printed = inr (
    p.0,
    (
      omega (arith, first, p.1.0),
      (
        length h.0 + p.1.1.0,
        omega (arith, p.1.1.1, length-append h.0 rest.text),
        subst (λ t. Appends old new t) (sym (take-more h.0 rest.text p.1.1.0)) (Appends-trans old mid new h.0 (take p.1.1.0 rest.text) h.1 p.1.1.2),
      ),
    ),
  );
}
printed-rest old mid new before between now Follows Begins InputRose (Err e) ends first second h kept cause p = record {
  outcome = Err e;
  follows = follows-from e Follows h.0;
  cause = failed-later old mid new before between now e InputRose second cause;
  printed = (
    p.0,
    h.1.0,
    subst (λ t. Appends old new t) (append-nil h.1.0) (Appends-trans old mid new h.1.0 [] h.1.1 (kept-none mid new p.1)),
    h.1.2,
  );
}
