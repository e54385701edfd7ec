-- What a run's status says of its outcome.
use Rattle.std.proofs.Common.{◌≡◌, ℕ, List, Option, Some, None, [], true, Ok, Err, refl, ap, ◌∙◌, sym, subst, inl, inr, append-nil}
use Rattle.std.specs.Prelude.{⊤, Bool, IfOk, Result}
use Rattle.std.specs.Io.KnownBytes.{Appends, Keeps}
use Rattle.std.proofs.lemmas.Bool.{false≢true, or_left, or_right}
use Rattle.timing_report.specs.declared.status.Input.{Input}
use Rattle.timing_report.specs.declared.status.Input.TheVariants as input
use Rattle.timing_report.specs.declared.status.Status.{Status}
use Rattle.timing_report.specs.declared.status.Status.TheVariants as status
use Rattle.timing_steps.specs.Answers.{Answer}
use Rattle.timing_steps.specs.Ends.{EndsWith, HasStatus, IsTextBeside, is_failure}
use Rattle.timing_steps.specs.Ran.{Appended, Broke, HasCause, IsAnswered, Leaves, Output}
use Rattle.timing_steps.specs.declared.failure.Failure.{Failure}
use Rattle.timing_steps.specs.declared.failure.Failure.TheVariants as failure

-- of a status that isn't a read fault, or isn't a write fault
abbrev NoRead : Status → Type 0
NoRead (status.ReadFault i) = ⊥
NoRead s = ⊤

abbrev NoWrite : Status → Type 0
NoWrite status.WriteFault = ⊥
NoWrite s = ⊤

-- the input that a read fault names
abbrev named : Status → Input
named (status.ReadFault i) = i
named s = input.Sdp

pub read-is : (o : Output) (outcome : Result Answer Failure) (ends : Status) (i : Input) → Leaves o outcome ends → HasCause outcome (λ x. ⊤) → ends
    ≡ status.ReadFault i → outcome ≡ Err (failure.ReadFault i)
read-is o (Ok answer) ends i (inl h) cause e = absurd (subst IsAnswered (sym h.0 ∙ e) cause)
read-is o (Ok answer) ends i (inr h) cause e = absurd (subst NoRead (sym h.0 ∙ e) tt)
read-is o (Err (failure.ReadFault x)) ends i h cause e = ap (λ y. Err (failure.ReadFault y)) (ap named (sym h.0 ∙ e))
read-is o (Err failure.WriteFault) ends i h cause e = absurd cause
read-is o (Err failure.OutOfMemory) ends i h cause e = absurd (subst NoRead (sym h.0 ∙ e) tt)

pub write-is : (o : Output) (outcome : Result Answer Failure) (ends : Status) → Leaves o outcome ends → HasCause outcome (λ x. ⊤) → ends ≡ status.WriteFault
    → (answer : Answer) × (outcome ≡ Ok answer) × Broke o answer.text
write-is o (Ok answer) ends (inl h) cause e = absurd (subst IsAnswered (sym h.0 ∙ e) cause)
write-is o (Ok answer) ends (inr h) cause e = (answer, refl, h.1)
write-is o (Err (failure.ReadFault x)) ends h cause e = absurd (subst NoWrite (sym h.0 ∙ e) tt)
write-is o (Err failure.WriteFault) ends h cause e = absurd cause
write-is o (Err failure.OutOfMemory) ends h cause e = absurd (subst NoWrite (sym h.0 ∙ e) tt)

pub answered-is : (o : Output) (outcome : Result Answer Failure) (ends : Status) → Leaves o outcome ends → HasCause outcome (λ x. ⊤) → IsAnswered ends
    → (answer : Answer) × (outcome ≡ Ok answer) × (answer.status ≡ ends) × Appended o answer.text
answered-is o (Ok answer) ends (inl h) cause a = (answer, refl, sym h.0, h.1)
answered-is o (Ok answer) ends (inr h) cause a = absurd (subst IsAnswered h.0 a)
answered-is o (Err (failure.ReadFault x)) ends h cause a = absurd (subst IsAnswered h.0 a)
answered-is o (Err failure.WriteFault) ends h cause a = absurd cause
answered-is o (Err failure.OutOfMemory) ends h cause a = absurd (subst IsAnswered h.0 a)

-- what stays as it was has nothing appended
pub kept-none : (old new : Option (List ℕ)) → Keeps old new → Appends old new []
kept-none None new h = tt
kept-none (Some xs) None h = absurd h
kept-none (Some xs) (Some ys) h = h ∙ sym (append-nil xs)

-- an answer that has its end, and was printed whole
ends-whole : (may : Status → Bool) (o : Output) (answer : Answer) → HasStatus may answer → Appended o answer.text → EndsWith may o answer.status
ends-whole may o answer has appended = record {
  status_is = or_left (may answer.status) (is_failure answer.status) has.0;
  silent = λ s. subst (Appended o) (subst (λ (x : Bool). IsTextBeside x answer.text) s has.1) appended;
}

-- how a run ends whose answer has one of these statuses
pub ends-by : (may : Status → Bool) (o : Output) (outcome : Result Answer Failure) (ends : Status) → Leaves o outcome ends → IfOk outcome (HasStatus may)
    → EndsWith may o ends
ends-by may o (Ok answer) ends (inl h) has = subst (EndsWith may o) (sym h.0) (ends-whole may o answer has h.1)
ends-by may o (Ok answer) ends (inr h) has =
    subst (EndsWith may o) (sym h.0) (record { status_is = or_right (may status.WriteFault) true refl; silent = λ s. absurd (false≢true s) })
ends-by may o (Err (failure.ReadFault x)) ends h has =
    subst (EndsWith may o) (sym h.0) (record { status_is = or_right (may (status.ReadFault x)) true refl; silent = λ s. kept-none o.old o.new h.1 })
ends-by may o (Err failure.WriteFault) ends h has =
    subst (EndsWith may o) (sym h.0) (record { status_is = or_right (may status.WriteFault) true refl; silent = λ s. absurd (false≢true s) })
ends-by may o (Err failure.OutOfMemory) ends h has =
    subst (EndsWith may o) (sym h.0) (record { status_is = or_right (may status.OutOfMemory) true refl; silent = λ s. kept-none o.old o.new h.1 })
