-- The answer that the contents of a request's inputs define, and how a run gets it. An answer is the output and the
-- status. Without an answer, an input couldn't be read or memory ran out.
use Rattle.std.specs.Prelude.{◌≡◌, ◌<◌, ◌⊎◌, ℕ, ⊤, List, [], ◌∷◌, length, map, slice_index_or, All, Option, Some}
use Rattle.std.specs.Prelude.{Result, Ok, Err}
use Rattle.timing_base.specs.Media.{Media}
use Rattle.timing_outside.specs.Causes.{Rose}
use Rattle.timing_outside.specs.declared.shelf.Shelf as shelf
use Rattle.pcapng_reader.specs.Classic.{classic}
use Rattle.sdp_reader.specs.declared.fault.SdpFault.{SdpFault}
use Rattle.sdp_reader.specs.Session.{session}
use Rattle.timing_report.specs.declared.status.Input.{Input}
use Rattle.timing_report.specs.declared.status.Input.TheVariants as input
use Rattle.timing_report.specs.declared.status.Status.{Status}
use Rattle.timing_report.specs.declared.status.Status.TheVariants as status
use Rattle.timing_steps.specs.declared.failure.Failure.{Failure}
use Rattle.timing_steps.specs.declared.failure.Failure.TheVariants as failure

-- the answer of a request: the bytes on standard output, and the status
pub record Answer : Type 0 where
  pub text : List ℕ
  pub status : Status

-- the answer without output
abbrev pub silent : Status → Answer
silent ends = record { text = []; status = ends }

-- what a run saw of its shelf: the contents of names, if they are known; the names that the shelf lacks; and the counts
-- of the faults of names, before and after the run
pub record Inputs : Type 1 where
  pub texts : List ℕ → Option (List ℕ)
  pub lacks : List ℕ → Type 0
  pub before : List ℕ → ℕ
  pub now : List ℕ → ℕ

-- the inputs as seen on a shelf before and after a run
abbrev pub seen_of : {H S : Type 0} → shelf.Ghosts H S → (old new : H) → Inputs
seen_of tells old new =
    record { texts = tells.text old; lacks = tells.lacks old; before = tells.faults old; now = tells.faults new }

-- the count of faults of a name rose
abbrev pub HasRisen : Inputs → List ℕ → Type 0
HasRisen i name = Rose (i.before name) (i.now name)

-- the names have these contents, and all of these are known
abbrev pub AreTold : (List ℕ → Option (List ℕ)) → List (List ℕ) → List (List ℕ) → Type 0
AreTold texts [] [] = ⊤
AreTold texts [] (t ∷ ts) = ⊥
AreTold texts (n ∷ ns) [] = ⊥
AreTold texts (n ∷ ns) (t ∷ ts) = (texts n ≡ Some t) × AreTold texts ns ts

-- the shelf lacks none of these names
abbrev pub AreThere : (List ℕ → Type 0) → List (List ℕ) → Type 0
AreThere lacks names = All (λ name. ¬ lacks name) names

-- the count of faults of capture `number` rose; captures count from 0
pub record CaptureRose (before now : List ℕ → ℕ) (names : List (List ℕ)) (number : ℕ) : Type 0 where
  pub within : number < length names
  pub rose : Rose (before (slice_index_or names number [])) (now (slice_index_or names number []))

-- the failure is that memory ran out, or a read fault of an input for which `P` holds
abbrev pub OnReadFault : Failure → (Input → Type 0) → Type 0
OnReadFault (failure.ReadFault input) P = P input
OnReadFault failure.WriteFault P = ⊥
OnReadFault failure.OutOfMemory P = ⊤

-- the outcome is an answer that is `Defined`
abbrev pub Gives : Result Answer Failure → (Answer → Type 0) → Type 0
Gives outcome Defined = (answer : Answer) × (outcome ≡ Ok answer) × Defined answer

-- memory ran out, or `P` holds
abbrev pub Yields : Result Answer Failure → Type 0 → Type 0
Yields outcome P = (outcome ≡ Err failure.OutOfMemory) ⊎ P

-- the SDP is read; this fails if the shelf lacks it
abbrev pub ReadsSdp : Inputs → Result Answer Failure → List ℕ → (List ℕ → Type 0) → Type 0
ReadsSdp i outcome name next =
    ((outcome ≡ Err (failure.ReadFault input.Sdp)) × HasRisen i name)
    ⊎ (¬ i.lacks name × ((text : List ℕ) → i.texts name ≡ Some text → next text))

-- the captures are read, as classic captures; this fails if the shelf lacks one
abbrev pub ReadsCaptures : Inputs → Result Answer Failure → List (List ℕ) → (List (List ℕ) → Type 0) → Type 0
ReadsCaptures i outcome names next =
    ((number : ℕ) × (outcome ≡ Err (failure.ReadFault (input.Capture number)))
    × CaptureRose i.before i.now names number)
    ⊎ (AreThere i.lacks names × ((texts : List (List ℕ)) → AreTold i.texts names texts → next (map classic texts)))

-- if the SDP is invalid, that is the answer; else what follows depends on its media
abbrev pub OnSession : Result (List Media) SdpFault → Result Answer Failure → (List Media → Type 0) → Type 0
OnSession (Err fault) outcome next = Gives outcome (λ answer. answer ≡ silent (status.SdpRefused fault))
OnSession (Ok media) outcome next = next media

-- the SDP with this name is read as a session
abbrev pub ReadsSession : Inputs → Result Answer Failure → List ℕ → (List Media → Type 0) → Type 0
ReadsSession i outcome name next = ReadsSdp i outcome name (λ text. OnSession (session text) outcome next)
