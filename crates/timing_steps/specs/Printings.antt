-- The text that was written while packet records were taken by a `Printer`. `goes` is its relation `goes_on`, `holds`
-- and `text` are its ghost members of these names.
use Rattle.std.specs.Prelude.{◌≡◌, ◌⊎◌, ℕ, ⊤, List, ◌++◌, length, map, take, Option, Result, IfErr, IfOk}
use Rattle.std.specs.Io.KnownBytes.{Appends}
use Rattle.timing_base.specs.Captures.{Record, joined, raised}
use Rattle.timing_base.specs.declared.capture.FileNote.{FileNote}
use Rattle.timing_outside.specs.Causes.{Rose}
use Rattle.pcap_reader.specs.Records.{AreRecords}
use Rattle.timing_report.specs.declared.status.Input.TheVariants.{Capture}
use Rattle.timing_steps.specs.Answers.{AreTold, CaptureRose}
use Rattle.timing_steps.specs.Fetched.{AreFetched}
use Rattle.timing_steps.specs.Ran.{Output}
use Rattle.timing_steps.specs.Streams.{OnFailure}
use Rattle.timing_steps.specs.Taken.{TakesTexts}
use Rattle.timing_steps.specs.declared.captures.TakenCaptures.{TakenCaptures}
use Rattle.timing_steps.specs.declared.failure.Failure.{Failure}
use Rattle.timing_steps.specs.declared.failure.Failure.TheVariants as failure

-- the relation `goes_on` of a `Printer`
abbrev pub GoingOn : Type 0 → Type 1
GoingOn X = X → X → (written : List ℕ) → List Record → Type 0

-- these packet records were taken, and the text that was written is what the output has more
pub record Copies {X : Type 0} (goes : GoingOn X) (o : Output) (old new : X) (items : List Record) : Type 0 where
  pub written : List ℕ
  pub appended : Appends o.old o.new written
  pub goes_on : goes old new written items

-- some packet records were taken, and text that was made of them was written
abbrev pub CopiesSome : {X : Type 0} → (goes : GoingOn X) → Output → (old new : X) → Type 0
CopiesSome goes o old new = (items : List Record) × Copies goes o old new items

-- the first of these packet records were taken. The output has the text that was written, and behind it a prefix of the
-- text that wasn't; that prefix is empty unless a part of that text may be written
pub record Stopped {X : Type 0} (goes : GoingOn X) (holds : X → Type 0) (text : X → List ℕ) (o : Output) (old : X)
    (items : List Record) : Type 0 where
  pub taken : List Record
  pub rest : List Record
  pub whole : items ≡ taken ++ rest
  pub stood : X
  pub written : List ℕ
  pub goes_on : goes old stood written taken
  pub count : ℕ
  pub some : (count ≡ 0) ⊎ holds stood
  pub appended : Appends o.old o.new (written ++ take count (text stood))

-- the reason why text wasn't written: memory ran out, or a write failed
abbrev pub StopsAt : Output → Failure → Type 0
StopsAt o (failure.ReadFault input) = ⊥
StopsAt o failure.WriteFault = Rose o.before o.now
StopsAt o failure.OutOfMemory = ⊤

-- the packet records of a reader that were taken so far, this many, and the text that was written; `before` was added to
-- each number. The reader still gives the others
pub record IsCopying {R X : Type 0} (gives : R → List Record → FileNote → Type 0) (goes : GoingOn X) (o : Output)
    (before count : ℕ) (first reader : R) (old now : X) : Type 0 where
  pub taken : List Record
  pub count_is : length taken ≡ count
  pub copies : Copies goes o old now (map (raised before) taken)
  pub told : (items : List Record) (end : FileNote) → gives first items end
      → (rest : List Record) × (items ≡ taken ++ rest) × gives reader rest end

-- of the captures with these names, those up to here were taken as one, and their text was written; the sources of the
-- others are in `rest`. Or it stopped among those up to here
pub record CopiesSources {S X : Type 0} (name : S → List ℕ) (left : S → Option (List ℕ)) (faults : S → ℕ)
    (texts : List ℕ → Option (List ℕ)) (before now : List ℕ → ℕ) (names : List (List ℕ)) (rest : List S)
    (goes : GoingOn X) (holds : X → Type 0) (text : X → List ℕ) (o : Output) (old new : X) (done : TakenCaptures)
    (outcome : Result (Unit {0}) Failure) : Type 0 where
  pub past : List (List ℕ)
  pub ahead : List (List ℕ)
  pub whole : names ≡ past ++ ahead
  pub fetched : IfOk outcome (λ _. AreFetched name left faults texts ahead rest)
  pub count : IfOk outcome (λ _. length done.notes.items ≡ length past)
  pub told : IfOk outcome
      (λ _. (read : List (List ℕ)) → AreTold texts past read → TakesTexts (Copies goes o) read old new done)
  pub stopped : IfErr outcome
      (λ _. (read : List (List ℕ)) (files : List (List Record)) (notes : List FileNote) → AreTold texts past read
      → AreRecords read files notes → Stopped goes holds text o old (joined files))
  pub cause : IfErr outcome
      (λ e. OnFailure o e (λ i. (number : ℕ) × (i ≡ Capture number) × CaptureRose before now names number))
