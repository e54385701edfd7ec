-- The rows of a flow that were written while packet records were taken.
use Rattle.std.specs.Prelude.{◌≡◌, ◌⊎◌, ℕ, ⊤, Bool, List, ◌++◌, length, map, take, Option, Result, IfErr, IfOk}
use Rattle.std.specs.Io.KnownBytes.{Appends}
use Rattle.timing_base.specs.Shifts.{FlowOptions}
use Rattle.timing_base.specs.Captures.{Record, joined, raised}
use Rattle.timing_base.specs.Media.{Media}
use Rattle.timing_base.specs.declared.capture.FileNote.{FileNote}
use Rattle.timing_outside.specs.Causes.{Rose}
use Rattle.pcap_reader.specs.Records.{AreRecords}
use Rattle.timing_report.specs.declared.status.Input.TheVariants.{Capture}
use Rattle.timing_steps.specs.Answers.{AreTold, CaptureRose}
use Rattle.timing_steps.specs.Fetched.{AreFetched}
use Rattle.timing_steps.specs.Ran.{Output}
use Rattle.timing_steps.specs.Streams.{OnFailure}
use Rattle.timing_steps.specs.Taken.{TakesTexts}
use Rattle.timing_steps.specs.declared.captures.TakenCaptures.{TakenCaptures}
use Rattle.timing_steps.specs.declared.failure.Failure.{Failure}
use Rattle.timing_steps.specs.declared.failure.Failure.TheVariants as failure
use Rattle.timing_measure.specs.series.Stands.{HoldsText, StandsFor, text_of}
use Rattle.timing_measure.specs.declared.series.flow.SeriesFlow.{SeriesFlow}

-- these packet records were taken, and `written` was written, after all that was taken and written before
abbrev pub GoesOn : (old new : SeriesFlow) → (written : List ℕ) → List Record → Type 0
GoesOn old new written items =
    (frames : Bool) (m : Media) (number : ℕ) (options : FlowOptions) (gone : List ℕ) (before : List Record)
    → StandsFor frames m number options gone old before
    → StandsFor frames m number options (gone ++ written) new (before ++ items)

-- these packet records were taken, and the rows that were written are what the output has more
pub record Copies (o : Output) (old new : SeriesFlow) (items : List Record) : Type 0 where
  pub written : List ℕ
  pub appended : Appends o.old o.new written
  pub goes : GoesOn old new written items

-- some packet records were taken, and their rows were written
abbrev pub CopiesSome : Output → (old new : SeriesFlow) → Type 0
CopiesSome o old new = (items : List Record) × Copies o old new items

-- the first of these packet records were taken. The output has the rows that were written, and behind them a prefix of
-- those that weren't; that prefix is empty unless a row is among them
pub record Stopped (o : Output) (old : SeriesFlow) (items : List Record) : Type 0 where
  pub taken : List Record
  pub rest : List Record
  pub whole : items ≡ taken ++ rest
  pub stood : SeriesFlow
  pub written : List ℕ
  pub goes : GoesOn old stood written taken
  pub count : ℕ
  pub some : (count ≡ 0) ⊎ HoldsText stood
  pub appended : Appends o.old o.new (written ++ take count (text_of stood))

-- the reason why rows weren't written: memory ran out, or a write failed
abbrev pub StopsAt : Output → Failure → Type 0
StopsAt o (failure.ReadFault input) = ⊥
StopsAt o failure.WriteFault = Rose o.before o.now
StopsAt o failure.OutOfMemory = ⊤

-- the packet records of a reader that were taken so far, this many, with their rows; `before` was added to each number.
-- The reader still gives the others
pub record IsCopying {R : Type 0} (gives : R → List Record → FileNote → Type 0) (o : Output) (before count : ℕ)
    (first reader : R) (old flow : SeriesFlow) : Type 0 where
  pub taken : List Record
  pub count_is : length taken ≡ count
  pub copies : Copies o old flow (map (raised before) taken)
  pub told : (items : List Record) (end : FileNote) → gives first items end
      → (rest : List Record) × (items ≡ taken ++ rest) × gives reader rest end

-- of the captures with these names, those up to here were taken as one, with their rows; the sources of the others are
-- in `rest`. Or it stopped among those up to here
pub record CopiesSources {S : Type 0} (name : S → List ℕ) (left : S → Option (List ℕ)) (faults : S → ℕ)
    (texts : List ℕ → Option (List ℕ)) (before now : List ℕ → ℕ) (names : List (List ℕ)) (rest : List S) (o : Output)
    (old flow : SeriesFlow) (done : TakenCaptures) (outcome : Result (Unit {0}) Failure) : Type 0 where
  pub past : List (List ℕ)
  pub ahead : List (List ℕ)
  pub whole : names ≡ past ++ ahead
  pub fetched : IfOk outcome (λ _. AreFetched name left faults texts ahead rest)
  pub count : IfOk outcome (λ _. length done.notes.items ≡ length past)
  pub told : IfOk outcome
      (λ _. (read : List (List ℕ)) → AreTold texts past read → TakesTexts (Copies o) read old flow done)
  pub stopped : IfErr outcome
      (λ _. (read : List (List ℕ)) (files : List (List Record)) (notes : List FileNote) → AreTold texts past read
      → AreRecords read files notes → Stopped o old (joined files))
  pub cause : IfErr outcome
      (λ e. OnFailure o e (λ i. (number : ℕ) × (i ≡ Capture number) × CaptureRose before now names number))
