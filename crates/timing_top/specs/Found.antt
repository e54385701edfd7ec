-- The results of judging captures, and the conditions under which judging goes on.
use Rattle.std.specs.Prelude.{◌≡◌, ◌≤◌, ◌^◌, ℕ, List, [], ◌∷◌, ◌++◌, length, All, IfErr, IfOk, Option}
use Rattle.std.specs.Prelude.{Result}
use Rattle.timing_base.specs.Shifts.{FlowOptions}
use Rattle.timing_base.specs.Captures.{Record}
use Rattle.timing_base.specs.Media.{Media}
use Rattle.timing_base.specs.declared.capture.FileNote.{FileNote}
use Rattle.timing_base.specs.declared.row.Row.{Row}
use Rattle.pcap_reader.specs.Records.{Records}
use Rattle.timing_outside.specs.declared.shelf.Shelf as shelf
use Rattle.timing_outside.specs.declared.source.Source as source
use Rattle.pcapng_reader.specs.Classic.{classic_texts}
use Rattle.pcapng_reader.specs.Sources.{faults_of, left_of, name_of}
use Rattle.pcapng_reader.specs.declared.source.Classic.{Classic}
use Rattle.fail_interval.specs.Found.{AreFound}
use Rattle.fail_interval.specs.Rows.{rows_of}
use Rattle.timing_report.specs.Outcomes.{AreOfSession}
use Rattle.timing_report.specs.declared.status.Input.TheVariants as input
use Rattle.timing_steps.specs.Answers.{AreTold, CaptureRose, Inputs, OnReadFault, seen_of}
use Rattle.timing_steps.specs.Fetched.{AreFetched}
use Rattle.timing_steps.specs.declared.failure.Failure.{Failure}
use Rattle.timing_top.specs.declared.captures.Found.{Found}

-- the outcome of judging captures. If the contents of the captures are known, the results are `rows` of their packet
-- records, with one note for each capture, and every result is of a media of the session. If there is no result, memory
-- ran out, or the count of faults of a capture's name rose
pub record IsJudged {S : Type 0} (name : S → List ℕ) (left : S → Option (List ℕ)) (faults : S → ℕ) (i : Inputs)
    (sources : List S)
    (rows : List (List Record) → List Row) (media : List Media) (outcome : Result Found Failure) : Type 0 where
  pub told : IfOk outcome
      (λ found. (names texts : List (List ℕ)) → AreFetched name left faults (classic_texts i.texts) names sources
      → AreTold (classic_texts i.texts) names texts → AreFound texts rows found.notes.items found.rows.items)
  pub count : IfOk outcome (λ found. length found.notes.items ≡ length sources)
  pub of_session : IfOk outcome (λ found. AreOfSession media found.rows.items)
  pub cause : (names : List (List ℕ)) → AreFetched name left faults (classic_texts i.texts) names sources
      → IfErr outcome (λ e.
      OnReadFault e (λ x. (number : ℕ) × (x ≡ input.Capture number) × CaptureRose i.before i.now names number))

-- the outcome of judging the captures of a shelf, as seen on it before and after
abbrev pub Judges : {H S : Type 0} → (rows : List (List Record) → List Row) → List Media → shelf.Ghosts H S
    → source.Ghosts S
    → (old new : H) → List (Classic S) → Result Found Failure → Type 0
Judges rows media tells from old new sources outcome =
    IsJudged (name_of from.name) (left_of from.left) (faults_of from.faults) (seen_of tells old new)
    sources rows media outcome

-- captures that may be judged: at most 16 and 64 media, and no read of them has failed
pub record AreReady {S : Type 0} (faults : S → ℕ) (sources : List S) (media : List Media) : Type 0 where
  pub few : length sources ≤ 16
  pub fresh : All (λ source. faults source ≡ 0) sources
  pub few_media : length media ≤ 64

-- one more capture was judged by itself: its note and its results were appended
pub record FindsNext (text : List ℕ) (media : List Media) (options : FlowOptions) (file : ℕ)
    (old_notes new_notes : List FileNote)
    (old_rows new_rows : List Row) : Type 0 where
  pub items : List Record
  pub note : FileNote
  pub records : Records text (2 ^ 40) items note
  pub notes : new_notes ≡ old_notes ++ note ∷ []
  pub rows : new_rows ≡ old_rows ++ rows_of options file media items
