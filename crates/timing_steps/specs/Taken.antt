-- The packet records of captures that were taken. `takes` relates a taker before and after: it took these records, and
-- no others.
use Rattle.std.specs.Prelude.{◌≡◌, ◌^◌, ◌+◌, ◌++◌, [], ◌∷◌, ℕ, List, length, map}
use Rattle.timing_base.specs.Captures.{Record, joined, raised}
use Rattle.pcap_reader.specs.Records.{AreRecords, Records}
use Rattle.pcap_reader.specs.declared.records.Taken.{Taken}
use Rattle.timing_steps.specs.declared.captures.TakenCaptures.{TakenCaptures}

-- the packet records of the capture with these contents were taken, with `before` added to each number; `taken` has
-- their count and how they end
pub record TakesText {T : Type 0} (takes : T → T → List Record → Type 0) (text : List ℕ) (before : ℕ) (old new : T)
    (taken : Taken) : Type 0 where
  pub items : List Record
  pub records : Records text (2 ^ 40) items taken.note
  pub count : taken.records ≡ length items
  pub fed : takes old new (map (raised before) items)

-- the packet records of the captures with these contents were taken as one; `taken` has how each ends, and their count
pub record TakesTexts {T : Type 0} (takes : T → T → List Record → Type 0) (texts : List (List ℕ)) (old new : T)
    (taken : TakenCaptures) : Type 0 where
  pub files : List (List Record)
  pub records : AreRecords texts files taken.notes.items
  pub count : taken.records ≡ length (joined files)
  pub fed : takes old new (joined files)

-- one more capture was taken behind those before: its note was appended, and its records were added to the count
pub record TakesNext {T : Type 0} (takes : T → T → List Record → Type 0) (text : List ℕ) (old new : T)
    (before after : TakenCaptures) : Type 0 where
  pub taken : Taken
  pub text_is : TakesText takes text before.records old new taken
  pub notes : after.notes.items ≡ before.notes.items ++ taken.note ∷ []
  pub count : after.records ≡ before.records + taken.records
