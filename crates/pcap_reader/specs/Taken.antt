-- Which packet records of a capture were taken. `takes` states that these records and no others changed the taker
-- from the first to the second. `before` is the number of records before this capture, and is added to each number.
use Rattle.std.specs.Prelude.{◌≡◌, ◌≤◌, ℕ, ⊤, List, [], ◌∷◌, ◌++◌, length, map, Option, Some, None}
use Rattle.timing_base.specs.Captures.{Record, raised}
use Rattle.timing_base.specs.declared.capture.FileNote.{FileNote}
use Rattle.pcap_reader.specs.Readers.{GivesNote}

-- some packet records were taken, at most this many
pub record TakesFew {T : Type 0} (takes : T → T → List Record → Type 0) (most : ℕ) (old new : T) : Type 0 where
  pub items : List Record
  pub few : length items ≤ most
  pub taken : takes old new items

-- the taker stopped, and nothing is known of the records
abbrev pub StopsAnyhow : {T E : Type 0} → (old new : T) → E → List Record → Type 0
StopsAnyhow old new stop items = ⊤

-- the taker stopped at some packet record for this reason
pub record HasStopped {T E : Type 0} (stops : T → T → E → List Record → Type 0) (old new : T) (stop : E) : Type 0 where
  pub items : List Record
  pub stopped : stops old new stop items

-- of these packet records this many were taken, up to an end with this note: all, unless a read failed
pub record HasTaken {T : Type 0} (takes : T → T → List Record → Type 0) (before : ℕ) (old new : T)
    (note : FileNote) (count : ℕ) (items : List Record) (end : FileNote) : Type 0 where
  pub taken : List Record
  pub rest : List Record
  pub whole : items ≡ taken ++ rest
  pub ends : GivesNote note rest end
  pub count_is : length taken ≡ count
  pub fed : takes old new (map (raised before) taken)

-- one packet record was taken of what was to be given, and `gives` states what is still to come; or there is none
abbrev pub TakesNext : {T : Type 0} → (gives : List Record → FileNote → Type 0) → (takes : T → T → List Record → Type 0)
    → (before : ℕ) → (old new : T) → Option FileNote → List Record → FileNote → Type 0
TakesNext gives takes before old new None items end =
    (item : Record) × (later : List Record) × (items ≡ item ∷ later)
    × gives later end × takes old new (raised before item ∷ [])
TakesNext gives takes before old new (Some note) items end = GivesNote note items end

-- this many packet records were taken of what was to be given, and `gives` states what is still to come
pub record HasBegun {T : Type 0} (gives : List Record → FileNote → Type 0) (takes : T → T → List Record → Type 0)
    (before : ℕ) (old new : T) (count : ℕ) (items : List Record) (end : FileNote) : Type 0 where
  pub taken : List Record
  pub rest : List Record
  pub whole : items ≡ taken ++ rest
  pub given : gives rest end
  pub count_is : length taken ≡ count
  pub fed : takes old new (map (raised before) taken)
