-- The packet records that a `SeriesFlow` has taken, and the rows that were written meanwhile.
use Rattle.std.specs.Prelude.{◌≡◌, ◌≤◌, ◌<◌, ◌⊎◌, ℕ, Bool, true, List, [], ◌++◌, length}
use Rattle.timing_base.specs.Shifts.{FlowOptions}
use Rattle.timing_base.specs.Captures.{Record}
use Rattle.timing_base.specs.Keys.{key_of}
use Rattle.timing_base.specs.Media.{Media}
use Rattle.udp_rtp.specs.Flow.{flow}
use Rattle.fail_interval.specs.Meterings.{HasRoom as MeteredHasRoom, IsFed, expected_next}
use Rattle.flow_demux.specs.Awaits.{AwaitsExpected}
use Rattle.flow_measure.specs.rows.Rows.{header_text}
use Rattle.flow_measure.specs.rows.Told.{PastRows, Tells}
use Rattle.flow_measure.specs.rows.making.Meters.{StandsFor as RowsStandsFor}
use Rattle.timing_measure.specs.declared.series.flow.SeriesFlow.{SeriesFlow}

-- the text that isn't written yet
abbrev pub text_of : SeriesFlow → List ℕ
text_of x = x.flow.taker.out.text.items

-- there are rows behind the header that waits
abbrev pub HoldsText : SeriesFlow → Type 0
HoldsText x = x.waiting < length (text_of x)

-- no row waits to be written
abbrev pub HoldsNoText : SeriesFlow → Type 0
HoldsNoText x = length (text_of x) ≤ x.waiting

-- the text at the beginning, which is the header, and the part of the text that was written
abbrev pub past_of : (frames : Bool) → (gone : List ℕ) → PastRows
past_of frames gone = record { frames = frames; first = header_text frames; gone = gone }

-- nothing was written, and the header waits; or the header was written, and at least one row behind it
abbrev pub Waits : (frames : Bool) → (gone : List ℕ) → (waiting : ℕ) → Type 0
Waits frames gone waiting =
    ((gone ≡ []) × (waiting ≡ length (header_text frames)))
    ⊎ ((waiting ≡ 0) × (length (header_text frames) < length gone))

-- these packet records were taken for the flow of this media, and `gone` was written of its text
pub record StandsFor (frames : Bool) (m : Media) (number : ℕ) (options : FlowOptions) (gone : List ℕ) (x : SeriesFlow)
    (items : List Record) : Type 0 where
  pub media_is : x.flow.media ≡ m
  pub fed : IsFed true RowsStandsFor Tells (past_of frames gone) m (key_of 0 number) options x.flow.taker (flow items m)
  pub waits : Waits frames gone x.waiting

-- `count` more packets can be taken
pub record HasRoom (count : ℕ) (x : SeriesFlow) : Type 0 where
  pub few : MeteredHasRoom count x.flow.taker
  pub awaits : AwaitsExpected expected_next x.flow

-- these packet records were taken after those before, and nothing was written
abbrev pub TakesOn : (old new : SeriesFlow) → List Record → Type 0
TakesOn old new more =
    (frames : Bool) (m : Media) (number : ℕ) (options : FlowOptions) (gone : List ℕ) (items : List Record)
    → StandsFor frames m number options gone old items → StandsFor frames m number options gone new (items ++ more)

-- `poured` was written after what was written before
abbrev pub PoursOn : (old new : SeriesFlow) → (poured : List ℕ) → Type 0
PoursOn old new poured =
    (frames : Bool) (m : Media) (number : ℕ) (options : FlowOptions) (gone : List ℕ) (items : List Record)
    → StandsFor frames m number options gone old items → StandsFor frames m number options (gone ++ poured) new items
