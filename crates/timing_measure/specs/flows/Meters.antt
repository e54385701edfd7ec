-- The packets of a flow that a `FlowMeter` has taken. `wants` is whether the meters of its runs are fed packets,
-- `stands` which packets such a meter was fed, and `tells` relates their output to the runs.
use Rattle.std.specs.Prelude.{◌≡◌, ◌≤◌, ℕ, Bool, List, [], ◌∷◌, ◌++◌, Option, None}
use Rattle.timing_base.specs.Shifts.{FlowOptions}
use Rattle.timing_base.specs.Captures.{Record}
use Rattle.timing_base.specs.Keys.{key_of}
use Rattle.timing_base.specs.Media.{Media}
use Rattle.timing_base.specs.declared.packet.FlowPacket.{FlowPacket}
use Rattle.timing_base.specs.declared.packet.Rtp.{Rtp}
use Rattle.udp_rtp.specs.Flow.{flow, flow_packet}
use Rattle.fail_interval.specs.Metered.{Standing, Telling}
use Rattle.fail_interval.specs.Meterings.{HasRoom as MeteredHasRoom, IsFed, expected_next as metered_next}
use Rattle.fail_interval.specs.Meterings.{room_less as metered_less}
use Rattle.timing_measure.specs.Measured.{first_source}
use Rattle.timing_measure.specs.flows.Fed.{fed_more, fed_none, fed_other}
use Rattle.timing_measure.specs.declared.flows.flow.FlowMeter.{FlowMeter}

-- these packets of the flow of a media were taken, and no others
pub record StandsFor {M O Past : Type 0} (wants : Bool) (stands : Standing M) (tells : Telling Past O) (past : Past)
    (m : Media) (number : ℕ) (options : FlowOptions) (x : FlowMeter M O) (packets : List FlowPacket) : Type 0 where
  pub metered_is : IsFed wants stands tells past m (key_of 0 number) options x.metered packets
  pub source_is : x.source ≡ first_source packets

-- the flow of these packet records was taken after the packets before, and nothing else
abbrev pub TakesOn : {M O Past : Type 0} → (wants : Bool) → Standing M → Telling Past O → Media
    → (old new : FlowMeter M O) → List Record → Type 0
TakesOn {Past = Past} wants stands tells m old new more =
    (past : Past) (number : ℕ) (options : FlowOptions) (packets : List FlowPacket)
    → StandsFor wants stands tells past m number options old packets
    → StandsFor wants stands tells past m number options new (packets ++ flow more m)

-- taking no record changes nothing
pub takes_none : {M O Past : Type 0} (wants : Bool) (stands : Standing M) (tells : Telling Past O) (m : Media)
    (x : FlowMeter M O) → TakesOn wants stands tells m x x []
takes_none wants stands tells m x past number options packets h =
    fed_none (StandsFor wants stands tells past m number options x) packets h

-- a record that is no packet of the flow changes nothing
pub takes_other : {M O Past : Type 0} (wants : Bool) (stands : Standing M) (tells : Telling Past O) (m : Media)
    (x : FlowMeter M O) (r : Record) → flow_packet m r ≡ None → TakesOn wants stands tells m x x (r ∷ [])
takes_other wants stands tells m x r is past number options packets h =
    fed_other (StandsFor wants stands tells past m number options x) m r packets is h

-- taking some records and then others is taking both
pub takes_more : {M O Past : Type 0} (wants : Bool) (stands : Standing M) (tells : Telling Past O) (m : Media)
    (x y z : FlowMeter M O) (a b : List Record) → TakesOn wants stands tells m x y a
    → TakesOn wants stands tells m y z b → TakesOn wants stands tells m x z (a ++ b)
takes_more wants stands tells m x y z a b first second past number options packets h =
    fed_more (StandsFor wants stands tells past m number options z) m packets a b
    (second past number options (packets ++ flow a m) (first past number options packets h))

-- `count` more packets can be taken
abbrev pub HasRoom : {M O : Type 0} → (count : ℕ) → FlowMeter M O → Type 0
HasRoom count x = MeteredHasRoom count x.metered

-- if many more packets can be taken, so can fewer
pub room_less : {M O : Type 0} (few many : ℕ) (x : FlowMeter M O) → few ≤ many → HasRoom many x → HasRoom few x
room_less few many x less room = metered_less few many x.metered less room

-- the packet that is expected next, from the state of the judge
abbrev pub expected_next : {M O : Type 0} → FlowMeter M O → Option Rtp
expected_next x = metered_next x.metered
