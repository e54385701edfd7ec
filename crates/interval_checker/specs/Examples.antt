-- Small flows with answers worked by hand.
use Rattle.std.specs.Prelude.{true, false, List, [], ◌∷◌}
use Rattle.timing_base.specs.Examples.{sent}
use Rattle.timing_base.specs.Shifts.{FlowOptions}
use Rattle.timing_base.specs.declared.packet.FlowPacket.{FlowPacket}

-- a head of one packet, and a frame of five at once
abbrev pub five_at_once : List FlowPacket
five_at_once =
    sent 11 0 6 0 true ∷ sent 12 7 7 1 false ∷ sent 13 7 8 1 false ∷ sent 14 7 9 1 false ∷ sent 15 7 10 1 false
    ∷ sent 16 7 11 1 true ∷ []

-- the same, with sequence numbers that go on from 65,535 to 0, and the extended sequence number 0 throughout
abbrev pub wrapped : List FlowPacket
wrapped =
    sent 11 0 65535 0 true ∷ sent 12 7 0 1 false ∷ sent 13 7 1 1 false ∷ sent 14 7 2 1 false ∷ sent 15 7 3 1 false
    ∷ sent 16 7 4 1 true ∷ []

-- the options with 100 nanoseconds subtracted from each capture timestamp
abbrev pub delayed : FlowOptions
delayed = record { shift = record { tai = 0; delay = 100 }; seq16 = false }

-- a packet of one run, and two of another
abbrev pub two_runs : List FlowPacket
two_runs = sent 11 0 6 0 true ∷ sent 12 5 8 1 false ∷ sent 13 6 9 1 false ∷ []

-- a capture timestamp that goes back
abbrev pub stamp_back : List FlowPacket
stamp_back = sent 11 9 6 0 true ∷ sent 12 8 7 1 false ∷ []
