-- Judged runs of the examples that are worked by hand.
use Rattle.std.specs.Prelude.{ℕ, zero, suc, ◌/◌, true, false, List, [], ◌∷◌}
use Rattle.timing_base.specs.Examples.{sent}
use Rattle.timing_base.specs.declared.packet.FlowPacket.{FlowPacket}
use Rattle.run_meter.specs.Runs.{JudgedPart}

-- this many packets; which ones doesn't matter
abbrev pub several : ℕ → List FlowPacket
several zero = []
several (suc count) = sent 2 20 7 101 false ∷ several count

-- run `number` of a flow, with this many judged packets; its other numbers don't matter
abbrev pub part_of : (number packets : ℕ) → JudgedPart
part_of number packets = record {
  number = number;
  first = sent 1 10 6 100 true;
  values = record {
    n = 2;
    frames = packets / 2;
    packets = packets;
    head = 1;
    tail = 0;
    bucket_peak = 1;
    gapped_peak = 1;
    linear_peak = 1;
    kinds = [];
  };
  packets = several packets;
}
