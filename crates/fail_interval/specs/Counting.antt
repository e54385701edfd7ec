-- The numbers by which a judge takes its packets: those in their bytes, or counted ones (`--seq16`).
use Rattle.std.specs.Prelude.{◌≡◌, ◌<◌, ◌+◌, ◌-◌, ◌%◌, ◌^◌, ℕ, Bool, true, List, length, None}
use Rattle.frame_group.specs.Expected.{raise_after, with_number}
use Rattle.timing_base.specs.Flows.{first_fault, rtp}
use Rattle.timing_base.specs.Numbered.{numbered}
use Rattle.timing_base.specs.declared.packet.FlowPacket.{FlowPacket}
use Rattle.timing_base.specs.declared.packet.Rtp.{Rtp}
use Rattle.fail_interval.specs.declared.counting.Counting.{Counting}

-- a packet with this judged number, as it stands in the bytes of its frame
abbrev pub own_of : Counting → Rtp → Rtp
own_of counting p = with_number ((p.number + 2 ^ 32 - counting.raise) % 2 ^ 32) p

-- the numbering of a flow with this payload type after these packets
pub record Counts (pt : ℕ) (seq16 : Bool) (packets : List FlowPacket) (counting : Counting) : Type 0 where
  pub seq16_is : counting.seq16 ≡ seq16
  -- as long as no packet has a fault
  pub raise_is : first_fault (numbered seq16 packets) pt ≡ None → counting.raise ≡ raise_after seq16 packets
  -- a packet number has 32 bits
  pub few : seq16 ≡ true → (rtp packets (length packets - 1)).number < 2 ^ 32
