-- One of two flows that are compared.
use Rattle.std.specs.Prelude.{◌≡◌, List}
use Rattle.timing_base.specs.Captures.{Record}
use Rattle.timing_base.specs.declared.packet.FlowPacket.{FlowPacket}
use Rattle.timing_reach.specs.skew.Added.{taken_of}
use Rattle.timing_reach.specs.declared.skew.paired.PairedFlow.{PairedFlow}

-- the same flow in the same capture
pub record IsSameFlow (old new : PairedFlow) : Type 0 where
  pub media : new.media ≡ old.media
  pub is_here : new.is_here ≡ old.is_here

-- the packets of a flow in these records, if it is in their capture
abbrev pub packets_in : PairedFlow → List Record → List FlowPacket
packets_in f items = taken_of f.is_here f.media items
