-- Bounds on the numbers of a stream and of a scan, by the number of packets. With them no count overflows.
use Rattle.std.specs.Prelude.{◌≤◌, ◌<◌, ℕ, ◌*◌, ◌^◌, Option}
use Rattle.std.specs.Option.{ForSome}
use Rattle.capture_scan.specs.declared.found.PassedOver.{PassedOver}
use Rattle.capture_scan.specs.declared.mark.Mark.{Mark}
use Rattle.capture_scan.specs.declared.stream.Order.{Order}
use Rattle.capture_scan.specs.declared.stream.Rate.{Rate}
use Rattle.capture_scan.specs.declared.stream.Stream.{Stream}

-- the bounds on the order of this many packets
pub record IsFewIn (packets : ℕ) (o : Order) : Type 0 where
  pub lost : o.lost ≤ 2 ^ 15 * packets
  pub back : o.back ≤ packets
  pub same : o.same ≤ packets
  pub wraps : o.wraps ≤ packets

-- the bounds on the sum of the steps of this many packets
pub record IsFewSteps (packets : ℕ) (r : Rate) : Type 0 where
  pub ticks : r.ticks ≤ 2 ^ 32 * packets
  pub steps : r.steps ≤ packets

-- the bounds on the numbers of a stream, and on its last packet with the marker
pub record IsFew (s : Stream) (last : Option Mark) : Type 0 where
  pub packets : s.packets ≤ 2 ^ 41
  pub pts : s.pts ≤ s.packets
  pub markers : s.markers ≤ s.packets
  pub bytes : s.bytes ≤ 2 ^ 16 * s.packets
  pub order : IsFewIn s.packets s.order
  pub rate : ForSome s.pace (λ p. IsFewSteps s.packets p.rate)
  pub mark : ForSome last (λ m. m.place < s.packets)

-- the bounds on the counts of frames without a target, by the number of packet records
pub record IsFewPassed (records : ℕ) (n : PassedOver) : Type 0 where
  pub empty : n.empty ≤ records
  pub tags : n.tags ≤ records
  pub ipv6 : n.ipv6 ≤ records
  pub other : n.other ≤ records
  pub not_udp : n.not_udp ≤ records
  pub fragment : n.fragment ≤ records
  pub broken : n.broken ≤ records
