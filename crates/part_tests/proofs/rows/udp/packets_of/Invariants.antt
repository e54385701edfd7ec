use Rattle.std.proofs.Common.{◌≡◌, take}
use Rattle.std.specs.Prelude.{map}
use Rattle.udp_rtp.specs.Flow.{flow}
use Rattle.part_tests.proofs.rows.udp.packets_of.Given as goal

abbrev pub invariant-loop-record : goal.invariant-loop-record
invariant-loop-record l = l.packets.items
    ≡ flow (map (λ r. record { number = r.0; stamp = r.1; bytes = r.2.now }) (take l.record-index l.records)) l.media
