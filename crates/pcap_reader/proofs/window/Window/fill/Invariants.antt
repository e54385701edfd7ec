use Rattle.std.proofs.Common.{◌≡◌, ◌≤◌, ◌-◌}
use Rattle.std.specs.Io.KnownBytes.{Keeps, prepend_known}
use Rattle.pcap_reader.specs.Windows.{held_bytes, SameRecord}
use Rattle.pcap_reader.proofs.window.Window.fill.Given as goal

abbrev pub invariant-loop-self : goal.invariant-loop-self
invariant-loop-self g l =
    let left = g.S.Source.left in
    record {
      bytes : Keeps (prepend_known (held_bytes l.fn.self) (left l.fn.source)) (prepend_known (held_bytes l.self) (left l.source));
      name : g.S.Source.name l.source ≡ g.S.Source.name l.fn.source;
      later : g.S.Source.faults l.fn.source ≤ g.S.Source.faults l.source;
      same : SameRecord l.fn.self l.self;
      start : l.self.start ≤ 4095;
    }

abbrev pub decreases-loop-self : goal.decreases-loop-self
decreases-loop-self g l = l.need - (l.self.filled - l.self.start)
