use Rattle.std.proofs.Common.{◌≡◌, ◌≤◌, ◌-◌, length, vec_len}
use Rattle.std.specs.Io.KnownBytes.{Consumes}
use Rattle.timing_steps.proofs.text.read_front.Given as goal

abbrev pub invariant-loop-text : goal.invariant-loop-text
invariant-loop-text g l =
    record {
      bytes : Consumes (g.S.Source.left l.fn.source) (g.S.Source.left l.source) l.text.items;
      within : length l.text.items ≤ l.most;
      piece : vec_len l.piece ≡ 65536;
      name : g.S.Source.name l.source ≡ g.S.Source.name l.fn.source;
      later : g.S.Source.faults l.fn.source ≤ g.S.Source.faults l.source;
    }

abbrev pub decreases-loop-text : goal.decreases-loop-text
decreases-loop-text g l = l.most - length l.text.items
