use Rattle.std.proofs.Common.{Some, ◌≡◌, map, take}
use Rattle.std.specs.Prelude.{All}
use Rattle.flow_worker.specs.crew.Judging.{IsWhole}
use Rattle.flow_worker.proofs.crew.judge.whole_notes.Given as goal

abbrev pub invariant-loop-end : goal.invariant-loop-end
invariant-loop-end l = record {
  notes : map Some l.notes.items ≡ take l.end-index l.ended;
  whole : All IsWhole l.notes.items;
}
