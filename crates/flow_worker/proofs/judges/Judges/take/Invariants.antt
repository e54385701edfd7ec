use Rattle.std.proofs.Common.{◌+◌, ◌-◌, ℕ, length, take}
use Rattle.flow_worker.specs.Judging.{Feeds, HaveRoom}
use Rattle.flow_worker.proofs.judges.Judges.take.Given as goal

abbrev pub invariant-loop-packet : goal.invariant-loop-packet
invariant-loop-packet l = record {
  feeds : Feeds l.before (take l.packet-index l.packets) l.fn.self l.self;
  room : (more : ℕ) → HaveRoom (length l.packets + more) l.fn.self → HaveRoom (length l.packets - l.packet-index + more) l.self;
}
