use Rattle.std.proofs.Common.{◌^◌, [], take}
use Rattle.interval_checker.specs.Readings.{HaveRead, HaveRoom}
use Rattle.timing_top.specs.verify.Found.{AreAsked}
use Rattle.timing_top.proofs.verify.asks.readings_of.Given as goal

abbrev pub invariant-loop-number : goal.invariant-loop-number
invariant-loop-number l = record {
  asked : AreAsked l.options l.claims l.file 0 (take l.number l.media) l.readings.items;
  none : HaveRead l.readings.items [];
  room : HaveRoom (2 ^ 40) l.readings.items;
}
