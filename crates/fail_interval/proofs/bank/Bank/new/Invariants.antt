use Rattle.std.proofs.Common.{◌≡◌, [], take}
use Rattle.std.specs.Prelude.{All}
use Rattle.flow_demux.specs.Awaits.{AwaitsExpected}
use Rattle.fail_interval.specs.BankStands.{AreJudgesOf, most_fed}
use Rattle.fail_interval.specs.Meterings.{expected_next}
use Rattle.fail_interval.proofs.bank.Bank.new.Given as goal

abbrev pub invariant-loop-number : goal.invariant-loop-number
invariant-loop-number l = record {
  stands : AreJudgesOf l.options l.file 0 (take l.number l.media) l.flows.items [];
  awaits : All (AwaitsExpected expected_next) l.flows.items;
  none : most_fed l.flows.items ≡ 0;
}
