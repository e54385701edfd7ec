use Rattle.std.proofs.Common.{rules}
use Rattle.pcap_reader.proofs.Taking.{takes-kept}
use Rattle.pcap_reader.proofs.window.Window.fill.Goals as goal

pub returns-in_err-got-clause-takes : goal.returns-in_err-got-clause-takes
returns-in_err-got-clause-takes g c = takes-kept c.args.self.now c.read_more.new.self _ _ (search rules) (search rules)

pub returns-then-got-eq0-clause-takes : goal.returns-then-got-eq0-clause-takes
returns-then-got-eq0-clause-takes g c = takes-kept c.args.self.now c.read_more.new.self _ _ (search rules) (search rules)

pub returns-clause-takes : goal.returns-clause-takes
returns-clause-takes g c = takes-kept c.args.self.now c.loop-self.self _ _ c.loop-self.invariant.same c.loop-self.invariant.bytes
