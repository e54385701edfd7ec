use Rattle.std.proofs.Common.{◌≡◌, length, rules, arith}
use Rattle.flow_measure.proofs.Binned.{bins-all}
use Rattle.flow_measure.proofs.bins.Bins.counts.Goals as goal

pub returns-clause-all : goal.returns-clause-all
returns-clause-all c = λ numbers h.
    let b = c.args.self.now in
    let long : length b.counts ≡ 64 = search rules in
    omega (arith, bins-all b.limit c.bin_of.result numbers b.seen b.counts (search rules) long h.each)
