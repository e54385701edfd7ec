use Rattle.std.proofs.Common.{◌≡◌, length, rules, arith}
use Rattle.flow_measure.proofs.Binned.{classes-all}
use Rattle.flow_measure.proofs.classes.Classes.counts.Goals as goal

pub returns-clause-all : goal.returns-clause-all
returns-clause-all c = λ numbers h.
    let k = c.args.self.now in
    let long : length k.counts ≡ 64 = search rules in
    omega (arith, classes-all k.length numbers k.seen k.counts long h.each h.rest)
