use Rattle.std.proofs.Common.{◌≤◌, length, rules}
use Rattle.std.proofs.lemmas.List.{drop_all}
use Rattle.flow_measure.proofs.report.line.Line.clear.Goals as goal

pub returns-clause-written : goal.returns-clause-written
returns-clause-written c =
    let long : length c.args.self.now.bytes ≤ 512 = search rules in
    drop_all 512 c.args.self.now.bytes long
