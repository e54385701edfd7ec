use Rattle.std.proofs.Common.{rules, arith}
use Rattle.std.proofs.lemmas.Result.{err_from_is_err_and}
use Rattle.pcap_reader.proofs.Runs.{held-begun, held-stops}
use Rattle.pcap_reader.proofs.records.take_held.Goals as goal

pub returns-in_err-run-clause-told : goal.returns-in_err-run-clause-told
returns-in_err-run-clause-told g c = λ items end given.
    let p = err_from_is_err_and c.from_residual.result c.from_residual.ensures.1 in
    rw (p.1, p.2)
    (held-stops g.T.Taker.stops c.in-Records.layout c.args.reader.now.window _ c.within.result.now c.args.before c.args.taker.now c.take_run.new.taker
    c.in_err-run.field-0.0 items end c.in-Records.is c.within.ensures c.in_err-run.ensures.told given)

pub returns-clause-told : goal.returns-clause-told
returns-clause-told g c = λ items end given.
    let p = c.pass_records.ensures in
    held-begun g.T.Taker.takes c.in-Records.layout c.args.reader.now.window c.pass_records.new.self _ c.within.result.now c.in_ok-run.run' c.args.before _
    c.args.taker.now c.take_run.new.taker items end c.in-Records.is c.within.ensures (search rules) p.held p.place p.count p.most p.stage
    (omega (arith, p.count)) c.in_ok-run.ensures.told given
