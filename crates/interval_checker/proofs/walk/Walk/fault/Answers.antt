use Rattle.std.proofs.Common.{◌≡◌, ◌≢◌, sym, ◌∙◌, arith}
use Rattle.timing_base.specs.Flows.{is_second_source, order_fault}
use Rattle.interval_checker.proofs.Faults.{comes-none, comes-some, fault-first, fault-order, fault-payload, fault-source}
use Rattle.interval_checker.proofs.walk.Walk.fault.Goals as goal

pub returns-then-rtp-pt-clause-is : goal.returns-then-rtp-pt-clause-is
returns-then-rtp-pt-clause-is c = λ shift packets i k read cut.
    let other : c.args.rtp.pt ≢ c.args.pt = omega (arith, c.if-rtp-pt.true) in
    fault-payload c.args.pt c.args.rtp (is_second_source packets i) (order_fault 1024 packets i) other

pub returns-then-is_second_source-clause-is : goal.returns-then-is_second_source-clause-is
returns-then-is_second_source-clause-is c = λ shift packets i k read cut.
    let same : c.args.rtp.pt ≡ c.args.pt = omega (arith, c.if-rtp-pt.false) in
    let after = comes-some packets i c.args.self.now.before c.in-Some.before c.in-Some.is k.before in
    fault-source c.args.pt c.args.rtp (is_second_source packets i) (order_fault 1024 packets i) same
    (sym (c.is_second_source.ensures packets i c.args.at after read) ∙ c.if-is_second_source.true)

pub returns-in-None-clause-is : goal.returns-in-None-clause-is
returns-in-None-clause-is c = λ shift packets i k read cut.
    let same : c.args.rtp.pt ≡ c.args.pt = omega (arith, c.if-rtp-pt.false) in
    fault-first packets c.args.pt i c.args.rtp same (comes-none packets i c.args.self.now.before c.in-None.is k.before)

pub returns-else-is_second_source-clause-is : goal.returns-else-is_second_source-clause-is
returns-else-is_second_source-clause-is c = λ shift packets i k read cut.
    let same : c.args.rtp.pt ≡ c.args.pt = omega (arith, c.if-rtp-pt.false) in
    let after = comes-some packets i c.args.self.now.before c.in-Some.before c.in-Some.is k.before in
    fault-order c.args.pt c.args.rtp (is_second_source packets i) (order_fault 1024 packets i) c.fault.result same
    (sym (c.is_second_source.ensures packets i c.args.at after read) ∙ c.if-is_second_source.false)
    (c.fault.ensures.is packets i after read cut k.cut_count)
