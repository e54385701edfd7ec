use Rattle.std.proofs.Common.{◌+◌, arith}
use Rattle.fraction128.specs.Clocks.{passed_by}
use Rattle.fraction128.proofs.Due.{has_passed, one_more, so_far}
use Rattle.fraction128.proofs.clock.Clock.advance.Goals as goal

pub returns-then-t-self-clause-passed : goal.returns-then-t-self-clause-passed
returns-then-t-self-clause-passed c = λ origin before order stands.
    let line = c.args.line.now in
    let count = passed_by line origin before in
    has_passed line c.args.self.now origin before c.args.t 0 count (omega arith) stands (so_far line origin before c.args.t order) c.if-t-self.true

pub returns-then-t-self-2-clause-passed : goal.returns-then-t-self-2-clause-passed
returns-then-t-self-2-clause-passed c = λ origin before order stands.
    let line = c.args.line.now in
    let count = passed_by line origin before in
    has_passed line c.pass.new.self origin before c.args.t 1 (count + 1) (omega arith) (c.pass.ensures origin count stands)
    (one_more line c.args.self.now origin count c.args.t stands c.if-t-self.false) c.if-t-self-2.true

pub returns-then-t-self-3-clause-passed : goal.returns-then-t-self-3-clause-passed
returns-then-t-self-3-clause-passed c = λ origin before order stands.
    let line = c.args.line.now in
    let count = passed_by line origin before in
    let one = c.pass.ensures origin count stands in
    has_passed line c.pass-2.new.self origin before c.args.t 2 (count + 1 + 1) (omega arith) (c.pass-2.ensures origin (count + 1) one)
    (one_more line c.pass.new.self origin (count + 1) c.args.t one c.if-t-self-2.false) c.if-t-self-3.true

pub returns-clause-passed : goal.returns-clause-passed
returns-clause-passed c = λ origin before order stands.
    let line = c.args.line.now in
    let count = passed_by line origin before in
    let two = c.pass-2.ensures origin (count + 1) (c.pass.ensures origin count stands) in
    has_passed line c.leap-more.new.self origin before c.args.t (2 + c.leap-more.result) (count + 1 + 1 + c.leap-more.result) (omega arith)
    (c.leap-more.ensures.next origin (count + 1 + 1) two) (c.leap-more.ensures.passed origin (count + 1 + 1) two) c.leap-more.ensures.ahead
