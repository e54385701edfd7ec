use Rattle.std.proofs.Common.{ap, sym}
use Rattle.flow_findings.specs.Details.{greatest_of, span_at}
use Rattle.timing_explain.proofs.details.groups.GroupTimes.new.Goals as goal

pub returns-clause-times : goal.returns-clause-times
returns-clause-times c = λ m n stamp. record {
  span_is = ap (greatest_of (span_at n stamp)) (sym c.in_ok-new.ensures.seen);
  firsts_draw = c.in_ok-new.ensures.draws _;
}
