use Rattle.std.proofs.Common.{rules}
use Rattle.fail_interval.specs.SoFar.{in_head}
use Rattle.fail_interval.proofs.flow.Flow.new.Goals as goal

pub returns-clause-stands : goal.returns-clause-stands
returns-clause-stands g c = record {
  limits = search rules;
  grouper = search rules;
  sound = search rules;
  so_far = in_head 0;
  runs = search rules;
  room = search rules;
}
