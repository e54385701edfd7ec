use Rattle.flow_measure.specs.Groups.{latency_at, offset_at, since_at}
use Rattle.flow_measure.proofs.group_meter.GroupMeter.new.Goals as goal

pub returns-clause-stands : goal.returns-clause-stands
returns-clause-stands c = λ m anchor first last timestamp. record {
  first_is = c.new.ensures.stands (since_at m anchor first);
  last_is = c.new-2.ensures.stands (since_at m anchor last);
  offset = c.new-3.ensures.stands (offset_at m anchor timestamp);
  latency = c.new-4.ensures.stands (latency_at first timestamp);
  step = c.new-5.ensures.stands timestamp;
}
