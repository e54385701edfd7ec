use Rattle.flow_measure.specs.Bins.{is_above}
use Rattle.timing_explain.proofs.details.overfull.OverfullMeter.end_group.Goals as goal

pub returns-clause-stands : goal.returns-clause-stands
returns-clause-stands c = λ n c_max bucket rec stamp seen h all. record {
  c_max_is = h.c_max_is;
  groups_are = c.end_group.ensures.stands n (λ i. is_above c_max (bucket i)) seen h.groups_are all;
  first = h.first;
  first_is = h.first_is;
  place_is = h.place_is;
}
