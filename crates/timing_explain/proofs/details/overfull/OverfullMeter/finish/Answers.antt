use Rattle.flow_measure.specs.Bins.{is_above}
use Rattle.timing_explain.proofs.details.overfull.OverfullMeter.finish.Goals as goal

pub returns : goal.returns
returns c = λ n c_max bucket rec stamp seen h. record {
  groups_are = c.count.ensures n (λ i. is_above c_max (bucket i)) seen h.groups_are;
  first = h.first;
  first_is = h.first_is;
  place_is = h.place_is;
}
