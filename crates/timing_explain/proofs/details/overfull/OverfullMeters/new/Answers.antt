use Rattle.timing_explain.proofs.details.overfull.OverfullMeters.new.Goals as goal

pub returns-clause-stands : goal.returns-clause-stands
returns-clause-stands c = λ bucket rec stamp. record {
  narrow_counts = c.new.ensures.stands bucket rec stamp;
  linear_counts = c.new-2.ensures.stands bucket rec stamp;
  wide_counts = c.new-3.ensures.stands bucket rec stamp;
}
