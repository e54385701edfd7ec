use Rattle.timing_base.specs.declared.media.Kind.TheVariants.{N, NL, W}
use Rattle.flow_measure.proofs.Windowed.{by-kind}
use Rattle.flow_measure.proofs.windows.WindowMeters.put.Goals as goal

pub returns-clause-stands : goal.returns-clause-stands
returns-clause-stands c = by-kind _ (c.feed.ensures.stands N) (c.feed-2.ensures.stands NL) (c.feed-3.ensures.stands W)
