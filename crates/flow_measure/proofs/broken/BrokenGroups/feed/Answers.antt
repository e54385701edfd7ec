use Rattle.std.proofs.Common.{refl}
use Rattle.flow_measure.proofs.Breaks.{broken-more}
use Rattle.flow_measure.proofs.broken.BrokenGroups.feed.Goals as goal

pub returns-clause-stands : goal.returns-clause-stands
returns-clause-stands c = λ n broken seen. broken-more n c.args.self.now _ broken seen c.args.times c.args.is_broken c.requires refl refl c.either-self.ensures
