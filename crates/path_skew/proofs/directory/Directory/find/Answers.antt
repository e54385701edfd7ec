use Rattle.path_skew.proofs.Searches.{at-next}
use Rattle.path_skew.proofs.directory.Directory.find.Goals as goal

-- the search is one step further
pub loop-place-preserved : goal.loop-place-preserved
loop-place-preserved c = at-next c.args.self.now.entries.items c.args.page c.loop-place.at.place c.loop-place.at.digits c.in-Some.place
    c.loop-place.invariant c.in-Some.ensures.on
