use Rattle.path_skew.specs.Kept.{page_view}
use Rattle.std.proofs.Common.{Some}
use Rattle.path_skew.proofs.Views.{meets-same}
use Rattle.path_skew.proofs.pages.Page.meet.Goals as goal

-- a packet came, and what nothing waits for was forgotten
pub returns : goal.returns
returns c = record {
  meets = meets-same (page_view c.args.side (Some c.args.self.now)) (page_view c.args.side (Some c.take.new.self))
      (page_view c.args.side (Some c.release.new.self)) c.args.place c.args.arrival c.in_ok-found.found c.in_ok-found.ensures.meets
      (c.release.ensures.same c.args.side);
}
