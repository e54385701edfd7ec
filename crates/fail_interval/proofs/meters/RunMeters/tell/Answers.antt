use Rattle.std.proofs.Common.{◌++◌, ◌∷◌, []}
use Rattle.fail_interval.proofs.Metering.{fed, fed-again}
use Rattle.fail_interval.proofs.meters.RunMeters.tell.Goals as goal

pub returns-clause-takes : goal.returns-clause-takes
returns-clause-takes c = λ before stamps follows origin stands.
    let params = c.args.params.now in
    let meters = c.args.self.now in
    let f = fed params meters meters.lull c.args.at _ _ _ _ _ _ _ (c.advance-gapped.ensures.due, c.advance-gapped.ensures.stands)
    (c.advance-linear.ensures.due, c.advance-linear.ensures.stands)
    c.feed.ensures.kind c.feed.ensures.stands c.feed-2.ensures.kind c.feed-2.ensures.stands c.feed-3.ensures.kind c.feed-3.ensures.stands before stamps follows
    origin stands in
    record {
      fed = fed-again params _ c.next_lull-self.result (stamps ++ c.args.at ∷ []) f;
      lull = c.next_lull-self.ensures params (stamps ++ c.args.at ∷ []) f;
    }
