use Rattle.std.proofs.Common.{Ok}
use Rattle.fail_interval.proofs.Judges.{read-goes, takes-more, tells-more}
use Rattle.fail_interval.proofs.Judging.{flow-known}
use Rattle.fail_interval.proofs.judge.FlowJudge.feed_read.Goals as goal

pub feed-requires-clause-known : goal.feed-requires-clause-known
feed-requires-clause-known g c = λ flow e. flow-known _ _ _ flow e c.args.self.now.known c.requires.few c.requires.stamp

pub returns-clause-takes : goal.returns-clause-takes
returns-clause-takes g c =
    takes-more _ c.args.self.now _ _ _ (record { rec = c.args.rec; at = c.args.at; rtp = Ok c.args.rtp })
    (record { rec = c.args.rec; at = c.args.at; rtp = Ok c.count-judged.result })
    (read-goes c.args.self.now _ c.args.rec c.args.at c.args.rtp c.count-judged.result c.count-judged.ensures)
    (c.feed.ensures.takes c.args.self.now.fed c.requires.few) c.requires.stamp

pub returns-clause-tells : goal.returns-clause-tells
returns-clause-tells g c = λ wants.
    tells-more g.M.RunMeter.stands g.M.RunMeter.tells _ c.args.self.now _ _ (record { rec = c.args.rec; at = c.args.at; rtp = Ok c.args.rtp })
    (record { rec = c.args.rec; at = c.args.at; rtp = Ok c.count-judged.result }) c.args.out.now c.feed.new.out
    (read-goes c.args.self.now _ c.args.rec c.args.at c.args.rtp c.count-judged.result c.count-judged.ensures)
    (c.feed.ensures.takes c.args.self.now.fed c.requires.few) (c.feed.ensures.tells wants c.args.self.now.fed c.requires.few)
