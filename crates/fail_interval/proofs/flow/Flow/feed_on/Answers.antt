use Rattle.std.proofs.Common.{◌+◌, arith, None, refl}
use Rattle.fail_interval.proofs.Feeding.{few-known, goes_on, stamp-known, take-known}
use Rattle.fail_interval.proofs.FlowTold.{goes_on-tells}
use Rattle.fail_interval.proofs.flow.Flow.feed_on.Goals as goal

pub feed_on-requires : goal.feed_on-requires
feed_on-requires g c = record { few = few-known _ _ c.requires }

pub stamp-requires : goal.stamp-requires
stamp-requires g c = stamp-known _ _ c.requires

pub feed-requires : goal.feed-requires
feed-requires g c =
    take-known _ 0 c.args.at c.stamp.result c.args.rtp None _ c.stamp.ensures.is c.in-Some.is refl
    (λ packets s rest. c.if-not-feed_on.ensures.answer refl _ packets rest 0 s) c.requires

pub returns-in_ok-feed-in-Some-clause-goes_on : goal.returns-in_ok-feed-in-Some-clause-goes_on
returns-in_ok-feed-in-Some-clause-goes_on g c = λ _ packets h.
    goes_on _ packets c.args.rec c.args.at c.stamp.result c.args.rtp None _ _ _ c.stamp.ensures.is c.in-Some.is refl
    (λ rest. c.if-not-feed_on.ensures.answer refl _ packets rest c.args.rec h.stands.grouper)
    (c.if-not-feed_on.ensures.stands refl _ packets c.args.rec h.stands.grouper) c.in_ok-feed-in-Some.ensures.takes h

pub returns-in_ok-feed-in-Some-clause-tells : goal.returns-in_ok-feed-in-Some-clause-tells
returns-in_ok-feed-in-Some-clause-tells g c = λ _ wants past packets h t.
    let open_run = c.in-Some.open in
    goes_on-tells g.M.RunMeter.stands g.M.RunMeter.tells past c.args.self.now packets c.args.rec c.args.at c.stamp.result c.args.rtp.timestamp c.args.rtp None
    open_run
    c.feed.new.self (record { run = c.len.result + 1; rec = open_run.rec; number = open_run.number }) c.args.out.now c.feed.new.out c.stamp.ensures.is
    c.in-Some.is refl
    (λ rest. c.if-not-feed_on.ensures.answer refl _ packets rest c.args.rec h.stands.grouper)
    refl (omega (arith, c.len.ensures, c.args.self.now.done.ok.0)) refl refl
    c.in_ok-feed-in-Some.ensures.takes (c.in_ok-feed-in-Some.ensures.tells wants) h t
