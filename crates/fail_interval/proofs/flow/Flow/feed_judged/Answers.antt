use Rattle.std.proofs.Common.{◌≡◌, ◌+◌, ◌∙◌, ap, None, Some, length, refl}
use Rattle.frame_group.specs.Expected.{after, going_on, next_of}
use Rattle.frame_group.proofs.Expecting.{expected-is}
use Rattle.run_meter.specs.declared.run.RunHead.{RunHead}
use Rattle.fail_interval.proofs.Feeding.{expected-known, few-known, goes_on, stamp-known}
use Rattle.fail_interval.proofs.FlowTold.{goes_on-tells}
use Rattle.fail_interval.proofs.flow.Flow.feed_judged.Goals as goal

pub feed_expected-requires : goal.feed_expected-requires
feed_expected-requires g c = record { few = few-known _ _ c.requires }

pub stamp-requires : goal.stamp-requires
stamp-requires g c = stamp-known _ _ c.requires

pub feed_whole-requires-clause-next : goal.feed_whole-requires-clause-next
feed_whole-requires-clause-next g c =
    expected-known _ c.args.at c.stamp.result _ c.stamp.ensures.is c.in-Some.is
    (λ packets s rest. c.if-not-feed_expected.ensures.answer refl _ packets rest 0 s) c.requires

pub returns-in_ok-feed_whole-in-Some-clause-goes_on : goal.returns-in_ok-feed_whole-in-Some-clause-goes_on
returns-in_ok-feed_whole-in-Some-clause-goes_on g c = λ _. record {
  expects = λ packets h. c.if-not-feed_expected.ensures.expects refl _ packets h.stands.grouper;
  stands = λ packets rec_number h.
      goes_on _ packets rec_number c.args.at c.stamp.result
      (going_on packets c.args.self.now.media.pt (length packets)) None _ _ _ c.stamp.ensures.is c.in-Some.is refl
      (λ rest. c.if-not-feed_expected.ensures.answer refl _ packets rest rec_number h.stands.grouper)
      (c.if-not-feed_expected.ensures.stands refl _ packets rec_number h.stands.grouper) (c.in_ok-feed_whole-in-Some.ensures.takes _) h;
  next = c.if-not-feed_expected.ensures.next refl;
}

pub returns-in_ok-feed_whole-in-Some-clause-tells : goal.returns-in_ok-feed_whole-in-Some-clause-tells
returns-in_ok-feed_whole-in-Some-clause-tells g c = λ _ wants past out packets h t.
    let open_run = c.in-Some.open in
    let seen = going_on packets c.args.self.now.media.pt (length packets) in
    let head : RunHead = record { run = length c.args.self.now.done.items + 1; rec = open_run.rec; number = open_run.number } in
    let expects : c.expected.result ≡ Some (next_of seen) =
    c.expected.ensures.is
    ∙ (c.if-not-feed_expected.ensures.next refl ∙ ap after (expected-is _ _ packets h.stands.grouper ∙ c.if-not-feed_expected.ensures.expects refl _ packets
    h.stands.grouper)) in
    goes_on-tells g.M.RunMeter.stands g.M.RunMeter.tells past c.args.self.now packets c.args.rec c.args.at c.stamp.result c.timestamp_of.result seen None
    open_run
    c.feed_whole.new.self head out out c.stamp.ensures.is c.in-Some.is refl
    (λ rest. c.if-not-feed_expected.ensures.answer refl _ packets rest c.args.rec h.stands.grouper)
    (c.timestamp_of.ensures (next_of seen) expects) refl refl refl
    (c.in_ok-feed_whole-in-Some.ensures.takes _) (c.in_ok-feed_whole-in-Some.ensures.tells wants _ head out) h t
