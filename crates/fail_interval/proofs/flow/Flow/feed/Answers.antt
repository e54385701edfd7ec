use Rattle.std.proofs.Common.{◌≡◌, ◌+◌, arith, ap, Err, Some, ◌∙◌, refl, ℕ}
use Rattle.fail_interval.proofs.Feeding.{begins, ends, few-known, goes_on, none-of, some-of, stamp-known, take-known, with_parts}
use Rattle.fail_interval.proofs.FlowTold.{begins-tells, goes_on-tells}
use Rattle.fail_interval.proofs.flow.Flow.feed.Goals as goal
use Rattle.fail_interval.proofs.flow.Flow.feed.Goals.{then-is_none+in_default, else-is_none}

pub feed-requires : goal.feed-requires
feed-requires g c = record { few = few-known _ _ c.requires }

pub returns-in-Err-clause-ends : goal.returns-in-Err-clause-ends
returns-in-Err-clause-ends g c = λ fault e packets rest h.
    let same : fault ≡ c.in-Err.fault = cc in
    ends _ packets rest c.args.rec c.args.at c.args.rtp fault h (ap Err same ∙ c.in-Err.ensures.answer _ packets rest _ h.stands.grouper)

pub stamp-requires : goal.stamp-requires
stamp-requires g c = stamp-known _ _ c.requires

pub feed-requires-in-Some : goal.feed-requires-in-Some
feed-requires-in-Some g c =
    take-known _ c.args.rec c.args.at c.stamp.result c.args.rtp c.in-Ok.cut _ c.stamp.ensures.is c.in-Some.is (none-of _ c.if-is_none.ensures)
    (λ packets s rest. c.in-Ok.ensures.answer _ packets rest _ s) c.requires

pub returns-in-Some-clause-goes_on : goal.returns-in-Some-clause-goes_on
returns-in-Some-clause-goes_on g c = λ _ packets h.
    goes_on _ packets c.args.rec c.args.at c.stamp.result c.args.rtp c.in-Ok.cut _ _ _ c.stamp.ensures.is c.in-Some.is (none-of _ c.if-is_none.ensures)
    (λ rest. c.in-Ok.ensures.answer _ packets rest _ h.stands.grouper) (c.in-Ok.ensures.stands _ packets _ h.stands.grouper) c.in_ok-feed.ensures.takes h

pub returns-clause-goes_on : goal.returns-clause-goes_on
returns-clause-goes_on g c = λ _ packets h.
    begins c.args.self.now c.if-is_none.self c.begin.new.self packets c.args.rec c.args.at c.stamp.result c.args.rtp c.in-Ok.cut c.feed.new.self
    c.stamp.ensures.is
    (elim c.if-is_none.branch as (λ _. c.if-is_none.self ≡ with_parts c.args.self.now c.feed.new.self c.args.self.now.open) [
      | then-is_none+in_default w ↦ w.self-is
      | else-is_none w ↦ w.self-is
    ])
    c.begin.ensures.media c.begin.ensures.shift c.begin.ensures.grouper c.in_ok-begin.ensures.room
    (λ run e. elim c.if-is_none.branch as (λ _. (n : ℕ) × (c.in-Ok.cut ≡ Some n)) [
      | then-is_none+in_default w ↦ absurd (w.in_default.not-Some run e)
      | else-is_none w ↦ some-of _ w.if-is_none.ensures
    ])
    (λ rest. c.in-Ok.ensures.answer _ packets rest _ h.stands.grouper) (c.in-Ok.ensures.stands _ packets _ h.stands.grouper)
    (λ all i so_far next. c.in_ok-begin.ensures.begins all i so_far c.args.rtp next refl refl) h

pub returns-in-Some-clause-tells : goal.returns-in-Some-clause-tells
returns-in-Some-clause-tells g c = λ _ wants past packets h t.
    let open_run = c.in-Some.open in
    goes_on-tells g.M.RunMeter.stands g.M.RunMeter.tells past c.args.self.now packets c.args.rec c.args.at c.stamp.result c.args.rtp.timestamp c.args.rtp
    c.in-Ok.cut open_run
    c.feed-in-Some.new.self (record { run = c.len.result + 1; rec = open_run.rec; number = open_run.number }) c.args.out.now c.feed-in-Some.new.out
    c.stamp.ensures.is c.in-Some.is (none-of _ c.if-is_none.ensures) (λ rest. c.in-Ok.ensures.answer _ packets rest _ h.stands.grouper)
    refl (omega (arith, c.len.ensures, c.args.self.now.done.ok.0)) refl refl
    c.in_ok-feed.ensures.takes (c.in_ok-feed.ensures.tells wants) h t

pub returns-clause-tells : goal.returns-clause-tells
returns-clause-tells g c = λ _ wants past packets h t.
    begins-tells g.M.RunMeter.stands g.M.RunMeter.tells past c.args.self.now c.if-is_none.self c.begin.new.self packets c.args.rec c.args.at c.stamp.result
    c.args.rtp
    c.in-Ok.cut
    c.feed.new.self c.args.out.now c.begin.new.out c.stamp.ensures.is
    (elim c.if-is_none.branch as (λ _. c.if-is_none.self ≡ with_parts c.args.self.now c.feed.new.self c.args.self.now.open) [
      | then-is_none+in_default w ↦ w.self-is
      | else-is_none w ↦ w.self-is
    ])
    (λ run e. elim c.if-is_none.branch as (λ _. (n : ℕ) × (c.in-Ok.cut ≡ Some n)) [
      | then-is_none+in_default w ↦ absurd (w.in_default.not-Some run e)
      | else-is_none w ↦ some-of _ w.if-is_none.ensures
    ])
    (λ rest. c.in-Ok.ensures.answer _ packets rest _ h.stands.grouper)
    (λ past all i so_far next. c.in_ok-begin.ensures.tells wants past all i so_far c.args.rtp next refl refl refl) h t
