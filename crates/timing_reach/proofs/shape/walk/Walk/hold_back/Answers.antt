use Rattle.std.proofs.Common.{rules, sym, subst, ◌<◌, ◌≤◌, ◌≡◌, length}
use Rattle.std.specs.Prelude.{max}
use Rattle.timing_base.specs.Captures.{IsStamp}
use Rattle.timing_reach.proofs.Walkings.{can-hold, can-walk, holds-all, holds-more, holds-none, walks-on}
use Rattle.timing_reach.proofs.shape.walk.Walk.hold_back.Goals as goal

pub loop-self-init : goal.loop-self-init
loop-self-init c = record { can = c.requires.can; holds = λ done rest h. holds-none c.args.least c.args.self.now done rest h }

pub stamp-requires : goal.stamp-requires
stamp-requires c =
    let walk = c.loop-self.self in
    let within : walk.place < length walk.bytes.items = search rules in
    can-walk walk within c.loop-self.invariant.can

pub restamp-requires-clause-head : goal.restamp-requires-clause-head
restamp-requires-clause-head c =
    let walk = c.loop-self.self in
    let within : walk.place < length walk.bytes.items = search rules in
    can-walk walk within c.loop-self.invariant.can

pub restamp-requires-clause-stamp : goal.restamp-requires-clause-stamp
restamp-requires-clause-stamp c =
    let walk = c.loop-self.self in
    let within : walk.place < length walk.bytes.items = search rules in
    let same : c.max-at.result ≡ max c.stamp.result c.args.least = search rules in
    subst IsStamp (sym same) (can-hold walk c.stamp.result c.args.least within c.stamp.ensures c.requires.stamp c.loop-self.invariant.can)

pub loop-self-preserved : goal.loop-self-preserved
loop-self-preserved c =
    let walk = c.loop-self.self in
    let within : walk.place < length walk.bytes.items = search rules in
    let same : c.max-at.result ≡ max c.stamp.result c.args.least = search rules in
    record {
      can = walks-on walk c.restamp.new.self c.pass.new.self c.max-at.result within c.restamp.ensures.restamps c.pass.ensures.passes c.loop-self.invariant.can;
      holds = λ done rest h.
          holds-more c.args.least walk c.restamp.new.self c.pass.new.self c.stamp.result c.max-at.result done rest within c.stamp.ensures same
          c.restamp.ensures.restamps c.pass.ensures.passes (c.loop-self.invariant.holds done rest h);
    }

pub returns : goal.returns
returns c = λ done rest h.
    let walk = c.loop-self.self in
    let end : length walk.bytes.items ≤ walk.place = search rules in
    holds-all c.args.least walk done rest end (c.loop-self.invariant.holds done rest h)
