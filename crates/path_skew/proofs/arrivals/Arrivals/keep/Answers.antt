use Rattle.path_skew.proofs.Counted.{push-counted, push-here, push-others}
use Rattle.path_skew.proofs.arrivals.Arrivals.keep.Goals as goal

-- it stands behind all others
pub invariant_of-self : goal.invariant_of-self
invariant_of-self c =
    let s = c.args.self.now in
    record {
      counted = push-counted s.slots c.places-places.result c.args.place c.requires s.counted c.places-places.ensures c.places-places.type_inv
          c.if-places-place-eq0.true c.push.new.self c.with.result c.args.arrival c.with.ensures.here c.with.ensures.others c.push.result c.push.ensures.items
          c.push.ensures.places c.push.ensures.same_items c.push.ensures.same_places;
    }

pub returns-then-places-place-eq0-clause-here : goal.returns-then-places-place-eq0-clause-here
returns-then-places-place-eq0-clause-here c =
    let s = c.args.self.now in
    push-here s.slots c.places-places.result c.args.place c.requires s.counted c.places-places.ensures c.places-places.type_inv
    c.if-places-place-eq0.true c.push.new.self c.with.result c.args.arrival c.with.ensures.here c.with.ensures.others c.in_ok-push.ensures.items
    c.in_ok-push.ensures.places

pub returns-then-places-place-eq0-clause-others : goal.returns-then-places-place-eq0-clause-others
returns-then-places-place-eq0-clause-others c =
    let s = c.args.self.now in
    push-others s.slots c.places-places.result c.args.place c.requires s.counted c.places-places.ensures c.places-places.type_inv
    c.if-places-place-eq0.true c.push.new.self c.with.result c.args.arrival c.with.ensures.here c.with.ensures.others c.in_ok-push.ensures.items
    c.in_ok-push.ensures.places
