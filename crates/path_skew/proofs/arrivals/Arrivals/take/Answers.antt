use Rattle.path_skew.proofs.Counted.{index-inside, take-counted, take-others}
use Rattle.path_skew.proofs.arrivals.Arrivals.take.Goals as goal

-- an arrival stands at the index
pub take-requires : goal.take-requires
take-requires c =
    let s = c.args.self.now in
    index-inside s.slots c.places-places.result c.args.place c.ones_below-index.result c.has.result c.requires s.counted c.places-places.ensures
    c.has.ensures c.ones_below-index.ensures c.if-not-has.false

-- and the others stay
pub invariant_of-self : goal.invariant_of-self
invariant_of-self c =
    let s = c.args.self.now in
    record {
      counted = take-counted s.slots c.places-places.result c.args.place c.ones_below-index.result c.has.result c.requires s.counted c.places-places.ensures
          c.has.ensures c.ones_below-index.ensures c.if-not-has.false c.take.new.self c.without.result c.without.ensures.here c.without.ensures.others
          c.take.ensures.left;
    }

pub returns-clause-others : goal.returns-clause-others
returns-clause-others c =
    let s = c.args.self.now in
    λ i x. take-others s.slots c.places-places.result c.args.place c.ones_below-index.result c.has.result c.requires s.counted c.places-places.ensures
    c.has.ensures c.ones_below-index.ensures c.if-not-has.false c.take.new.self c.without.result c.without.ensures.here c.without.ensures.others
    c.take.ensures.left i x
