use Rattle.path_skew.proofs.Counted.{index-inside, index-within, insert-counted, insert-here, insert-others, replace-here, replace-others}
use Rattle.path_skew.proofs.arrivals.Arrivals.keep_before.Goals as goal

-- one that stood there is replaced
pub replace-requires : goal.replace-requires
replace-requires c =
    let s = c.args.self.now in
    index-inside s.slots c.places-places.result c.args.place c.ones_below-index.result c.has.result c.requires s.counted c.places-places.ensures
    c.has.ensures c.ones_below-index.ensures c.if-has.true

pub returns-then-has-clause-here : goal.returns-then-has-clause-here
returns-then-has-clause-here c =
    let s = c.args.self.now in
    replace-here s.slots c.places-places.result c.args.place c.ones_below-index.result c.has.result c.requires s.counted c.places-places.ensures
    c.has.ensures c.ones_below-index.ensures c.if-has.true c.replace.new.self c.args.arrival c.replace.ensures.items c.replace.ensures.places

pub returns-then-has-clause-others : goal.returns-then-has-clause-others
returns-then-has-clause-others c =
    let s = c.args.self.now in
    λ i x. replace-others s.slots c.places-places.result c.args.place c.ones_below-index.result c.has.result c.requires s.counted c.places-places.ensures
    c.has.ensures c.ones_below-index.ensures c.if-has.true c.replace.new.self c.args.arrival c.replace.ensures.items c.replace.ensures.places i x

-- else it is put in
pub insert-requires : goal.insert-requires
insert-requires c =
    let s = c.args.self.now in
    index-within s.slots c.places-places.result c.args.place c.ones_below-index.result c.has.result c.requires s.counted c.places-places.ensures
    c.has.ensures c.ones_below-index.ensures

pub invariant_of-self-2 : goal.invariant_of-self-2
invariant_of-self-2 c =
    let s = c.args.self.now in
    record {
      counted = insert-counted s.slots c.places-places.result c.args.place c.ones_below-index.result c.has.result c.requires s.counted c.places-places.ensures
          c.has.ensures c.ones_below-index.ensures c.if-has.false c.insert.new.self c.with.result c.args.arrival c.with.ensures.here c.with.ensures.others
          c.insert.result c.insert.ensures.items c.insert.ensures.places c.insert.ensures.same_items c.insert.ensures.same_places;
    }

pub returns-clause-here : goal.returns-clause-here
returns-clause-here c =
    let s = c.args.self.now in
    insert-here s.slots c.places-places.result c.args.place c.ones_below-index.result c.has.result c.requires s.counted c.places-places.ensures
    c.has.ensures c.ones_below-index.ensures c.if-has.false c.insert.new.self c.with.result c.args.arrival c.with.ensures.here c.with.ensures.others
    c.in_ok-insert.ensures.items c.in_ok-insert.ensures.places

pub returns-clause-others : goal.returns-clause-others
returns-clause-others c =
    let s = c.args.self.now in
    insert-others s.slots c.places-places.result c.args.place c.ones_below-index.result c.has.result c.requires s.counted c.places-places.ensures
    c.has.ensures c.ones_below-index.ensures c.if-has.false c.insert.new.self c.with.result c.args.arrival c.with.ensures.here c.with.ensures.others
    c.in_ok-insert.ensures.items c.in_ok-insert.ensures.places
