use Rattle.std.proofs.Common.{◌≡◌, ◌+◌, true, false, FitsSigned, ap, ◌∙◌, sym, rules, arith}
use Rattle.std.proofs.lemmas.Int.{to_z-of_z}
use Rattle.std.specs.Int.{w64, w128}
use Rattle.flow_measure.specs.Counts.{count_of}
use Rattle.flow_measure.proofs.Counted.{count_of-times}
use Rattle.flow_measure.proofs.buffer.BufferMeter.feed.Goals as goal

pub returns-then-held-clause-occupancy : goal.returns-then-held-clause-occupancy
returns-then-held-clause-occupancy c = λ numbers h all.
    let fits : FitsSigned w128 c.from.result = search rules in
    let held_fits : FitsSigned w64 c.args.held.occupancy = search rules in
    let value : c.args.held.occupancy ≡ c.from.result = sym (c.from.ensures ∙ to_z-of_z w64 c.args.held.occupancy held_fits) in
    (simp to_z-of_z at c.feed_often.ensures.stands) numbers h (λ j few. all j few ∙ value)

pub returns-else-held-clause-occupancy : goal.returns-else-held-clause-occupancy
returns-else-held-clause-occupancy c = λ numbers h all.
    let fits : FitsSigned w128 c.from.result = search rules in
    let held_fits : FitsSigned w64 c.args.held.occupancy = search rules in
    let value : c.args.held.occupancy ≡ c.from.result = sym (c.from.ensures ∙ to_z-of_z w64 c.args.held.occupancy held_fits) in
    (simp to_z-of_z at c.feed_often.ensures.stands) numbers h (λ j few. all j few ∙ value)

pub returns-then-held-clause-late : goal.returns-then-held-clause-late
returns-then-held-clause-late c = λ late h all.
    let seen = c.args.self.now.occupancy.seen in
    let more = count_of-times late seen c.args.times true (λ j few. all j few ∙ c.if-held.true) in
    let count = ap (count_of late) c.feed_often.ensures.seen in
    omega (arith, more, h, count)

pub returns-else-held-clause-late : goal.returns-else-held-clause-late
returns-else-held-clause-late c = λ late h all.
    let seen = c.args.self.now.occupancy.seen in
    let more = count_of-times late seen c.args.times false (λ j few. all j few ∙ c.if-held.false) in
    let count = ap (count_of late) c.feed_often.ensures.seen in
    omega (arith, more, h, count)
