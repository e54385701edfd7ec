use Rattle.std.proofs.Common.{◌≡◌, ◌<◌, pos, FitsSigned, ◌∙◌, refl, sym, rules, arith}
use Rattle.std.proofs.lemmas.Int.{to_z-of_z}
use Rattle.std.specs.Int.{w128}
use Rattle.flow_measure.proofs.Waiting.{held-taken, kind-taken, settled}
use Rattle.flow_measure.proofs.models.ModelMeters.settle.Goals as goal

pub returns-clause-stands : goal.returns-clause-stands
returns-clause-stands c = λ kind n c_max full packets.
    let s = c.args.self.now in
    let some : 0 < s.waits = omega (arith, c.if-self-eq0.false) in
    let fits : FitsSigned w128 c.from.result = search rules in
    settled kind n c_max full s _ packets some refl
    (λ numbers h all. (simp to_z-of_z at c.feed_often.ensures.stands) numbers h (λ j few. all j few ∙ sym c.from.ensures))
    (held-taken kind s _ (record { occupancies = c.feed.ensures.occupancy; lates = c.feed.ensures.late })
    (record { occupancies = c.feed-2.ensures.occupancy; lates = c.feed-2.ensures.late }))
    (kind-taken kind s _ c.feed-3.ensures.stands c.feed-4.ensures.stands c.feed-5.ensures.stands)
