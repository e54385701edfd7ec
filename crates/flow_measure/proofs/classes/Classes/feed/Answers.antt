use Rattle.std.proofs.Common.{◌≡◌, length, refl, rules}
use Rattle.flow_measure.proofs.Binned.{classified-more}
use Rattle.flow_measure.proofs.classes.Classes.feed.Goals as goal

pub returns-clause-stands : goal.returns-clause-stands
returns-clause-stands c = λ numbers h e.
    let k = c.args.self.now in
    let long : length k.counts ≡ 64 = search rules in
    classified-more k _ numbers c.class_of-class.result c.args.number long c.class_of-class.ensures.within c.class_of-class.ensures.class e
    refl c.reach.ensures refl h
