use Rattle.std.proofs.Common.{rules, refl, ◌∙◌, ap, ◌++◌, ◌+◌, ◌-◌, drop, take}
use Rattle.std.proofs.lemmas.List.{places, with_items_is}
use Rattle.timing_reach.proofs.Walkings.{restamps}
use Rattle.timing_reach.proofs.shape.walk.Walk.restamp.Goals as goal

pub returns-clause-restamps : goal.returns-clause-restamps
returns-clause-restamps c = λ done r rest h.
    let walk = c.args.self.now in
    let bytes = c.deref_mut.result.now in
    restamps walk _ bytes c.args.at done r rest c.deref_mut.ensures.value
    (with_items_is walk.bytes _ (search (rules, places))
    ∙ ap (λ l. take walk.place bytes ++ (l ++ drop (walk.place + 8 - walk.place) (drop walk.place bytes))) c.write_stamp.ensures)
    refl c.requires.stamp h
