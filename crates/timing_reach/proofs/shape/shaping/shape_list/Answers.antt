use Rattle.std.proofs.Common.{rules, ap, sym, subst, All, ◌≡◌, ◌+◌, ◌-◌, List, ℕ, drop, take}
use Rattle.std.specs.Prelude.{slice_index}
use Rattle.timing_base.specs.Captures.{IsStamp}
use Rattle.timing_base.specs.Shifts.{shifted}
use Rattle.timing_reach.specs.shape.Leaving.{IsFit}
use Rattle.timing_reach.specs.shape.Shaping.{ListsSo, in_tai}
use Rattle.timing_reach.proofs.KeptShapes.{first-held, judged_part, list-shape, part-held, part-same, part_of}
use Rattle.timing_reach.proofs.Takings.{if-ok}
use Rattle.timing_reach.proofs.shape.shaping.shape_list.Goals as goal

pub new-leaver-requires : goal.new-leaver-requires
new-leaver-requires c =
    let j = c.args.judged.now in
    let first : c.judged.inside.head ≡ j.head = search rules in
    let count : c.judged.inside.packets ≡ j.packets = search rules in
    let same =
    part-same j c.judged.inside.head c.judged.inside.packets c.deref.result.now c.args.stamps.items first count c.deref.ensures.value in
    subst (λ (l : List ℕ). IsStamp (slice_index l 0)) (sym same) (first-held c.args.media.now c.args.shift j c.args.stamps c.requires)

pub list_delays-requires-clause-stamps : goal.list_delays-requires-clause-stamps
list_delays-requires-clause-stamps c =
    let j = c.args.judged.now in
    let first : c.judged.inside.head ≡ j.head = search rules in
    let count : c.judged.inside.packets ≡ j.packets = search rules in
    let same =
    part-same j c.judged.inside.head c.judged.inside.packets c.deref.result.now c.args.stamps.items first count c.deref.ensures.value in
    subst (λ (l : List ℕ). All IsStamp l) (sym same) (part-held c.args.media.now c.args.shift j c.args.stamps c.requires)

pub returns-clause-shape : goal.returns-clause-shape
returns-clause-shape c =
    let m = c.args.media.now in
    let shift = c.args.shift in
    let j = c.args.judged.now in
    let head : c.judged.inside.head ≡ j.head = search rules in
    let count : c.judged.inside.packets ≡ j.packets = search rules in
    let part = take (c.judged.inside.head + c.judged.inside.packets - c.judged.inside.head) (drop c.judged.inside.head c.deref.result.now) in
    let same : part ≡ judged_part j c.args.stamps.items =
    part-same j c.judged.inside.head c.judged.inside.packets c.deref.result.now c.args.stamps.items head count c.deref.ensures.value in
    let first = slice_index part 0 in
    if-ok c.list_delays.result
    (λ answer lists. list-shape m c.args.kind shift first j c.args.stamps answer (ap (λ (l : List ℕ). slice_index l 0) same)
    (subst (λ (l : List ℕ). IsFit (shifted shift first) (in_tai shift l) → ListsSo (part_of m c.args.kind shift first j) (in_tai shift l) answer) same
    (lists (part_of m c.args.kind shift first j) c.new-leaver.ensures.stands)))
    c.list_delays.ensures.lists
