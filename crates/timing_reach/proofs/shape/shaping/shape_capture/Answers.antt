use Rattle.std.proofs.Common.{rules, subst, sym, refl, ◌≡◌, ℕ, Ok, Err}
use Rattle.timing_reach.specs.shape.Shaping.{Departs}
use Rattle.timing_reach.specs.shape.Walking.{CanSkip, PassesAll}
use Rattle.timing_reach.proofs.KeptShapes.{can-depart, capture-late, capture-shape, first-head}
use Rattle.timing_reach.proofs.Takings.{if-ok}
use Rattle.timing_reach.proofs.Walkings.{has-head, stamp-held}
use Rattle.timing_reach.proofs.shape.shaping.shape_capture.Goals as goal

pub stamp-requires : goal.stamp-requires
stamp-requires c =
    let j = c.args.judged.now in
    let head : c.judged.inside.head ≡ j.head = search rules in
    let passed = subst (λ (k : ℕ). PassesAll k c.new-walk.result c.skip.new.self) head c.skip.ensures in
    let some =
    first-head c.args.media.now c.args.shift j c.args.bytes c.new-walk.result c.skip.new.self c.new-walk.ensures passed c.requires in
    has-head c.skip.new.self some.0 some.1 some.2 some.3

pub new-leaver-requires : goal.new-leaver-requires
new-leaver-requires c =
    let j = c.args.judged.now in
    let head : c.judged.inside.head ≡ j.head = search rules in
    let passed = subst (λ (k : ℕ). PassesAll k c.new-walk.result c.skip.new.self) head c.skip.ensures in
    let some =
    first-head c.args.media.now c.args.shift j c.args.bytes c.new-walk.result c.skip.new.self c.new-walk.ensures passed c.requires in
    stamp-held c.skip.new.self c.stamp.result some.0 some.1 some.2 some.3 (c.stamp.ensures some.0 some.1 some.2 some.3)

pub depart-requires-clause-can : goal.depart-requires-clause-can
depart-requires-clause-can c =
    let j = c.args.judged.now in
    let head : c.judged.inside.head ≡ j.head = search rules in
    let count : c.judged.inside.packets ≡ j.packets = search rules in
    let passed = subst (λ (k : ℕ). PassesAll k c.new-walk.result c.skip.new.self) head c.skip.ensures in
    subst (λ (k : ℕ). CanSkip k c.skip.new.self) (sym count)
    (can-depart c.args.media.now c.args.shift j c.args.bytes c.new-walk.result c.skip.new.self c.new-walk.ensures passed c.requires)

pub returns-in-Err-clause-shape : goal.returns-in-Err-clause-shape
returns-in-Err-clause-shape c =
    let j = c.args.judged.now in
    let head : c.judged.inside.head ≡ j.head = search rules in
    let count : c.judged.inside.packets ≡ j.packets = search rules in
    let passed = subst (λ (k : ℕ). PassesAll k c.new-walk.result c.skip.new.self) head c.skip.ensures in
    let departs =
    subst (λ (k : ℕ). Departs k c.new-leaver.result c.skip.new.self c.depart.new.walk (Err c.in-Err.late)) count c.in-Err.ensures.departs in
    if-ok c.not_shaped.result
    (λ answer is. capture-late c.args.media.now c.args.kind c.args.shift c.stamp.result j c.args.bytes c.new-walk.result c.skip.new.self c.depart.new.walk
    c.new-leaver.result c.in-Err.late answer c.new-walk.ensures passed c.stamp.ensures c.new-leaver.ensures.stands departs is)
    c.not_shaped.ensures

pub returns-clause-shape : goal.returns-clause-shape
returns-clause-shape c =
    let j = c.args.judged.now in
    let head : c.judged.inside.head ≡ j.head = search rules in
    let count : c.judged.inside.packets ≡ j.packets = search rules in
    let passed = subst (λ (k : ℕ). PassesAll k c.new-walk.result c.skip.new.self) head c.skip.ensures in
    let departs =
    subst (λ (k : ℕ). Departs k c.new-leaver.result c.skip.new.self c.depart.new.walk (Ok c.in-Ok.left)) count c.in-Ok.ensures.departs in
    capture-shape c.args.media.now c.args.kind c.args.shift c.stamp.result j c.args.bytes c.new-walk.result c.skip.new.self c.depart.new.walk
    c.hold_back.new.self c.new-leaver.result c.in-Ok.left _ c.new-walk.ensures passed c.stamp.ensures c.new-leaver.ensures.stands departs
    c.hold_back.ensures refl
