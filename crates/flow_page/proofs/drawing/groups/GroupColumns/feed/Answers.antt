use Rattle.std.proofs.Common.{◌≡◌, ◌+◌, ◌-◌, ◌*◌, ◌%◌, ◌++◌, ◌∷◌, [], length, FitsSigned, ap, ◌∙◌, sym, subst, rules, arith}
use Rattle.std.proofs.Common.{length-append}
use Rattle.std.proofs.lemmas.Int.{to_z-of_z}
use Rattle.std.specs.Int.{w128}
use Rattle.flow_measure.specs.Groups.{firsts_of, lasts_of}
use Rattle.flow_measure.specs.declared.group_walk.GroupWalk.{GroupWalk}
use Rattle.flow_measure.proofs.Packets.{listed-last}
use Rattle.flow_page.specs.drawing.drawing.Columns.{HasBegun}
use Rattle.flow_page.proofs.lemmas.drawing.Feeding.{anchor-now, begun-now, curves-now, group-first, place-of}
use Rattle.flow_page.proofs.drawing.groups.GroupColumns.feed.Goals as goal

pub returns-else-pass-clause-draws : goal.returns-else-pass-clause-draws
returns-else-pass-clause-draws c = λ stamps timestamps h.
    let s = c.args.self.now in
    let mid = c.begin.new.self in
    let b = c.begin.ensures in
    let m = c.args.params.now.media in
    let n = c.args.params.now.n in
    let at = c.args.at in
    let ticks = c.args.timestamp in
    let new = stamps ++ at ∷ [] in
    let long : length new ≡ length stamps + 1 = length-append stamps (at ∷ []) in
    let ticks_long : length (timestamps ++ ticks ∷ []) ≡ length timestamps + 1 = length-append timestamps (ticks ∷ []) in
    let walk_n : mid.walk.n ≡ n = ap (λ (w : GroupWalk). w.n) b.walk_is ∙ h.n_is in
    let walk_seen : mid.walk.seen ≡ length stamps = ap (λ (w : GroupWalk). w.seen) b.walk_is ∙ h.seen_is in
    let within = c.pass.ensures.within c.if-pass.false in
    let group : s.walk.group ≡ c.pass.new.self.group = sym (within.2 ∙ ap (λ (w : GroupWalk). w.group) b.walk_is) in
    let begun = begun-now m n s mid at ticks stamps timestamps b h in
    record {
      n_is = c.pass.ensures.n ∙ walk_n;
      seen_is = omega (arith, c.pass.ensures.seen, walk_seen, long);
      same = omega (arith, h.same, long, ticks_long);
      anchor_is = λ _. anchor-now m n s mid at ticks stamps timestamps b h;
      begun = λ _. subst (λ k. HasBegun n k new (timestamps ++ ticks ∷ []) mid.group) group begun;
      curves_draw = λ stamp timestamp are listed. curves-now m n s mid at ticks stamps timestamps stamp timestamp b h are listed;
    }

pub returns-then-pass-clause-draws : goal.returns-then-pass-clause-draws
returns-then-pass-clause-draws c = λ stamps timestamps h.
    let s = c.args.self.now in
    let mid = c.begin.new.self in
    let b = c.begin.ensures in
    let m = c.args.params.now.media in
    let n = c.args.params.now.n in
    let at = c.args.at in
    let ticks = c.args.timestamp in
    let new = stamps ++ at ∷ [] in
    let long : length new ≡ length stamps + 1 = length-append stamps (at ∷ []) in
    let ticks_long : length (timestamps ++ ticks ∷ []) ≡ length timestamps + 1 = length-append timestamps (ticks ∷ []) in
    let walk_n : mid.walk.n ≡ n = ap (λ (w : GroupWalk). w.n) b.walk_is ∙ h.n_is in
    let walk_seen : mid.walk.seen ≡ length stamps = ap (λ (w : GroupWalk). w.seen) b.walk_is ∙ h.seen_is in
    let walk_place : mid.walk.place ≡ length stamps % n = ap (λ (w : GroupWalk). w.place) b.walk_is ∙ place-of m n s stamps timestamps h in
    let over = c.pass.ensures.over c.if-pass.true in
    let outside : length stamps % n + 1 ≡ n = omega (arith, over.0, walk_n, walk_place) in
    let k = s.walk.group in
    let first = group-first m n s stamps timestamps h in
    let old_place = place-of m n s stamps timestamps h in
    let whole : length stamps + 1 ≡ k * n + n = omega (arith, first, old_place, outside) in
    let begun = begun-now m n s mid at ticks stamps timestamps b h in
    let groups : mid.curves.seen ≡ k = mid.curves_are ∙ ap (λ (w : GroupWalk). w.group) b.walk_is in
    let n0_fits : FitsSigned w128 mid.n0 = search rules in
    let curves_take = simp to_z-of_z at c.feed.ensures.draws in
    record {
      n_is = c.pass.ensures.n ∙ walk_n;
      seen_is = omega (arith, c.pass.ensures.seen, walk_seen, long);
      same = omega (arith, h.same, long, ticks_long);
      anchor_is = λ _. anchor-now m n s mid at ticks stamps timestamps b h;
      begun = λ more. absurd (omega (arith, more, over.1));
      curves_draw = λ stamp timestamp are listed.
          curves_take (firsts_of n stamp) (lasts_of n stamp) (firsts_of n timestamp)
          (curves-now m n s mid at ticks stamps timestamps stamp timestamp b h are listed)
          (ap (firsts_of n stamp) groups ∙ are (k * n) (omega (arith, long, first)) ∙ sym begun.came)
          (ap (lasts_of n stamp) groups ∙ listed-last stamps at (k * n + (n - 1)) stamp (omega (arith, whole, outside)) are)
          (ap (firsts_of n timestamp) groups ∙ listed (k * n) (omega (arith, ticks_long, h.same, first)) ∙ sym begun.ticks);
    }
