use Rattle.std.proofs.Common.{◌≡◌, ◌<◌, ◌+◌, ◌-◌, ◌*◌, ◌%◌, ◌++◌, ◌∷◌, [], true, false, length, slice_index, FitsSigned, ap, ◌∙◌, sym, subst, refl, rules}
use Rattle.std.proofs.Common.{arith}
use Rattle.std.proofs.Common.{length-append}
use Rattle.std.proofs.lemmas.Int.{to_z-of_z}
use Rattle.std.specs.Int.{w128}
use Rattle.sender_params.specs.Limits.{c_max_of, vrx_full_of}
use Rattle.flow_measure.specs.Fed.{MeasuresGroups}
use Rattle.flow_measure.specs.Groups.{firsts_of, lasts_of}
use Rattle.flow_measure.specs.Metered.{HasBegun}
use Rattle.flow_measure.specs.Offsets.{MeasuresWindows}
use Rattle.flow_measure.specs.declared.group_walk.GroupWalk.{GroupWalk}
use Rattle.flow_measure.proofs.Packets.{listed-last}
use Rattle.flow_measure.proofs.Stepping.{anchor-now, begun-now, fed, group-first, groups-now, place-of, times-over, times-within}
use Rattle.flow_measure.proofs.meters.RunMeters.feed.Goals as goal

pub returns-else-pass-clause-stands : goal.returns-else-pass-clause-stands
returns-else-pass-clause-stands c = λ stamps records timestamps h rising level.
    let s = c.args.self.now in
    let mid = c.begin.new.self in
    let b = c.begin.ensures in
    let m = c.args.params.now.media in
    let n = c.args.params.now.n in
    let packet = c.args.packet in
    let new = stamps ++ packet.at ∷ [] in
    let long : length new ≡ length stamps + 1 = length-append stamps (packet.at ∷ []) in
    let records_long : length (records ++ packet.rec ∷ []) ≡ length records + 1 = length-append records (packet.rec ∷ []) in
    let timestamps_long : length (timestamps ++ packet.timestamp ∷ []) ≡ length timestamps + 1 = length-append timestamps (packet.timestamp ∷ []) in
    let walk_n : mid.walk.n ≡ n = ap (λ (w : GroupWalk). w.n) b.walk_is ∙ h.n_is in
    let walk_seen : mid.walk.seen ≡ length stamps = ap (λ (w : GroupWalk). w.seen) b.walk_is ∙ h.seen in
    let walk_place : mid.walk.place ≡ length stamps % n = ap (λ (w : GroupWalk). w.place) b.walk_is ∙ place-of m n s stamps records timestamps h in
    let within = c.pass.ensures.within c.if-pass.false in
    let inside : length stamps % n + 1 < n = omega (arith, within.0, walk_n, walk_place) in
    let group : s.walk.group ≡ c.pass.new.self.group = sym (within.2 ∙ ap (λ (w : GroupWalk). w.group) b.walk_is) in
    let f = fed m n s mid packet c.args.level c.feed.new.self c.feed-2.new.self c.feed-3.new.self c.feed-4.new.self stamps records timestamps b h rising level
    c.feed.ensures.stands c.feed-2.ensures.stands c.feed-3.ensures.stands c.feed-4.ensures.stands in
    let begun = begun-now m n s mid packet stamps records timestamps b h in
    record {
      n_is = c.pass.ensures.n ∙ walk_n;
      seen = omega (arith, c.pass.ensures.seen, walk_seen, long);
      records_are = omega (arith, h.records_are, long, records_long);
      timestamps_are = omega (arith, h.timestamps_are, long, timestamps_long);
      anchor_is = λ _. anchor-now m n s mid packet stamps records timestamps b h;
      begun = λ _. subst (λ k. HasBegun n k new (timestamps ++ packet.timestamp ∷ []) mid.group) group begun;
      kinds = f.kinds;
      gapped_is = times-within m n true mid.gapped c.feed-2.new.self stamps packet.at c.feed-2.ensures.step c.feed-2.ensures.turn inside f.gapped_are;
      linear_is = times-within m n false mid.linear c.feed-3.new.self stamps packet.at c.feed-3.ensures.step c.feed-3.ensures.turn inside f.linear_are;
      groups_are = λ stamp timestamp are ticks.
          subst (λ g. MeasuresGroups m mid.n0 g (firsts_of n stamp) (lasts_of n stamp) (firsts_of n timestamp)) (sym b.groups_are)
          (groups-now m n s mid packet stamps records timestamps stamp timestamp b h are ticks);
      gaps_are = f.gaps_are;
      windows_are = c.feed-5.ensures.stands stamps (subst (λ w. MeasuresWindows m n w stamps) (sym b.windows_are) h.windows_are);
    }

pub returns-then-pass-clause-stands : goal.returns-then-pass-clause-stands
returns-then-pass-clause-stands c = λ stamps records timestamps h rising level.
    let s = c.args.self.now in
    let mid = c.begin.new.self in
    let b = c.begin.ensures in
    let m = c.args.params.now.media in
    let n = c.args.params.now.n in
    let packet = c.args.packet in
    let new = stamps ++ packet.at ∷ [] in
    let long : length new ≡ length stamps + 1 = length-append stamps (packet.at ∷ []) in
    let records_long : length (records ++ packet.rec ∷ []) ≡ length records + 1 = length-append records (packet.rec ∷ []) in
    let timestamps_long : length (timestamps ++ packet.timestamp ∷ []) ≡ length timestamps + 1 = length-append timestamps (packet.timestamp ∷ []) in
    let walk_n : mid.walk.n ≡ n = ap (λ (w : GroupWalk). w.n) b.walk_is ∙ h.n_is in
    let walk_seen : mid.walk.seen ≡ length stamps = ap (λ (w : GroupWalk). w.seen) b.walk_is ∙ h.seen in
    let walk_place : mid.walk.place ≡ length stamps % n = ap (λ (w : GroupWalk). w.place) b.walk_is ∙ place-of m n s stamps records timestamps h in
    let over = c.pass.ensures.over c.if-pass.true in
    let outside : length stamps % n + 1 ≡ n = omega (arith, over.0, walk_n, walk_place) in
    let k = s.walk.group in
    let first = group-first n s stamps records timestamps m h in
    let old_place = place-of m n s stamps records timestamps h in
    let whole : length stamps + 1 ≡ k * n + n = omega (arith, first, old_place, outside) in
    let f = fed m n s mid packet c.args.level c.feed.new.self c.feed-2.new.self c.feed-3.new.self c.feed-4.new.self stamps records timestamps b h rising level
    c.feed.ensures.stands c.feed-2.ensures.stands c.feed-3.ensures.stands c.feed-4.ensures.stands in
    let begun = begun-now m n s mid packet stamps records timestamps b h in
    let narrow : c.feed.new.self.narrow.broken.whole ≡ k = c.feed.ensures.whole ∙ mid.models_whole ∙ ap (λ (w : GroupWalk). w.group) b.walk_is in
    let models : c.feed.new.self.bucket.seen + c.feed.new.self.waits ≡ c.feed.new.self.narrow.broken.whole * n + n =
    omega (arith, c.feed.ensures.seen, mid.models_are, walk_seen, whole, ap (λ j. j * n) narrow) in
    let some : 0 < length new = omega (arith, long) in
    let groups : mid.groups.first.seen ≡ k = mid.groups_are ∙ ap (λ (w : GroupWalk). w.group) b.walk_is in
    let n0_fits : FitsSigned w128 mid.n0 = search rules in
    let groups_take = simp to_z-of_z at c.feed-then-pass.ensures.stands in
    record {
      n_is = c.pass.ensures.n ∙ walk_n;
      seen = omega (arith, c.pass.ensures.seen, walk_seen, long);
      records_are = omega (arith, h.records_are, long, records_long);
      timestamps_are = omega (arith, h.timestamps_are, long, timestamps_long);
      anchor_is = λ _. anchor-now m n s mid packet stamps records timestamps b h;
      begun = λ more. absurd (omega (arith, more, over.1));
      kinds = λ kind p are. c.end_group.ensures.stands kind n (c_max_of m n kind) (vrx_full_of m n kind) p (f.kinds kind p are) models;
      gapped_is = times-over m n true mid.gapped c.feed-2.new.self c.end_group-then-pass.new.self stamps packet.at c.feed-2.ensures.step
          c.feed-2.ensures.turn c.end_group-then-pass.ensures.step c.end_group-then-pass.ensures.turn outside
          (c.end_group-then-pass.ensures.stands m n true new _ f.gapped_are some);
      linear_is = times-over m n false mid.linear c.feed-3.new.self c.end_group-then-pass-2.new.self stamps packet.at c.feed-3.ensures.step
          c.feed-3.ensures.turn c.end_group-then-pass-2.ensures.step c.end_group-then-pass-2.ensures.turn outside
          (c.end_group-then-pass-2.ensures.stands m n false new _ f.linear_are some);
      groups_are = λ stamp timestamp are ticks.
          let before = subst (λ g. MeasuresGroups m mid.n0 g (firsts_of n stamp) (lasts_of n stamp) (firsts_of n timestamp)) (sym b.groups_are)
          (groups-now m n s mid packet stamps records timestamps stamp timestamp b h are ticks) in
          groups_take (firsts_of n stamp) (lasts_of n stamp) (firsts_of n timestamp) before
          (ap (firsts_of n stamp) groups ∙ are (k * n) (omega (arith, long, first)) ∙ sym begun.came)
          (ap (lasts_of n stamp) groups ∙ listed-last stamps packet.at (k * n + (n - 1)) stamp (omega (arith, whole, outside)) are)
          (ap (firsts_of n timestamp) groups ∙ ticks (k * n) (omega (arith, timestamps_long, h.timestamps_are, first)) ∙ sym begun.ticks);
      gaps_are = f.gaps_are;
      windows_are = c.feed-5.ensures.stands stamps (subst (λ w. MeasuresWindows m n w stamps) (sym b.windows_are) h.windows_are);
    }

pub invariant_of-self-clause-gapped_room : goal.invariant_of-self-clause-gapped_room
invariant_of-self-clause-gapped_room c =
    omega (arith, c.feed-2.ensures.room, c.end_group-then-pass.ensures.room, c.begin.new.self.gapped_room, c.pass.ensures.seen)

pub invariant_of-self-clause-linear_room : goal.invariant_of-self-clause-linear_room
invariant_of-self-clause-linear_room c =
    omega (arith, c.feed-3.ensures.room, c.end_group-then-pass-2.ensures.room, c.begin.new.self.linear_room, c.pass.ensures.seen)

pub invariant_of-self-else-pass-clause-gapped_room : goal.invariant_of-self-else-pass-clause-gapped_room
invariant_of-self-else-pass-clause-gapped_room c = omega (arith, c.feed-2.ensures.room, c.begin.new.self.gapped_room, c.pass.ensures.seen)

pub invariant_of-self-else-pass-clause-linear_room : goal.invariant_of-self-else-pass-clause-linear_room
invariant_of-self-else-pass-clause-linear_room c = omega (arith, c.feed-3.ensures.room, c.begin.new.self.linear_room, c.pass.ensures.seen)

pub invariant_of-self-else-pass-clause-models_whole : goal.invariant_of-self-else-pass-clause-models_whole
invariant_of-self-else-pass-clause-models_whole c =
    c.feed.ensures.whole ∙ c.begin.new.self.models_whole ∙ sym (c.pass.ensures.within c.if-pass.false).2

pub invariant_of-self-else-pass-clause-groups_are : goal.invariant_of-self-else-pass-clause-groups_are
invariant_of-self-else-pass-clause-groups_are c = c.begin.new.self.groups_are ∙ sym (c.pass.ensures.within c.if-pass.false).2

pub invariant_of-self-else-pass-clause-settled : goal.invariant_of-self-else-pass-clause-settled
invariant_of-self-else-pass-clause-settled c = λ none. absurd (omega (arith, none, (c.pass.ensures.within c.if-pass.false).1))

pub invariant_of-self-clause-models_whole : goal.invariant_of-self-clause-models_whole
invariant_of-self-clause-models_whole c =
    let over = c.pass.ensures.over c.if-pass.true in
    omega (arith, c.end_group.ensures.whole, c.feed.ensures.whole, c.begin.new.self.models_whole, over.2)

pub invariant_of-self-clause-groups_are : goal.invariant_of-self-clause-groups_are
invariant_of-self-clause-groups_are c =
    let over = c.pass.ensures.over c.if-pass.true in
    omega (arith, c.feed-then-pass.ensures.seen, c.begin.new.self.groups_are, over.2)
