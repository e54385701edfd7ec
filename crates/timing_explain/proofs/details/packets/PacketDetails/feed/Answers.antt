use Rattle.std.proofs.Common.{◌≡◌, ◌+◌, ◌-◌, ◌*◌, ◌++◌, ◌∷◌, [], length, slice_index, refl, ap, ◌∙◌, sym, subst, arith, length-append}
use Rattle.flow_measure.specs.Groups.{firsts_of, lasts_of}
use Rattle.flow_measure.specs.declared.group_walk.GroupWalk.{GroupWalk}
use Rattle.flow_measure.proofs.Packets.{listed-front, listed-last}
use Rattle.flow_page.proofs.lemmas.drawing.Feeding.{bucket-last}
use Rattle.flow_measure.proofs.Fronts.{buckets-front}
use Rattle.timing_explain.specs.declared.details.overfull.OverfullMeters.{OverfullMeters}
use Rattle.timing_explain.specs.details.Overfull.{CountAll}
use Rattle.timing_explain.proofs.Detailed.{anchor-now, first-now, group-first, group-now, times-now}
use Rattle.timing_explain.proofs.details.packets.PacketDetails.feed.Goals as goal

pub returns-else-pass-clause-details : goal.returns-else-pass-clause-details
returns-else-pass-clause-details c = λ stamps records level h.
    let s = c.args.self.now in
    let mid = c.begin.new.self in
    let b = c.begin.ensures in
    let m = c.args.params.now.media in
    let n = c.args.params.now.n in
    let at = c.args.packet.at in
    let rec = c.args.packet.rec in
    let long : length (stamps ++ at ∷ []) ≡ length stamps + 1 = length-append stamps (at ∷ []) in
    let recs_long : length (records ++ rec ∷ []) ≡ length records + 1 = length-append records (rec ∷ []) in
    let walk_n : mid.walk.n ≡ n = ap (λ (w : GroupWalk). w.n) b.walk_is ∙ h.n_is in
    let walk_seen : mid.walk.seen ≡ length stamps = ap (λ (w : GroupWalk). w.seen) b.walk_is ∙ h.seen_is in
    let within = c.pass.ensures.within c.if-pass.false in
    let group : s.walk.group ≡ c.pass.new.self.group = sym (within.2 ∙ ap (λ (w : GroupWalk). w.group) b.walk_is) in
    record {
      n_is = c.pass.ensures.n ∙ walk_n;
      seen_is = omega (arith, c.pass.ensures.seen, walk_seen, long);
      same = omega (arith, h.same, long, recs_long);
      overfull_counts = λ bucket rec_of stamp buckets recs listed.
          let before = h.overfull_counts bucket rec_of stamp (buckets-front m n stamps at bucket buckets) (listed-front records rec rec_of recs)
          (listed-front stamps at stamp listed) in
          subst (CountAll m n c.feed.new.self bucket rec_of stamp) (sym long)
          (c.feed.ensures.stands m n bucket rec_of stamp (length stamps)
          (subst (λ (x : OverfullMeters). CountAll m n x bucket rec_of stamp (length stamps)) (sym b.overfull_is) before)
          (bucket-last m n stamps at c.args.level bucket buckets level) (listed-last records rec (length stamps) rec_of (sym h.same) recs)
          (listed-last stamps at (length stamps) stamp refl listed));
      first_is = λ _. first-now m n s mid at stamps records b h;
      anchor_is = λ _. anchor-now m n s mid at stamps records b h;
      begun = λ _. group-now m n s mid at stamps records b h ∙ ap (firsts_of n (slice_index (stamps ++ at ∷ []))) group;
      ended = λ _ none. absurd (omega (arith, none, within.1));
      times_are = λ stamp listed. times-now m n s mid at stamps records stamp b h listed;
    }

pub returns-then-pass-clause-details : goal.returns-then-pass-clause-details
returns-then-pass-clause-details c = λ stamps records level h.
    let s = c.args.self.now in
    let mid = c.begin.new.self in
    let b = c.begin.ensures in
    let m = c.args.params.now.media in
    let n = c.args.params.now.n in
    let at = c.args.packet.at in
    let rec = c.args.packet.rec in
    let new = stamps ++ at ∷ [] in
    let k = s.walk.group in
    let long : length new ≡ length stamps + 1 = length-append stamps (at ∷ []) in
    let recs_long : length (records ++ rec ∷ []) ≡ length records + 1 = length-append records (rec ∷ []) in
    let walk_n : mid.walk.n ≡ n = ap (λ (w : GroupWalk). w.n) b.walk_is ∙ h.n_is in
    let walk_seen : mid.walk.seen ≡ length stamps = ap (λ (w : GroupWalk). w.seen) b.walk_is ∙ h.seen_is in
    let walk_place : mid.walk.place ≡ s.walk.place = ap (λ (w : GroupWalk). w.place) b.walk_is in
    let walk_group : mid.walk.group ≡ k = ap (λ (w : GroupWalk). w.group) b.walk_is in
    let over = c.pass.ensures.over c.if-pass.true in
    let first = group-first m n s stamps records h in
    let outside : s.walk.place + 1 ≡ n = omega (arith, over.0, walk_n, walk_place) in
    let whole : length stamps + 1 ≡ k * n + n = omega (arith, first, outside) in
    let ended : c.pass.new.self.group - 1 ≡ k = omega (arith, over.2, walk_group) in
    let begun = group-now m n s mid at stamps records b h in
    let groups : mid.groups.firsts.seen ≡ k = mid.seen_is ∙ walk_group in
    let counted : c.feed.new.self.narrow.groups.whole ≡ k = c.feed.ensures.whole ∙ mid.whole_is ∙ walk_group in
    record {
      n_is = c.pass.ensures.n ∙ walk_n;
      seen_is = omega (arith, c.pass.ensures.seen, walk_seen, long);
      same = omega (arith, h.same, long, recs_long);
      overfull_counts = λ bucket rec_of stamp buckets recs listed.
          let before = h.overfull_counts bucket rec_of stamp (buckets-front m n stamps at bucket buckets) (listed-front records rec rec_of recs)
          (listed-front stamps at stamp listed) in
          let fed = c.feed.ensures.stands m n bucket rec_of stamp (length stamps)
          (subst (λ (x : OverfullMeters). CountAll m n x bucket rec_of stamp (length stamps)) (sym b.overfull_is) before)
          (bucket-last m n stamps at c.args.level bucket buckets level) (listed-last records rec (length stamps) rec_of (sym h.same) recs)
          (listed-last stamps at (length stamps) stamp refl listed) in
          subst (CountAll m n c.end_group.new.self bucket rec_of stamp) (sym long)
          (c.end_group.ensures.stands m n bucket rec_of stamp (length stamps + 1) fed (whole ∙ ap (λ j. j * n + n) (sym counted)));
      first_is = λ _. c.end.ensures.first ∙ first-now m n s mid at stamps records b h;
      anchor_is = λ _. c.end.ensures.n0 ∙ anchor-now m n s mid at stamps records b h;
      begun = λ more. absurd (omega (arith, more, over.1));
      ended = λ _ _. c.end.ensures.group ∙ begun ∙ ap (firsts_of n (slice_index new)) (sym ended);
      times_are = λ stamp listed.
          c.end.ensures.times n stamp (times-now m n s mid at stamps records stamp b h listed)
          (ap (firsts_of n stamp) groups ∙ listed (k * n) (omega (arith, long, first)) ∙ sym begun)
          (ap (lasts_of n stamp) groups ∙ listed-last stamps at (k * n + (n - 1)) stamp (omega (arith, whole, outside)) listed);
    }
