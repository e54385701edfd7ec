use Rattle.std.proofs.Common.{◌∙◌}
use Rattle.flow_page.proofs.lemmas.drawing.Keeping.{listed-before}
use Rattle.timing_explain.proofs.Detailed.{groups-rise, same-anchor}
use Rattle.timing_explain.proofs.details.packets.PacketDetails.keep.Goals as goal

pub returns-clause-details : goal.returns-clause-details
returns-clause-details c = λ m n stamps more records others h k.
    let s = c.args.self.now in
    let o = c.args.other.now in
    record {
      n_is = k.n_is;
      seen_is = k.seen_is;
      same = k.same;
      overfull_counts = k.overfull_counts;
      first_is = λ some. c.keep.ensures.first ∙ k.first_is some;
      anchor_is = λ some. c.keep.ensures.n0 ∙ k.anchor_is some;
      begun = λ some. c.keep.ensures.group ∙ k.begun some;
      ended = λ some none. c.keep.ensures.group ∙ k.ended some none;
      times_are = λ stamp listed.
          c.keep.ensures.times m n stamp (groups-rise m n s o stamps more records others h k) (same-anchor m n s o stamps more records others h k)
          (h.times_are stamp (listed-before stamps more stamp listed)) (k.times_are stamp listed);
    }
