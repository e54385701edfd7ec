use Rattle.std.proofs.Common.{◌<◌, ◌^◌, ◌++◌, ◌∷◌, [], length, ap, ◌∙◌, sym, subst, arith, append_assoc}
use Rattle.run_meter.specs.Runs.{stamps_of}
use Rattle.flow_measure.proofs.Judging.{stamps-long}
use Rattle.flow_page.proofs.lemmas.drawing.Longest.{TakesPacket, drawn-packet, level-next, regions-packet}
use Rattle.flow_page.proofs.drawing.meter.DrawingMeterRunMeter.feed.Goals as goal

pub returns-then-self-lt-MOST : goal.returns-then-self-lt-MOST
returns-then-self-lt-MOST c = λ shift r fed committed p size told few rising level h.
    let m = c.args.params.now.media in
    let s = c.args.self.now in
    let packet = c.args.packet in
    let takes = subst (λ n. TakesPacket m n s.all c.feed.new.self packet c.args.level) (sym size) c.feed.ensures.draws in
    let next = level-next m r.n shift packet c.args.level fed p told level in
    let short : length (stamps_of shift fed) < 2 ^ 41 = omega (arith, few, stamps-long shift fed) in
    record {
      run_is = h.run_is;
      rest = h.rest ++ p ∷ [];
      whole = ap (λ l. l ++ p ∷ []) h.whole ∙ append_assoc committed h.rest (p ∷ []);
      all_are = drawn-packet m r.n shift s.all c.feed.new.self packet c.args.level fed p takes told level h.all_are;
      committed_are = h.committed_are;
      regions_are = regions-packet m r.n shift c.feed-then-self-lt-MOST.new.self packet fed p told
          (c.feed-then-self-lt-MOST.ensures m r.n (stamps_of shift fed) packet.at short h.regions_are next);
    }

pub returns-else-self-lt-MOST : goal.returns-else-self-lt-MOST
returns-else-self-lt-MOST c = λ shift r fed committed p size told few rising level h.
    absurd (omega (arith, few, c.if-self-lt-MOST.false, h.all_are.packets_draw.seen_is, stamps-long shift fed))
