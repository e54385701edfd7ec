use Rattle.std.proofs.Common.{◌++◌, ◌∷◌, [], ap, ◌∙◌, sym, subst, arith, append_assoc}
use Rattle.flow_measure.proofs.Judging.{stamps-long}
use Rattle.timing_explain.proofs.Found.{TakesPacket, detailed-packet}
use Rattle.timing_explain.proofs.details.meter.DetailsMeterRunMeter.feed.Goals as goal

pub returns-then-self-lt-MOST : goal.returns-then-self-lt-MOST
returns-then-self-lt-MOST c = λ shift r fed committed p size told few rising level h.
    let m = c.args.params.now.media in
    let s = c.args.self.now in
    let packet = c.args.packet in
    let takes = subst (λ n. TakesPacket m n s.all c.feed.new.self packet c.args.level) (sym size) c.feed.ensures.details in
    record {
      run_is = h.run_is;
      rest = h.rest ++ p ∷ [];
      whole = ap (λ l. l ++ p ∷ []) h.whole ∙ append_assoc committed h.rest (p ∷ []);
      all_are = detailed-packet m r.n shift s.all c.feed.new.self packet c.args.level fed p takes told level h.all_are;
      committed_are = h.committed_are;
    }

pub returns-else-self-lt-MOST : goal.returns-else-self-lt-MOST
returns-else-self-lt-MOST c = λ shift r fed committed p size told few rising level h.
    absurd (omega (arith, few, c.if-self-lt-MOST.false, h.all_are.seen_is, stamps-long shift fed))
