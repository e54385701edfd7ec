use Rattle.std.proofs.Common.{sym, subst}
use Rattle.flow_measure.proofs.Judging.{TakesPacket, fed-packet}
use Rattle.flow_measure.proofs.numbers_meter.NumbersMeterRunMeter.feed.Goals as goal

pub returns-then-self-lt-MOST : goal.returns-then-self-lt-MOST
returns-then-self-lt-MOST c = λ shift r fed committed p size told few rising level h.
    let m = c.args.params.now.media in
    let takes = subst (λ n. TakesPacket m n c.args.self.now.all c.feed.new.self c.args.packet c.args.level) (sym size) c.feed.ensures.stands in
    record {
      head_is = h.head_is;
      all_are = fed-packet m r.n shift c.args.self.now.all c.feed.new.self c.args.packet c.args.level fed p takes told rising level h.all_are;
      committed_are = h.committed_are;
    }
