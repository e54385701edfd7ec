use Rattle.std.proofs.Common.{◌+◌, ap, refl, ◌∙◌}
use Rattle.capture_scan.proofs.Counters.{counts-push}
use Rattle.capture_scan.specs.Counting.{mark_next, pace_with}
use Rattle.capture_scan.proofs.counter.Counter.take.Goals as goal

-- each number is that of one packet more
pub returns-clause-counts : goal.returns-clause-counts
returns-clause-counts c = λ ps h.
    let s = c.args.self.now.stream in
    counts-push c.args.self.now _ ps c.args.packet.now h
    (λ i. record {
      source = s.source;
      target = s.target;
      ssrc = s.ssrc;
      pt = s.pt;
      pts = s.pts + c.one_if.ensures i;
      packets = s.packets + 1;
      markers = s.markers + c.one_if-2.ensures i;
      first = s.first;
      last = c.of-stream.ensures i;
      bytes = s.bytes + c.from.ensures i;
      order = c.next-stream.ensures i;
      pace = (c.count.ensures ∙ ap (pace_with s.pace c.args.self.now.mark) c.of-mark.ensures) i;
      lines = c.with-stream.ensures i;
    })
    refl
    (c.last-self.ensures ∙ ap (mark_next c.args.self.now.mark) c.of-mark.ensures)
