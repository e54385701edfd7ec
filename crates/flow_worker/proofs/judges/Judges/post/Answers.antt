use Rattle.std.proofs.Common.{map}
use Rattle.verdict_book.specs.Receipts.{row_of}
use Rattle.flow_worker.proofs.Posted.{rows-some}
use Rattle.flow_worker.proofs.judges.Judges.post.Goals as goal

pub loop-judge-preserved-in-Continue-branch-2 : goal.loop-judge-preserved-in-Continue-branch-2
loop-judge-preserved-in-Continue-branch-2 g c = (
  tt,
  tt,
  record {
    posted = λ h. c.post_row.ensures.posted (c.loop-judge.invariant.2.posted h);
    rows = λ s worker file fed h.
        rows-some s worker file fed (map row_of c.args.receipts.now.items) (map row_of c.loop-judge.receipts.items) (map row_of c.post_row.new.receipts.items)
        c.in-Some.judge c.in-Some-judge.judge
        c.loop-judge.judge-iterator.rest.items c.next.new.self.rest.items c.in_ok-row.row c.in-Some.ensures.steps.0 c.in-Some-judge.is
        c.in_ok-row.ensures.row
        c.in_ok-post_row.ensures.row
        (c.loop-judge.invariant.2.rows s worker file fed h);
  },
)
