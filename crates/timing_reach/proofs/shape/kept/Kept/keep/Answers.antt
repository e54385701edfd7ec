use Rattle.timing_reach.proofs.Keepings.{keeps-record}
use Rattle.timing_reach.proofs.Takings.{if-ok}
use Rattle.timing_reach.proofs.shape.kept.Kept.keep.Goals as goal

pub returns-in-Capture : goal.returns-in-Capture
returns-in-Capture c =
    if-ok c.add_record.result (λ _ more. keeps-record c.args.at c.args.frame.now c.args.self.now c.in-Capture.bytes _ c.in-Capture.is more) c.add_record.ensures
