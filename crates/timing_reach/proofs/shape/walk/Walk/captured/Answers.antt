use Rattle.timing_reach.proofs.Walkings.{captured-read}
use Rattle.timing_reach.proofs.shape.walk.Walk.captured.Goals as goal

pub returns : goal.returns
returns c = λ done r rest h.
    captured-read c.deref.result.now c.args.self.now c.read_u32.result done r rest c.deref.ensures.value c.read_u32.ensures h
