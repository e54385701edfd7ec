use Rattle.timing_reach.proofs.Walkings.{stamp-read}
use Rattle.std.proofs.Common.{◌∙◌, ap, ◌*◌, ◌+◌}
use Rattle.timing_reach.proofs.shape.walk.Walk.stamp.Goals as goal

pub returns : goal.returns
returns c = λ done r rest h.
    ap (λ s. s * 1000000000 + c.from-2.result) c.from.ensures ∙ ap (λ n. c.read_u32-seconds.result * 1000000000 + n) c.from-2.ensures
    ∙ stamp-read c.deref.result.now c.args.self.now c.read_u32-seconds.result c.read_u32-nanos.result done r rest c.deref.ensures.value
    c.read_u32-seconds.ensures c.read_u32-nanos.ensures h
