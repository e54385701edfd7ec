use Rattle.std.proofs.Common.{refl}
use Rattle.vrx_buffer.proofs.Fed.{quiet-took}
use Rattle.vrx_buffer.proofs.vrx.Vrx.take.Goals as goal

pub returns-then-is_quiet-clause-took : goal.returns-then-is_quiet-clause-took
returns-then-is_quiet-clause-took c = λ within.
    let q = c.is_quiet.ensures.0 c.if-is_quiet.true in
    quiet-took _ c.args.self.now _ c.args.packet c.args.count _ c.args.late within c.saturating_sub-held.ensures q.0 q.1 q.2 refl refl refl
