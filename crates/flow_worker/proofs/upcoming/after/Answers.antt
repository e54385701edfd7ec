use Rattle.std.proofs.Common.{◌∙◌, sym}
use Rattle.std.specs.Prelude.{Some}
use Rattle.udp_rtp.specs.Awaited.{awaited_of}
use Rattle.udp_rtp.proofs.Awaiting.{target-after, target-of}
use Rattle.flow_worker.proofs.upcoming.after.Goals as goal

pub returns-in-Ok : goal.returns-in-Ok
returns-in-Ok c = λ t p e.
    target-after (awaited_of c.args.target (Some c.in-Ok.rtp)) c.args.target t p (target-of c.args.target (Some c.in-Ok.rtp))
    (sym c.after.ensures ∙ e)
