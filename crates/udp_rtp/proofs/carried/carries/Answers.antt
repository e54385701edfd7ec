use Rattle.std.proofs.Common.{ap, ◌∙◌}
use Rattle.udp_rtp.specs.Awaited.{carries_awaited}
use Rattle.udp_rtp.proofs.Awaiting.{carried-of}
use Rattle.udp_rtp.proofs.carried.carries.Goals as goal

pub returns : goal.returns
returns c =
    c.is_in.ensures ∙ ap (λ w. carries_awaited w c.args.frame.now) c.of.ensures ∙ carried-of c.args.target c.args.rtp c.args.frame.now
