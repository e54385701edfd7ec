use Rattle.std.proofs.Common.{◌≡◌, true, rules}
use Rattle.timing_base.specs.Targets.{target_of}
use Rattle.udp_rtp.specs.Flow.{is_same_target}
use Rattle.flow_worker.proofs.Targeting.{media_to-here}
use Rattle.flow_worker.proofs.routing.find_media.Goals as goal

pub returns-then-eq : goal.returns-then-eq
returns-then-eq c =
    let same : is_same_target c.args.target (target_of c.index-media-number.result) ≡ true = search rules in
    media_to-here c.args.target c.loop-number.number c.args.media.now c.index-media-number.result (search rules) c.index-media-number.is same
    c.loop-number.invariant
