use Rattle.std.proofs.Common.{◌≡◌, drop}
use Rattle.flow_worker.specs.Targeted.{media_to}
use Rattle.flow_worker.proofs.routing.find_media.Given as goal

abbrev pub invariant-loop-number : goal.invariant-loop-number
invariant-loop-number l = media_to l.fn.target 0 l.media ≡ media_to l.fn.target l.number (drop l.number l.media)
