use Rattle.std.proofs.Common.{take}
use Rattle.timing_base.specs.Targets.{HaveOwnTargets}
use Rattle.flow_demux.specs.Takings.{media_in}
use Rattle.flow_demux.proofs.demux.have_own_targets.Given as goal

abbrev pub invariant-loop-place : goal.invariant-loop-place
invariant-loop-place g l = HaveOwnTargets (media_in (take l.place l.flows))
