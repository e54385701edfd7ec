use Rattle.std.proofs.Common.{◌≡◌, take, drop}
use Rattle.sdp_reader.specs.declared.fault.SdpCause.TheVariants.{SameTarget}
use Rattle.sdp_reader.specs.Fault.{first_of, least}
use Rattle.sdp_reader.specs.Session.{target_faults, have_one_target}
use Rattle.sdp_reader.proofs.Repeats.{repeats_after}
use Rattle.sdp_reader.proofs.Summaries.{AreSeen}
use Rattle.sdp_reader.proofs.session.target_fault.Given as goal

abbrev pub invariant-loop-part : goal.invariant-loop-part
invariant-loop-part l = record {
  told : first_of l.fault (least (repeats_after (λ part. part.line) SameTarget have_one_target (take l.part-index l.parts) (drop l.part-index l.parts)))
      ≡ least (target_faults l.parts);
  seen : AreSeen l.seen (take l.part-index l.parts);
}
