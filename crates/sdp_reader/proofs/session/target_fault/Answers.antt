use Rattle.std.proofs.Common.{◌∙◌, arith}
use Rattle.std.proofs.lemmas.Grind.{common_steps}
use Rattle.sdp_reader.specs.declared.fault.SdpCause.TheVariants.{SameTarget}
use Rattle.sdp_reader.specs.Session.{have_one_target}
use Rattle.sdp_reader.proofs.Repeats.{repeats_after-none}
use Rattle.sdp_reader.proofs.Summaries.{seen-step, target-step}
use Rattle.sdp_reader.proofs.session.target_fault.Goals as goal

pub loop-part-init : goal.loop-part-init
loop-part-init c = record {
  told = repeats_after-none (λ part. part.line) SameTarget have_one_target c.args.parts.now;
  seen = λ t. grind (arith, common_steps);
}

pub loop-part-preserved : goal.loop-part-preserved
loop-part-preserved c =
    let old = c.loop-part.seen in
    let new = c.is_taken.new.seen in
    let taken = c.in_ok-taken.taken in
    let parts = c.args.parts.now in
    record {
      told =
          target-step c.loop-part.fault _ _ old new taken parts c.loop-part.part-index _
          c.first_of-fault.ensures c.at.ensures c.in_ok-taken.ensures (omega arith) c.loop-part.invariant.seen
          ∙ c.loop-part.invariant.told;
      seen = seen-step old new taken parts c.loop-part.part-index _ c.in_ok-taken.ensures (omega arith) c.loop-part.invariant.seen;
    }
