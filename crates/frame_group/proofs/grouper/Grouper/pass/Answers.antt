use Rattle.std.proofs.Common.{ap}
use Rattle.timing_base.specs.declared.packet.Rtp.{Rtp}
use Rattle.frame_group.proofs.Faults.{rtp-is}
use Rattle.frame_group.proofs.Steps.{group-next}
use Rattle.frame_group.proofs.grouper.Grouper.pass.Goals as goal

pub invariant_of-self-clause-few_groups : goal.invariant_of-self-clause-few_groups
invariant_of-self-clause-few_groups c = c.after_in-self.ensures.frame c.args.self.now.fed c.requires.few_groups

pub returns-clause-keeps : goal.returns-clause-keeps
returns-clause-keeps c = λ packets i kept read cut in_group. record {
  before = c.before_later-before.ensures packets i kept read;
  cut_count = c.cuts_with-cuts.ensures.are packets i kept cut;
  group = group-next packets i c.args.rtp.marker _ (ap (λ (r : Rtp). r.marker) (rtp-is packets i c.args.at c.args.rtp read))
      (c.after_in-self.ensures.last _ i in_group) (c.after_in-self.ensures.other _ i in_group);
}

pub invariant_of-self-clause-sound : goal.invariant_of-self-clause-sound
invariant_of-self-clause-sound c = λ _ _. c.requires.sound
