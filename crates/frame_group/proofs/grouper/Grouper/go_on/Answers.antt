use Rattle.std.proofs.Common.{◌≡◌, ap, false, sym, ◌∙◌}
use Rattle.timing_base.specs.Flows.{has_marker}
use Rattle.timing_base.specs.declared.packet.Rtp.{Rtp}
use Rattle.frame_group.proofs.Faults.{rtp-is}
use Rattle.frame_group.proofs.Steps.{count-other, enters-run, group-next, unmarked}
use Rattle.frame_group.proofs.grouper.Grouper.go_on.Goals as goal

pub returns-clause-keeps : goal.returns-clause-keeps
returns-clause-keeps c = λ packets i kept read cut.
    let plain : has_marker packets i ≡ false =
    ap (λ (r : Rtp). r.marker) (rtp-is packets i c.args.at c.args.rtp read) ∙ unmarked c.args.self.now.before c.args.rtp c.requires.after in
    record {
      before = c.go_on.ensures.comes packets i kept.before read;
      cut_count = count-other packets i c.args.self.now.cuts (sym cut) kept.cut_count;
      group = group-next packets i false _ plain (λ e. cc) (λ _. c.go_on_in.ensures.is _ i (enters-run packets i c.args.self.now.group (sym cut) kept.group));
    }

pub invariant_of-self-clause-few_groups : goal.invariant_of-self-clause-few_groups
invariant_of-self-clause-few_groups c = c.go_on_in.ensures.frame c.args.self.now.fed c.args.self.now.few_groups

pub returns-clause-expects : goal.returns-clause-expects
returns-clause-expects c = c.go_on.ensures.expects c.args.self.now.pt
