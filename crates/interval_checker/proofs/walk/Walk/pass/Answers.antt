use Rattle.std.proofs.Common.{◌+◌, ap, refl, ◌∙◌, sym}
use Rattle.timing_base.specs.Flows.{cuts}
use Rattle.timing_base.specs.declared.packet.Rtp.{Rtp}
use Rattle.interval_checker.proofs.Faults.{rtp-is}
use Rattle.interval_checker.proofs.Walking.{marks-behind, pass-keeps}
use Rattle.interval_checker.proofs.walk.Walk.pass.Goals as goal

pub returns-clause-keeps : goal.returns-clause-keeps
returns-clause-keeps c = λ pt shift packets i k read within none.
    let marker = ap (λ (r : Rtp). r.marker) (rtp-is packets i c.args.at c.args.rtp read) in
    pass-keeps pt shift packets i c.args.self.now _ k within none record {
      fed = ap (λ n. n + 1) c.keep.ensures.fed;
      cut_count = c.keep.ensures.cuts;
      start = c.keep.ensures.start;
      before = c.next_before-before.result;
      before_is = refl;
      after = c.next_before-before.ensures.after pt shift packets i (cuts packets (i + 1)) k read;
      begins = c.next_marks-marks.ensures.begins;
      goes_on = c.next_marks-marks.ensures.goes_on;
      here = λ marks are e. c.next_marks-marks.ensures.here marks are (sym marker ∙ e);
      other = λ e. c.next_marks-marks.ensures.other (sym marker ∙ e);
      endings = c.keep.ensures.endings;
      none = c.keep.ensures.none;
      some = λ o e. rw read.at record { stamps = c.keep.ensures.some o e; endings = c.keep.ensures.endings };
      behind = λ o e. marks-behind c.args.self.now o e;
    }

pub returns-clause-asked : goal.returns-clause-asked
returns-clause-asked c = c.keep.ensures.asked
