use Rattle.std.proofs.Common.{◌∙◌, ap, subst, sym}
use Rattle.timing_base.specs.Flows.{first_fault}
use Rattle.timing_base.specs.Numbered.{numbered}
use Rattle.flow_measure.specs.Measured.{AreMeasured, HasNumbers}
use Rattle.fail_interval.specs.Parts.{judged_parts}
use Rattle.timing_measure.specs.flows.Ends.{TellsNumbers, judged_alone}
use Rattle.timing_measure.proofs.Ends.{end-told, measured-alone}
use Rattle.timing_measure.proofs.measured.measured_flow.Goals as goal

pub returns : goal.returns
returns c = λ m number options packets h.
    let shift = options.shift in
    let counted = numbered options.seq16 packets in
    record {
      media = h.media;
      count = h.count;
      source = h.source;
      verdict_is = h.verdict_is;
      runs = subst (λ l. AreMeasured (HasNumbers m shift) (judged_parts m counted shift) l)
          (ap (λ v. judged_alone v c.args.end.out.runs.items) (sym h.verdict_is) ∙ sym c.judged_runs-runs.ensures)
          (measured-alone (HasNumbers m shift) m shift counted c.args.end.out.runs.items
          (end-told TellsNumbers tt m shift counted (first_fault counted m.pt) c.args.end.out h.told));
    }
