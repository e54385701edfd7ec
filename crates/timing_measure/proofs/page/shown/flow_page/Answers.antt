use Rattle.std.proofs.Common.{◌≡◌, rules, subst}
use Rattle.timing_base.specs.Flows.{first_fault}
use Rattle.timing_base.specs.Numbered.{numbered}
use Rattle.timing_measure.specs.page.Ends.{HasRunOf}
use Rattle.timing_measure.proofs.lemmas.page.Showing.{flow-shows, numbers-told}
use Rattle.timing_measure.proofs.page.shown.flow_page.Goals as goal

pub returns : goal.returns
returns c = λ m number options packets h.
    let shift = options.shift in
    let counted = numbered options.seq16 packets in
    let flow = c.measured_flow-flow.ensures m number options packets (record {
      media = h.media;
      count = h.count;
      source = h.source;
      verdict_is = h.verdict_is;
      told = numbers-told m shift counted (first_fault counted m.pt) c.args.end.out h.told;
    }) in
    let same : c.as_slice.result.now ≡ c.measured_flow-flow.result.runs = search rules in
    let found = subst (λ runs. HasRunOf (c.args.end.out.1).drawn runs c.shown_of-shown.result) same c.shown_of-shown.ensures in
    record {
      flow_is = flow;
      shows = flow-shows m shift counted c.args.end.out c.measured_flow-flow.result.runs c.shown_of-shown.result h.told flow.runs found;
    }
