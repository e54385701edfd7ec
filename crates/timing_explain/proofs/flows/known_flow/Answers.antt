use Rattle.std.proofs.Common.{ap, subst, sym, ◌∙◌}
use Rattle.timing_base.specs.Numbered.{numbered}
use Rattle.fail_interval.specs.Parts.{judged_parts}
use Rattle.timing_explain.specs.Ends.{HasRunOf, shown_alone}
use Rattle.timing_explain.specs.Known.{Shows}
use Rattle.timing_explain.proofs.Showing.{flow-shows}
use Rattle.timing_explain.proofs.flows.known_flow.Goals as goal

pub returns : goal.returns
returns c = λ m number options packets h.
    let shift = options.shift in
    let counted = numbered options.seq16 packets in
    let found = c.shown_of-found.result in
    record {
      media_is = h.media;
      count = h.count;
      verdict_is = h.verdict_is;
      shows = subst (Shows m shift (judged_parts m counted shift))
          (ap (λ v. shown_alone v found) (sym h.verdict_is) ∙ sym c.shown_alone-shown.ensures)
          (flow-shows m shift counted c.args.end.out found h.told
          (subst (λ l. HasRunOf c.args.end.out.1.found l found) c.as_slice.ensures.value c.shown_of-found.ensures));
    }
