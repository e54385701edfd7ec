use Rattle.std.proofs.Common.{◌≡◌, ◌++◌, ◌∙◌, ap, append_assoc, length, rules}
use Rattle.std.specs.Prelude.{string_bytes}
use Rattle.udp_rtp.specs.Flow.{flow}
use Rattle.timing_watch.specs.Watches.{watching_of}
use Rattle.timing_watch.specs.making.Watches.{text_of}
use Rattle.timing_watch.proofs.Ends.{left-all, left-more}
use Rattle.timing_watch.proofs.watch.Watch.finish.Goals as goal

pub loop-flow-preserved : goal.loop-flow-preserved
loop-flow-preserved c job first media gone items h =
    let so_far = c.loop-flow.invariant job first media gone items h in
    let here = string_bytes c.in_ok-row.lines in
    let told = c.in_ok-row.ensures in
    let text : string_bytes c.push_str.new.self ≡ string_bytes c.loop-flow.text ++ here = search rules in (
      so_far.0 ++ here,
      text ∙ ap (λ s. s ++ here) so_far.1 ∙ append_assoc (text_of c.args.self) so_far.0 here,
      left-more job first media items so_far.0 here c.loop-flow.rows.items c.push.new.self.items c.in_ok-row.row c.in-Some.flow
          c.loop-flow.flow-iterator.rest.items c.next.new.self.rest.items c.in-Some.ensures.steps.0 c.in_ok-push.ensures.items
          (λ m k own. (
            told.row (watching_of job k m) m job.flows.options (flow items m) own.stands,
            told.text (watching_of job k m) m job.flows.options (flow items m) own.stands own.moved,
          )) so_far.2,
    )

pub returns : goal.returns
returns c job first media gone items h =
    let so_far = c.loop-flow.invariant job first media gone items h in
    let none : length c.loop-flow.flow-iterator.rest.items ≡ 0 = search rules in
    left-all job first media gone items c.args.self (record { rows = c.loop-flow.rows; text = c.loop-flow.text }) so_far.0
    c.loop-flow.flow-iterator.rest.items none so_far.1 h so_far.2
