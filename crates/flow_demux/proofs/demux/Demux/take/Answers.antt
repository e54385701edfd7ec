use Rattle.std.proofs.Common.{◌≡◌, ◌+◌, List, Ok, false, rules, subst, sym}
use Rattle.std.specs.Prelude.{All}
use Rattle.flow_demux.specs.declared.media_flow.MediaFlow.{MediaFlow}
use Rattle.flow_demux.proofs.Taking.{if-ok}
use Rattle.flow_demux.proofs.demux.Demux.take.Goals as goal

pub returns-then-branch-clause-room : goal.returns-then-branch-clause-room
returns-then-branch-clause-room g c = λ count. c.take_ahead.ensures.room count (search rules)

pub returns-clause-room : goal.returns-clause-room
returns-clause-room g c = λ count.
    let left : c.take_ahead.result ≡ Ok false = search rules in
    if-ok c.take_expected.result
    (λ _ leaves has. leaves record {
      ready = c.take_ahead.ensures.ready;
      each = subst (λ (l : List (MediaFlow g.row.F.Denot)). All (λ (f : MediaFlow g.row.F.Denot). g.F.FlowTaker.room (count + 1) f.taker) l)
          (sym (c.take_ahead.ensures.other left)) has.each;
    })
    (c.take_expected.ensures.room count)
