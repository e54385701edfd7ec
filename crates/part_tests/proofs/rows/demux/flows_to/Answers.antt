use Rattle.std.proofs.Common.{[], ◌∷◌, ◌++◌, All, arith}
use Rattle.std.proofs.lemmas.List.Elements.{All-push, All-same}
use Rattle.flow_demux.specs.Awaits.{AwaitsExpected}
use Rattle.flow_demux.specs.declared.media_flow.MediaFlow.{MediaFlow}
use Rattle.part_tests.specs.declared.rows.demux.Noted.{Noted}
use Rattle.part_tests.proofs.rows.demux.flows_to.Goals as goal

pub returns : goal.returns
returns c =
    let P : MediaFlow Noted → Type 0 = AwaitsExpected (λ (x : Noted). x.next) in
    let none : All P [] = λ k d below. absurd (omega (arith, below)) in
    let first = All-push P c.new-flows.result.items c.flow_to.result (All-same P c.new-flows.result.items [] c.new-flows.ensures.items none) c.flow_to.ensures in
    let one = All-same P c.push.new.self.items (c.new-flows.result.items ++ c.flow_to.result ∷ []) c.in_ok-push.ensures.items first in
    All-same P c.push-2.new.self.items (c.push.new.self.items ++ c.flow_to-2.result ∷ []) c.in_ok-push-2.ensures.items
    (All-push P c.push.new.self.items c.flow_to-2.result one c.flow_to-2.ensures)
