use Rattle.std.proofs.Common.{◌≡◌, ◌∷◌, ◌++◌, [], List, length, sym, ap, ◌∙◌, subst}
use Rattle.std.specs.Prelude.{Some}
use Rattle.timing_base.specs.Flows.{fault}
use Rattle.timing_base.specs.declared.packet.FlowPacket.{FlowPacket}
use Rattle.interval_checker.specs.Walks.{StandsFor}
use Rattle.interval_checker.specs.declared.walk.Walk.{Walk}
use Rattle.interval_checker.proofs.Feeding.{fault-ends, read-of, seam, seam-within, stands-next, unread-fault}
use Rattle.interval_checker.proofs.walk.Walk.feed.Goals as goal
use Rattle.interval_checker.proofs.walk.Walk.feed.Goals.{in-Ok, in-Err}

pub returns-in-None-clause-goes_on : goal.returns-in-None-clause-goes_on
returns-in-None-clause-goes_on c = λ shift packets s.
    let p = c.args.packet in
    elim c.match-packet.branch as (λ _. StandsFor c.args.pt shift c.match-packet.self (packets ++ p ∷ [])) [
      | in-Ok w ↦ subst (λ (x : Walk). StandsFor c.args.pt shift x (packets ++ p ∷ [])) (sym w.self-is)
          (stands-next c.args.pt shift c.args.self.now w.step-fault.new.self packets p s
          (λ all i k is within. w.step-fault.ensures.goes_on shift all i k (read-of all i p w.in-Ok.rtp is w.in-Ok.is) within (sym w.fault-is ∙ c.in-None.is)))
      | in-Err w ↦ cc
    ]

pub returns-in-Some-clause-ends : goal.returns-in-Some-clause-ends
returns-in-Some-clause-ends c = λ shift packets rest s.
    let p = c.args.packet in
    let all : List FlowPacket = packets ++ p ∷ rest in
    let i = length packets in
    let k = s.ahead (p ∷ rest) in
    let is = seam packets rest p in
    let within = seam-within packets rest p in
    let has : fault all c.args.pt i ≡ Some c.in-Some.fault =
    elim c.match-packet.branch as (λ _. fault all c.args.pt i ≡ Some c.in-Some.fault) [
      | in-Ok w ↦ sym (w.step-fault.ensures.ends shift all i k (read-of all i p w.in-Ok.rtp is w.in-Ok.is) within) ∙ (sym w.fault-is ∙ c.in-Some.is)
      | in-Err w ↦ unread-fault all c.args.pt i w.in-Err.fault (ap (λ (q : FlowPacket). q.rtp) is ∙ w.in-Err.is)
          ∙ (sym w.fault-is ∙ c.in-Some.is)
    ] in
    fault-ends c.args.pt shift all c.args.self.now p i c.in-Some.fault c.refusal.result k within is has c.refusal.ensures
