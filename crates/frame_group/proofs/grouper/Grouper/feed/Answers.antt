use Rattle.std.proofs.Common.{◌≡◌, ◌+◌, ◌∷◌, ◌++◌, List, Ok, length, refl, ◌∙◌, sym}
use Rattle.timing_base.specs.declared.packet.FlowPacket.{FlowPacket}
use Rattle.frame_group.specs.Stands.{Keeps}
use Rattle.frame_group.specs.Cuts.{cut_at}
use Rattle.frame_group.specs.Reads.{IsRead}
use Rattle.frame_group.proofs.Steps.{answer-err, answer-ok, before-kept, read-seam, stands-fault, stands-next, told}
use Rattle.frame_group.proofs.grouper.Grouper.feed.Goals as goal

-- an earlier fault
pub returns-in-Some-clause-answer : goal.returns-in-Some-clause-answer
returns-in-Some-clause-answer c = λ pt packets rest rec s.
    let p : FlowPacket = record { rec = rec; at = c.args.at; rtp = Ok c.args.rtp } in
    let all : List FlowPacket = packets ++ p ∷ rest in
    sym (answer-err all pt (length packets) c.in-Some.fault
    (before-kept all pt (length packets) c.args.self.now c.in-Some.fault (s.ahead (p ∷ rest)) c.in-Some.is))

pub returns-in-Some-clause-stands : goal.returns-in-Some-clause-stands
returns-in-Some-clause-stands c = λ pt packets rec s.
    let p : FlowPacket = record { rec = rec; at = c.args.at; rtp = Ok c.args.rtp } in
    stands-next pt c.args.self.now _ packets p s refl refl
    (λ rest before. stands-fault (packets ++ p ∷ rest) pt (length packets + 1) _ c.in-Some.fault c.in-Some.is
    (before-kept (packets ++ p ∷ rest) pt (length packets) c.args.self.now c.in-Some.fault before c.in-Some.is))

-- the first fault
pub returns-in-Some-fault_at-clause-answer : goal.returns-in-Some-fault_at-clause-answer
returns-in-Some-fault_at-clause-answer c = λ pt packets rest rec s.
    let p : FlowPacket = record { rec = rec; at = c.args.at; rtp = Ok c.args.rtp } in
    sym (answer-err (packets ++ p ∷ rest) pt (length packets) c.in-Some-fault_at.fault
    (told pt packets rest rec c.args.at c.args.rtp c.args.self.now _ _ _ s c.in_default.is c.fault_at.ensures.is c.cut-cut.ensures c.group_at-group.ensures.is
    ∙ c.in-Some-fault_at.is))

pub returns-in-Some-fault_at-clause-stands : goal.returns-in-Some-fault_at-clause-stands
returns-in-Some-fault_at-clause-stands c = λ pt packets rec s.
    let p : FlowPacket = record { rec = rec; at = c.args.at; rtp = Ok c.args.rtp } in
    stands-next pt c.args.self.now _ packets p s refl refl
    (λ rest before. stands-fault (packets ++ p ∷ rest) pt (length packets + 1) _ c.in-Some-fault_at.fault refl
    (told pt packets rest rec c.args.at c.args.rtp c.args.self.now _ _ _ s c.in_default.is c.fault_at.ensures.is c.cut-cut.ensures c.group_at-group.ensures.is
    ∙ c.in-Some-fault_at.is))

-- no fault
pub returns-clause-answer : goal.returns-clause-answer
returns-clause-answer c = λ pt packets rest rec s.
    let p : FlowPacket = record { rec = rec; at = c.args.at; rtp = Ok c.args.rtp } in
    let all : List FlowPacket = packets ++ p ∷ rest in
    let i = length packets in
    let kept : Keeps all i c.args.self.now = (s.ahead (p ∷ rest)).kept c.in_default.is in
    let read : IsRead all i c.args.at c.args.rtp = read-seam packets rest rec c.args.at c.args.rtp in
    let cut : c.cut-cut.result ≡ cut_at all i = c.cut-cut.ensures all i c.args.at kept read in
    answer-ok all pt i c.cut-cut.result
    (told pt packets rest rec c.args.at c.args.rtp c.args.self.now _ _ _ s c.in_default.is c.fault_at.ensures.is c.cut-cut.ensures c.group_at-group.ensures.is
    ∙ c.in_default-fault_at.is)
    cut

pub returns-clause-stands : goal.returns-clause-stands
returns-clause-stands c = λ pt packets rec s.
    let p : FlowPacket = record { rec = rec; at = c.args.at; rtp = Ok c.args.rtp } in
    stands-next pt c.args.self.now c.pass.new.self packets p s c.pass.ensures.pt c.pass.ensures.fed
    (λ rest before.
    let all : List FlowPacket = packets ++ p ∷ rest in
    let i = length packets in
    let kept : Keeps all i c.args.self.now = before.kept c.in_default.is in
    let read : IsRead all i c.args.at c.args.rtp = read-seam packets rest rec c.args.at c.args.rtp in
    let cut : c.cut-cut.result ≡ cut_at all i = c.cut-cut.ensures all i c.args.at kept read in
    record {
      fault = c.pass.ensures.fault ∙ (c.in_default.is ∙ sym (told pt packets rest rec c.args.at c.args.rtp c.args.self.now _ _ _ s c.in_default.is
          c.fault_at.ensures.is c.cut-cut.ensures c.group_at-group.ensures.is
          ∙ c.in_default-fault_at.is));
      kept = λ none. c.pass.ensures.keeps all i kept read cut (c.group_at-group.ensures.is all i kept cut);
    })
