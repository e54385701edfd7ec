use Rattle.std.proofs.Common.{◌≡◌, ◌∷◌, ◌++◌, List, None, Ok, length, refl, ◌∙◌, sym}
use Rattle.timing_base.specs.declared.packet.FlowPacket.{FlowPacket}
use Rattle.frame_group.specs.Stands.{Keeps}
use Rattle.frame_group.specs.Cuts.{cut_at}
use Rattle.frame_group.specs.Reads.{IsRead}
use Rattle.frame_group.proofs.Steps.{GoesOn, answer-ok, passes, read-seam, stands-next}
use Rattle.frame_group.proofs.grouper.Grouper.feed_on.Goals as goal

pub returns-clause-answer : goal.returns-clause-answer
returns-clause-answer c = λ _ pt packets rest rec s.
    let p : FlowPacket = record { rec = rec; at = c.args.at; rtp = Ok c.args.rtp } in
    let all : List FlowPacket = packets ++ p ∷ rest in
    let i = length packets in
    let e = c.if-not-goes_on.ensures in
    let on : GoesOn c.args.self.now c.args.at c.args.rtp = record { cut = e.cut refl; sound = e.sound refl } in
    let none : c.args.self.now.fault ≡ None = e.fault refl in
    let kept : Keeps all i c.args.self.now = (s.ahead (p ∷ rest)).kept none in
    let read : IsRead all i c.args.at c.args.rtp = read-seam packets rest rec c.args.at c.args.rtp in
    let cut : None ≡ cut_at all i = on.cut all i c.args.at kept read in
    answer-ok all pt i None (passes pt packets rest rec c.args.at c.args.rtp c.args.self.now s none on) cut

pub returns-clause-stands : goal.returns-clause-stands
returns-clause-stands c = λ _ pt packets rec s.
    let p : FlowPacket = record { rec = rec; at = c.args.at; rtp = Ok c.args.rtp } in
    let e = c.if-not-goes_on.ensures in
    let on : GoesOn c.args.self.now c.args.at c.args.rtp = record { cut = e.cut refl; sound = e.sound refl } in
    let none : c.args.self.now.fault ≡ None = e.fault refl in
    stands-next pt c.args.self.now c.go_on.new.self packets p s c.go_on.ensures.pt c.go_on.ensures.fed
    (λ rest before.
    let all : List FlowPacket = packets ++ p ∷ rest in
    let i = length packets in
    let kept : Keeps all i c.args.self.now = before.kept none in
    let read : IsRead all i c.args.at c.args.rtp = read-seam packets rest rec c.args.at c.args.rtp in
    record {
      fault = c.go_on.ensures.fault ∙ (none ∙ sym (passes pt packets rest rec c.args.at c.args.rtp c.args.self.now s none on));
      kept = λ _. c.go_on.ensures.keeps all i kept read (on.cut all i c.args.at kept read);
    })
