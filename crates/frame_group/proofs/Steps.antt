-- What is kept of a flow, one packet on.
use Rattle.std.proofs.Common.{◌≡◌, ◌+◌, ℕ, suc, Bool, true, false, List, [], ◌∷◌, ◌++◌, length, Option, Some, None, Ok, Err, Result, refl, ap, subst, ◌∙◌, sym}
use Rattle.std.proofs.Common.{arith, length-append, append_assoc}
use Rattle.std.specs.Prelude.{is_some}
use Rattle.std.proofs.Math.Seq.{get_or-append_seam}
use Rattle.timing_base.specs.Flows.{FirstFault, cuts, earlier_or, fault, first_fault_below, first_of, has_marker, last_place, markers, markers_before}
use Rattle.timing_base.specs.Flows.{no_packet, packet, run_start}
use Rattle.timing_base.specs.declared.packet.FlowPacket.{FlowPacket}
use Rattle.timing_base.specs.declared.packet.PacketFault.{PacketFault}
use Rattle.timing_base.specs.declared.packet.Rtp.{Rtp}
use Rattle.timing_base.proofs.Places.{cuts-here, cuts-other, markers-here, markers-other, places-none, run_start-cut, run_start-other}
use Rattle.frame_group.specs.Marks.{IsIn}
use Rattle.frame_group.specs.Cuts.{answer_at, cut_at, unless_fault}
use Rattle.frame_group.specs.Reads.{GoesAfter, IsRead}
use Rattle.frame_group.specs.Stands.{Keeps, StandsBefore, StandsFor, count_fed, what}
use Rattle.frame_group.specs.declared.before.Before.{Before}
use Rattle.frame_group.specs.declared.group.Group.{Group}
use Rattle.frame_group.specs.declared.grouper.Grouper.{Grouper}
use Rattle.frame_group.proofs.Faults.{cut-none, cut-some}

-- a run begins at a cut, with no marker before
pub enters-cut : (packets : List FlowPacket) (i n : ℕ) → cut_at packets i ≡ Some n → IsIn (markers_before packets i) i None
enters-cut packets i n e =
    let start : run_start packets i ≡ i = run_start-cut packets i (cut-some packets i n e) in
    places-none (has_marker packets) (run_start packets i) i (omega (arith, start))

-- where no cut stands the run goes on
pub enters-run : (packets : List FlowPacket) (i : ℕ) (group : Option Group)
    → cut_at packets i ≡ None
    → IsIn (markers packets (last_place (0 ∷ cuts packets i)) i) i group
    → IsIn (markers_before packets i) i group
enters-run packets i group e within =
    subst (λ start. IsIn (markers packets start i) i group) (sym (run_start-other packets i (cut-none packets i e))) within

-- the marker of the packet is counted, where it has one
pub group-next : (packets : List FlowPacket) (i : ℕ) (last : Bool) (group : Option Group)
    → has_marker packets i ≡ last
    → (last ≡ true → IsIn (markers_before packets i ++ i ∷ []) (i + 1) group)
    → (last ≡ false → IsIn (markers_before packets i) (i + 1) group)
    → IsIn (markers packets (last_place (0 ∷ cuts packets (i + 1))) (i + 1)) (i + 1) group
group-next packets i true group e here other = subst (λ marks. IsIn marks (i + 1) group) (sym (markers-here packets i e)) (here refl)
group-next packets i false group e here other = subst (λ marks. IsIn marks (i + 1) group) (sym (markers-other packets i e)) (other refl)

-- the cut at the packet is counted
pub count-here : (packets : List FlowPacket) (i n so_far : ℕ) → cut_at packets i ≡ Some n → so_far ≡ length (cuts packets i)
    → so_far + 1 ≡ length (cuts packets (i + 1))
count-here packets i n so_far e h = rw (cuts-here packets i (cut-some packets i n e), length-append) (omega (arith, h))

-- no cut, and none is counted
pub count-other : (packets : List FlowPacket) (i so_far : ℕ) → cut_at packets i ≡ None → so_far ≡ length (cuts packets i)
    → so_far ≡ length (cuts packets (i + 1))
count-other packets i so_far e h = rw (cuts-other packets i (cut-none packets i e)) h

what-first : (first : Option FirstFault) (n : ℕ) (here : Option PacketFault) → what (earlier_or first n here) ≡ first_of (what first) here
what-first (Some first) n here = refl
what-first None n None = refl
what-first None n (Some f) = refl

-- the first fault with packet i is the one before, or else its own
pub what-next : (packets : List FlowPacket) (pt i : ℕ) → what (first_fault_below packets pt (i + 1))
    ≡ first_of (what (first_fault_below packets pt i)) (fault packets pt i)
what-next packets pt i =
    let next : i + 1 ≡ suc i = omega arith in
    ap (λ n. what (first_fault_below packets pt n)) next ∙ what-first (first_fault_below packets pt i) i (fault packets pt i)

err-case : (first : Option FirstFault) (f : PacketFault) (cut : Option ℕ) → what first ≡ Some f → unless_fault first cut ≡ Err f
err-case None f cut e = cc
err-case (Some first) f cut e = let same : first.fault ≡ f = cc in ap (λ (x : PacketFault). let r : Result (Option ℕ) PacketFault = Err x in r) same

ok-case : (first : Option FirstFault) (cut : Option ℕ) → what first ≡ None → unless_fault first cut ≡ Ok cut
ok-case None cut e = refl
ok-case (Some first) cut e = cc

-- a fault with the packet is told
pub answer-err : (packets : List FlowPacket) (pt i : ℕ) (f : PacketFault) → what (first_fault_below packets pt (i + 1)) ≡ Some f
    → answer_at packets pt i ≡ Err f
answer-err packets pt i f e = err-case (first_fault_below packets pt (i + 1)) f (cut_at packets i) e

-- else the cut
pub answer-ok : (packets : List FlowPacket) (pt i : ℕ) (cut : Option ℕ)
    → what (first_fault_below packets pt (i + 1)) ≡ None
    → cut ≡ cut_at packets i
    → Ok cut ≡ answer_at packets pt i
answer-ok packets pt i cut e is =
    ap (λ (c : Option ℕ). let r : Result (Option ℕ) PacketFault = Ok c in r) is ∙ sym (ok-case (first_fault_below packets pt (i + 1)) (cut_at packets i) e)

-- the packet that is fed comes after those before it
pub read-seam : (packets rest : List FlowPacket) (rec at : ℕ) (r : Rtp)
    → IsRead (packets ++ record { rec = rec; at = at; rtp = Ok r } ∷ rest) (length packets) at r
read-seam packets rest rec at r =
    let here : packet (packets ++ record { rec = rec; at = at; rtp = Ok r } ∷ rest) (length packets) ≡ record { rec = rec; at = at; rtp = Ok r } =
    get_or-append_seam packets record { rec = rec; at = at; rtp = Ok r } rest no_packet in
    record { at = ap (λ (p : FlowPacket). p.at) here; rtp = ap (λ (p : FlowPacket). p.rtp) here }

-- one packet more, whatever comes after it
pub stands-next : (pt : ℕ) (g after : Grouper) (packets : List FlowPacket) (p : FlowPacket)
    → StandsFor pt g packets
    → after.pt ≡ g.pt
    → count_fed after ≡ count_fed g + 1
    → ((rest : List FlowPacket) → StandsBefore (packets ++ p ∷ rest) pt (length packets) g → StandsBefore (packets ++ p ∷ rest) pt (length packets + 1) after)
    → StandsFor pt after (packets ++ p ∷ [])
stands-next pt g after packets p s same more next =
    let long : length (packets ++ p ∷ []) ≡ length packets + 1 = length-append packets (p ∷ []) in
    record {
      pt = same ∙ s.pt;
      fed = omega (arith, more, s.fed, long);
      ahead = λ rest.
          let joined : (packets ++ p ∷ []) ++ rest ≡ packets ++ p ∷ rest = append_assoc packets (p ∷ []) rest in
          subst (λ all. StandsBefore all pt (length (packets ++ p ∷ [])) after) (sym joined)
          (subst (λ n. StandsBefore (packets ++ p ∷ rest) pt n after) (sym long) (next rest (s.ahead (p ∷ rest))));
    }

-- a fault before the packet stays the first
pub before-kept : (packets : List FlowPacket) (pt i : ℕ) (g : Grouper) (f : PacketFault) → StandsBefore packets pt i g → g.fault ≡ Some f
    → what (first_fault_below packets pt (i + 1)) ≡ Some f
before-kept packets pt i g f s e = what-next packets pt i ∙ ap (λ first. first_of first (fault packets pt i)) (sym s.fault ∙ e)

-- no fault before it, so its own
pub before-none : (packets : List FlowPacket) (pt i : ℕ) (g : Grouper) (here : Option PacketFault)
    → StandsBefore packets pt i g
    → g.fault ≡ None
    → here ≡ fault packets pt i
    → what (first_fault_below packets pt (i + 1)) ≡ here
before-none packets pt i g here s e is = what-next packets pt i ∙ (ap (λ first. first_of first (fault packets pt i)) (sym s.fault ∙ e) ∙ sym is)

-- after a fault nothing else is kept
pub stands-fault : (packets : List FlowPacket) (pt i : ℕ) (after : Grouper) (f : PacketFault) → after.fault ≡ Some f
    → what (first_fault_below packets pt i) ≡ Some f → StandsBefore packets pt i after
stands-fault packets pt i after f e is = record { fault = e ∙ sym is; kept = λ none. cc }

-- what is told with the packet, where none before it has a fault: the last three arguments are clauses of `fault_at`,
-- `cut` and `group_at`
pub told : (pt : ℕ) (packets rest : List FlowPacket) (rec at : ℕ) (r : Rtp) (g : Grouper) (here : Option PacketFault) (cut : Option ℕ) (group : Option Group)
    → StandsFor pt g packets
    → g.fault ≡ None
    → ((all : List FlowPacket) (i : ℕ) → Keeps all i g → IsRead all i at r → cut ≡ cut_at all i → IsIn (markers_before all i) i group → here ≡ fault all g.pt i)
    → ((all : List FlowPacket) (i stamp : ℕ) → Keeps all i g → IsRead all i stamp r → cut ≡ cut_at all i)
    → ((all : List FlowPacket) (i : ℕ) → Keeps all i g → cut ≡ cut_at all i → IsIn (markers_before all i) i group)
    → what (first_fault_below (packets ++ record { rec = rec; at = at; rtp = Ok r } ∷ rest) pt (length packets + 1)) ≡ here
told pt packets rest rec at r g here cut group s none faults cuts_here groups =
    let all : List FlowPacket = packets ++ record { rec = rec; at = at; rtp = Ok r } ∷ rest in
    let i = length packets in
    let before : StandsBefore all pt i g = s.ahead (record { rec = rec; at = at; rtp = Ok r } ∷ rest) in
    let kept : Keeps all i g = before.kept none in
    let read : IsRead all i at r = read-seam packets rest rec at r in
    let is : cut ≡ cut_at all i = cuts_here all i at kept read in
    before-none all pt i g here before none (faults all i kept read is (groups all i kept is) ∙ ap (λ p. fault all p i) s.pt)

-- tests for none
pub no-cut : (o : Option ℕ) → is_some o ≡ false → o ≡ None
no-cut None e = refl
no-cut (Some n) e = cc

pub no-fault : (o : Option PacketFault) → is_some o ≡ false → o ≡ None
no-fault None e = refl
no-fault (Some f) e = cc

-- the next packet goes on in the group of the packet before, and has no fault
pub record GoesOn (g : Grouper) (at : ℕ) (r : Rtp) : Type 0 where
  pub cut : (packets : List FlowPacket) (i stamp : ℕ) → Keeps packets i g → IsRead packets i stamp r → None ≡ cut_at packets i
  pub sound : (packets : List FlowPacket) (i : ℕ) → Keeps packets i g → IsRead packets i at r → fault packets g.pt i ≡ None

-- so no packet up to it has one
pub passes : (pt : ℕ) (packets rest : List FlowPacket) (rec at : ℕ) (r : Rtp) (g : Grouper)
    → StandsFor pt g packets
    → g.fault ≡ None
    → GoesOn g at r
    → what (first_fault_below (packets ++ record { rec = rec; at = at; rtp = Ok r } ∷ rest) pt (length packets + 1)) ≡ None
passes pt packets rest rec at r g s none on =
    told pt packets rest rec at r g None None g.group s none
    (λ all i kept read _ _. sym (on.sound all i kept read)) on.cut
    (λ all i kept is. enters-run all i g.group (sym is) kept.group)

-- a packet that goes on has no marker
pub unmarked : (before : Option Before) (r : Rtp) → GoesAfter before r → r.marker ≡ false
unmarked None r h = absurd h
unmarked (Some b) r h = h.2
