-- A flow is fed one packet.
use Rattle.std.proofs.Common.{◌≡◌, ◌<◌, ◌+◌, ◌*◌, ◌^◌, ℕ, Bool, true, false, List, [], ◌∷◌, ◌++◌, length, length-append, Option, Some, None, Ok, Err, refl}
use Rattle.std.proofs.Common.{arith, ap, ◌∙◌, sym, subst, append_assoc}
use Rattle.std.specs.Prelude.{if◌then◌else◌, is_some}
use Rattle.std.proofs.Props.{props}
use Rattle.std.proofs.Math.Logic.{∥∥₁_elim, ∥∥₁_map}
use Rattle.std.proofs.lemmas.List.Elements.{All-push}
use Rattle.timing_base.specs.Shifts.{IsShift, Shift, shifted}
use Rattle.frame_group.specs.Cuts.{answer_at, cut_at}
use Rattle.frame_group.specs.Expected.{going_on, next_packet}
use Rattle.frame_group.specs.Stands.{StandsFor as GrouperStandsFor, count_fed}
use Rattle.frame_group.specs.declared.grouper.Grouper.{Grouper}
use Rattle.timing_base.specs.Captures.{IsStamp}
use Rattle.timing_base.specs.Flows.{AreStamped, cuts, fault, fault_if, first_fault, first_fault_below, first_of, is_cut, is_other_payload, is_second_source}
use Rattle.timing_base.specs.Flows.{last_place, order_fault, packet, reading_fault, size_fault}
use Rattle.timing_base.specs.declared.packet.PacketFault.TheVariants.{PayloadType, SecondSource}
use Rattle.timing_base.proofs.FirstFaults.{fault-here}
use Rattle.timing_base.specs.Judged.{stamp_of}
use Rattle.timing_base.specs.Media.{Media}
use Rattle.timing_base.specs.declared.packet.FlowPacket.{FlowPacket}
use Rattle.timing_base.specs.declared.packet.PacketFault.{PacketFault}
use Rattle.timing_base.specs.declared.packet.Rtp.{Rtp}
use Rattle.fail_interval.specs.Flowing.{CanGoOn, ComesNext, HasRoom, IsOpen, OpensAt, StandsFor, StartsAt, has_fault}
use Rattle.fail_interval.specs.Runs.{CanGoOn as CanTake, StandsFor as RunStandsFor}
use Rattle.fail_interval.specs.SoFar.{Fits, SoFar, in_head, so_far_at, so_far_next}
use Rattle.fail_interval.specs.declared.flow.Flow.{Flow}
use Rattle.fail_interval.specs.declared.flow.OpenRun.{OpenRun}
use Rattle.fail_interval.specs.declared.run.RunJudge.{RunJudge}
use Rattle.fail_interval.proofs.Flows.{cut-answered, fault-is, goes_on-next, goes_on-so_far, packet-here}
use Rattle.fail_interval.proofs.Limits.{fits-at}

-- a packet that was read
abbrev pub read_packet : ℕ → ℕ → Rtp → FlowPacket
read_packet rec_number at seen = record { rec = rec_number; at = at; rtp = Ok seen }

-- what holds of packets that begin so, whatever follows, holds with one packet more
pub onward : (P : List FlowPacket → ℕ → Type 0) (packets : List FlowPacket) (p : FlowPacket)
    → ((rest : List FlowPacket) → P (packets ++ p ∷ rest) (length packets + 1))
    → (rest : List FlowPacket) → P ((packets ++ p ∷ []) ++ rest) (length (packets ++ p ∷ []))
onward P packets p h rest =
    let long : length packets + 1 ≡ length (packets ++ p ∷ []) = sym (length-append packets (p ∷ [])) in
    let same : packets ++ p ∷ rest ≡ (packets ++ p ∷ []) ++ rest = sym (append_assoc packets (p ∷ []) rest) in
    subst (λ n. P ((packets ++ p ∷ []) ++ rest) n) long (subst (λ (all : List FlowPacket). P all (length packets + 1)) same (h rest))

-- how the packet comes
pub comes : (packets rest : List FlowPacket) (shift : Shift) (rec_number at stamp : ℕ) (seen : Rtp) → stamp ≡ shifted shift at
    → ComesNext (packets ++ read_packet rec_number at seen ∷ rest) shift (length packets) rec_number stamp seen
comes packets rest shift rec_number at stamp seen timed =
    let here = packet-here packets rest (read_packet rec_number at seen) in
    record {
      within = omega (arith, length-append packets (read_packet rec_number at seen ∷ rest));
      rec = ap (λ (p : FlowPacket). p.rec) here;
      stamp = ap (stamp_of shift) here ∙ sym timed;
      reading = ap (λ (p : FlowPacket). p.rtp) here;
    }

-- the packets with the next one
pub stamped-more : (packets : List FlowPacket) (p : FlowPacket) → AreStamped packets → IsStamp p.at → AreStamped (packets ++ p ∷ [])
stamped-more packets p stamped stamp = All-push (λ (q : FlowPacket). IsStamp q.at) packets p stamped stamp

no_cut-case : (b : Bool) (n : ℕ) → (if b then Some n else None) ≡ None → b ≡ false
no_cut-case true n e = cc
no_cut-case false n e = refl

some_cut-case : (b : Bool) (n m : ℕ) → (if b then Some n else None) ≡ Some m → b ≡ true
some_cut-case true n m e = refl
some_cut-case false n m e = cc

-- what the grouper says of the packet, whatever follows
abbrev pub IsAnswered : List FlowPacket → FlowPacket → ℕ → Option ℕ → Type 0
IsAnswered packets p pt cut = (rest : List FlowPacket) → Ok cut ≡ answer_at (packets ++ p ∷ rest) pt (length packets)

-- where it says that no cut stands, none does
pub not_cut : (packets rest : List FlowPacket) (p : FlowPacket) (pt : ℕ) (cut : Option ℕ) → IsAnswered packets p pt cut → cut ≡ None
    → is_cut (packets ++ p ∷ rest) (length packets) ≡ false
not_cut packets rest p pt cut answer none =
    let is = (cut-answered (packets ++ p ∷ rest) pt (length packets) cut (answer rest)).1 in
    no_cut-case _ _ (sym is ∙ none)

pub is_cut-there : (packets rest : List FlowPacket) (p : FlowPacket) (pt n : ℕ) (cut : Option ℕ) → IsAnswered packets p pt cut → cut ≡ Some n
    → is_cut (packets ++ p ∷ rest) (length packets) ≡ true
is_cut-there packets rest p pt n cut answer some =
    let is = (cut-answered (packets ++ p ∷ rest) pt (length packets) cut (answer rest)).1 in
    some_cut-case _ _ n (sym is ∙ some)

-- the open run with the packet is within the limits
pub fits-next : {M : Type 0} (flow : Flow M) (packets : List FlowPacket) (rec_number at stamp : ℕ) (seen : Rtp) (cut : Option ℕ) (open_run : OpenRun M)
    → stamp ≡ shifted flow.shift at → (c : CanGoOn flow packets at) → flow.open ≡ Some open_run → cut ≡ None
    → IsAnswered packets (read_packet rec_number at seen) flow.media.pt cut
    → Fits (so_far_next c.stands.so_far stamp seen.marker)
fits-next flow packets rec_number at stamp seen cut open_run timed c e none answer =
    let p = read_packet rec_number at seen in
    let all = packets ++ p ∷ [] in
    let i = length packets in
    let long : length all ≡ i + 1 = length-append packets (p ∷ []) in
    let o : IsOpen flow.media flow.shift all i (cuts all i) c.stands.so_far flow.done.items open_run =
    subst (λ x. OpensAt flow.media flow.shift all i c.stands.so_far flow.done.items x) e (c.stands.runs (p ∷ [])) in
    let is : so_far_next c.stands.so_far stamp seen.marker ≡ so_far_at all flow.shift (last_place (0 ∷ cuts all (i + 1))) (i + 1) =
    goes_on-so_far all flow.shift i rec_number stamp seen c.stands.so_far (comes packets [] flow.shift rec_number at stamp seen timed)
    (not_cut packets [] p flow.media.pt cut answer none) o.so_far_is in
    let no_fault : first_fault all flow.media.pt ≡ None =
    ap (first_fault_below all flow.media.pt) long ∙ (cut-answered all flow.media.pt i cut (answer [])).0 in
    let fits = fits-at all flow.media.pt flow.shift no_fault (omega (arith, long, c.few)) c.stands.limits (stamped-more packets p c.stamped c.stamp) in
    subst Fits (ap (λ k. so_far_at all flow.shift (last_place (0 ∷ cuts all k)) k) long ∙ sym is) fits

-- so the run can take it
pub can_take : {M : Type 0} (flow : Flow M) (packets : List FlowPacket) (rec_number at stamp : ℕ) (seen : Rtp) (cut : Option ℕ) (open_run : OpenRun M)
    → stamp ≡ shifted flow.shift at → (c : CanGoOn flow packets at) → flow.open ≡ Some open_run → cut ≡ None
    → IsAnswered packets (read_packet rec_number at seen) flow.media.pt cut
    → CanTake flow.media open_run.judge c.stands.so_far stamp seen.marker
can_take flow packets rec_number at stamp seen cut open_run timed c e none answer =
    let o : IsOpen flow.media flow.shift (packets ++ []) (length packets) (cuts (packets ++ []) (length packets)) c.stands.so_far flow.done.items open_run =
    subst (λ x. OpensAt flow.media flow.shift (packets ++ []) (length packets) c.stands.so_far flow.done.items x) e (c.stands.runs []) in
    record { stands = o.judge; fits = fits-next flow packets rec_number at stamp seen cut open_run timed c e none answer }

-- no packet up to this one has a fault
pub sound-next : {M : Type 0} (flow : Flow M) (packets : List FlowPacket) (rec_number at : ℕ) (seen : Rtp) (cut : Option ℕ)
    → IsAnswered packets (read_packet rec_number at seen) flow.media.pt cut
    → (rest : List FlowPacket)
    → first_fault_below ((packets ++ read_packet rec_number at seen ∷ []) ++ rest) flow.media.pt (length (packets ++ read_packet rec_number at seen ∷ []))
    ≡ None
sound-next flow packets rec_number at seen cut answer =
    let p = read_packet rec_number at seen in
    onward (λ all n. first_fault_below all flow.media.pt n ≡ None) packets p
    (λ rest. (cut-answered (packets ++ p ∷ rest) flow.media.pt (length packets) cut (answer rest)).0)

-- a flow with other parts
abbrev pub with_parts : {M : Type 0} → Flow M → Grouper → Option (OpenRun M) → Flow M
with_parts flow grouper open_run = record {
  alloc = flow.alloc;
  media = flow.media;
  shift = flow.shift;
  grouper = grouper;
  done = flow.done;
  «open» = open_run;
}

-- the open run goes on with the packet
pub goes_on : {M : Type 0} (flow : Flow M) (packets : List FlowPacket) (rec_number at stamp : ℕ) (seen : Rtp) (cut : Option ℕ) (grouper : Grouper)
    (open_run : OpenRun M)
    (judge : RunJudge M)
    → stamp ≡ shifted flow.shift at → flow.open ≡ Some open_run → cut ≡ None
    → IsAnswered packets (read_packet rec_number at seen) flow.media.pt cut
    → GrouperStandsFor flow.media.pt grouper (packets ++ read_packet rec_number at seen ∷ [])
    → ((so_far : SoFar) → CanTake flow.media open_run.judge so_far stamp seen.marker
    → RunStandsFor flow.media judge (so_far_next so_far stamp seen.marker))
    → CanGoOn flow packets at
    → StandsFor (with_parts flow grouper (Some (record { rec = open_run.rec; number = open_run.number; expected = open_run.expected; judge = judge })))
    (packets ++ read_packet rec_number at seen ∷ [])
goes_on {M} flow packets rec_number at stamp seen cut grouper open_run judge timed e none answer grouped fed c =
    let p = read_packet rec_number at seen in
    let more = so_far_next c.stands.so_far stamp seen.marker in
    let stands = fed c.stands.so_far (can_take flow packets rec_number at stamp seen cut open_run timed c e none answer) in
    let with_it : OpenRun M = record { rec = open_run.rec; number = open_run.number; expected = open_run.expected; judge = judge } in
    record {
      limits = c.stands.limits;
      grouper = grouped;
      sound = sound-next flow packets rec_number at seen cut answer;
      so_far = more;
      runs = onward (λ all n. OpensAt flow.media flow.shift all n more flow.done.items (Some with_it)) packets p
          (λ rest.
          let o : IsOpen flow.media flow.shift (packets ++ p ∷ rest) (length packets)
          (cuts (packets ++ p ∷ rest) (length packets)) c.stands.so_far flow.done.items open_run =
          subst (λ x. OpensAt flow.media flow.shift (packets ++ p ∷ rest) (length packets) c.stands.so_far flow.done.items x) e (c.stands.runs (p ∷ rest)) in
          goes_on-next flow.media (packets ++ p ∷ rest) flow.shift (length packets) rec_number stamp seen c.stands.so_far flow.done.items open_run judge
          (comes packets rest flow.shift rec_number at stamp seen timed) (not_cut packets rest p flow.media.pt cut answer none) o stands);
      room = c.stands.room;
    }

pub starts-case : {M : Type 0} (packets : List FlowPacket) (i : ℕ) (open_run : Option (OpenRun M))
    → ((run : OpenRun M) → open_run ≡ Some run → is_cut packets i ≡ true)
    → StartsAt packets i open_run
starts-case packets i None h = tt
starts-case packets i (Some run) h = h run refl

-- a call of `begin` on this flow, with the next packet
abbrev pub Begun : {M : Type 0} → Flow M → Flow M → Option ℕ → ℕ → ℕ → Rtp → Type 0
Begun flow new expected rec_number stamp seen = (all : List FlowPacket) (i : ℕ) (so_far : SoFar) → ComesNext all flow.shift i rec_number stamp seen
    → expected ≡ cut_at all i → StartsAt all i flow.open
    → OpensAt flow.media flow.shift all i so_far flow.done.items flow.open
    → OpensAt new.media new.shift all (i + 1) (so_far_next (in_head 0) stamp seen.marker) new.done.items new.open

-- a run begins with the packet
begins-from : {M : Type 0} (flow new : Flow M) (packets : List FlowPacket) (rec_number at stamp : ℕ) (seen : Rtp) (cut : Option ℕ) (grouper : Grouper)
    → stamp ≡ shifted flow.shift at
    → new.media ≡ flow.media → new.shift ≡ flow.shift → new.grouper ≡ grouper
    → (HasRoom flow → HasRoom new)
    → ((run : OpenRun M) → flow.open ≡ Some run → (n : ℕ) × (cut ≡ Some n))
    → IsAnswered packets (read_packet rec_number at seen) flow.media.pt cut
    → GrouperStandsFor flow.media.pt grouper (packets ++ read_packet rec_number at seen ∷ [])
    → Begun flow new cut rec_number stamp seen
    → CanGoOn flow packets at
    → StandsFor new (packets ++ read_packet rec_number at seen ∷ [])
begins-from flow new packets rec_number at stamp seen cut grouper timed media shift same_grouper room opens answer grouped begun c =
    let p = read_packet rec_number at seen in
    let same_pt : new.media.pt ≡ flow.media.pt = ap (λ (m : Media). m.pt) media in
    let more = so_far_next (in_head 0) stamp seen.marker in
    record {
      limits = subst IsShift (sym shift) c.stands.limits;
      grouper = subst (λ g. GrouperStandsFor new.media.pt g (packets ++ p ∷ [])) (sym same_grouper)
          (subst (λ pt. GrouperStandsFor pt grouper (packets ++ p ∷ [])) (sym same_pt) grouped);
      sound = λ rest. subst (λ pt. first_fault_below ((packets ++ p ∷ []) ++ rest) pt (length (packets ++ p ∷ [])) ≡ None) (sym same_pt)
          (sound-next flow packets rec_number at seen cut answer rest);
      so_far = more;
      runs = onward (λ all n. OpensAt new.media new.shift all n more new.done.items new.open) packets p
          (λ rest.
          begun (packets ++ p ∷ rest) (length packets) c.stands.so_far (comes packets rest flow.shift rec_number at stamp seen timed)
          (cut-answered (packets ++ p ∷ rest) flow.media.pt (length packets) cut (answer rest)).1
          (starts-case (packets ++ p ∷ rest) (length packets) flow.open
          (λ run e. let there = opens run e in is_cut-there packets rest p flow.media.pt there.0 cut answer there.1))
          (c.stands.runs (p ∷ rest)));
      room = room c.stands.room;
    }

-- a run begins with a packet that the grouper took
pub begins : {M : Type 0} (flow between new : Flow M) (packets : List FlowPacket) (rec_number at stamp : ℕ) (seen : Rtp) (cut : Option ℕ) (grouper : Grouper)
    → stamp ≡ shifted flow.shift at
    → between ≡ with_parts flow grouper flow.open
    → new.media ≡ between.media → new.shift ≡ between.shift → new.grouper ≡ between.grouper
    → (HasRoom between → HasRoom new)
    → ((run : OpenRun M) → flow.open ≡ Some run → (n : ℕ) × (cut ≡ Some n))
    → IsAnswered packets (read_packet rec_number at seen) flow.media.pt cut
    → GrouperStandsFor flow.media.pt grouper (packets ++ read_packet rec_number at seen ∷ [])
    → Begun between new cut rec_number stamp seen
    → CanGoOn flow packets at
    → StandsFor new (packets ++ read_packet rec_number at seen ∷ [])
begins flow between new packets rec_number at stamp seen cut grouper timed is media shift same_grouper room opens answer grouped begun c =
    begins-from flow new packets rec_number at stamp seen cut grouper timed
    (media ∙ ap (λ (f : Flow _). f.media) is) (shift ∙ ap (λ (f : Flow _). f.shift) is) (same_grouper ∙ ap (λ (f : Flow _). f.grouper) is)
    (subst (λ (f : Flow _). HasRoom f → HasRoom new) is room) opens answer grouped
    (subst (λ (f : Flow _). Begun f new cut rec_number stamp seen) is begun) c

-- what is known of some packets of the flow
abbrev pub Known : {M : Type 0} → Flow M → ℕ → Type 0
Known flow at = ∥ ((packets : List FlowPacket) × CanGoOn flow packets at) ∥₁

few-fed : {M : Type 0} (flow : Flow M) (packets : List FlowPacket) (at : ℕ) → CanGoOn flow packets at → count_fed flow.grouper < 2 ^ 41
few-fed flow packets at c = omega (arith, c.stands.grouper.fed, c.few)

-- the grouper was fed few packets
pub few-known : {M : Type 0} (flow : Flow M) (at : ℕ) → Known flow at → count_fed flow.grouper < 2 ^ 41
few-known flow at known = ∥∥₁_elim known (hlevel props) (λ (packets, c). few-fed flow packets at c)

-- the stamp is one that a capture can hold
pub stamp-known : {M : Type 0} (flow : Flow M) (at : ℕ) → Known flow at → at < 2 ^ 32 * 10 ^ 9
stamp-known flow at known = ∥∥₁_elim known (hlevel props) (λ (packets, c). c.stamp)

-- the open run can take the packet
pub take-known : {M : Type 0} (flow : Flow M) (rec_number at stamp : ℕ) (seen : Rtp) (cut : Option ℕ) (open_run : OpenRun M)
    → stamp ≡ shifted flow.shift at → flow.open ≡ Some open_run → cut ≡ None
    → ((packets : List FlowPacket) → GrouperStandsFor flow.media.pt flow.grouper packets
    → IsAnswered packets (read_packet rec_number at seen) flow.media.pt cut)
    → Known flow at
    → ∥ ((so_far : SoFar) × CanTake flow.media open_run.judge so_far stamp seen.marker) ∥₁
take-known flow rec_number at stamp seen cut open_run timed e none answer known =
    ∥∥₁_map known (λ (packets, c).
    (c.stands.so_far, can_take flow packets rec_number at stamp seen cut open_run timed c e none (answer packets c.stands.grouper)))

-- or the one expected
pub expected-known : {M : Type 0} (flow : Flow M) (at stamp : ℕ) (open_run : OpenRun M) → stamp ≡ shifted flow.shift at → flow.open ≡ Some open_run
    → ((packets : List FlowPacket) → GrouperStandsFor flow.media.pt flow.grouper packets
    → IsAnswered packets (next_packet packets flow.media.pt 0 at) flow.media.pt None)
    → Known flow at
    → ∥ ((m : Media) × (so_far : SoFar) × CanTake m open_run.judge so_far stamp false) ∥₁
expected-known flow at stamp open_run timed e answer known =
    ∥∥₁_map known (λ (packets, c).
    let seen : Rtp = going_on packets flow.media.pt (length packets) in
    (flow.media, c.stands.so_far, can_take flow packets 0 at stamp seen None open_run timed c e refl (answer packets c.stands.grouper)))

-- a packet that is answered with a fault has the first one
pub ends : {M : Type 0} (flow : Flow M) (packets rest : List FlowPacket) (rec_number at : ℕ) (seen : Rtp) (fault : PacketFault) → CanGoOn flow packets at
    → Err fault ≡ answer_at (packets ++ read_packet rec_number at seen ∷ rest) flow.media.pt (length packets)
    → has_fault (packets ++ read_packet rec_number at seen ∷ rest) flow.media.pt (length packets) fault
ends flow packets rest rec_number at seen fault c answer =
    fault-is (packets ++ read_packet rec_number at seen ∷ rest) flow.media.pt (length packets) fault (c.stands.sound (read_packet rec_number at seen ∷ rest))
    answer

-- an option that is none, and one that is some
pub none-of : (o : Option ℕ) → is_some o ≡ false → o ≡ None
none-of None e = refl
none-of (Some n) e = cc

pub some-of : (o : Option ℕ) → is_some o ≡ true → (n : ℕ) × (o ≡ Some n)
some-of None e = cc
some-of (Some n) e = (n, refl)

-- a packet that was not read has a fault
pub unread-fault : (packets : List FlowPacket) (pt i : ℕ) (fault_here : PacketFault) → (packet packets i).rtp ≡ Err fault_here
    → fault packets pt i ≡ Some fault_here
unread-fault packets pt i fault_here e =
    ap (λ r. first_of (first_of (reading_fault r)
    (first_of (fault_if (is_other_payload packets pt i) PayloadType) (fault_if (is_second_source packets i) SecondSource)))
    (first_of (order_fault 1024 packets i) (size_fault 262144 packets i))) e

-- and the first of its flow, where no packet before it has one
pub unread-ends : {M : Type 0} (flow : Flow M) (packets rest : List FlowPacket) (rec_number at : ℕ) (fault_here : PacketFault) → CanGoOn flow packets at
    → has_fault (packets ++ record { rec = rec_number; at = at; rtp = Err fault_here } ∷ rest) flow.media.pt (length packets) fault_here
unread-ends flow packets rest rec_number at fault_here c =
    let p : FlowPacket = record { rec = rec_number; at = at; rtp = Err fault_here } in
    fault-here (packets ++ p ∷ rest) flow.media.pt (length packets) fault_here (c.stands.sound (p ∷ rest))
    (unread-fault (packets ++ p ∷ rest) flow.media.pt (length packets) fault_here (ap (λ (q : FlowPacket). q.rtp) (packet-here packets rest p)))
