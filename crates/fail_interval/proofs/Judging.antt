-- The state of a judge is fed one packet, and gives the verdict.
use Rattle.std.proofs.Common.{◌≡◌, ◌<◌, ◌+◌, ◌^◌, ℕ, List, [], ◌∷◌, ◌++◌, length, length-append, None, Some, Ok, Err, Result, arith, ap, ◌∙◌, refl, sym, subst}
use Rattle.std.specs.Prelude.{IsErr, IsOk}
use Rattle.std.proofs.Math.Logic.{∥∥₁_map}
use Rattle.std.proofs.lemmas.List.{append-nil}
use Rattle.timing_base.specs.Shifts.{Shift}
use Rattle.timing_base.specs.Captures.{IsStamp}
use Rattle.timing_base.specs.Flows.{first_fault, first_fault_below, packet}
use Rattle.timing_base.specs.Judged.{judged_as_numbered, refusal}
use Rattle.timing_base.specs.Media.{Media}
use Rattle.timing_base.specs.declared.packet.FlowPacket.{FlowPacket}
use Rattle.timing_base.specs.declared.packet.PacketFault.{PacketFault}
use Rattle.timing_base.specs.declared.packet.Rtp.{Rtp}
use Rattle.timing_base.specs.declared.row.Verdict.{Verdict}
use Rattle.timing_base.proofs.FirstFaults.{fault-kept}
use Rattle.frame_group.specs.Expected.{expected_after, going_on, next_packet}
use Rattle.fail_interval.specs.Flowing.{CanGoOn, EndsBy, StandsFor as FlowStandsFor, Took, has_fault}
use Rattle.fail_interval.specs.Goings.{GoesAsExpected, GoesOn, Refuses, StateTakes}
use Rattle.fail_interval.specs.Row.{verdict_of}
use Rattle.fail_interval.specs.States.{IsAt, IsFedTo, IsKnown, IsRefused, StandsFor}
use Rattle.fail_interval.specs.declared.flow.Flow.{Flow}
use Rattle.fail_interval.specs.declared.judge.State.{State}
use Rattle.fail_interval.specs.declared.judge.State.TheVariants.{Going, Refused, Spent}
use Rattle.fail_interval.proofs.Feeding.{onward, stamped-more}
use Rattle.fail_interval.proofs.Flows.{packet-here}
use Rattle.fail_interval.proofs.Rows.{refused-verdict}

-- a packet as it was fed
abbrev fed_packet : ℕ → ℕ → Result Rtp PacketFault → FlowPacket
fed_packet rec at rtp = record { rec = rec; at = at; rtp = rtp }

can_go_on : {M : Type 0} (flow : Flow M) (fed at : ℕ) (packets : List FlowPacket) → IsFedTo flow fed packets → fed < 2 ^ 41 → IsStamp at
    → CanGoOn flow packets at
can_go_on flow fed at packets f few stamp = record { stands = f.stands; stamped = f.stamped; stamp = stamp; few = omega (arith, f.count, few) }

-- what a judge knows of its flow
pub flow-known : {M : Type 0} (fed at : ℕ) (state : State M) (flow : Flow M) → state ≡ Going flow → ∥ IsKnown fed state ∥₁ → fed < 2 ^ 41 → IsStamp at
    → ∥ ((packets : List FlowPacket) × CanGoOn flow packets at) ∥₁
flow-known fed at state flow e known few stamp =
    let of_flow : ∥ IsKnown fed (Going flow) ∥₁ = subst (λ s. ∥ IsKnown fed s ∥₁) e known in
    ∥∥₁_map of_flow (λ (packets, f). (packets, can_go_on flow fed at packets f few stamp))

fed-more : {M : Type 0} (flow new : Flow M) (fed at : ℕ) (packets : List FlowPacket) (p : FlowPacket) → IsFedTo flow fed packets → IsStamp p.at
    → FlowStandsFor new (packets ++ p ∷ [])
    → IsFedTo new (fed + 1) (packets ++ p ∷ [])
fed-more flow new fed at packets p f stamp stands = record {
  count = omega (arith, length-append packets (p ∷ []), f.count);
  stamped = stamped-more packets p f.stamped stamp;
  stands = stands;
}

-- it knows so of the flow with one packet more
pub known-more : {M : Type 0} (fed rec at : ℕ) (rtp : Result Rtp PacketFault) (state : State M) (flow new : Flow M) → state ≡ Going flow
    → ∥ IsKnown fed state ∥₁ → fed < 2 ^ 41
    → IsStamp at
    → Took flow new (fed_packet rec at rtp) → ∥ IsKnown (fed + 1) (Going new) ∥₁
known-more fed rec at rtp state flow new e known few stamp goes =
    let of_flow : ∥ IsKnown fed (Going flow) ∥₁ = subst (λ s. ∥ IsKnown fed s ∥₁) e known in
    ∥∥₁_map of_flow (λ (packets, f). (
      packets ++ fed_packet rec at rtp ∷ [],
      fed-more flow new fed at packets (fed_packet rec at rtp) f stamp (goes packets (can_go_on flow fed at packets f few stamp)),
    ))

-- what is known of a flow that went on with the packet expected
pub known-expected : {M : Type 0} (fed at : ℕ) (old new : State M) → GoesAsExpected old new at → ∥ IsKnown fed old ∥₁ → fed < 2 ^ 41 → IsStamp at
    → ∥ IsKnown (fed + 1) new ∥₁
known-expected fed at old new went known few stamp =
    let of_flow : ∥ IsKnown fed (Going went.flow) ∥₁ = subst (λ s. ∥ IsKnown fed s ∥₁) went.is known in
    let more : ∥ IsKnown (fed + 1) (Going went.later) ∥₁ = ∥∥₁_map of_flow (λ (packets, f).
    let p = next_packet packets went.flow.media.pt 0 at in (
      packets ++ p ∷ [],
      fed-more went.flow went.later fed at packets p f stamp (went.goes.stands packets 0 (can_go_on went.flow fed at packets f few stamp)),
    )) in
    subst (λ s. ∥ IsKnown (fed + 1) s ∥₁) (sym went.becomes) more

-- the state stands for one packet more
more : {M : Type 0} (m : Media) (shift : Shift) (fed : ℕ) (packets : List FlowPacket) (p : FlowPacket) (old new : State M)
    → IsStamp p.at → StandsFor m shift fed packets old → IsAt m shift (packets ++ p ∷ []) new
    → StandsFor m shift (fed + 1) (packets ++ p ∷ []) new
more m shift fed packets p old new stamp s is = record {
  count = omega (arith, s.count, length-append packets (p ∷ []));
  stamped = stamped-more packets p s.stamped stamp;
  is = is;
}

pub at-flow : {M : Type 0} (m : Media) (shift : Shift) (state : State M) (flow : Flow M) (packets : List FlowPacket) → state ≡ Going flow
    → IsAt m shift packets state
    → (flow.media ≡ m) × (flow.shift ≡ shift) × FlowStandsFor flow packets
at-flow m shift state flow packets e is = subst (IsAt m shift packets) e is

-- the packets of a flow that can go on
pub can : {M : Type 0} (m : Media) (shift : Shift) (fed at : ℕ) (state : State M) (flow : Flow M) (packets : List FlowPacket)
    → state ≡ Going flow → fed < 2 ^ 41 → IsStamp at → StandsFor m shift fed packets state → CanGoOn flow packets at
can m shift fed at state flow packets e few stamp s =
    let is = at-flow m shift state flow packets e s.is in
    record { stands = is.2; stamped = s.stamped; stamp = stamp; few = omega (arith, s.count, few) }

-- a call that took a packet of a flow without a fault
took : {M : Type 0} {T E : Type 0} (result : Result T E) (fed : ℕ) (p : FlowPacket) (old new : State M) (flow : Flow M)
    → old ≡ Going flow → IsOk result
    → ((m : Media) (shift : Shift) (packets : List FlowPacket) → StandsFor m shift fed packets old → StandsFor m shift (fed + 1) (packets ++ p ∷ []) new)
    → (∥ IsKnown fed old ∥₁ → ∥ IsKnown (fed + 1) new ∥₁)
    → StateTakes fed old new p result
took (Err cause) fed p old new flow e ok stands known = cc
took (Ok value) fed p old new flow e ok stands known = record {
  stands = stands;
  known = known;
  refused = λ rec fault was. cc;
  spends = tt;
  stays = λ was. cc;
}

-- the flow goes on
pub going-more : {M : Type 0} {T E : Type 0} (value : T) (fed rec at : ℕ) (rtp : Result Rtp PacketFault) (old : State M) (flow new : Flow M)
    → old ≡ Going flow → fed < 2 ^ 41 → IsStamp at
    → new.media ≡ flow.media → new.shift ≡ flow.shift
    → Took flow new (fed_packet rec at rtp)
    → StateTakes {T = T} {E = E} fed old (Going new) (fed_packet rec at rtp) (Ok value)
going-more value fed rec at rtp old flow new e few stamp media same goes =
    took (Ok value) fed (fed_packet rec at rtp) old (Going new) flow e refl
    (λ m shift packets s.
    let is = at-flow m shift old flow packets e s.is in
    more m shift fed packets (fed_packet rec at rtp) old (Going new) stamp s
    (media ∙ is.0, same ∙ is.1, goes packets (can m shift fed at old flow packets e few stamp s)))
    (λ known. known-more fed rec at rtp old flow new e known few stamp goes)

-- the state took the packet
pub went-more : {M T E : Type 0} (value : T) (fed rec at : ℕ) (rtp : Rtp) (old new : State M)
    → GoesOn old new rec at rtp → fed < 2 ^ 41 → IsStamp at
    → StateTakes {T = T} {E = E} fed old new (fed_packet rec at (Ok rtp)) (Ok value)
went-more {T = T} {E = E} value fed rec at rtp old new went few stamp =
    subst (λ (state : State _). StateTakes {T = T} {E = E} fed old state (fed_packet rec at (Ok rtp)) (Ok value)) (sym went.becomes)
    (going-more value fed rec at (Ok rtp) old went.flow went.later went.is few stamp went.media went.shift went.goes)

-- the packet that the state took is the one expected
pub took-expected : {M : Type 0} (m : Media) (shift : Shift) (fed at : ℕ) (old new : State M) (packets : List FlowPacket)
    → GoesAsExpected old new at → fed < 2 ^ 41 → IsStamp at
    → StandsFor m shift fed packets old
    → expected_after packets m.pt ≡ Some (going_on packets m.pt (length packets))
took-expected m shift fed at old new packets went few stamp s =
    let is = at-flow m shift old went.flow packets went.is s.is in
    subst (λ (k : Media). expected_after packets k.pt ≡ Some (going_on packets k.pt (length packets))) is.0
    (went.goes.expects packets (can m shift fed at old went.flow packets went.is few stamp s))

-- and the state is that after one packet more
pub stands-expected : {M : Type 0} (m : Media) (shift : Shift) (fed rec at : ℕ) (old new : State M) (packets : List FlowPacket)
    → GoesAsExpected old new at → fed < 2 ^ 41 → IsStamp at
    → StandsFor m shift fed packets old
    → IsAt m shift (packets ++ next_packet packets m.pt rec at ∷ []) new
stands-expected m shift fed rec at old new packets went few stamp s =
    let is = at-flow m shift old went.flow packets went.is s.is in
    let stands : FlowStandsFor went.later (packets ++ next_packet packets m.pt rec at ∷ []) =
    subst (λ (k : Media). FlowStandsFor went.later (packets ++ next_packet packets k.pt rec at ∷ [])) is.0
    (went.goes.stands packets rec (can m shift fed at old went.flow packets went.is few stamp s)) in
    subst (IsAt m shift (packets ++ next_packet packets m.pt rec at ∷ [])) (sym went.becomes) (went.media ∙ is.0, went.shift ∙ is.1, stands)

-- the first fault of a flow stays the first
pub refused-more : (m : Media) (packets : List FlowPacket) (p : FlowPacket) (rec : ℕ) (fault : PacketFault) → IsRefused m packets rec fault
    → IsRefused m (packets ++ p ∷ []) rec fault
refused-more m packets p rec fault r = record {
  index = r.index;
  first = onward (λ all n. first_fault_below all m.pt n ≡ Some (record { index = r.index; fault = fault })) packets p
      (λ rest. fault-kept (packets ++ p ∷ rest) m.pt (length packets) (length packets + 1) _ (omega arith) (r.first (p ∷ rest)));
  rec_is = onward (λ all n. (packet all r.index).rec ≡ rec) packets p (λ rest. r.rec_is (p ∷ rest));
}

-- of a flow that is refused nothing is to be known
known-here : {M : Type 0} (fed : ℕ) (state : State M) (rec : ℕ) (fault : PacketFault) → state ≡ Refused rec fault → ∥ IsKnown fed state ∥₁
known-here fed state rec fault e = subst (λ s. ∥ IsKnown fed s ∥₁) (sym e) ∣ tt ∣₁

-- nor after memory ran out
pub known-spent : {M : Type 0} (fed : ℕ) (state : State M) → state ≡ Spent → ∥ IsKnown fed state ∥₁
known-spent fed state e = subst (λ s. ∥ IsKnown fed s ∥₁) (sym e) ∣ tt ∣₁

-- the flow ends with a fault
pub refused-now : {M : Type 0} {T E : Type 0} (result : Result T E) (fed rec at : ℕ) (rtp : Result Rtp PacketFault) (fault : PacketFault) (old : State M)
    (flow : Flow M)
    (new : State M)
    → old ≡ Going flow → IsOk result × (new ≡ Refused rec fault) → fed < 2 ^ 41 → IsStamp at
    → EndsBy flow (fed_packet rec at rtp) fault
    → StateTakes fed old new (fed_packet rec at rtp) result
refused-now result fed rec at rtp fault old flow new e (ok, ended) few stamp ends =
    took result fed (fed_packet rec at rtp) old new flow e ok
    (λ m shift packets s.
    let is = at-flow m shift old flow packets e s.is in
    let c = can m shift fed at old flow packets e few stamp s in
    let p = fed_packet rec at rtp in
    let refused : IsRefused m (packets ++ p ∷ []) rec fault = record {
      index = length packets;
      first = onward (λ all n. first_fault_below all m.pt n ≡ Some (record { index = length packets; fault = fault })) packets p
          (λ rest. subst (λ (k : Media). has_fault (packets ++ p ∷ rest) k.pt (length packets) fault) is.0 (ends packets rest c));
      rec_is = onward (λ all n. (packet all (length packets)).rec ≡ rec) packets p (λ rest. ap (λ (q : FlowPacket). q.rec) (packet-here packets rest p));
    } in
    more m shift fed packets p old new stamp s (subst (IsAt m shift (packets ++ p ∷ [])) (sym ended) refused))
    (λ _. known-here (fed + 1) new rec fault ended)

before-case : {M : Type 0} {T E : Type 0} (result : Result T E) (fed : ℕ) (p : FlowPacket) (rec : ℕ) (fault : PacketFault) (old new : State M)
    → IsOk result
    → old ≡ Refused rec fault → new ≡ Refused rec fault → IsStamp p.at
    → StateTakes fed old new p result
before-case (Err cause) fed p rec fault old new ok e stays stamp = cc
before-case (Ok value) fed p rec fault old new ok e stays stamp = record {
  stands = λ m shift packets s.
      let is : IsRefused m packets rec fault = subst (IsAt m shift packets) e s.is in
      more m shift fed packets p old new stamp s (subst (IsAt m shift (packets ++ p ∷ [])) (sym stays) (refused-more m packets p rec fault is));
  known = λ _. known-here (fed + 1) new rec fault stays;
  refused = λ first earlier was. (refl, stays ∙ (sym e ∙ was));
  spends = tt;
  stays = λ was. cc;
}

-- it ended before
pub refused-before : {M : Type 0} {T E : Type 0} (result : Result T E) (fed rec at more_rec : ℕ) (rtp : Result Rtp PacketFault) (fault : PacketFault)
    (old new : State M)
    → old ≡ Refused more_rec fault → IsOk result × (new ≡ Refused more_rec fault) → IsStamp at
    → StateTakes fed old new (fed_packet rec at rtp) result
refused-before result fed rec at more_rec rtp fault old new e (ok, stays) stamp =
    before-case result fed (fed_packet rec at rtp) more_rec fault old new ok e stays stamp

-- memory runs out, or ran out before
pub spent-case : {M : Type 0} {T E : Type 0} (result : Result T E) (fed : ℕ) (p : FlowPacket) (old new : State M)
    → IsErr result → new ≡ Spent
    → ((rec : ℕ) (fault : PacketFault) → old ≡ Refused rec fault → ⊥)
    → StateTakes fed old new p result
spent-case (Ok value) fed p old new err spent not = cc
spent-case (Err cause) fed p old new err spent not = record {
  stands = λ m shift packets s. tt;
  known = λ _. known-spent (fed + 1) new spent;
  refused = λ rec fault was. absurd (not rec fault was);
  spends = spent;
  stays = λ was. err;
}

refuses-case : {M : Type 0} {T E : Type 0} (result : Result T E) (fed rec at : ℕ) (rtp : Result Rtp PacketFault) (fault : PacketFault) (old state new : State M)
    → old ≡ state → Refuses old new rec fault result → fed < 2 ^ 41 → IsStamp at
    → ((flow : Flow M) → EndsBy flow (fed_packet rec at rtp) fault)
    → StateTakes fed old new (fed_packet rec at rtp) result
refuses-case result fed rec at rtp fault old (Going flow) new e r few stamp ends =
    refused-now result fed rec at rtp fault old flow new e (r.going flow e) few stamp (ends flow)
refuses-case result fed rec at rtp fault old (Refused first earlier) new e r few stamp ends =
    refused-before result fed rec at first rtp earlier old new e (r.refused first earlier e) stamp
refuses-case result fed rec at rtp fault old Spent new e r few stamp ends =
    spent-case result fed (fed_packet rec at rtp) old new (r.spent e).0 (r.spent e).1 (λ first earlier was. cc)

-- a packet that ends each flow by its fault
pub refuses : {M : Type 0} {T E : Type 0} (result : Result T E) (fed rec at : ℕ) (rtp : Result Rtp PacketFault) (fault : PacketFault) (old new : State M)
    → Refuses old new rec fault result → fed < 2 ^ 41 → IsStamp at
    → ((flow : Flow M) → EndsBy flow (fed_packet rec at rtp) fault)
    → StateTakes fed old new (fed_packet rec at rtp) result
refuses result fed rec at rtp fault old new r few stamp ends = refuses-case result fed rec at rtp fault old old new refl r few stamp ends

-- what is known where the flow ends
pub stands-known : {M : Type 0} (fed : ℕ) (state : State M) (flow : Flow M) → state ≡ Going flow → ∥ IsKnown fed state ∥₁
    → ∥ ((packets : List FlowPacket) × FlowStandsFor flow packets) ∥₁
stands-known fed state flow e known =
    let of_flow : ∥ IsKnown fed (Going flow) ∥₁ = subst (λ s. ∥ IsKnown fed s ∥₁) e known in
    ∥∥₁_map of_flow (λ (packets, f). (packets, f.stands))

-- the verdict on a flow that has no fault
pub verdict-going : {M : Type 0} (m : Media) (shift : Shift) (state : State M) (flow : Flow M) (verdict : Verdict) (packets : List FlowPacket)
    → state ≡ Going flow
    → ((packets : List FlowPacket) → FlowStandsFor flow packets → verdict ≡ verdict_of flow.media (judged_as_numbered packets flow.media.pt flow.shift))
    → IsAt m shift packets state
    → verdict ≡ verdict_of m (judged_as_numbered packets m.pt shift)
verdict-going m shift state flow verdict packets e says s =
    let at = at-flow m shift state flow packets e s in
    says packets at.2
    ∙ (ap (λ (k : Media). verdict_of k (judged_as_numbered packets k.pt flow.shift)) at.0 ∙ ap (λ t. verdict_of m (judged_as_numbered packets m.pt t)) at.1)

-- and on one that has
pub verdict-refused : {M : Type 0} (m : Media) (shift : Shift) (rec : ℕ) (fault : PacketFault) (state : State M) (verdict : Verdict) (packets : List FlowPacket)
    → state ≡ Refused rec fault
    → ((m : Media) → verdict ≡ verdict_of m (refusal rec fault))
    → IsAt m shift packets state
    → verdict ≡ verdict_of m (judged_as_numbered packets m.pt shift)
verdict-refused m shift rec fault state verdict packets e says s =
    let at : IsRefused m packets rec fault = subst (IsAt m shift packets) e s in
    says m ∙ sym (ap (verdict_of m) (refused-verdict m shift packets rec fault at))

-- a flow that doesn't go on has a fault
pub not-sound : {M : Type 0} (m : Media) (shift : Shift) (packets : List FlowPacket) (state : State M) → ((flow : Flow M) → state ≡ Going flow → ⊥)
    → IsAt m shift packets state
    → first_fault packets m.pt ≡ None → ⊥
not-sound m shift packets (Going flow) not is none = not flow refl
not-sound m shift packets (Refused rec fault) not is none =
    let first : first_fault packets m.pt ≡ Some (record { index = is.index; fault = fault }) =
    subst (λ (all : List FlowPacket). first_fault_below all m.pt (length packets) ≡ Some (record { index = is.index; fault = fault })) (append-nil packets)
    (is.first []) in
    cc
not-sound m shift packets Spent not is none = is
