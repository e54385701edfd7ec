-- The output of the meters of a judge's runs tells of the packets that the state of the judge was fed.
use Rattle.std.proofs.Common.{◌≡◌, ◌<◌, ◌+◌, ◌^◌, ℕ, zero, suc, List, [], ◌∷◌, ◌++◌, length, Option, Some, None, Result, Ok, Err, refl, arith, ◌∙◌}
use Rattle.std.proofs.Common.{sym, subst}
use Rattle.std.specs.Prelude.{IsErr, OnOk}
use Rattle.std.proofs.lemmas.List.{append-nil}
use Rattle.timing_base.specs.Shifts.{FlowOptions, Shift}
use Rattle.timing_base.specs.Numbered.{numbered}
use Rattle.frame_group.specs.Expected.{next_packet}
use Rattle.timing_base.specs.Captures.{IsStamp}
use Rattle.timing_base.specs.Flows.{FirstFault, first_fault, first_fault_below}
use Rattle.timing_base.specs.Media.{Media}
use Rattle.timing_base.specs.declared.packet.FlowPacket.{FlowPacket}
use Rattle.timing_base.specs.declared.packet.PacketFault.{PacketFault}
use Rattle.timing_base.specs.declared.row.Run.{Run}
use Rattle.timing_base.proofs.FirstFaults.{fault-kept}
use Rattle.run_meter.specs.Runs.{JudgedPart, OpenPart}
use Rattle.fail_interval.specs.Flowing.{EndsBy, OpensAt, StandsFor as FlowStandsFor, has_fault}
use Rattle.fail_interval.specs.Goings.{GoesBy, Refuses}
use Rattle.fail_interval.specs.Measured.{JudgeTells, StateTells, StateTellsTaken, TellsEnd, TellsSoFar}
use Rattle.fail_interval.specs.Metered.{Standing, Telling}
use Rattle.fail_interval.specs.Parts.{judged_parts, open_before, parts_before, sound_before}
use Rattle.fail_interval.specs.SoFar.{SoFar}
use Rattle.fail_interval.specs.States.{IsAt, IsRefused, StandsFor}
use Rattle.fail_interval.specs.Telling.{FlowTells, Tells, TellsAt, TellsExpected, TellsTook}
use Rattle.fail_interval.specs.declared.flow.Flow.{Flow}
use Rattle.fail_interval.specs.declared.flow.OpenRun.{OpenRun}
use Rattle.fail_interval.specs.declared.judge.FlowJudge.{FlowJudge}
use Rattle.fail_interval.specs.declared.judge.State.{State}
use Rattle.fail_interval.specs.declared.judge.State.TheVariants.{Going, Refused, Spent}
use Rattle.fail_interval.proofs.Feeding.{onward}
use Rattle.fail_interval.proofs.FlowTold.{now-told}
use Rattle.fail_interval.proofs.Judging.{at-flow, can}
use Rattle.fail_interval.proofs.Rows.{no_fault, opens}

-- what is told of the runs before packet n
at-before : {M Out Past : Type 0} (stands : Standing M) (tells : Telling Past Out) (past : Past) (m : Media) (shift : Shift) (packets : List FlowPacket) (n : ℕ)
    (so_far : SoFar) (done : List Run) (open_run : Option (OpenRun M)) (out : Out)
    → OpensAt m shift packets n so_far done open_run
    → TellsAt stands tells past m shift packets n open_run out
    → tells past out m shift (parts_before m packets shift n) (open_before packets shift n)
at-before stands tells past m shift packets zero so_far done None out o t = t
at-before stands tells past m shift packets (suc n) so_far done None out o t = absurd (omega (arith, o.0))
at-before stands tells past m shift packets n so_far done (Some open_run) out o t = t.out_tells

-- of a flow whose media and shift are known by equations
flow-as : {M Out Past : Type 0} (stands : Standing M) (tells : Telling Past Out) (past : Past) (flow : Flow M) (m : Media) (shift : Shift)
    (packets : List FlowPacket)
    (out : Out)
    → flow.media ≡ m → flow.shift ≡ shift
    → Tells stands tells past m shift packets flow.open out → FlowTells stands tells past flow packets out
flow-as stands tells past flow m shift packets out media same t =
    subst (λ k. Tells stands tells past k flow.shift packets flow.open out) (sym media)
    (subst (λ s. Tells stands tells past m s packets flow.open out) (sym same) t)

as-flow : {M Out Past : Type 0} (stands : Standing M) (tells : Telling Past Out) (past : Past) (flow : Flow M) (m : Media) (shift : Shift)
    (packets : List FlowPacket)
    (out : Out)
    → flow.media ≡ m → flow.shift ≡ shift
    → FlowTells stands tells past flow packets out → Tells stands tells past m shift packets flow.open out
as-flow stands tells past flow m shift packets out media same t =
    subst (λ s. Tells stands tells past m s packets flow.open out) same
    (subst (λ k. Tells stands tells past k flow.shift packets flow.open out) media t)

-- what was told of its flow
told-flow : {M Out Past : Type 0} (stands : Standing M) (tells : Telling Past Out) (past : Past) (m : Media) (shift : Shift) (fed : ℕ) (old : State M)
    (flow : Flow M) (packets : List FlowPacket) (out : Out)
    → old ≡ Going flow → StandsFor m shift fed packets old
    → StateTells stands tells past m shift packets old out
    → FlowTells stands tells past flow packets out
told-flow stands tells past m shift fed old flow packets out e s t =
    let is = at-flow m shift old flow packets e s.is in
    flow-as stands tells past flow m shift packets out is.0 is.1 (subst (λ state. StateTells stands tells past m shift packets state out) e t)

-- a call that had the memory
pub on_ok : {T E X : Type 0} (result : Result T E) → X → OnOk result X
on_ok (Ok value) x = x
on_ok (Err cause) x = tt

-- a judge and an output that are as they were
pub same-tells : {M Out Past : Type 0} (stands : Standing M) (tells : Telling Past Out) (past : Past) (m : Media) (shift : Shift) (packets : List FlowPacket)
    (old new : State M) (before after : Out)
    → new ≡ old → after ≡ before
    → StateTells stands tells past m shift packets old before
    → StateTells stands tells past m shift packets new after
same-tells stands tells past m shift packets old new before after e f t =
    subst (λ out. StateTells stands tells past m shift packets new out) (sym f)
    (subst (λ state. StateTells stands tells past m shift packets state before) (sym e) t)

-- a flow without a fault went on
pub went-tells : {M Out Past : Type 0} (stands : Standing M) (tells : Telling Past Out) (past : Past) (m : Media) (shift : Shift)
    (fed : ℕ) (old : State M)
    (new : State M) (packets : List FlowPacket) (p : FlowPacket) (before after : Out)
    → GoesBy (λ flow later. TellsTook stands tells flow later before after p) old new
    → fed < 2 ^ 41 → IsStamp p.at
    → StandsFor m shift fed packets old
    → StateTells stands tells past m shift packets old before
    → StateTells stands tells past m shift (packets ++ p ∷ []) new after
went-tells stands tells past m shift fed old new packets p before after went few stamp s t =
    let is = at-flow m shift old went.flow packets went.is s.is in
    subst (λ state. StateTells stands tells past m shift (packets ++ p ∷ []) state after) (sym went.becomes)
    (as-flow stands tells past went.later m shift (packets ++ p ∷ []) after (went.media ∙ is.0) (went.shift ∙ is.1)
    (went.goes past packets (can m shift fed p.at old went.flow packets went.is few stamp s)
    (told-flow stands tells past m shift fed old went.flow packets before went.is s t)))

-- or with the packet expected
pub expected-tells : {M Out Past : Type 0} (stands : Standing M) (tells : Telling Past Out) (past : Past) (m : Media) (shift : Shift) (rec at : ℕ)
    (fed : ℕ) (old : State M) (new : State M) (packets : List FlowPacket) (out : Out)
    → GoesBy (λ flow later. TellsExpected stands tells flow later rec at) old new
    → fed < 2 ^ 41 → IsStamp at
    → StandsFor m shift fed packets old
    → StateTells stands tells past m shift packets old out
    → StateTells stands tells past m shift (packets ++ next_packet packets m.pt rec at ∷ []) new out
expected-tells stands tells past m shift rec at fed old new packets out went few stamp s t =
    let is = at-flow m shift old went.flow packets went.is s.is in
    let c = can m shift fed at old went.flow packets went.is few stamp s in
    let now = went.goes past out packets c (told-flow stands tells past m shift fed old went.flow packets out went.is s t) in
    subst (λ state. StateTells stands tells past m shift (packets ++ next_packet packets m.pt rec at ∷ []) state out) (sym went.becomes)
    (as-flow stands tells past went.later m shift (packets ++ next_packet packets m.pt rec at ∷ []) out (went.media ∙ is.0) (went.shift ∙ is.1)
    (subst (λ (k : Media). FlowTells stands tells past went.later (packets ++ next_packet packets k.pt rec at ∷ []) out) is.0 now))

-- where the first fault of n packets is known
at-fault : {Out Past : Type 0} (tells : Telling Past Out) (past : Past) (m : Media) (shift : Shift) (packets : List FlowPacket) (n : ℕ) (first : FirstFault)
    (out : Out)
    → first_fault_below packets m.pt n ≡ Some first
    → tells past out m shift (parts_before m packets shift first.index) (open_before packets shift first.index)
    → TellsSoFar tells past m shift packets n out
at-fault tells past m shift packets n first out e telling =
    subst (λ x. tells past out m shift (parts_before m packets shift (sound_before x n)) (open_before packets shift (sound_before x n))) (sym e) telling

before-fault : {Out Past : Type 0} (tells : Telling Past Out) (past : Past) (m : Media) (shift : Shift) (packets : List FlowPacket) (n : ℕ) (first : FirstFault)
    (out : Out)
    → first_fault_below packets m.pt n ≡ Some first
    → TellsSoFar tells past m shift packets n out
    → tells past out m shift (parts_before m packets shift first.index) (open_before packets shift first.index)
before-fault tells past m shift packets n first out e telling =
    subst (λ x. tells past out m shift (parts_before m packets shift (sound_before x n)) (open_before packets shift (sound_before x n))) e telling

-- the flow ends with this packet's fault: the output stays
pub refused-tells : {M Out Past : Type 0} (stands : Standing M) (tells : Telling Past Out) (past : Past) (m : Media) (shift : Shift) (rec : ℕ)
    (fault : PacketFault) (fed : ℕ) (old : State M) (flow : Flow M) (state : State M) (packets : List FlowPacket) (p : FlowPacket) (out : Out)
    → old ≡ Going flow → state ≡ Refused rec fault
    → EndsBy flow p fault
    → fed < 2 ^ 41 → IsStamp p.at
    → StandsFor m shift fed packets old
    → StateTells stands tells past m shift packets old out
    → StateTells stands tells past m shift (packets ++ p ∷ []) state out
refused-tells stands tells past m shift rec fault fed old flow state packets p out e ended ends few stamp s t =
    let is = at-flow m shift old flow packets e s.is in
    let c = can m shift fed p.at old flow packets e few stamp s in
    let told = told-flow stands tells past m shift fed old flow packets out e s t in
    subst (λ x. StateTells stands tells past m shift (packets ++ p ∷ []) x out) (sym ended)
    (onward (λ all n. TellsSoFar tells past m shift all n out) packets p
    (λ rest.
    let all = packets ++ p ∷ rest in
    let n = length packets in
    let first : has_fault all m.pt n fault = subst (λ (k : Media). has_fault all k.pt n fault) is.0 (ends packets rest c) in
    let before = at-before stands tells past flow.media flow.shift all n c.stands.so_far flow.done.items flow.open out (c.stands.runs (p ∷ rest))
    (told (p ∷ rest)) in
    at-fault tells past m shift all (n + 1) (record { index = n; fault = fault }) out first
    (subst (λ k. tells past out k shift (parts_before k all shift n) (open_before all shift n)) is.0
    (subst (λ q. tells past out flow.media q (parts_before flow.media all q n) (open_before all q n)) is.1 before))))

-- it ended before: the output stays
pub ended-tells : {M Out Past : Type 0} (stands : Standing M) (tells : Telling Past Out) (past : Past) (m : Media) (shift : Shift) (rec : ℕ)
    (fault : PacketFault) (fed : ℕ) (old : State M) (state : State M) (packets : List FlowPacket) (p : FlowPacket) (out : Out)
    → old ≡ Refused rec fault → state ≡ Refused rec fault
    → StandsFor m shift fed packets old
    → StateTells stands tells past m shift packets old out
    → StateTells stands tells past m shift (packets ++ p ∷ []) state out
ended-tells {M} stands tells past m shift rec fault fed old state packets p out e stays s t =
    let r : IsRefused m packets rec fault = subst (IsAt m shift packets) e s.is in
    let first : FirstFault = record { index = r.index; fault = fault } in
    let told : (rest : List FlowPacket) → TellsSoFar tells past m shift (packets ++ rest) (length packets) out =
    subst (λ (x : State M). StateTells stands tells past m shift packets x out) e t in
    subst (λ (x : State M). StateTells stands tells past m shift (packets ++ p ∷ []) x out) (sym stays)
    (onward (λ all n. TellsSoFar tells past m shift all n out) packets p
    (λ rest.
    let all = packets ++ p ∷ rest in
    let n = length packets in
    at-fault tells past m shift all (n + 1) first out (fault-kept all m.pt n (n + 1) first (omega arith) (r.first (p ∷ rest)))
    (before-fault tells past m shift all n first out (r.first (p ∷ rest)) (told (p ∷ rest)))))

-- memory was refused before, so the call answers so
spent-tells : {T E : Type 0} (X : Type 0) (result : Result T E) → IsErr result → OnOk result X
spent-tells X (Ok value) err = cc
spent-tells X (Err cause) err = tt

refuses-case : {M Out Past T E : Type 0} (stands : Standing M) (tells : Telling Past Out) (past : Past) (m : Media) (shift : Shift) (rec : ℕ)
    (fault : PacketFault) (fed : ℕ) (old is state : State M) (packets : List FlowPacket) (p : FlowPacket) (out : Out) (result : Result T E)
    → old ≡ is
    → Refuses old state rec fault result
    → ((flow : Flow M) → EndsBy flow p fault)
    → fed < 2 ^ 41 → IsStamp p.at
    → StandsFor m shift fed packets old
    → StateTells stands tells past m shift packets old out
    → OnOk result (StateTells stands tells past m shift (packets ++ p ∷ []) state out)
refuses-case stands tells past m shift rec fault fed old (Going flow) state packets p out result e r ends few stamp s t =
    on_ok result
    (refused-tells stands tells past m shift rec fault fed old flow state packets p out e (r.going flow e).1 (ends flow) few stamp s t)
refuses-case stands tells past m shift rec fault fed old (Refused first earlier) state packets p out result e r ends few stamp s t =
    on_ok result (ended-tells stands tells past m shift first earlier fed old state packets p out e (r.refused first earlier e).1 s t)
refuses-case stands tells past m shift rec fault fed old Spent state packets p out result e r ends few stamp s t = spent-tells _ result (r.spent e).0

-- a packet that ends each flow by its fault
refuses-tells : {M Out Past T E : Type 0} (stands : Standing M) (tells : Telling Past Out) (past : Past) (m : Media) (shift : Shift) (rec : ℕ)
    (fault : PacketFault) (fed : ℕ) (old : State M) (state : State M) (packets : List FlowPacket) (p : FlowPacket) (out : Out) (result : Result T E)
    → Refuses old state rec fault result
    → ((flow : Flow M) → EndsBy flow p fault)
    → fed < 2 ^ 41 → IsStamp p.at
    → StandsFor m shift fed packets old
    → StateTells stands tells past m shift packets old out
    → OnOk result (StateTells stands tells past m shift (packets ++ p ∷ []) state out)
refuses-tells stands tells past m shift rec fault fed old state packets p out result r ends few stamp s t =
    refuses-case stands tells past m shift rec fault fed old old state packets p out result refl r ends few stamp s t

-- a call took a packet of a flow without a fault
took : {M Out T E : Type 0} {Past : Type 0} (stands : Standing M) (tells : Telling Past Out) (fed : ℕ) (old new : State M) (flow : Flow M) (before after : Out)
    (p : FlowPacket) (result : Result T E)
    → old ≡ Going flow
    → ((past : Past) (m : Media) (shift : Shift) (packets : List FlowPacket) → StandsFor m shift fed packets old
    → StateTells stands tells past m shift packets old before → OnOk result (StateTells stands tells past m shift (packets ++ p ∷ []) new after))
    → StateTellsTaken stands tells fed old new before after p result
took stands tells fed old new flow before after p result e told = record { told = told; refused = λ rec fault was. cc }

-- the flow goes on
pub went-taken : {M Out T E : Type 0} {Past : Type 0} (stands : Standing M) (tells : Telling Past Out) (fed : ℕ) (old new : State M) (p : FlowPacket)
    (before after : Out) (result : Result T E)
    → GoesBy (λ flow later. TellsTook stands tells flow later before after p) old new
    → fed < 2 ^ 41 → IsStamp p.at
    → StateTellsTaken stands tells fed old new before after p result
went-taken stands tells fed old new p before after result went few stamp =
    took stands tells fed old new went.flow before after p result went.is
    (λ past m shift packets s t. on_ok result (went-tells stands tells past m shift fed old new packets p before after went few stamp s t))

-- the flow ends with this packet's fault
pub refused-taken : {M Out T E : Type 0} {Past : Type 0} (stands : Standing M) (tells : Telling Past Out) (rec : ℕ) (fault : PacketFault) (fed : ℕ)
    (old new : State M)
    (flow : Flow M) (p : FlowPacket) (before after : Out) (result : Result T E)
    → old ≡ Going flow → new ≡ Refused rec fault → after ≡ before
    → EndsBy flow p fault
    → fed < 2 ^ 41 → IsStamp p.at
    → StateTellsTaken stands tells fed old new before after p result
refused-taken stands tells rec fault fed old new flow p before after result e ended same ends few stamp =
    took stands tells fed old new flow before after p result e
    (λ past m shift packets s t.
    on_ok result (refused-tells stands tells past m shift rec fault fed old flow new packets p after e ended ends few stamp s
    (same-tells stands tells past m shift packets old old before after refl same t)))

-- it ended before
pub ended-taken : {M Out T E : Type 0} {Past : Type 0} (stands : Standing M) (tells : Telling Past Out) (rec : ℕ) (fault : PacketFault) (fed : ℕ)
    (old new : State M)
    (p : FlowPacket) (out : Out) (result : Result T E)
    → old ≡ Refused rec fault → new ≡ Refused rec fault
    → StateTellsTaken stands tells fed old new out out p result
ended-taken stands tells rec fault fed old new p out result e stays = record {
  told = λ past m shift packets s t. on_ok result (ended-tells stands tells past m shift rec fault fed old new packets p out e stays s t);
  refused = λ first earlier was. refl;
}

-- memory runs out
pub spent-taken : {M Out T E : Type 0} {Past : Type 0} (stands : Standing M) (tells : Telling Past Out) (fed : ℕ) (old new : State M) (p : FlowPacket)
    (before after : Out) (result : Result T E)
    → IsErr result
    → ((rec : ℕ) (fault : PacketFault) → old ≡ Refused rec fault → ⊥)
    → StateTellsTaken stands tells fed old new before after p result
spent-taken stands tells fed old new p before after result err not = record {
  told = λ past m shift packets s t. spent-tells _ result err;
  refused = λ rec fault was. absurd (not rec fault was);
}

-- a packet that ends each flow by its fault
pub refuses-taken : {M Out T E : Type 0} {Past : Type 0} (stands : Standing M) (tells : Telling Past Out) (rec : ℕ) (fault : PacketFault) (fed : ℕ)
    (old new : State M)
    (p : FlowPacket) (out : Out) (result : Result T E)
    → Refuses old new rec fault result
    → ((flow : Flow M) → EndsBy flow p fault)
    → fed < 2 ^ 41 → IsStamp p.at
    → StateTellsTaken stands tells fed old new out out p result
refuses-taken stands tells rec fault fed old new p out result r ends few stamp = record {
  told = λ past m shift packets s t. refuses-tells stands tells past m shift rec fault fed old new packets p out result r ends few stamp s t;
  refused = λ first earlier was. refl;
}

-- the fault of a flow that is refused, by its packets
first-is : (m : Media) (packets : List FlowPacket) (rec : ℕ) (fault : PacketFault) → (r : IsRefused m packets rec fault)
    → first_fault packets m.pt ≡ Some (record { index = r.index; fault = fault })
first-is m packets rec fault r =
    subst (λ (all : List FlowPacket). first_fault_below all m.pt (length packets) ≡ Some (record { index = r.index; fault = fault })) (append-nil packets)
    (r.first [])

-- a flow that is over
pub end-tells : {M Out Past : Type 0} (stands : Standing M) (tells : Telling Past Out) (past : Past) (m : Media) (shift : Shift) (fed : ℕ) (old : State M)
    (flow : Flow M) (packets : List FlowPacket) (before after : Out)
    → old ≡ Going flow
    → ((past : Past) (packets : List FlowPacket) → FlowStandsFor flow packets → FlowTells stands tells past flow packets before
    → tells past after flow.media flow.shift (judged_parts flow.media packets flow.shift) None)
    → StandsFor m shift fed packets old
    → StateTells stands tells past m shift packets old before
    → TellsEnd tells past m shift packets (first_fault packets m.pt) after
end-tells stands tells past m shift fed old flow packets before after e says s t =
    let is = at-flow m shift old flow packets e s.is in
    let none : first_fault packets m.pt ≡ None = subst (λ (k : Media). first_fault packets k.pt ≡ None) is.0 (no_fault flow packets is.2) in
    let now = says past packets is.2 (told-flow stands tells past m shift fed old flow packets before e s t) in
    subst (λ x. TellsEnd tells past m shift packets x after) (sym none)
    (subst (λ k. tells past after k shift (judged_parts k packets shift) None) is.0
    (subst (λ q. tells past after flow.media q (judged_parts flow.media packets q) None) is.1 now))

-- and one that has a fault
pub end-refused : {M Out Past : Type 0} (stands : Standing M) (tells : Telling Past Out) (past : Past) (m : Media) (shift : Shift) (rec : ℕ)
    (fault : PacketFault) (fed : ℕ) (old : State M) (packets : List FlowPacket) (out : Out)
    → old ≡ Refused rec fault
    → StandsFor m shift fed packets old
    → StateTells stands tells past m shift packets old out
    → TellsEnd tells past m shift packets (first_fault packets m.pt) out
end-refused {M} stands tells past m shift rec fault fed old packets out e s t =
    let r : IsRefused m packets rec fault = subst (IsAt m shift packets) e s.is in
    let first = first-is m packets rec fault r in
    let told : (rest : List FlowPacket) → TellsSoFar tells past m shift (packets ++ rest) (length packets) out =
    subst (λ (x : State M). StateTells stands tells past m shift packets x out) e t in
    let now : TellsSoFar tells past m shift packets (length packets) out =
    subst (λ (all : List FlowPacket). TellsSoFar tells past m shift all (length packets) out) (append-nil packets) (told []) in
    subst (λ x. TellsEnd tells past m shift packets x out) (sym first)
    (before-fault tells past m shift packets (length packets) (record { index = r.index; fault = fault }) out first now)

-- a judge that was refused memory stands for no packets
pub end-spent : {M Out Past : Type 0} (tells : Telling Past Out) (past : Past) (m : Media) (shift : Shift) (fed : ℕ) (old : State M)
    (packets : List FlowPacket) (out : Out)
    → old ≡ Spent
    → StandsFor m shift fed packets old
    → TellsEnd tells past m shift packets (first_fault packets m.pt) out
end-spent tells past m shift fed old packets out e s = let at : ⊥ = subst (IsAt m shift packets) e s.is in absurd at

so_far-case : {M Out Past : Type 0} (stands : Standing M) (tells : Telling Past Out) (past : Past) (m : Media) (shift : Shift) (fed : ℕ) (old : State M)
    (state : State M) (packets : List FlowPacket) (out : Out)
    → old ≡ state
    → StandsFor m shift fed packets old
    → StateTells stands tells past m shift packets old out
    → TellsSoFar tells past m shift packets (length packets) out
so_far-case stands tells past m shift fed old (Going flow) packets out e s t =
    let is = at-flow m shift old flow packets e s.is in
    let n = length packets in
    let none : first_fault_below packets m.pt n ≡ None = subst (λ (k : Media). first_fault packets k.pt ≡ None) is.0 (no_fault flow packets is.2) in
    let told = now-told stands tells past flow packets out (told-flow stands tells past m shift fed old flow packets out e s t) in
    let before = at-before stands tells past flow.media flow.shift packets n is.2.so_far flow.done.items flow.open out (opens flow packets is.2) told in
    subst (λ x. tells past out m shift (parts_before m packets shift (sound_before x n)) (open_before packets shift (sound_before x n))) (sym none)
    (subst (λ k. tells past out k shift (parts_before k packets shift n) (open_before packets shift n)) is.0
    (subst (λ q. tells past out flow.media q (parts_before flow.media packets q n) (open_before packets q n)) is.1 before))
so_far-case {M} stands tells past m shift fed old (Refused rec fault) packets out e s t =
    let told : (rest : List FlowPacket) → TellsSoFar tells past m shift (packets ++ rest) (length packets) out =
    subst (λ (x : State M). StateTells stands tells past m shift packets x out) e t in
    subst (λ (all : List FlowPacket). TellsSoFar tells past m shift all (length packets) out) (append-nil packets) (told [])
so_far-case stands tells past m shift fed old Spent packets out e s t = let at : ⊥ = subst (IsAt m shift packets) e s.is in absurd at

-- what the output tells of the packets that a judge was fed
pub so_far-tells : {M Out Past : Type 0} (stands : Standing M) (tells : Telling Past Out) (past : Past) (m : Media) (shift : Shift)
    (fed : ℕ) (old : State M) (packets : List FlowPacket) (out : Out)
    → StandsFor m shift fed packets old
    → StateTells stands tells past m shift packets old out
    → TellsSoFar tells past m shift packets (length packets) out
so_far-tells stands tells past m shift fed old packets out s t = so_far-case stands tells past m shift fed old old packets out refl s t

at-carried : {M Out Past : Type 0} (stands : Standing M) (tells : Telling Past Out) (past later : Past) (m : Media) (shift : Shift) (packets : List FlowPacket)
    (n : ℕ)
    (open_run : Option (OpenRun M)) (out left : Out)
    → ((over : List JudgedPart) (part : Option OpenPart) → tells past out m shift over part → tells later left m shift over part)
    → TellsAt stands tells past m shift packets n open_run out
    → TellsAt stands tells later m shift packets n open_run left
at-carried stands tells past later m shift packets n None out left carry t = carry [] None t
at-carried stands tells past later m shift packets n (Some open_run) out left carry t = record { told = t.told; out_tells = carry _ _ t.out_tells }

carried-state : {M Out Past : Type 0} (stands : Standing M) (tells : Telling Past Out) (past later : Past) (m : Media) (shift : Shift) (state : State M)
    (packets : List FlowPacket) (out left : Out)
    → ((over : List JudgedPart) (part : Option OpenPart) → tells past out m shift over part → tells later left m shift over part)
    → StateTells stands tells past m shift packets state out
    → StateTells stands tells later m shift packets state left
carried-state stands tells past later m shift (Going flow) packets out left carry t =
    λ rest. at-carried stands tells past later m shift (packets ++ rest) (length packets) flow.open out left carry (t rest)
carried-state stands tells past later m shift (Refused rec fault) packets out left carry t = λ rest. carry _ _ (t rest)
carried-state stands tells past later m shift Spent packets out left carry t = tt

-- an output that tells of the same with what it held before
pub carried-tells : {M Out Past : Type 0} (stands : Standing M) (tells : Telling Past Out) (past later : Past) (m : Media) (options : FlowOptions)
    (judge : FlowJudge M) (packets : List FlowPacket) (out left : Out)
    → ((over : List JudgedPart) (part : Option OpenPart) → tells past out m options.shift over part → tells later left m options.shift over part)
    → JudgeTells stands tells past m options packets judge out
    → JudgeTells stands tells later m options packets judge left
carried-tells stands tells past later m options judge packets out left carry t =
    carried-state stands tells past later m options.shift judge.state (numbered options.seq16 packets) out left carry t
