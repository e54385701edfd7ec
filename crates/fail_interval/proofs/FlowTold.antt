-- The meters of a flow's runs are told its packets.
use Rattle.std.proofs.Common.{◌≡◌, ◌≤◌, ◌<◌, ◌+◌, ℕ, zero, suc, Bool, false, List, [], ◌∷◌, ◌++◌, length, length-append, Option, Some}
use Rattle.std.proofs.Common.{None, Ok, refl, arith, ap, ◌∙◌, sym, subst}
use Rattle.std.proofs.lemmas.List.{append-nil}
use Rattle.timing_base.specs.Shifts.{Shift, shifted}
use Rattle.frame_group.specs.declared.grouper.Grouper.{Grouper}
use Rattle.timing_base.specs.Flows.{cuts, first_fault_below, has_marker, is_cut, last_place, markers, packet, read_or_zeros}
use Rattle.timing_base.specs.Grouped.{IsSized}
use Rattle.timing_base.specs.Judged.{run_outcome}
use Rattle.timing_base.specs.Media.{Media}
use Rattle.timing_base.specs.declared.packet.FlowPacket.{FlowPacket}
use Rattle.timing_base.specs.declared.packet.Rtp.{Rtp}
use Rattle.timing_base.specs.declared.row.Run.{Run}
use Rattle.timing_base.proofs.Places.{cuts-here, cuts-other, last_place-le, last_place-push}
use Rattle.run_meter.specs.Runs.{JudgedPart, stamps_of, told_of}
use Rattle.run_meter.specs.declared.run.RunHead.{RunHead}
use Rattle.run_meter.specs.declared.run.RunPacket.{RunPacket}
use Rattle.fail_interval.specs.Flowing.{CanGoOn, ComesNext, IsClosed, IsOpen, OpensAt, StandsFor, StartsAt}
use Rattle.fail_interval.specs.Metered.{EndsWhole, HaveStamps, HaveWhole, Heads, Standing, Telling, TellsNext, TellsOf, committed_next, fed_next}
use Rattle.fail_interval.specs.Parts.{judged_packets, judged_parts, part_by, part_between, parts_over}
use Rattle.fail_interval.specs.Runs.{CanGoOn as CanTake, StandsFor as RunStandsFor}
use Rattle.fail_interval.specs.SoFar.{SoFar, in_head, outcome_of, so_far_at, so_far_next}
use Rattle.fail_interval.specs.Telling.{FlowTells, Tells, TellsAt, TellsBy, TellsClosed, TellsOver, behind_first}
use Rattle.fail_interval.specs.declared.flow.Flow.{Flow}
use Rattle.fail_interval.specs.declared.flow.OpenRun.{OpenRun}
use Rattle.fail_interval.specs.declared.run.RunJudge.{RunJudge}
use Rattle.fail_interval.proofs.Feeding.{IsAnswered, can_take, comes, is_cut-there, not_cut, read_packet, onward, starts-case, with_parts}
use Rattle.fail_interval.proofs.Flows.{cut-answered, with_judge}
use Rattle.fail_interval.proofs.PartsTold.{behind-next, committed-next, ends-whole, have-stamps, have-whole, judged_parts-none}
use Rattle.fail_interval.proofs.PartsTold.{judged_parts-sound, open-is, parts_between-over, parts_over-push, sized-below}
use Rattle.fail_interval.proofs.Rows.{no_fault, opens, some-open}
use Rattle.fail_interval.proofs.Runs.{outcome-so_far, so_far_at-next, so_far_at-start}
use Rattle.fail_interval.proofs.Told.{told-same}

-- a packet is told by what was read of it
told-is : (packets : List FlowPacket) (shift : Shift) (i : ℕ) (told : RunPacket) (seen : Rtp) → ComesNext packets shift i told.rec told.at seen
    → told.timestamp ≡ seen.timestamp
    → told ≡ told_of shift (packet packets i)
told-is packets shift i told seen next timestamp =
    told-same _ _ _ _ _ _ (sym next.rec) (sym next.stamp) (timestamp ∙ sym (ap (λ r. (read_or_zeros r).timestamp) next.reading))

-- what is told of the open run, by its place in the flow
of-by : {M Out Past : Type 0} (stands : Standing M) (tells : Telling Past Out) (past : Past) (m : Media) (shift : Shift) (packets : List FlowPacket)
    (places : List ℕ)
    (n number : ℕ) (so_far : SoFar) (open_run : OpenRun M) (out : Out)
    → n ≤ length packets → number ≡ length places + 1
    → so_far ≡ so_far_at packets shift (last_place (0 ∷ places)) n
    → RunStandsFor m open_run.judge so_far
    → TellsBy stands tells past m shift packets places n open_run out
    → TellsOf stands tells past m shift number (packet packets (last_place (0 ∷ places))) (parts_over m packets shift 1 0 places) open_run.judge out
    (behind_first packets n (markers packets (last_place (0 ∷ places)) n)) (judged_packets packets (last_place (0 ∷ places)) n)
of-by stands tells past m shift packets places n number so_far open_run out within count is s t =
    let from = last_place (0 ∷ places) in
    subst (λ k. TellsOf stands tells past m shift k (packet packets from) (parts_over m packets shift 1 0 places) open_run.judge out
    (behind_first packets n (markers packets from n)) (judged_packets packets from n)) (sym count) record {
      told = t.told;
      out_tells = subst (tells past out m shift (parts_over m packets shift 1 0 places))
          (sym (open-is m packets shift places n open_run.judge so_far within is s)) t.out_tells;
    }

by-of : {M Out Past : Type 0} (stands : Standing M) (tells : Telling Past Out) (past : Past) (m : Media) (shift : Shift) (packets : List FlowPacket)
    (places : List ℕ)
    (n number : ℕ) (so_far : SoFar) (open_run : OpenRun M) (out : Out) (fed committed : List FlowPacket)
    → n ≤ length packets → number ≡ length places + 1
    → so_far ≡ so_far_at packets shift (last_place (0 ∷ places)) n
    → RunStandsFor m open_run.judge so_far
    → behind_first packets n (markers packets (last_place (0 ∷ places)) n) ≡ fed
    → judged_packets packets (last_place (0 ∷ places)) n ≡ committed
    → TellsOf stands tells past m shift number (packet packets (last_place (0 ∷ places)))
    (parts_over m packets shift 1 0 places) open_run.judge out fed committed
    → TellsBy stands tells past m shift packets places n open_run out
by-of stands tells past m shift packets places n number so_far open_run out fed committed within count is s fed_is committed_is t =
    let from = last_place (0 ∷ places) in
    let first = packet packets from in
    let over = parts_over m packets shift 1 0 places in
    let now : TellsOf stands tells past m shift (length places + 1) first over open_run.judge out (behind_first packets n (markers packets from n))
    (judged_packets packets from n) =
    subst (λ xs. TellsOf stands tells past m shift (length places + 1) first over open_run.judge out xs (judged_packets packets from n)) (sym fed_is)
    (subst (λ xs. TellsOf stands tells past m shift (length places + 1) first over open_run.judge out fed xs) (sym committed_is)
    (subst (λ k. TellsOf stands tells past m shift k first over open_run.judge out fed committed) count t)) in
    record {
      told = now.told;
      out_tells = subst (tells past out m shift over) (open-is m packets shift places n open_run.judge so_far within is s) now.out_tells;
    }

-- a call that took a packet, and had the memory
abbrev pub Taken : {M Out Past : Type 0} → Standing M → Telling Past Out → Media → (old new : RunJudge M) → (before after : Out) → RunHead → RunPacket → Bool
    → Type 0
Taken {M} {Out} {Past} stands tells m old new before after head told marker =
    TellsNext {M = M} {Out = Out} {Past = Past} {T = Unit {0}} {E = Unit {0}} stands tells m old new before after head told marker (Ok tt)

marker-is : (packets : List FlowPacket) (shift : Shift) (i rec_number at : ℕ) (seen : Rtp) → ComesNext packets shift i rec_number at seen
    → has_marker packets i ≡ seen.marker
marker-is packets shift i rec_number at seen next = ap (λ r. (read_or_zeros r).marker) next.reading

-- what a run has come to, one packet on
more-is : (packets : List FlowPacket) (shift : Shift) (from i rec_number at : ℕ) (seen : Rtp) → ComesNext packets shift i rec_number at seen → from ≤ i
    → so_far_next (so_far_at packets shift from i) at seen.marker ≡ so_far_at packets shift from (i + 1)
more-is packets shift from i rec_number at seen next order =
    sym (so_far_at-next packets shift from i order next.within
    ∙ (ap (λ t. so_far_next (so_far_at packets shift from i) t (has_marker packets i)) next.stamp
    ∙ ap (so_far_next (so_far_at packets shift from i) at) (marker-is packets shift i rec_number at seen next)))

-- the open run goes on with packet i
pub goes_on-told : {M Out Past : Type 0} (stands : Standing M) (tells : Telling Past Out) (past : Past) (m : Media) (packets : List FlowPacket) (shift : Shift)
    (i : ℕ)
    (seen : Rtp) (so_far : SoFar) (done : List Run) (open_run : OpenRun M) (judge : RunJudge M) (head : RunHead) (told : RunPacket) (before after : Out)
    → ComesNext packets shift i told.rec told.at seen → told.timestamp ≡ seen.timestamp
    → is_cut packets i ≡ false
    → IsSized (i + 1) (markers packets (last_place (0 ∷ cuts packets (i + 1))) (i + 1))
    → head.run ≡ length done + 1 → head.rec ≡ open_run.rec → head.number ≡ open_run.number
    → IsOpen m shift packets i (cuts packets i) so_far done open_run
    → CanTake m open_run.judge so_far told.at seen.marker
    → RunStandsFor m judge (so_far_next so_far told.at seen.marker)
    → Taken stands tells m open_run.judge judge before after head told seen.marker
    → TellsBy stands tells past m shift packets (cuts packets i) i open_run before
    → TellsBy stands tells past m shift packets (cuts packets (i + 1)) (i + 1) (with_judge open_run judge) after
goes_on-told stands tells past m packets shift i seen so_far done open_run judge head told before after next timestamp no_cut sized run rec number o can stood
    takes t =
    let places = cuts packets i in
    let from = last_place (0 ∷ places) in
    let p = packet packets i in
    let first = packet packets from in
    let over = parts_over m packets shift 1 0 places in
    let order : from ≤ i = last_place-le (is_cut packets) i in
    let few : i < length packets = next.within in
    let count : head.run ≡ length places + 1 = omega (arith, run, o.count) in
    let marked = marker-is packets shift i told.rec told.at seen next in
    let same : cuts packets (i + 1) ≡ places = cuts-other packets i no_cut in
    let fed = behind_first packets i (markers packets from i) in
    let committed = judged_packets packets from i in
    let was = of-by stands tells past m shift packets places i head.run so_far open_run before (omega (arith, few)) count o.so_far_is o.judge t in
    let sized_here : IsSized (i + 1) (markers packets from (i + 1)) = subst (λ xs. IsSized (i + 1) (markers packets (last_place (0 ∷ xs)) (i + 1))) same
    sized in
    let stamps = subst (λ s. HaveStamps s (stamps_of shift fed)) (sym o.so_far_is) (have-stamps packets shift from i) in
    let whole = subst (λ s. EndsWhole s seen.marker (fed ++ p ∷ [])) (sym o.so_far_is)
    (subst (λ b. EndsWhole (so_far_at packets shift from i) b (fed ++ p ∷ [])) marked (ends-whole packets shift from i order few sized_here)) in
    let heads : Heads first head = record { rec = rec ∙ o.rec; number = number ∙ o.number } in
    let now = takes past shift first p over so_far fed committed can (told-is packets shift i told seen next timestamp) heads stamps whole was in
    let fed_is : behind_first packets (i + 1) (markers packets from (i + 1)) ≡ fed_next so_far fed p =
    behind-next packets shift from i order few ∙ ap (λ s. fed_next s fed p) (sym o.so_far_is) in
    let committed_is : judged_packets packets from (i + 1) ≡ committed_next so_far seen.marker fed committed p =
    committed-next packets shift from i order few
    ∙ (ap (λ b. committed_next (so_far_at packets shift from i) b fed committed p) marked ∙ ap (λ s. committed_next s seen.marker fed committed p)
    (sym o.so_far_is)) in
    let is : so_far_next so_far told.at seen.marker ≡ so_far_at packets shift from (i + 1) =
    ap (λ s. so_far_next s told.at seen.marker) o.so_far_is ∙ more-is packets shift from i told.rec told.at seen next order in
    subst (λ xs. TellsBy stands tells past m shift packets xs (i + 1) (with_judge open_run judge) after) (sym same)
    (by-of stands tells past m shift packets places (i + 1) head.run (so_far_next so_far told.at seen.marker) (with_judge open_run judge) after
    (fed_next so_far fed p) (committed_next so_far seen.marker fed committed p) (omega (arith, few)) count is stood fed_is committed_is now)

-- the flow goes on with the packet
pub goes_on-tells : {M Out Past : Type 0} (stands : Standing M) (tells : Telling Past Out) (past : Past) (flow : Flow M) (packets : List FlowPacket)
    (rec_number at stamp timestamp : ℕ) (seen : Rtp) (cut : Option ℕ) (open_run : OpenRun M) (judge : RunJudge M) (head : RunHead) (before after : Out)
    → stamp ≡ shifted flow.shift at → flow.open ≡ Some open_run → cut ≡ None
    → IsAnswered packets (read_packet rec_number at seen) flow.media.pt cut
    → timestamp ≡ seen.timestamp
    → head.run ≡ length flow.done.items + 1 → head.rec ≡ open_run.rec → head.number ≡ open_run.number
    → ((so_far : SoFar) → CanTake flow.media open_run.judge so_far stamp seen.marker
    → RunStandsFor flow.media judge (so_far_next so_far stamp seen.marker))
    → Taken stands tells flow.media open_run.judge judge before after head
    (record { rec = rec_number; at = stamp; timestamp = timestamp }) seen.marker
    → CanGoOn flow packets at
    → FlowTells stands tells past flow packets before
    → Tells stands tells past flow.media flow.shift (packets ++ read_packet rec_number at seen ∷ []) (Some (with_judge open_run judge)) after
goes_on-tells stands tells past flow packets rec_number at stamp timestamp seen cut open_run judge head before after timed e none answer stamped run rec number
    fed takes c t =
    let p = read_packet rec_number at seen in
    let i = length packets in
    let m = flow.media in
    let told : RunPacket = record { rec = rec_number; at = stamp; timestamp = timestamp } in
    let can = can_take flow packets rec_number at stamp seen cut open_run timed c e none answer in
    onward (λ all n. TellsAt stands tells past m flow.shift all n (Some (with_judge open_run judge)) after) packets p
    (λ rest.
    let all = packets ++ p ∷ rest in
    let o : IsOpen m flow.shift all i (cuts all i) c.stands.so_far flow.done.items open_run =
    subst (λ x. OpensAt m flow.shift all i c.stands.so_far flow.done.items x) e (c.stands.runs (p ∷ rest)) in
    let was : TellsBy stands tells past m flow.shift all (cuts all i) i open_run before =
    subst (λ x. TellsAt stands tells past m flow.shift all i x before) e (t (p ∷ rest)) in
    let sound = (cut-answered all m.pt i cut (answer rest)).0 in
    goes_on-told stands tells past m all flow.shift i seen c.stands.so_far flow.done.items open_run judge head told before after
    (comes packets rest flow.shift rec_number at stamp seen timed) stamped (not_cut packets rest p m.pt cut answer none)
    (sized-below all m.pt (i + 1) (i + 1) sound (omega arith)) run rec number o can (fed c.stands.so_far can) takes was)

-- what a run that starts with packet i has come to
fresh-is : (packets : List FlowPacket) (shift : Shift) (i rec_number at : ℕ) (seen : Rtp) → ComesNext packets shift i rec_number at seen
    → so_far_next (in_head 0) at seen.marker ≡ so_far_at packets shift i (i + 1)
fresh-is packets shift i rec_number at seen next =
    ap (λ so_far. so_far_next so_far at seen.marker) (sym (so_far_at-start packets shift i)) ∙ more-is packets shift i i rec_number at seen next (omega arith)

-- the run starts with packet i
starts-told : {M Out Past : Type 0} (stands : Standing M) (tells : Telling Past Out) (past : Past) (m : Media) (packets : List FlowPacket) (shift : Shift)
    (i : ℕ)
    (seen : Rtp)
    (places : List ℕ) (run : OpenRun M) (head : RunHead) (told : RunPacket) (mid after : Out)
    → ComesNext packets shift i told.rec told.at seen → told.timestamp ≡ seen.timestamp
    → last_place (0 ∷ places) ≡ i
    → head.run ≡ length places + 1 → head.rec ≡ told.rec → head.number ≡ seen.number
    → RunStandsFor m run.judge (so_far_next (in_head 0) told.at seen.marker)
    → ((first : FlowPacket) (over : List JudgedPart) → told ≡ told_of shift first → Heads first head → tells past mid m shift over None
    → TellsOf stands tells past m shift head.run first over run.judge after [] [])
    → tells past mid m shift (parts_over m packets shift 1 0 places) None
    → TellsBy stands tells past m shift packets places (i + 1) run after
starts-told stands tells past m packets shift i seen places run head told mid after next timestamp start count rec number stood begun telling =
    let p = packet packets i in
    let few : i < length packets = next.within in
    let heads : Heads p head = record {
      rec = rec ∙ sym next.rec;
      number = number ∙ sym (ap (λ r. (read_or_zeros r).number) next.reading);
    } in
    let now = begun (packet packets (last_place (0 ∷ places))) (parts_over m packets shift 1 0 places)
    (told-is packets shift i told seen next timestamp ∙ ap (λ k. told_of shift (packet packets k)) (sym start))
    (subst (λ k. Heads (packet packets k) head) (sym start) heads) telling in
    let is : so_far_next (in_head 0) told.at seen.marker ≡ so_far_at packets shift (last_place (0 ∷ places)) (i + 1) =
    fresh-is packets shift i told.rec told.at seen next ∙ ap (λ k. so_far_at packets shift k (i + 1)) (sym start) in
    let fed_is : behind_first packets (i + 1) (markers packets (last_place (0 ∷ places)) (i + 1)) ≡ [] =
    ap (λ k. behind_first packets (i + 1) (markers packets k (i + 1))) start
    ∙ (behind-next packets shift i i (omega arith) few
    ∙ ap (λ s. fed_next s (behind_first packets i (markers packets i i)) p) (so_far_at-start packets shift i)) in
    let committed_is : judged_packets packets (last_place (0 ∷ places)) (i + 1) ≡ [] =
    ap (λ k. judged_packets packets k (i + 1)) start
    ∙ (committed-next packets shift i i (omega arith) few
    ∙ ap (λ s. committed_next s (has_marker packets i) (behind_first packets i (markers packets i i)) (judged_packets packets i i) p)
    (so_far_at-start packets shift i)) in
    by-of stands tells past m shift packets places (i + 1) head.run (so_far_next (in_head 0) told.at seen.marker) run after [] [] (omega (arith, few)) count is
    stood
    fed_is committed_is now

-- the open run is over
over-told : {M Out Past : Type 0} (stands : Standing M) (tells : Telling Past Out) (past : Past) (m : Media) (packets : List FlowPacket) (shift : Shift)
    (i pt : ℕ)
    (places : List ℕ) (so_far : SoFar) (done : List Run) (open_run : OpenRun M) (before mid : Out)
    → i ≤ length packets
    → IsSized i (markers packets (last_place (0 ∷ places)) i)
    → IsOpen m shift packets i places so_far done open_run
    → TellsOver stands tells open_run before mid
    → TellsBy stands tells past m shift packets places i open_run before
    → tells past mid m shift
    (parts_over m packets shift 1 0 places ++ part_between m packets shift (length places + 1) (last_place (0 ∷ places)) i) None
over-told stands tells past m packets shift i pt places so_far done open_run before mid within sized o closes t =
    let from = last_place (0 ∷ places) in
    let over = parts_over m packets shift 1 0 places in
    let was = of-by stands tells past m shift packets places i (length places + 1) so_far open_run before within refl o.so_far_is o.judge t in
    let whole = subst (λ s. HaveWhole shift s (judged_packets packets from i)) (sym o.so_far_is) (have-whole packets shift from i within sized) in
    let outcome : outcome_of so_far ≡ run_outcome packets shift from i = ap outcome_of o.so_far_is ∙ sym (outcome-so_far packets shift from i within) in
    subst (λ x. tells past mid m shift (over ++ part_by m (length places + 1) (packet packets from) (judged_packets packets from i) x) None) outcome
    (closes past m shift (length places + 1) (packet packets from) over so_far _ _ o.judge whole was)

-- what starts with packet i
pub begins-told : {M Out Past : Type 0} (stands : Standing M) (tells : Telling Past Out) (past : Past) (m : Media) (packets : List FlowPacket) (shift : Shift)
    (i pt : ℕ)
    (seen : Rtp) (so_far : SoFar) (done new : List Run) (open_run : Option (OpenRun M)) (run : OpenRun M) (head : RunHead) (told : RunPacket)
    (before mid after : Out)
    → ComesNext packets shift i told.rec told.at seen → told.timestamp ≡ seen.timestamp
    → StartsAt packets i open_run
    → OpensAt m shift packets i so_far done open_run
    → first_fault_below packets pt i ≡ None
    → head.run ≡ length new + 1 → head.rec ≡ told.rec → head.number ≡ seen.number
    → IsClosed m done open_run new
    → TellsClosed stands tells open_run before mid
    → RunStandsFor m run.judge (so_far_next (in_head 0) told.at seen.marker)
    → ((first : FlowPacket) (over : List JudgedPart) → told ≡ told_of shift first → Heads first head → tells past mid m shift over None
    → TellsOf stands tells past m shift head.run first over run.judge after [] [])
    → TellsAt stands tells past m shift packets i open_run before
    → TellsAt stands tells past m shift packets (i + 1) (Some run) after
begins-told stands tells past m packets shift (suc i) pt seen so_far done new None run head told before mid after next timestamp starts o sound count rec
    number closed
    closes stood begun t = absurd (omega (arith, o.0))
begins-told stands tells past m packets shift zero pt seen so_far done new None run head told before mid after next timestamp starts o sound count rec number
    closed
    closes stood begun t =
    let none : length new ≡ 0 = ap length (closed ∙ o.1) in
    subst (λ places. TellsBy stands tells past m shift packets places 1 run after) (sym (cuts-other packets 0 refl))
    (starts-told stands tells past m packets shift 0 seen [] run head told mid after next timestamp refl (omega (arith, count, none)) rec number stood begun
    (subst (λ out. tells past out m shift [] None) (sym closes) t))
begins-told stands tells past m packets shift i pt seen so_far done new (Some open_run) run head told before mid after next timestamp starts o sound count rec
    number closed
    closes stood begun t =
    let places = cuts packets i in
    let few : i < length packets = next.within in
    let same : cuts packets (i + 1) ≡ places ++ i ∷ [] = cuts-here packets i starts in
    let long : length new ≡ length done + 1 = ap length (closed so_far o.judge) ∙ length-append done _ in
    let telling = over-told stands tells past m packets shift i pt places so_far done open_run before mid (omega (arith, few))
    (sized-below packets pt i i sound (omega arith)) o closes t in
    subst (λ xs. TellsBy stands tells past m shift packets xs (i + 1) run after) (sym same)
    (starts-told stands tells past m packets shift i seen (places ++ i ∷ []) run head told mid after next timestamp (last_place-push (0 ∷ places) i)
    (omega (arith, count, long, o.count, length-append places (i ∷ []))) rec number stood begun
    (subst (λ parts. tells past mid m shift parts None) (sym (parts_over-push m packets shift 1 0 i places)) telling))

-- where the media and the shift are known by equations
pub begins-told-as : {M Out Past : Type 0} (stands : Standing M) (tells : Telling Past Out) (past : Past) (m more_m : Media) (packets : List FlowPacket)
    (shift more_shift : Shift) (i pt : ℕ) (seen : Rtp) (marker : Bool) (so_far : SoFar) (done new : List Run) (open_run : Option (OpenRun M)) (run : OpenRun M)
    (head : RunHead)
    (told : RunPacket) (before mid after : Out)
    → more_m ≡ m → more_shift ≡ shift → marker ≡ seen.marker
    → ComesNext packets shift i told.rec told.at seen → told.timestamp ≡ seen.timestamp
    → StartsAt packets i open_run
    → OpensAt m shift packets i so_far done open_run
    → first_fault_below packets pt i ≡ None
    → head.run ≡ length new + 1 → head.rec ≡ told.rec → head.number ≡ seen.number
    → IsClosed m done open_run new
    → TellsClosed stands tells open_run before mid
    → RunStandsFor more_m run.judge (so_far_next (in_head 0) told.at marker)
    → ((past : Past) (shift : Shift) (first : FlowPacket) (over : List JudgedPart) → told ≡ told_of shift first → Heads first head
    → tells past mid more_m shift over None
    → TellsOf stands tells past more_m shift head.run first over run.judge after [] [])
    → TellsAt stands tells past m shift packets i open_run before
    → TellsAt stands tells past more_m more_shift packets (i + 1) (Some run) after
begins-told-as stands tells past m more_m packets shift more_shift i pt seen marker so_far done new open_run run head told before mid after e f marked next
    timestamp starts o
    sound count rec number closed closes stood begun t =
    let stood_so = subst (λ k. RunStandsFor k run.judge (so_far_next (in_head 0) told.at seen.marker)) e
    (subst (λ b. RunStandsFor more_m run.judge (so_far_next (in_head 0) told.at b)) marked stood) in
    subst (λ k. TellsAt stands tells past k more_shift packets (i + 1) (Some run) after) (sym e)
    (subst (λ s. TellsAt stands tells past m s packets (i + 1) (Some run) after) (sym f)
    (begins-told stands tells past m packets shift i pt seen so_far done new open_run run head told before mid after next timestamp starts o sound count rec
    number closed
    closes stood_so
    (λ first over is heads telling.
    subst (λ k. TellsOf stands tells past k shift head.run first over run.judge after [] []) e
    (begun past shift first over is heads (subst (λ k. tells past mid k shift over None) (sym e) telling))) t))

-- a call of `begin` on this flow, with the next packet
abbrev pub BegunTold : {M Out Past : Type 0} → Standing M → Telling Past Out → Flow M → Flow M → (before after : Out) → (rec_number stamp : ℕ) → Rtp → Type 0
BegunTold {Past = Past} stands tells flow new before after rec_number stamp seen =
    (past : Past) (all : List FlowPacket) (i : ℕ) (so_far : SoFar) → ComesNext all flow.shift i rec_number stamp seen
    → StartsAt all i flow.open
    → OpensAt flow.media flow.shift all i so_far flow.done.items flow.open
    → first_fault_below all flow.media.pt i ≡ None
    → TellsAt stands tells past flow.media flow.shift all i flow.open before
    → TellsAt stands tells past new.media new.shift all (i + 1) new.open after

begins-from : {M Out Past : Type 0} (stands : Standing M) (tells : Telling Past Out) (past : Past) (flow new : Flow M) (packets : List FlowPacket)
    (rec_number at stamp : ℕ) (seen : Rtp) (cut : Option ℕ) (before after : Out)
    → stamp ≡ shifted flow.shift at
    → ((run : OpenRun M) → flow.open ≡ Some run → (n : ℕ) × (cut ≡ Some n))
    → IsAnswered packets (read_packet rec_number at seen) flow.media.pt cut
    → BegunTold stands tells flow new before after rec_number stamp seen
    → CanGoOn flow packets at
    → FlowTells stands tells past flow packets before
    → FlowTells stands tells past new (packets ++ read_packet rec_number at seen ∷ []) after
begins-from stands tells past flow new packets rec_number at stamp seen cut before after timed opens_so answer begun c t =
    let p = read_packet rec_number at seen in
    onward (λ all n. TellsAt stands tells past new.media new.shift all n new.open after) packets p
    (λ rest.
    begun past (packets ++ p ∷ rest) (length packets) c.stands.so_far (comes packets rest flow.shift rec_number at stamp seen timed)
    (starts-case (packets ++ p ∷ rest) (length packets) flow.open
    (λ run e. let there = opens_so run e in is_cut-there packets rest p flow.media.pt there.0 cut answer there.1))
    (c.stands.runs (p ∷ rest)) (c.stands.sound (p ∷ rest)) (t (p ∷ rest)))

-- a run begins with a packet that the grouper took
pub begins-tells : {M Out Past : Type 0} (stands : Standing M) (tells : Telling Past Out) (past : Past) (flow between new : Flow M) (packets : List FlowPacket)
    (rec_number at stamp : ℕ) (seen : Rtp) (cut : Option ℕ) (grouper : Grouper) (before after : Out)
    → stamp ≡ shifted flow.shift at
    → between ≡ with_parts flow grouper flow.open
    → ((run : OpenRun M) → flow.open ≡ Some run → (n : ℕ) × (cut ≡ Some n))
    → IsAnswered packets (read_packet rec_number at seen) flow.media.pt cut
    → BegunTold stands tells between new before after rec_number stamp seen
    → CanGoOn flow packets at
    → FlowTells stands tells past flow packets before
    → FlowTells stands tells past new (packets ++ read_packet rec_number at seen ∷ []) after
begins-tells stands tells past flow between new packets rec_number at stamp seen cut grouper before after timed is opens_so answer begun c t =
    begins-from stands tells past flow new packets rec_number at stamp seen cut before after timed opens_so answer
    (subst (λ (f : Flow _). BegunTold stands tells f new before after rec_number stamp seen) is begun) c t

-- what is told of packets that nothing follows
pub now-told : {M Out Past : Type 0} (stands : Standing M) (tells : Telling Past Out) (past : Past) (flow : Flow M) (packets : List FlowPacket) (out : Out)
    → FlowTells stands tells past flow packets out
    → TellsAt stands tells past flow.media flow.shift packets (length packets) flow.open out
now-told stands tells past flow packets out t =
    subst (λ (all : List FlowPacket). TellsAt stands tells past flow.media flow.shift all (length packets) flow.open out) (append-nil packets) (t [])

-- a flow that ends without a packet
pub absent-tells : {M Out Past : Type 0} (stands : Standing M) (tells : Telling Past Out) (past : Past) (flow : Flow M) (packets : List FlowPacket) (out : Out)
    → flow.open ≡ None → StandsFor flow packets
    → FlowTells stands tells past flow packets out
    → tells past out flow.media flow.shift (judged_parts flow.media packets flow.shift) None
absent-tells {M} stands tells past flow packets out e s t =
    let o : OpensAt {M = M} flow.media flow.shift packets (length packets) s.so_far flow.done.items None =
    subst (OpensAt flow.media flow.shift packets (length packets) s.so_far flow.done.items) e (opens flow packets s) in
    let telling : tells past out flow.media flow.shift [] None =
    subst (λ x. TellsAt stands tells past flow.media flow.shift packets (length packets) x out) e (now-told stands tells past flow packets out t) in
    subst (λ parts. tells past out flow.media flow.shift parts None) (sym (judged_parts-none flow.media packets flow.shift o.0)) telling

-- a flow that ends with its open run
pub over-tells : {M Out Past : Type 0} (stands : Standing M) (tells : Telling Past Out) (past : Past) (flow : Flow M) (packets : List FlowPacket)
    (open_run : OpenRun M) (before after : Out)
    → flow.open ≡ Some open_run
    → TellsOver stands tells open_run before after
    → StandsFor flow packets
    → FlowTells stands tells past flow packets before
    → tells past after flow.media flow.shift (judged_parts flow.media packets flow.shift) None
over-tells stands tells past flow packets open_run before after e closes s t =
    let m = flow.media in
    let n = length packets in
    let places = cuts packets n in
    let o = some-open flow packets open_run e s in
    let sound = no_fault flow packets s in
    let was : TellsBy stands tells past m flow.shift packets places n open_run before =
    subst (λ x. TellsAt stands tells past m flow.shift packets n x before) e (now-told stands tells past flow packets before t) in
    subst (λ parts. tells past after m flow.shift parts None)
    (sym (judged_parts-sound m packets flow.shift o.some sound ∙ parts_between-over m packets flow.shift n 1 0 places))
    (over-told stands tells past m packets flow.shift n m.pt places s.so_far flow.done.items open_run before after (omega arith)
    (sized-below packets m.pt n n sound (omega arith)) o closes was)
