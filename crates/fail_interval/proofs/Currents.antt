-- The run that hasn't ended, and the reason why a flow isn't judged, by the state of a judge.
use Rattle.std.proofs.Common.{◌≡◌, ◌<◌, ◌+◌, ℕ, Bool, List, [], ◌∷◌, ◌++◌, length, Option, Some, None, refl, ap, ◌∙◌, sym, subst, arith, append-nil}
use Rattle.std.proofs.lemmas.Bool.{le-leb, ne_eqb}
use Rattle.std.specs.Prelude.{◌==◌, false, if◌then◌else◌, is_some, nat_le, option_map}
use Rattle.timing_base.specs.Flows.{FirstFault, cuts, first_fault, first_fault_below, last_place, packet}
use Rattle.timing_base.specs.Media.{Media}
use Rattle.timing_base.specs.Shifts.{Shift}
use Rattle.timing_base.specs.declared.packet.FlowPacket.{FlowPacket}
use Rattle.timing_base.specs.declared.packet.PacketFault.{PacketFault}
use Rattle.timing_base.specs.declared.row.Unjudged.{Unjudged}
use Rattle.fail_interval.specs.Current.{last_run, open_run_of, refusal_of, run_from, unjudged_by}
use Rattle.fail_interval.specs.Flowing.{IsOpen, OpensAt, StandsFor}
use Rattle.fail_interval.specs.Runs.{StandsFor as RunStandsFor, has_groups}
use Rattle.fail_interval.specs.SoFar.{so_far_by}
use Rattle.fail_interval.specs.States.{IsAt, IsRefused}
use Rattle.fail_interval.specs.declared.judge.State.{State}
use Rattle.fail_interval.specs.declared.judge.State.TheVariants.{Going, Refused, Spent}
use Rattle.fail_interval.specs.declared.current.RunSoFar.{RunSoFar}
use Rattle.fail_interval.specs.declared.flow.Flow.{Flow}
use Rattle.fail_interval.specs.declared.flow.OpenRun.{OpenRun}
use Rattle.fail_interval.specs.declared.run.RunJudge.{RunJudge}
use Rattle.fail_interval.specs.declared.run.RunJudge.TheVariants.{First, Groups, Head}

-- a run has a complete frame or field from its second marker on
whole-by : {M : Type 0} (m : Media) (judge : RunJudge M) (packets : List FlowPacket) (shift : Shift) (from to : ℕ) (marks : List ℕ)
    → RunStandsFor m judge (so_far_by packets shift from to marks) → has_groups judge ≡ nat_le 2 (length marks)
whole-by m (Head head) packets shift from to [] h = refl
whole-by m (Head head) packets shift from to (a ∷ []) h = absurd h
whole-by m (Head head) packets shift from to (a ∷ b ∷ rest) h = absurd h
whole-by m (First head group) packets shift from to [] h = absurd h
whole-by m (First head group) packets shift from to (a ∷ []) h = refl
whole-by m (First head group) packets shift from to (a ∷ b ∷ rest) h = absurd h
whole-by m (Groups judge) packets shift from to [] h = absurd h
whole-by m (Groups judge) packets shift from to (a ∷ []) h = absurd h
whole-by m (Groups judge) packets shift from to (a ∷ b ∷ rest) h = sym (le-leb 2 (length (a ∷ b ∷ rest)) (omega arith))

-- before the first packet there is no run
no-run : (packets : List FlowPacket) → length packets ≡ 0 → None ≡ last_run packets
no-run [] none = refl
no-run (p ∷ packets) none = absurd (omega (arith, none))

one-run : (packets : List FlowPacket) (run : RunSoFar) → 0 < length packets
    → run ≡ run_from packets (length (cuts packets (length packets)) + 1) (last_place (0 ∷ cuts packets (length packets)))
    → Some run ≡ last_run packets
one-run [] run some is = absurd (omega (arith, some))
one-run (p ∷ packets) run some is =
    let all = p ∷ packets in
    let places = cuts all (length all) in
    let differs : (length all == 0) ≡ false = ne_eqb (length all) 0 (λ none. omega (arith, none)) in
    ap Some is ∙ sym (ap (λ b. if b then None else Some (run_from all (length places + 1) (last_place (0 ∷ places)))) differs)

-- the open run, which has a complete frame or field or not
abbrev pub told_run_if : {M : Type 0} → (number : ℕ) → OpenRun M → (whole : Bool) → RunSoFar
told_run_if number open_run whole = record {
  run = number;
  rec = open_run.rec;
  number = open_run.number;
  expected = open_run.expected;
  whole = whole;
}

abbrev pub told_run : {M : Type 0} → (number : ℕ) → OpenRun M → RunSoFar
told_run number open_run = told_run_if number open_run (has_groups open_run.judge)

-- of a flow that was fed these packets
pub no-open : {M : Type 0} (flow : Flow M) (packets : List FlowPacket) → StandsFor flow packets → flow.open ≡ None → None ≡ last_run packets
no-open {M} flow packets h none =
    let runs = subst (OpensAt flow.media flow.shift (packets ++ []) (length packets) h.so_far flow.done.items) none (h.runs []) in
    no-run packets runs.0

pub one-open : {M : Type 0} (flow : Flow M) (packets : List FlowPacket) (open_run : OpenRun M) (number : ℕ) → StandsFor flow packets
    → flow.open ≡ Some open_run → number ≡ length flow.done.items + 1 → Some (told_run number open_run) ≡ last_run packets
one-open {M} flow packets open_run number h some count =
    let places = cuts packets (length packets) in
    let from = last_place (0 ∷ places) in
    let all = subst (OpensAt flow.media flow.shift (packets ++ []) (length packets) h.so_far flow.done.items) some (h.runs []) in
    let is : IsOpen flow.media flow.shift packets (length packets) places h.so_far flow.done.items open_run =
    subst (λ l. IsOpen flow.media flow.shift l (length packets) (cuts l (length packets)) h.so_far flow.done.items open_run) (append-nil packets) all in
    let run : number ≡ length places + 1 = count ∙ ap (λ k. k + 1) is.count in
    let whole = whole-by flow.media open_run.judge packets flow.shift from (length packets) _ (subst (RunStandsFor flow.media open_run.judge) is.so_far_is
    is.judge) in
    one-run packets (told_run number open_run) is.some
    (λ i. record { run = run i; rec = is.rec i; number = is.number i; expected = is.expected i; whole = whole i })

-- ---- faults

-- no packet has a fault
sound-all : {M : Type 0} (flow : Flow M) (packets : List FlowPacket) (m : Media) → flow.media ≡ m → StandsFor flow packets → first_fault packets m.pt ≡ None
sound-all {M} flow packets m same h =
    subst (λ (v : Media). first_fault packets v.pt ≡ None) same
    (subst (λ l. first_fault_below l flow.media.pt (length packets) ≡ None) (append-nil packets) (h.sound []))

pub open-going : {M : Type 0} (flow : Flow M) (packets : List FlowPacket) (m : Media) → flow.media ≡ m → StandsFor flow packets
    → last_run packets ≡ open_run_of packets m.pt
open-going flow packets m same h = sym (ap (λ (o : Option FirstFault). if is_some o then None else last_run packets) (sound-all flow packets m same h))

-- why the flow isn't judged, if a packet has this fault
abbrev reason_of : List FlowPacket → Option FirstFault → Option Unjudged
reason_of packets o = option_map (λ (first : FirstFault). unjudged_by (packet packets first.index).rec first.fault) o

pub no-reason : {M : Type 0} (flow : Flow M) (packets : List FlowPacket) (m : Media) → flow.media ≡ m → StandsFor flow packets → None ≡ refusal_of packets m.pt
no-reason flow packets m same h = sym (ap (reason_of packets) (sound-all flow packets m same h))

-- a packet has a fault
refused-at : (m : Media) (packets : List FlowPacket) (rec : ℕ) (why : PacketFault) (h : IsRefused m packets rec why)
    → first_fault packets m.pt ≡ Some (record { index = h.index; fault = why })
refused-at m packets rec why h =
    subst (λ l. first_fault_below l m.pt (length packets) ≡ Some (record { index = h.index; fault = why })) (append-nil packets) (h.first [])

pub no-open-refused : (m : Media) (packets : List FlowPacket) (rec : ℕ) (why : PacketFault) → IsRefused m packets rec why → None ≡ open_run_of packets m.pt
no-open-refused m packets rec why h =
    sym (ap (λ (o : Option FirstFault). if is_some o then None else last_run packets) (refused-at m packets rec why h))

pub one-reason : (m : Media) (packets : List FlowPacket) (rec : ℕ) (why : PacketFault) → IsRefused m packets rec why
    → Some (unjudged_by rec why) ≡ refusal_of packets m.pt
one-reason m packets rec why h =
    let there : (packet packets h.index).rec ≡ rec = subst (λ l. (packet l h.index).rec ≡ rec) (append-nil packets) (h.rec_is []) in
    ap (λ (k : ℕ). Some (unjudged_by k why)) (sym there) ∙ sym (ap (reason_of packets) (refused-at m packets rec why h))

-- ---- by the state of a judge

-- the flow was refused, or memory ran out
pub default-open : {M : Type 0} (m : Media) (shift : Shift) (packets : List FlowPacket) (state : State M) → ((flow : Flow M) → state ≡ Going flow → ⊥)
    → IsAt m shift packets state → None ≡ open_run_of packets m.pt
default-open m shift packets (Going flow) not h = absurd (not flow refl)
default-open m shift packets (Refused rec why) not h = no-open-refused m packets rec why h
default-open m shift packets Spent not h = absurd h

-- no packet has a fault, or memory ran out
pub default-reason : {M : Type 0} (m : Media) (shift : Shift) (packets : List FlowPacket) (state : State M)
    → ((rec : ℕ) (why : PacketFault) → state ≡ Refused rec why → ⊥) → IsAt m shift packets state → None ≡ refusal_of packets m.pt
default-reason m shift packets (Going flow) not h = no-reason flow packets m h.0 h.2
default-reason m shift packets (Refused rec why) not h = absurd (not rec why refl)
default-reason m shift packets Spent not h = absurd h
