-- Where no packet has a fault, judged_as_numbered runs are whole groups whose stamps never fall.
use Rattle.std.proofs.Common.{◌≡◌, ◌≤◌, ◌<◌, ◌+◌, ◌-◌, ◌*◌, ◌^◌, ℕ, zero, suc, Bool, true, false, List, [], ◌∷◌, ◌++◌, length, map, get_or, drop, min, Option}
use Rattle.std.proofs.Common.{Some, None, refl, arith, ap, ◌∙◌, sym, subst, add-one, length-append}
use Rattle.std.specs.Prelude.{All, IsSome, slice_index, slice_range, nat_lt, nat_le, ◌==◌, if◌then◌else◌, ◌&&◌}
use Rattle.std.specs.List.Sorted.{IsNonDecreasing, IsNonDecreasingBy}
use Rattle.std.proofs.lemmas.Grind.{common_steps}
use Rattle.std.proofs.lemmas.Bool.Decides.{nat_tests}
use Rattle.std.proofs.lemmas.List.{length-take, length-drop, length-map, get_or-map}
use Rattle.std.proofs.lemmas.List.Elements.{All-map, All-nil, All-cons, All-head, All-tail, All-push}
use Rattle.std.proofs.lemmas.List.Sorted.{IsNonDecreasingBy-take, IsNonDecreasingBy-drop, IsNonDecreasingBy-from_all_adjacent}
use Rattle.timing_base.specs.Judged.{absent, in_one_run, in_runs, JudgedRun, no_whole_frame, whole_frames, FlowRun, FlowVerdict, stamp_of, judged_run}
use Rattle.timing_base.specs.Judged.{run_outcome, head_len, run_at, runs_between, runs, judged_runs, refusal, refused_or, judged_as_numbered}
use Rattle.timing_base.specs.declared.packet.FlowPacket.{FlowPacket}
use Rattle.timing_base.specs.declared.packet.PacketFault.{PacketFault}
use Rattle.timing_base.specs.declared.packet.PacketFault.TheVariants.{Short, Version, PayloadType, SecondSource, Number, StampBack, NoMarker, SameStamp}
use Rattle.timing_base.specs.declared.packet.PacketFault.TheVariants.{FrameSize, FrameTooLarge}
use Rattle.timing_base.specs.Judged.{judged}
use Rattle.timing_base.specs.Numbered.{numbered}
use Rattle.timing_base.specs.Shifts.{Shift, IsShift, FlowOptions, AreFlowOptions}
use Rattle.timing_base.specs.Flows.{FirstFault}
use Rattle.timing_base.specs.Flows.{AreStamped, expected_number, packet, fault, first_fault, cuts, markers, last_place, group_len, is_cut, is_stamp_back}
use Rattle.timing_base.specs.Flows.{is_cut_too_many, order_fault, size_fault, sender_fault}
use Rattle.timing_base.specs.Grouped.{IsGrouped, IsGroupedOutcome, ExpectsAfterFirst, AreGrouped, IsGroupedVerdict}
use Rattle.timing_base.specs.Grouped.{IsSized, EachSized}
use Rattle.timing_base.proofs.FirstFaults.{no_fault-at}
use Rattle.timing_base.proofs.Numberings.{length-numbered, stamped-numbered}
use Rattle.timing_base.proofs.Places.{cuts-here, cuts-other}
use Rattle.timing_base.proofs.Between.{each_sized, one_sized, all_range, runs-cut, runs-other, start-cut, start-other}
use Rattle.timing_base.proofs.Sizes.{first-none, if-none}

-- a packet with no fault is not one cut too many, and does not go back
pub none-order : (packets : List FlowPacket) (pt i : ℕ) → fault packets pt i ≡ None
    → (is_cut_too_many 1024 packets i ≡ false) × (is_stamp_back packets i ≡ false)
none-order packets pt i e =
    let order = (first-none (order_fault 1024 packets i) (size_fault 262144 packets i) (first-none (sender_fault packets pt i) _ e).1).0 in
    let first = first-none _ _ order in
    let second = first-none _ _ first.1 in
    (if-none _ _ first.0, if-none _ _ second.0)

not_back : (i a b : ℕ) → (nat_lt 0 i && nat_lt a b) ≡ false → 0 < i → b ≤ a
not_back i a b e h = grind (arith, nat_tests)

adjacent : (packets : List FlowPacket) (pt k : ℕ) (d : FlowPacket) → first_fault packets pt ≡ None → k + 1 < length packets
    → (get_or packets k d).at ≤ (get_or packets (k + 1) d).at
adjacent packets pt k d e h =
    let none : fault packets pt (k + 1) ≡ None = no_fault-at packets pt (length packets) (k + 1) e h in
    let less : (k + 1) - 1 ≡ k = omega arith in
    let back : (packet packets ((k + 1) - 1)).at ≤ (packet packets (k + 1)).at =
    not_back (k + 1) (packet packets (k + 1)).at (packet packets ((k + 1) - 1)).at (none-order packets pt (k + 1) none).1 (omega arith) in
    let before : packet packets ((k + 1) - 1) ≡ get_or packets k d = ap (packet packets) less ∙ grind (arith, common_steps) in
    let here : packet packets (k + 1) ≡ get_or packets (k + 1) d = grind (arith, common_steps) in
    subst (λ (p : FlowPacket). p.at ≤ (get_or packets (k + 1) d).at) before (subst (λ (p : FlowPacket). (packet packets ((k + 1) - 1)).at ≤ p.at) here back)

-- the stamps of a flow with no fault never fall
pub stamps_rise : (packets : List FlowPacket) (pt : ℕ) → first_fault packets pt ≡ None → IsNonDecreasingBy (λ (p : FlowPacket). p.at) packets
stamps_rise packets pt e = IsNonDecreasingBy-from_all_adjacent (λ (p : FlowPacket). p.at) packets (λ k d h. adjacent packets pt k d e h)

rising-map : (shift : Shift) (packets : List FlowPacket) → IsNonDecreasingBy (λ (p : FlowPacket). p.at) packets → IsNonDecreasing (map (stamp_of shift) packets)
rising-map shift packets rise i j d h l =
    let p : FlowPacket = packet packets 0 in
    let within : j < length packets = omega (arith, l, length-map packets (stamp_of shift)) in
    let first : get_or (map (stamp_of shift) packets) i d ≡ stamp_of shift (get_or packets i p) = get_or-map (stamp_of shift) packets i p d (omega arith) in
    let later : get_or (map (stamp_of shift) packets) j d ≡ stamp_of shift (get_or packets j p) = get_or-map (stamp_of shift) packets j p d within in
    let order : (get_or packets i p).at ≤ (get_or packets j p).at = rise i j p h within in
    omega (arith, first, later, order)

early-all : (shift : Shift) (packets : List FlowPacket) → IsShift shift → AreStamped packets → All (λ at. at < 2 ^ 62) (map (stamp_of shift) packets)
early-all shift packets h all = All-map (λ at. at < 2 ^ 62) (stamp_of shift) packets (λ k d l. let early = all k d l in let most = h.tai_most in omega (arith, early, most))

-- a judged_as_numbered run of a flow with no fault
pub run-grouped : (packets : List FlowPacket) (shift : Shift) (from to : ℕ) → to ≤ length packets → length packets < 2 ^ 41 → IsShift shift → AreStamped packets
    → IsNonDecreasingBy (λ (p : FlowPacket). p.at) packets → IsSized to (markers packets from to) → 2 ≤ length (markers packets from to)
    → IsGrouped (judged_run packets shift from to)
run-grouped packets shift from to within few h all rise sized two =
    let marks = markers packets from to in
    let a = slice_index marks 0 + 1 in
    let b = last_place marks + 1 in
    let part = slice_range packets a b in
    let later : last_place marks < to = sized.later two in
    let whole : last_place marks ≡ slice_index marks 0 + group_len marks * (length marks - 1) = sized.whole two in
    let long : length part ≡ min (b - a) (length packets - a) = length-take (b - a) (drop a packets) ∙ ap (min (b - a)) (length-drop a packets) in
    let total : length part ≡ last_place marks - slice_index marks 0 = omega (arith, long, later, whole) in
    let mapped : length (map (stamp_of shift) part) ≡ length part = length-map part (stamp_of shift) in
    record {
      some = omega (arith, sized.some two);
      few = omega (arith, sized.few two);
      some_groups = omega (arith, two);
      whole = mapped ∙ omega (arith, total, whole);
      bounded = omega (arith, mapped, total, later, within, few);
      rising = rising-map shift part (IsNonDecreasingBy-take (λ (p : FlowPacket). p.at) (b - a) (drop a packets)
          (IsNonDecreasingBy-drop (λ (p : FlowPacket). p.at) a packets rise));
      early = early-all shift part h (all_range (λ (p : FlowPacket). p.at < 2 ^ 32 * 10 ^ 9) packets a b all);
    }

outcome-case : (b : Bool) (head : ℕ) (run : JudgedRun) → (b ≡ false → IsGrouped run) → IsGroupedOutcome (if b then no_whole_frame head else whole_frames run)
outcome-case true head run h = tt
outcome-case false head run h = h refl

not_few : (n : ℕ) → nat_lt n 2 ≡ false → 2 ≤ n
not_few n e = grind (arith, nat_tests)

-- a run of a flow with no fault
pub outcome-grouped : (packets : List FlowPacket) (shift : Shift) (from to : ℕ) → to ≤ length packets → length packets < 2 ^ 41 → IsShift shift → AreStamped packets
    → IsNonDecreasingBy (λ (p : FlowPacket). p.at) packets → IsSized to (markers packets from to) → IsGroupedOutcome (run_outcome packets shift from to)
outcome-grouped packets shift from to within few h all rise sized =
    outcome-case (nat_lt (length (markers packets from to)) 2) (head_len (markers packets from to) from to) (judged_run packets shift from to)
    (λ e. run-grouped packets shift from to within few h all rise sized (not_few _ e))

-- the runs before the last cut are grouped, and the last is what is left
record RunsTo (packets : List FlowPacket) (shift : Shift) (i : ℕ) : Type 0 where
  done : List FlowRun
  grouped : All (λ (run : FlowRun). IsGroupedOutcome run.outcome) done
  are : (to : ℕ) → runs_between packets shift to 0 (cuts packets i) ≡ done ++ run_at packets shift (last_place (0 ∷ cuts packets i)) to ∷ []

to-case : (packets : List FlowPacket) (shift : Shift) (i : ℕ) (b : Bool) → is_cut packets i ≡ b → RunsTo packets shift i
    → IsGroupedOutcome (run_outcome packets shift (last_place (0 ∷ cuts packets i)) i) → RunsTo packets shift (i + 1)
to-case packets shift i true e before last = record {
  done = before.done ++ run_at packets shift (last_place (0 ∷ cuts packets i)) i ∷ [];
  grouped = All-push (λ (run : FlowRun). IsGroupedOutcome run.outcome) before.done (run_at packets shift (last_place (0 ∷ cuts packets i)) i) before.grouped last;
  are = λ to. runs-cut packets shift i (last_place (0 ∷ cuts packets i)) before.done _ _ e refl refl before.are to
      ∙ ap (λ from. (before.done ++ run_at packets shift (last_place (0 ∷ cuts packets i)) i ∷ []) ++ run_at packets shift from to ∷ []) (start-cut packets i e);
}
to-case packets shift i false e before last = record {
  done = before.done;
  grouped = before.grouped;
  are = λ to. runs-other packets shift i (last_place (0 ∷ cuts packets i)) before.done e before.are to
      ∙ ap (λ from. before.done ++ run_at packets shift from to ∷ []) (start-other packets i e);
}

runs-to : (packets : List FlowPacket) (shift : Shift) → ((from to : ℕ) → to ≤ length packets → IsSized to (markers packets from to)
    → IsGroupedOutcome (run_outcome packets shift from to)) → EachSized packets
    → (i : ℕ) → i ≤ length packets → RunsTo packets shift i
runs-to packets shift outcome each zero h = record { done = []; grouped = All-nil (λ (run : FlowRun). IsGroupedOutcome run.outcome); are = λ to. refl }
runs-to packets shift outcome each (suc i) h =
    let before = runs-to packets shift outcome each i (omega arith) in
    let next = to-case packets shift i (is_cut packets i) refl before (outcome _ i (omega arith) (each i (omega arith))) in
    rw add-one at next

-- each run of a flow with no fault
pub runs-grouped : (packets : List FlowPacket) (shift : Shift) → ((from to : ℕ) → to ≤ length packets → IsSized to (markers packets from to)
    → IsGroupedOutcome (run_outcome packets shift from to)) → EachSized packets
    → All (λ (run : FlowRun). IsGroupedOutcome run.outcome) (runs packets shift)
runs-grouped packets shift outcome each =
    let n = length packets in
    let all = runs-to packets shift outcome each n (omega arith) in
    subst (All (λ (run : FlowRun). IsGroupedOutcome run.outcome)) (sym (all.are n))
    (All-push (λ (run : FlowRun). IsGroupedOutcome run.outcome) all.done (run_at packets shift (last_place (0 ∷ cuts packets n)) n) all.grouped
    (outcome (last_place (0 ∷ cuts packets n)) n (omega arith) (each n (omega arith))))

pub length-runs_between : (packets : List FlowPacket) (shift : Shift) (to from : ℕ) (places : List ℕ) → length (runs_between packets shift to from places) ≡ length places + 1
length-runs_between packets shift to from [] = refl
length-runs_between packets shift to from (cut ∷ rest) = omega (arith, length-runs_between packets shift to cut rest)

some-case : (b : Bool) (x : ℕ) → b ≡ false → IsSome (if b then None else Some x)
some-case true x e = cc
some-case false x e = refl

some_expected : (packets : List FlowPacket) (shift : Shift) (from to : ℕ) → 0 < from → IsSome (run_at packets shift from to).expected
some_expected packets shift from to h = some-case (from == 0) (expected_number packets from) (grind (arith, nat_tests))

later_expected : (packets : List FlowPacket) (shift : Shift) (to from : ℕ) (places : List ℕ) → 0 < from → All (λ k. 0 < k) places
    → All (λ (run : FlowRun). IsSome run.expected) (runs_between packets shift to from places)
later_expected packets shift to from [] h all =
    All-cons (λ (run : FlowRun). IsSome run.expected) (run_at packets shift from to) [] (some_expected packets shift from to h)
    (All-nil (λ (run : FlowRun). IsSome run.expected))
later_expected packets shift to from (cut ∷ rest) h all =
    All-cons (λ (run : FlowRun). IsSome run.expected) (run_at packets shift from cut) (runs_between packets shift to cut rest)
    (some_expected packets shift from cut h)
    (later_expected packets shift to cut rest (All-head (λ (k : ℕ). 0 < k) cut rest all) (All-tail (λ (k : ℕ). 0 < k) cut rest all))

pub first_expected : (packets : List FlowPacket) (shift : Shift) (to : ℕ) (places : List ℕ) → All (λ k. 0 < k) places
    → ExpectsAfterFirst (runs_between packets shift to 0 places)
first_expected packets shift to [] all = (refl, All-nil (λ (run : FlowRun). IsSome run.expected))
first_expected packets shift to (cut ∷ rest) all =
    (refl, later_expected packets shift to cut rest (All-head (λ (k : ℕ). 0 < k) cut rest all) (All-tail (λ (k : ℕ). 0 < k) cut rest all))

cut_later : (i : ℕ) (b : Bool) → (nat_lt 0 i && b) ≡ true → 0 < i
cut_later i b e = grind (arith, nat_tests)

-- the cuts below i are few, and none is at the first packet
pub record FewCuts (places : List ℕ) : Type 0 where
  pub few : length places ≤ 1024
  pub later : All (λ k. 0 < k) places

not_many : (n : ℕ) → nat_le 1024 n ≡ false → n < 1024
not_many n e = grind (arith, nat_tests)

cuts-case : (packets : List FlowPacket) (pt i : ℕ) (b : Bool) → is_cut packets i ≡ b → fault packets pt i ≡ None → FewCuts (cuts packets i)
    → FewCuts (cuts packets (i + 1))
cuts-case packets pt i true e none before = subst FewCuts (sym (cuts-here packets i e)) record {
  few =
      let most : length (cuts packets i) < 1024 =
      not_many _ (ap (λ b. b && nat_le 1024 (length (cuts packets i))) (sym e) ∙ (none-order packets pt i none).0) in
      omega (arith, most, length-append (cuts packets i) (i ∷ []));
  later = All-push (λ (k : ℕ). 0 < k) (cuts packets i) i before.later (cut_later i _ e);
}
cuts-case packets pt i false e none before = subst FewCuts (sym (cuts-other packets i e)) before

pub few_cuts : (packets : List FlowPacket) (pt : ℕ) → first_fault packets pt ≡ None → (i : ℕ) → i ≤ length packets → FewCuts (cuts packets i)
few_cuts packets pt e zero h = record { few = omega arith; later = All-nil (λ (k : ℕ). 0 < k) }
few_cuts packets pt e (suc i) h =
    let next = cuts-case packets pt i (is_cut packets i) refl (no_fault-at packets pt (length packets) i e (omega arith))
    (few_cuts packets pt e i (omega arith)) in
    rw add-one at next

runs-case : (packets : List FlowPacket) (shift : Shift) (b : Bool) → (b ≡ true → IsGroupedOutcome (run_outcome packets shift 0 (length packets)))
    → (b ≡ false → AreGrouped (runs packets shift))
    → IsGroupedVerdict (if b then in_one_run (run_outcome packets shift 0 (length packets)) else in_runs (runs packets shift))
runs-case packets shift true one many = one refl
runs-case packets shift false one many = many refl

is_zero : (n : ℕ) → (n == 0) ≡ true → n ≡ 0
is_zero n e = grind (arith, nat_tests)

not_zero : (n : ℕ) → (n == 0) ≡ false → 0 < n
not_zero n e = grind (arith, nat_tests)

refusal-grouped : (rec : ℕ) (fault : PacketFault) → IsGroupedVerdict (refusal rec fault)
refusal-grouped rec Short = tt
refusal-grouped rec Version = tt
refusal-grouped rec PayloadType = tt
refusal-grouped rec SecondSource = tt
refusal-grouped rec (Number expected got) = tt
refusal-grouped rec (StampBack before got) = tt
refusal-grouped rec NoMarker = tt
refusal-grouped rec SameStamp = tt
refusal-grouped rec (FrameSize want got) = tt
refusal-grouped rec FrameTooLarge = tt

-- a flow with no fault and no cut
pub one-grouped : (packets : List FlowPacket) (pt : ℕ) (shift : Shift) → length packets < 2 ^ 41 → IsShift shift → AreStamped packets → first_fault packets pt ≡ None
    → length (cuts packets (length packets)) ≡ 0 → IsGroupedOutcome (run_outcome packets shift 0 (length packets))
one-grouped packets pt shift few h all e none =
    outcome-grouped packets shift 0 (length packets) (omega arith) few h all (stamps_rise packets pt e) (one_sized packets pt e none)

-- a flow with no fault and a cut
pub many-grouped : (packets : List FlowPacket) (pt : ℕ) (shift : Shift) → length packets < 2 ^ 41 → IsShift shift → AreStamped packets → first_fault packets pt ≡ None
    → 0 < length (cuts packets (length packets)) → AreGrouped (runs packets shift)
many-grouped packets pt shift few h all e some =
    let n = length packets in
    let most = few_cuts packets pt e n (omega arith) in
    record {
      some = omega (arith, some, length-runs_between packets shift n 0 (cuts packets n));
      few = omega (arith, most.few, length-runs_between packets shift n 0 (cuts packets n));
      expected = first_expected packets shift n (cuts packets n) most.later;
      outcomes = runs-grouped packets shift (λ from to within sized. outcome-grouped packets shift from to within few h all (stamps_rise packets pt e) sized)
          (each_sized packets pt e);
    }

-- a flow with no fault
pub unfaulted-grouped : (packets : List FlowPacket) (pt : ℕ) (shift : Shift) → length packets < 2 ^ 41 → IsShift shift → AreStamped packets → first_fault packets pt ≡ None
    → IsGroupedVerdict (judged_runs packets shift)
unfaulted-grouped packets pt shift few h all e =
    runs-case packets shift (length (cuts packets (length packets)) == 0)
    (λ none. one-grouped packets pt shift few h all e (is_zero _ none))
    (λ some. many-grouped packets pt shift few h all e (not_zero _ some))

refused-case : (packets : List FlowPacket) (first : Option FirstFault) (verdict : FlowVerdict) → (first ≡ None → IsGroupedVerdict verdict)
    → IsGroupedVerdict (refused_or packets first verdict)
refused-case packets (Some first) verdict h = refusal-grouped _ first.fault
refused-case packets None verdict h = h refl

judged-case : (b : Bool) (verdict : FlowVerdict) → IsGroupedVerdict verdict → IsGroupedVerdict (if b then absent else verdict)
judged-case true verdict h = tt
judged-case false verdict h = h

-- what is judged of a flow by its packet numbers as they are
pub numbered-grouped : (packets : List FlowPacket) (pt : ℕ) (shift : Shift) → length packets < 2 ^ 41 → IsShift shift → AreStamped packets
    → IsGroupedVerdict (judged_as_numbered packets pt shift)
numbered-grouped packets pt shift few h all =
    judged-case (length packets == 0) _ (refused-case packets (first_fault packets pt) (judged_runs packets shift) (unfaulted-grouped packets pt shift few h all))

-- what is judged of a flow
pub judged-grouped : (packets : List FlowPacket) (pt : ℕ) (options : FlowOptions) → length packets < 2 ^ 41 → AreFlowOptions options → AreStamped packets
    → IsGroupedVerdict (judged packets pt options)
judged-grouped packets pt options few h all =
    numbered-grouped (numbered options.seq16 packets) pt options.shift (omega (arith, few, length-numbered options.seq16 packets)) h
    (stamped-numbered options.seq16 packets all)
