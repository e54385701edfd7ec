-- Packets that leave as a plan has it are judged as they were, but for their stamps.
use Rattle.std.proofs.Common.{◌≡◌, ◌≤◌, ◌<◌, ◌+◌, ◌-◌, ◌^◌, ℕ, zero, suc, Bool, true}
use Rattle.std.proofs.Common.{false, if◌then◌else◌, nat_lt, List, [], ◌∷◌, length, map, take, drop, min, Option}
use Rattle.std.proofs.Common.{Some, None, refl, arith, ap, ◌∙◌, sym, subst, inl, inr}
use Rattle.std.specs.Prelude.{All, Result, ⊤, not, ◌==◌, ◌&&◌, ◌||◌, nat_le, max, slice_index}
use Rattle.std.proofs.lemmas.Bool.{cases_lt}
use Rattle.std.proofs.lemmas.Bool.Decides.{nat_tests}
use Rattle.std.proofs.lemmas.List.{get_or-drop, get_or-map, get_or-take, length-drop, length-map, length-take}
use Rattle.std.proofs.lemmas.Grind.{same_number_lists}
use Rattle.timing_base.specs.Numbered.{numbered}
use Rattle.timing_base.specs.Shifts.{FlowOptions, Shift, shifted, unshifted}
use Rattle.timing_base.specs.Flows.{FirstFault, cuts, earlier_or, expected_number, fault, fault_if, first_fault, first_fault_below, first_of, group_len}
use Rattle.timing_base.specs.Flows.{is_stamp_back, last_place, markers, next_number, no_packet, order_fault, packet, place_in_group, places}
use Rattle.timing_base.specs.Flows.{read_or_zeros, reading_fault, rtp, sender_fault, size_fault}
use Rattle.timing_base.specs.Judged.{FlowRun, FlowVerdict, JudgedRun, RunOutcome, absent, head_len, in_one_run, in_runs, judged, judged_as_numbered, judged_run}
use Rattle.timing_base.specs.Judged.{judged_runs, no_whole_frame, refusal, refused_or, run_outcome, runs, stamp_of, whole_frames}
use Rattle.timing_base.specs.declared.packet.FlowPacket.{FlowPacket}
use Rattle.timing_base.specs.declared.packet.PacketFault.{PacketFault}
use Rattle.timing_base.specs.declared.packet.PacketFault.TheVariants.{FrameSize, FrameTooLarge, NoMarker, Number}
use Rattle.timing_base.specs.declared.packet.PacketFault.TheVariants.{PayloadType, SameStamp, SecondSource, StampBack}
use Rattle.timing_base.specs.declared.packet.Rtp.{Rtp}
use Rattle.timing_base.proofs.FirstFaults.{no_fault-at}
use Rattle.timing_base.proofs.Grouped.{none-order}
use Rattle.timing_base.proofs.Sizes.{first-none, if-none}
use Rattle.timing_base.specs.Captures.{IsStamp, Record}
use Rattle.timing_base.specs.Media.{Media}
use Rattle.timing_base.specs.declared.capture.FileNote.TheVariants.{End}
use Rattle.timing_base.specs.declared.media.Kind.{Kind}
use Rattle.pcap_reader.specs.Records.{Records}
use Rattle.udp_rtp.specs.Flow.{flow}
use Rattle.flow_shaper.specs.Plan.{Plan}
use Rattle.sender_params.specs.Ticks.{NeverFall}
use Rattle.timing_steps.specs.Answers.{Answer}
use Rattle.timing_reach.specs.Shapes.{HasPlan, end_of, flow_records, last_left, leaves_at, shaped_capture}
use Rattle.timing_reach.specs.ShapedAgain.{CanBeHeld, IsJudgedAs, came_at}
use Rattle.timing_reach.proofs.Copies.{last-left, leaves-by, leaves-judged}
use Rattle.timing_reach.proofs.Judgings.{IsOneRun, head-some, one-run}
use Rattle.timing_reach.proofs.Numbers.{numbered-moved}
use Rattle.timing_reach.proofs.Resent.{can-leave, capture-read, flow-held, flow-sent, length-moved, moved, reads-moved, sent, stamp-sent}

-- what was read of packet i
abbrev readings : List FlowPacket → ℕ → Result Rtp PacketFault
readings packets i = (packet packets i).rtp

-- cuts, markers and faults by the readings alone
abbrev Readings : Type 0
Readings = ℕ → Result Rtp PacketFault

abbrev cut_by : Readings → ℕ → Bool
cut_by R i = nat_lt 0 i && not ((read_or_zeros (R i)).number == next_number (read_or_zeros (R (i - 1))).number)

abbrev cuts_by : Readings → ℕ → List ℕ
cuts_by R n = places (cut_by R) 0 n

abbrev markers_by : Readings → (from n : ℕ) → List ℕ
markers_by R from n = places (λ i. (read_or_zeros (R i)).marker) from n

abbrev before_by : Readings → ℕ → List ℕ
before_by R i = markers_by R (last_place (0 ∷ cuts_by R (i + 1))) i

abbrev sender_by : ℕ → ℕ → Readings → Option PacketFault
sender_by pt i R =
    first_of (reading_fault (R i))
    (first_of (fault_if (not ((read_or_zeros (R i)).pt == pt)) PayloadType)
    (fault_if (not ((read_or_zeros (R i)).ssrc == (read_or_zeros (R 0)).ssrc)) SecondSource))

abbrev too_many_by : ℕ → Readings → Bool
too_many_by i R = cut_by R i && nat_le 1024 (length (cuts_by R i))

abbrev goes_by : ℕ → Readings → Bool
goes_by i R = nat_lt 0 i && not (cut_by R i)

abbrev same_by : ℕ → Readings → Bool
same_by i R = (read_or_zeros (R i)).timestamp == (read_or_zeros (R (i - 1))).timestamp

abbrev times_by : ℕ → Readings → Option PacketFault
times_by i R =
    first_of (fault_if (goes_by i R && (not (same_by i R) && not (read_or_zeros (R (i - 1))).marker)) NoMarker)
    (fault_if (goes_by i R && (same_by i R && (read_or_zeros (R (i - 1))).marker)) SameStamp)

abbrev size_by : ℕ → Readings → Option PacketFault
size_by i R =
    let marks = before_by R i in
    first_of (fault_if (nat_le 2 (length marks) && (((read_or_zeros (R i)).marker && nat_lt (place_in_group marks i) (group_len marks))
    || (place_in_group marks i == group_len marks + 1))) (FrameSize (group_len marks) (place_in_group marks i)))
    (fault_if ((length marks == 1) && (place_in_group marks i == 262144 + 1)) FrameTooLarge)

-- the same readings
abbrev AreReadAs : List FlowPacket → List FlowPacket → Type 0
AreReadAs qs ps = (i : ℕ) → (packet qs i).rtp ≡ (packet ps i).rtp

same-readings : (qs ps : List FlowPacket) → AreReadAs qs ps → readings qs ≡ readings ps
same-readings qs ps same = λ 𝕚 i. same i 𝕚

join-none : (a b : Option PacketFault) → a ≡ None → b ≡ None → first_of a b ≡ None
join-none a b e f = ap (λ (x : Option PacketFault). first_of x b) e ∙ f

-- a packet with no fault has none with another stamp, where that doesn't go back
same-fault : (qs ps : List FlowPacket) (pt i : ℕ) → readings qs ≡ readings ps → is_stamp_back qs i ≡ false → fault ps pt i ≡ None → fault qs pt i ≡ None
same-fault qs ps pt i same back none =
    let first = first-none (sender_fault ps pt i) _ none in
    let second = first-none (order_fault 1024 ps i) (size_fault 262144 ps i) first.1 in
    let third = first-none _ _ second.0 in
    let fourth = first-none _ _ third.1 in
    join-none (sender_fault qs pt i) _ (ap (sender_by pt i) same ∙ first.0)
    (join-none (order_fault 1024 qs i) _
    (join-none _ _ (ap (λ (b : Bool). fault_if b (Number (expected_number qs i) (rtp qs i).number)) (ap (too_many_by i) same ∙ if-none _ _ third.0))
    (join-none _ _ (ap (λ (b : Bool). fault_if b (StampBack (packet qs (i - 1)).at (packet qs i).at)) back) (ap (times_by i) same ∙ fourth.1)))
    (ap (size_by i) same ∙ second.1))

none-below : (qs : List FlowPacket) (pt n : ℕ) → ((k : ℕ) → k < n → fault qs pt k ≡ None) → first_fault_below qs pt n ≡ None
none-below qs pt zero none = refl
none-below qs pt (suc n) none =
    ap (λ (f : Option FirstFault). earlier_or f n (fault qs pt n)) (none-below qs pt n (λ k h. none k (omega (arith, h))))
    ∙ ap (earlier_or None n) (none n (omega arith))

-- a flow that is judged in one run has no fault and no cut
abbrev IsInOne : FlowVerdict → Type 0
IsInOne (in_one_run outcome) = ⊤
IsInOne verdict = ⊥

not-refused : (rec : ℕ) (f : PacketFault) → IsInOne (refusal rec f) → ⊥
not-refused rec (Number expected got) h = h
not-refused rec f h = h

in-one : (packets : List FlowPacket) (b c : Bool) (first : Option FirstFault) (out : RunOutcome) (all : List FlowRun)
    → IsInOne (if b then absent else refused_or packets first (if c then in_one_run out else in_runs all)) → (b ≡ false) × (first ≡ None) × (c ≡ true)
in-one packets true c first out all h = absurd h
in-one packets false c (Some first) out all h = absurd (not-refused (packet packets first.index).rec first.fault h)
in-one packets false true None out all h = (refl, refl, refl)
in-one packets false false None out all h = absurd h

-- one run over markers at these places
abbrev run_by : List ℕ → ℕ → List ℕ → JudgedRun
run_by marks to stamps = record {
  n = group_len marks;
  groups = length marks - 1;
  head = head_len marks 0 to;
  tail = to - (last_place marks + 1);
  stamps = stamps;
}

abbrev stamps_by : Shift → List ℕ → List FlowPacket → List ℕ
stamps_by shift marks packets = map (stamp_of shift) (take (last_place marks + 1 - (slice_index marks 0 + 1)) (drop (slice_index marks 0 + 1) packets))

not-few : (n : ℕ) → 2 ≤ n → nat_lt n 2 ≡ false
not-few n h = grind (arith, nat_tests)

-- a flow with the same readings, of which no stamp goes back, is judged as the run of its own stamps
rejudged : (qs ps : List FlowPacket) (pt : ℕ) (shift : Shift) (run : JudgedRun) (departures : List ℕ) → readings qs ≡ readings ps → length qs ≡ length ps
    → ((i : ℕ) → i < length qs → is_stamp_back qs i ≡ false)
    → judged_as_numbered ps pt shift ≡ in_one_run (whole_frames run)
    → stamps_by shift (markers ps 0 (length ps)) qs ≡ departures → judged_as_numbered qs pt shift ≡ in_one_run (whole_frames (came_at run departures))
rejudged qs ps pt shift run departures same long back is stamps =
    let n = length qs in
    let facts = in-one ps (length ps == 0) (length (cuts ps (length ps)) == 0) (first_fault ps pt) (run_outcome ps shift 0 (length ps)) (runs ps shift)
    (subst IsInOne (sym is) tt) in
    let one : IsOneRun ps shift run = one-run ps pt shift run is in
    let none : first_fault qs pt ≡ None =
    none-below qs pt n (λ k h. same-fault qs ps pt k same (back k h) (no_fault-at ps pt (length ps) k facts.1 (omega (arith, h, long)))) in
    let some : (n == 0) ≡ false = ap (λ k. k == 0) long ∙ facts.0 in
    let whole : (length (cuts qs n) == 0) ≡ true =
    ap (λ R. length (cuts_by R n) == 0) same ∙ ap (λ k. length (cuts ps k) == 0) long ∙ facts.2 in
    let marks : markers qs 0 n ≡ markers ps 0 (length ps) = ap (λ R. markers_by R 0 n) same ∙ ap (markers ps 0) long in
    let many : nat_lt (length (markers qs 0 n)) 2 ≡ false = ap (λ (l : List ℕ). nat_lt (length l) 2) marks ∙ not-few _ one.marked in
    ap (λ (b : Bool). if b then absent else refused_or qs (first_fault qs pt) (judged_runs qs shift)) some
    ∙ ap (λ (f : Option FirstFault). refused_or qs f (judged_runs qs shift)) none
    ∙ ap (λ (b : Bool). if b then in_one_run (run_outcome qs shift 0 n) else in_runs (runs qs shift)) whole
    ∙ ap (λ (b : Bool). in_one_run (if b then no_whole_frame (head_len (markers qs 0 n) 0 n) else whole_frames (judged_run qs shift 0 n))) many
    ∙ ap (λ (l : List ℕ). in_one_run (whole_frames (run_by l n (stamps_by shift l qs)))) marks
    ∙ ap (λ k. in_one_run (whole_frames (run_by (markers ps 0 (length ps)) k (stamps_by shift (markers ps 0 (length ps)) qs)))) long
    ∙ ap (λ (l : List ℕ). in_one_run (whole_frames (run_by (markers ps 0 (length ps)) (length ps) l))) stamps
    ∙ ap (λ (r : JudgedRun). in_one_run (whole_frames (came_at r departures))) one.run_is

-- packets come in order
not-back : (i a b : ℕ) → (nat_lt 0 i && nat_lt b a) ≡ false → 0 < i → a ≤ b
not-back i a b e h = grind (arith, nat_tests)

-- and leave in order
no-back : (i a b : ℕ) → (0 < i → a ≤ b) → (nat_lt 0 i && nat_lt b a) ≡ false
no-back i a b h = elim (cases_lt 0 i) as (λ _. (nat_lt 0 i && nat_lt b a) ≡ false) [
  | inl some ↦ (let order = h some in grind (arith, nat_tests))
  | inr none ↦ grind (arith, nat_tests)
]

leaves-early : (shift : Shift) (head : ℕ) (departures : List ℕ) (k stamp : ℕ) → k < head → leaves_at shift head departures k stamp ≡ stamp
leaves-early shift head departures k stamp h =
    leaves-by shift head departures k stamp true (nat_lt k (head + length departures)) (grind (arith, nat_tests)) refl

leaves-behind : (shift : Shift) (head : ℕ) (departures : List ℕ) (k stamp : ℕ) → head + length departures ≤ k
    → leaves_at shift head departures k stamp ≡ max stamp (last_left shift departures)
leaves-behind shift head departures k stamp h =
    leaves-by shift head departures k stamp false false (grind (arith, nat_tests)) (grind (arith, nat_tests))

-- the first judged packet leaves no earlier than the one before it
rise-head : (shift : Shift) (head : ℕ) (departures : List ℕ) (j x y : ℕ) → x ≤ y → (0 < length departures → shifted shift x ≤ slice_index departures 0)
    → j < head
    → leaves_at shift head departures j x ≤ leaves_at shift head departures (j + 1) y
rise-head shift head departures j x y order first early =
    let here = leaves-early shift head departures j x early in
    elim (cases_lt (j + 1) head) as (λ _. leaves_at shift head departures j x ≤ leaves_at shift head departures (j + 1) y) [
      | inl before ↦
          let next = leaves-early shift head departures (j + 1) y before in
          omega (arith, here, next, order)
      | inr at ↦
          elim (cases_lt 0 (length departures)) as (λ _. leaves_at shift head departures j x ≤ leaves_at shift head departures (j + 1) y) [
            | inl some ↦
                let place : j + 1 - head ≡ 0 = omega (arith, at, early) in
                let next : leaves_at shift head departures (j + 1) y ≡ unshifted shift (slice_index departures 0) =
                leaves-judged shift head departures (j + 1) y at (omega (arith, early, some)) ∙ ap (λ k. unshifted shift (slice_index departures k)) place in
                let late = first some in
                omega (arith, here, next, late)
            | inr none ↦
                let next = leaves-behind shift head departures (j + 1) y (omega (arith, at, none)) in
                omega (arith, here, next, order)
          ]
    ]

-- nor does a packet behind it
rise-judged : (shift : Shift) (head : ℕ) (departures : List ℕ) (j x y : ℕ) → x ≤ y → NeverFall departures → head ≤ j
    → leaves_at shift head departures j x ≤ leaves_at shift head departures (j + 1) y
rise-judged shift head departures j x y order falls late =
    elim (cases_lt (j + 1) (head + length departures)) as (λ _. leaves_at shift head departures j x ≤ leaves_at shift head departures (j + 1) y) [
      | inl within ↦
          let here = leaves-judged shift head departures j x late (omega (arith, within)) in
          let next = leaves-judged shift head departures (j + 1) y (omega (arith, late)) within in
          let rises = falls (j - head) (j + 1 - head) (omega arith) (omega (arith, within, late)) in
          omega (arith, here, next, rises)
      | inr past ↦
          let next = leaves-behind shift head departures (j + 1) y past in
          elim (cases_lt j (head + length departures)) as (λ _. leaves_at shift head departures j x ≤ leaves_at shift head departures (j + 1) y) [
            | inl last ↦
                let place : j - head ≡ length departures - 1 = omega (arith, past, last, late) in
                let here : leaves_at shift head departures j x ≡ last_left shift departures =
                leaves-judged shift head departures j x late last ∙ ap (λ k. unshifted shift (slice_index departures k)) place
                ∙ sym (last-left shift departures (omega (arith, late, last))) in
                omega (arith, here, next)
            | inr behind ↦
                let here = leaves-behind shift head departures j x behind in
                omega (arith, here, next, order)
          ]
    ]

leaves-rise : (shift : Shift) (head : ℕ) (departures : List ℕ) (j x y : ℕ) → x ≤ y → NeverFall departures
    → (j < head → 0 < length departures → head ≤ j + 1 → shifted shift x ≤ slice_index departures 0)
    → leaves_at shift head departures j x ≤ leaves_at shift head departures (j + 1) y
leaves-rise shift head departures j x y order falls first =
    elim (cases_lt j head) as (λ _. leaves_at shift head departures j x ≤ leaves_at shift head departures (j + 1) y) [
      | inl early ↦ rise-before shift head departures j x y order first early
      | inr late ↦ rise-judged shift head departures j x y order falls late
    ]
  where
    rise-before : (shift : Shift) (head : ℕ) (departures : List ℕ) (j x y : ℕ) → x ≤ y
        → (j < head → 0 < length departures → head ≤ j + 1 → shifted shift x ≤ slice_index departures 0) → j < head
        → leaves_at shift head departures j x ≤ leaves_at shift head departures (j + 1) y
    rise-before shift head departures j x y order first early =
        elim (cases_lt (j + 1) head) as (λ _. leaves_at shift head departures j x ≤ leaves_at shift head departures (j + 1) y) [
          | inl before ↦
              let here = leaves-early shift head departures j x early in
              let next = leaves-early shift head departures (j + 1) y before in
              omega (arith, here, next, order)
          | inr at ↦ rise-head shift head departures j x y order (λ some. first early some at) early
        ]

-- each leaves at an instant that a capture can hold
last-held : (shift : Shift) (departures : List ℕ) → ((i : ℕ) → i < length departures → slice_index departures i < end_of shift)
    → IsStamp (last_left shift departures)
last-held shift [] early = omega arith
last-held shift (d ∷ ds) early =
    let in_time = early (length ds) (omega arith) in
    omega (arith, in_time)

leaves-held : (shift : Shift) (head : ℕ) (departures : List ℕ) (k stamp : ℕ) → ((i : ℕ) → i < length departures → slice_index departures i < end_of shift)
    → IsStamp stamp
    → IsStamp (leaves_at shift head departures k stamp)
leaves-held shift head departures k stamp early held =
    elim (cases_lt k head) as (λ _. IsStamp (leaves_at shift head departures k stamp)) [
      | inl before ↦ subst IsStamp (sym (leaves-early shift head departures k stamp before)) held
      | inr late ↦
          elim (cases_lt k (head + length departures)) as (λ _. IsStamp (leaves_at shift head departures k stamp)) [
            | inl within ↦
                let here = leaves-judged shift head departures k stamp late within in
                let in_time = early (k - head) (omega (arith, late, within)) in
                omega (arith, here, in_time)
            | inr behind ↦
                let here = leaves-behind shift head departures k stamp behind in
                let last = last-held shift departures early in
                omega (arith, here, last, held)
          ]
    ]

-- the judged stamps, by the packets
stamp-at : (shift : Shift) (a c k : ℕ) (packets : List FlowPacket) → k < length (map (stamp_of shift) (take c (drop a packets)))
    → slice_index (map (stamp_of shift) (take c (drop a packets))) k ≡ stamp_of shift (packet packets (a + k))
stamp-at shift a c k packets h =
    let rest = drop a packets in
    let part = take c rest in
    let mapped : length (map (stamp_of shift) part) ≡ length part = length-map part (stamp_of shift) in
    let long : length part ≡ min c (length rest) = length-take c rest in
    get_or-map (stamp_of shift) part k no_packet 0 (omega (arith, h, mapped))
    ∙ ap (stamp_of shift) (get_or-take c rest k no_packet (omega (arith, h, mapped, long)) ∙ get_or-drop a packets k no_packet)

stamps-long : (shift : Shift) (a c : ℕ) (qs ps : List FlowPacket) → length qs ≡ length ps
    → length (map (stamp_of shift) (take c (drop a qs))) ≡ length (map (stamp_of shift) (take c (drop a ps)))
stamps-long shift a c qs ps long =
    length-map (take c (drop a qs)) (stamp_of shift) ∙ length-take c (drop a qs) ∙ ap (min c) (length-drop a qs ∙ ap (λ n. n - a) long ∙ sym (length-drop a ps))
    ∙ sym (length-take c (drop a ps)) ∙ sym (length-map (take c (drop a ps)) (stamp_of shift))

-- packets that leave so are judged as the run that came so
pub leaving-judged : (ps : List FlowPacket) (m : Media) (kind : Kind) (shift : Shift) (run : JudgedRun) (departures : List ℕ)
    → judged_as_numbered ps m.pt shift ≡ in_one_run (whole_frames run) → Plan m run.n kind run.stamps departures
    → judged_as_numbered (moved (leaves_at shift run.head departures) 0 ps) m.pt shift ≡ in_one_run (whole_frames (came_at run departures))
leaving-judged ps m kind shift run departures is plan =
    let leaves = leaves_at shift run.head departures in
    let qs = moved leaves 0 ps in
    let marks = markers ps 0 (length ps) in
    let a = slice_index marks 0 + 1 in
    let c = last_place marks + 1 - (slice_index marks 0 + 1) in
    let one : IsOneRun ps shift run = one-run ps m.pt shift run is in
    let head : run.head ≡ a = ap (λ (x : JudgedRun). x.head) (sym one.run_is) ∙ head-some marks (length ps) one.marked in
    let stamps : run.stamps ≡ map (stamp_of shift) (take c (drop a ps)) = ap (λ (x : JudgedRun). x.stamps) (sym one.run_is) in
    let long : length qs ≡ length ps = length-moved leaves 0 ps in
    let first-none : first_fault ps m.pt ≡ None = no-first ps m.pt shift run is in
    let came : (k : ℕ) → k < length departures → stamp_of shift (packet ps (a + k)) ≤ slice_index departures k =
    λ k h.
    let within : k < length run.stamps = omega (arith, h, plan.each) in
    let at : slice_index run.stamps k ≡ stamp_of shift (packet ps (a + k)) =
    ap (λ (l : List ℕ). slice_index l k) stamps ∙ stamp-at shift a c k ps (subst (λ (l : List ℕ). k < length l) stamps within) in
    let after = plan.after k within in
    omega (arith, at, after) in
    let order : (i : ℕ) → i + 1 < length ps → (packet ps i).at ≤ (packet ps (i + 1)).at = λ i h. stays-order ps m.pt i first-none h in
    let back : (i : ℕ) → i < length qs → is_stamp_back qs i ≡ false = λ i h.
    no-back i (packet qs (i - 1)).at (packet qs i).at
    (λ some.
    let less : i - 1 + 1 ≡ i = omega (arith, some) in
    let x = (packet ps (i - 1)).at in
    let y = (packet ps i).at in
    let rising : x ≤ y = subst (λ k. x ≤ (packet ps k).at) less (order (i - 1) (omega (arith, h, long, some))) in
    let here : (packet qs (i - 1)).at ≡ leaves (i - 1) x = stamp-sent leaves ps (i - 1) (omega (arith, h, long)) in
    let next : (packet qs i).at ≡ leaves i y = stamp-sent leaves ps i (omega (arith, h, long)) in
    let rises : leaves (i - 1) x ≤ leaves (i - 1 + 1) y =
    leaves-rise shift run.head departures (i - 1) x y rising plan.ordered
    (λ early some_judged at.
    let place : a + 0 ≡ i = omega (arith, head, early, at, some) in
    let first : stamp_of shift (packet ps (a + 0)) ≤ slice_index departures 0 = came 0 some_judged in
    let here_is : (packet ps (a + 0)).at ≡ y = ap (λ k. (packet ps k).at) place in
    omega (arith, first, here_is, rising)) in
    let there : leaves (i - 1 + 1) y ≡ leaves i y = ap (λ k. leaves k y) less in
    omega (arith, here, next, rises, there)) in
    rejudged qs ps m.pt shift run departures (same-readings qs ps (reads-moved leaves 0 ps)) long back is
    (same_number_lists (map (stamp_of shift) (take c (drop a qs))) departures
    (stamps-long shift a c qs ps long ∙ ap length (sym stamps) ∙ sym plan.each)
    (λ k h.
    let within : k < length departures = omega (arith, h, stamps-long shift a c qs ps long, ap length stamps, plan.each) in
    let there : a + k < length ps = judged-within shift a c k ps (omega (arith, within, plan.each, ap length stamps)) in
    let at : slice_index (map (stamp_of shift) (take c (drop a qs))) k ≡ stamp_of shift (packet qs (a + k)) = stamp-at shift a c k qs h in
    let moves : (packet qs (a + k)).at ≡ leaves (a + k) (packet ps (a + k)).at = stamp-sent leaves ps (a + k) there in
    let place : a + k - run.head ≡ k = omega (arith, head) in
    let left : leaves (a + k) (packet ps (a + k)).at ≡ unshifted shift (slice_index departures k) =
    leaves-judged shift run.head departures (a + k) (packet ps (a + k)).at (omega (arith, head)) (omega (arith, head, within))
    ∙ ap (λ j. unshifted shift (slice_index departures j)) place in
    let least = came k within in
    omega (arith, at, moves, left, least)))
  where
    no-first : (ps : List FlowPacket) (pt : ℕ) (shift : Shift) (run : JudgedRun) → judged_as_numbered ps pt shift ≡ in_one_run (whole_frames run)
        → first_fault ps pt ≡ None
    no-first ps pt shift run is =
        (in-one ps (length ps == 0) (length (cuts ps (length ps)) == 0) (first_fault ps pt) (run_outcome ps shift 0 (length ps)) (runs ps shift)
        (subst IsInOne (sym is) tt)).1

    stays-order : (ps : List FlowPacket) (pt i : ℕ) → first_fault ps pt ≡ None → i + 1 < length ps → (packet ps i).at ≤ (packet ps (i + 1)).at
    stays-order ps pt i none h =
        let less : i + 1 - 1 ≡ i = omega arith in
        let back = (none-order ps pt (i + 1) (no_fault-at ps pt (length ps) (i + 1) none h)).1 in
        subst (λ k. (packet ps k).at ≤ (packet ps (i + 1)).at) less (not-back (i + 1) (packet ps (i + 1 - 1)).at (packet ps (i + 1)).at back (omega arith))

    judged-within : (shift : Shift) (a c k : ℕ) (ps : List FlowPacket) → k < length (map (stamp_of shift) (take c (drop a ps))) → a + k < length ps
    judged-within shift a c k ps h =
        omega (arith, h, length-map (take c (drop a ps)) (stamp_of shift), length-take c (drop a ps), length-drop a ps)

-- so is the flow of the capture that is written of them
pub shaped-again : (options : FlowOptions) (kind : Kind) (m : Media) (items : List Record) (run : JudgedRun) (answer : Answer) → All CanBeHeld items
    → judged (flow items m) m.pt options ≡ in_one_run (whole_frames run) → (plan : HasPlan false options.shift kind m items run answer)
    → length answer.text ≤ 2 ^ 40
    → IsJudgedAs options m answer.text (came_at run plan.departures)
shaped-again options kind m items run answer held is plan few =
    let leaves = leaves_at options.shift run.head plan.departures in
    let rs = flow_records m items in
    let text : answer.text ≡ shaped_capture options.shift run.head plan.departures rs = ap (λ (a : Answer). a.text) plan.answer_is ∙ plan.prints in
    let can = can-leave leaves 0 rs (λ j stamp h. leaves-held options.shift run.head plan.departures j stamp plan.leave.in_time h) (flow-held m items held) in
    record {
      items = sent leaves 0 rs;
      records = subst (λ (t : List ℕ). Records t (2 ^ 40) (sent leaves 0 rs) End) (sym text)
          (capture-read leaves (2 ^ 40) rs can (subst (λ (t : List ℕ). length t ≤ 2 ^ 40) text few));
      verdict_is = ap (λ packets. judged packets m.pt options) (flow-sent m leaves 0 items)
          ∙ ap (λ packets. judged_as_numbered packets m.pt options.shift) (numbered-moved options.seq16 leaves 0 (flow items m))
          ∙ leaving-judged (numbered options.seq16 (flow items m)) m kind options.shift run plan.departures is plan.leave.shaped.plan;
    }
