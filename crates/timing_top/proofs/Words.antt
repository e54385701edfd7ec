-- The numbers of the rows that are made of captures of bytes have 64 bits.
use Rattle.std.proofs.Common.{◌≡◌, ◌≤◌, ◌<◌, ◌+◌, ◌-◌, ◌^◌, ◌/◌, ℕ, zero, suc, Bool, true, false, List, [], ◌∷◌, length, drop, Option, Some, None, refl, arith}
use Rattle.std.proofs.Common.{subst}
use Rattle.std.proofs.Math.Nat.{max-le, mul-le-mul_right}
use Rattle.std.proofs.lemmas.List.{length-map}
use Rattle.std.proofs.lemmas.List.Elements.{All-append, All-cons, All-drop, All-head, All-map, All-nil, All-tail, All-take, All-weaker}
use Rattle.std.specs.Option.{ForSome}
use Rattle.std.specs.Prelude.{All, IsSome, Result, Ok, Err, if◌then◌else◌, map, nat_le, nat_lt, slice_index, ◌&&◌, ◌==◌, ⊤}
use Rattle.timing_base.specs.Shifts.{AreFlowOptions, FlowOptions, IsShift, Shift}
use Rattle.timing_base.specs.Captures.{Record}
use Rattle.timing_base.specs.Flows.{AreStamped, FirstFault, cuts, expected_number, fault, fault_if, first_fault, first_of, group_len, is_cut, is_cut_too_many}
use Rattle.timing_base.specs.Flows.{is_other_payload, is_other_size, is_second_source, is_stamp_back, is_too_large, lacks_marker, markers, markers_before}
use Rattle.timing_base.specs.Flows.{next_number, order_fault, packet, place_in_group, places, read_or_zeros, reading_fault, repeats_timestamp, rtp}
use Rattle.timing_base.specs.Flows.{sender_fault, size_fault}
use Rattle.timing_base.specs.Grouped.{AreGrouped, ExpectsAfterFirst, IsGrouped, IsGroupedOutcome, IsGroupedVerdict}
use Rattle.timing_base.specs.Judged.{FlowRun, FlowVerdict, JudgedRun, RunOutcome, absent, head_len, in_one_run, in_runs, judged, judged_as_numbered, judged_run}
use Rattle.timing_base.specs.Judged.{judged_runs}
use Rattle.timing_base.specs.Judged.{no_whole_frame, refusal, refused_or, run_at, run_outcome, runs, runs_between, whole_frames}
use Rattle.timing_base.specs.Media.{IsMedia, Media}
use Rattle.timing_base.specs.Numbered.{counted, counted_from, counted_packet, counted_rtp, number_after, numbered}
use Rattle.timing_base.specs.Rows.{ExpectAfterFirst}
use Rattle.timing_base.specs.declared.fail.Broken.{Broken}
use Rattle.timing_base.specs.declared.fail.Broken.TheVariants.{Bucket, Over, Empty}
use Rattle.timing_base.specs.declared.fail.FailProof.{FailProof}
use Rattle.timing_base.specs.declared.media.Kind.{Kind}
use Rattle.timing_base.specs.declared.media.Kind.TheVariants.{N, NL, W}
use Rattle.timing_base.specs.declared.packet.FlowPacket.{FlowPacket}
use Rattle.timing_base.specs.declared.packet.PacketFault.{PacketFault}
use Rattle.timing_base.specs.declared.packet.PacketFault.TheVariants.{Short, Version, PayloadType, SecondSource, Number, StampBack, NoMarker, SameStamp}
use Rattle.timing_base.specs.declared.packet.PacketFault.TheVariants.{FrameSize, FrameTooLarge}
use Rattle.timing_base.specs.declared.packet.Rtp.{Rtp}
use Rattle.timing_base.specs.declared.row.KindVerdict.{KindVerdict}
use Rattle.timing_base.specs.declared.row.KindVerdict.TheVariants.{Pass, Fail}
use Rattle.timing_base.specs.declared.row.Run.{Run}
use Rattle.timing_base.proofs.FirstFaults.{first_fault-is}
use Rattle.timing_base.proofs.Grouped.{unfaulted-grouped}
use Rattle.timing_base.proofs.Numberings.{length-numbered, stamped-numbered}
use Rattle.sender_params.specs.Keeps.{BreaksLimit, held_at}
use Rattle.sender_params.specs.Ticks.{NeverFall, ticks_at}
use Rattle.drain_bucket.specs.Word.{bucket_of, count_after}
use Rattle.drain_bucket.proofs.Reich.{count_after-suc}
use Rattle.udp_rtp.specs.Flow.{datagram_packet, flow, flow_packet}
use Rattle.udp_rtp.specs.Frames.{datagram_at, datagram_from, ip_place, is_udp_at, payload_at, udp_place}
use Rattle.udp_rtp.specs.Numbers.{number16}
use Rattle.udp_rtp.specs.Reading.{payload_place, reading, rtp_at}
use Rattle.fail_interval.specs.Fails.{greatest, kind_verdict}
use Rattle.fail_interval.specs.Row.{judged_values, run_of, run_verdict_of, verdict_of}
use Rattle.fail_interval.proofs.Confirmed.{fail-confirms}
use Rattle.timing_report.specs.json_report.Fails.{AreWords, FitsJudged, FitsKind, FitsRun, FitsRunVerdict, FitsVerdict, IsWord}
use Rattle.timing_report.proofs.lemmas.json_report.Limits.{c_max_small, vrx_full_small}
use Rattle.pcapng_reader.specs.Bytes.{AreBytes}
use Rattle.timing_top.proofs.Small.{AreSmall, IsSmall, byte-at, cons-all, flow-few, flow-stamped, if-some}

-- the numbers that a fault tells of a gap
abbrev FitsFault : PacketFault → Type 0
FitsFault (Number expected got) = IsWord expected × IsWord got
FitsFault fault = ⊤

abbrev FitsFirst : Option PacketFault → Type 0
FitsFirst None = ⊤
FitsFirst (Some fault) = FitsFault fault

-- what was read of a packet
record IsRead (read : Result Rtp PacketFault) : Type 0 where
  number : (read_or_zeros read).number < 2 ^ 32
  fault : FitsFirst (reading_fault read)

record IsSmallPacket (most : ℕ) (p : FlowPacket) : Type 0 where
  rec : p.rec ≤ most
  read : IsRead p.rtp

number16-small : (text : List ℕ) (place : ℕ) → AreBytes text → number16 text place < 2 ^ 16
number16-small text place h =
    let rest = All-drop (λ byte. byte < 256) place text h in
    omega (arith, byte-at (drop place text) 0 rest, byte-at (drop place text) 1 rest)

read-case : (a b c : Bool) (r : Rtp) → r.number < 2 ^ 32 → IsRead (if a then Err Short else if b then (if c then Err Short else Ok r) else Err Version)
read-case true b c r h = record { number = omega arith; fault = tt }
read-case false true true r h = record { number = omega arith; fault = tt }
read-case false true false r h = record { number = h; fault = tt }
read-case false false c r h = record { number = omega arith; fault = tt }

read-small : (payload : List ℕ) → AreBytes payload → IsRead (reading payload)
read-small payload h =
    read-case (nat_lt (length payload) 12) (slice_index payload 0 / 64 == 2) (nat_lt (length payload) (payload_place payload + 2))
    (rtp_at payload (payload_place payload))
    (omega (arith, number16-small payload (payload_place payload) h, number16-small payload 2 h))

packet-if : (m : Media) (most number at : ℕ) (frame : List ℕ) (e : ℕ) (b : Bool) (p : FlowPacket) → AreBytes frame → number ≤ most
    → datagram_packet m number at (if b then Some (datagram_at frame e) else None) ≡ Some p → IsSmallPacket most p
packet-if m most number at frame e true p bytes few is =
    let u = udp_place frame e in
    let payload : AreBytes (payload_at frame u) = All-take (λ byte. byte < 256) _ (drop (u + 8) frame) (All-drop (λ byte. byte < 256) (u + 8) frame bytes) in
    subst (IsSmallPacket most) (if-some _ _ p is) record { rec = few; read = read-small (payload_at frame u) payload }
packet-if m most number at frame e false p bytes few is = cc

packet-from : (m : Media) (most number at : ℕ) (frame : List ℕ) (o : Option ℕ) (p : FlowPacket) → AreBytes frame → number ≤ most
    → datagram_packet m number at (datagram_from frame o) ≡ Some p → IsSmallPacket most p
packet-from m most number at frame None p bytes few is = cc
packet-from m most number at frame (Some e) p bytes few is = packet-if m most number at frame e (is_udp_at frame e) p bytes few is

flow-small : (m : Media) (most : ℕ) (items : List Record) → All (IsSmall most) items → All (IsSmallPacket most) (flow items m)
flow-small m most [] h = All-nil (IsSmallPacket most)
flow-small m most (r ∷ rs) h =
    let first = All-head (IsSmall most) r rs h in
    cons-all (IsSmallPacket most) (flow_packet m r) (flow rs m)
    (λ p e. packet-from m most r.number r.stamp r.bytes (ip_place r.bytes) p first.bytes first.number e)
    (flow-small m most rs (All-tail (IsSmall most) r rs h))

packet-at : (most : ℕ) (packets : List FlowPacket) (i : ℕ) → All (IsSmallPacket most) packets → IsSmallPacket most (packet packets i)
packet-at most [] i h = record { rec = omega arith; read = record { number = omega arith; fault = tt } }
packet-at most (p ∷ ps) zero h = All-head (IsSmallPacket most) p ps h
packet-at most (p ∷ ps) (suc i) h = packet-at most ps i (All-tail (IsSmallPacket most) p ps h)

next-small : (number : ℕ) → IsWord (next_number number)
next-small number = omega arith

first-fits : (a b : Option PacketFault) → FitsFirst a → FitsFirst b → FitsFirst (first_of a b)
first-fits None b h k = k
first-fits (Some f) b h k = h

if-fits : (b : Bool) (f : PacketFault) → FitsFault f → FitsFirst (fault_if b f)
if-fits true f h = h
if-fits false f h = tt

word-of : (n : ℕ) → n < 2 ^ 32 → IsWord n
word-of n h = omega (arith, h)

fault-fits : (most : ℕ) (packets : List FlowPacket) (pt i : ℕ) → All (IsSmallPacket most) packets → FitsFirst (fault packets pt i)
fault-fits most packets pt i h =
    let here = (packet-at most packets i h).read in
    first-fits (sender_fault packets pt i) _
    (first-fits (reading_fault (packet packets i).rtp) _ here.fault
    (first-fits (fault_if (is_other_payload packets pt i) PayloadType) _ (if-fits _ PayloadType tt) (if-fits (is_second_source packets i) SecondSource tt)))
    (first-fits (order_fault 1024 packets i) (size_fault 262144 packets i)
    (first-fits (fault_if (is_cut_too_many 1024 packets i) (Number (expected_number packets i) (rtp packets i).number)) _
    (if-fits _ (Number (expected_number packets i) (rtp packets i).number) (next-small _, word-of _ here.number))
    (first-fits (fault_if (is_stamp_back packets i) (StampBack (packet packets (i - 1)).at (packet packets i).at)) _ (if-fits _ (StampBack _ _) tt)
    (first-fits (fault_if (lacks_marker packets i) NoMarker) _ (if-fits _ NoMarker tt) (if-fits (repeats_timestamp packets i) SameStamp tt))))
    (first-fits (fault_if (is_other_size packets i) (FrameSize (group_len (markers_before packets i)) (place_in_group (markers_before packets i) i))) _
    (if-fits _ (FrameSize _ _) tt) (if-fits (is_too_large 262144 packets i) FrameTooLarge tt)))

refusal-fits : (m : Media) (rec : ℕ) (f : PacketFault) → IsWord rec → FitsFault f → FitsVerdict (verdict_of m (refusal rec f))
refusal-fits m rec Short h k = h
refusal-fits m rec Version h k = h
refusal-fits m rec PayloadType h k = h
refusal-fits m rec SecondSource h k = h
refusal-fits m rec (Number expected got) h k = (h, k.0, k.1)
refusal-fits m rec (StampBack before got) h k = h
refusal-fits m rec NoMarker h k = h
refusal-fits m rec SameStamp h k = h
refusal-fits m rec (FrameSize want got) h k = h
refusal-fits m rec FrameTooLarge h k = h

-- the greatest of values within a limit
greatest-low : (f : ℕ → ℕ) (count most : ℕ) → ((i : ℕ) → i < count → f i ≤ most) → greatest f count ≤ most
greatest-low f zero most h = omega arith
greatest-low f (suc i) most h = max-le (greatest-low f i most (λ k low. h k (omega (arith, low)))) (h i (omega arith))

count-low : (clock : ℕ → ℕ) (i : ℕ) → count_after clock i ≤ i + 1
count-low clock zero = omega arith
count-low clock (suc i) = omega (arith, count_after-suc clock i, count-low clock i)

bucket-low : (m : Media) (n : ℕ) (stamps : List ℕ) (i : ℕ) → i < length stamps → bucket_of m n stamps i ≤ length stamps
bucket-low m n stamps i h = omega (arith, count-low (ticks_at m n stamps) i, h)

held-low : (m : Media) (n : ℕ) (stamps : List ℕ) (gapped : Bool) (i : ℕ) → i < length stamps → held_at m n stamps gapped i ≤ length stamps
held-low m n stamps gapped i h = omega (arith, h)

words-by : (m : Media) (n : ℕ) (stamps : List ℕ) (kind : Kind) (f : FailProof) (model : Broken) → IsMedia m → n ≤ 262144 → length stamps < 2 ^ 41 → f.from
    ≤ f.to → f.to < length stamps
    → BreaksLimit m n stamps kind f model → AreWords f
words-by m n stamps kind f Bucket is few long order within b =
    record {
      from = omega (arith, order, within, long);
      to = omega (arith, within, long);
      count = omega (arith, b.1, order, within, long);
      limit =
          omega (arith, b.0, c_max_small m n kind is few);
    }
words-by m n stamps kind f Over is few long order within b =
    record {
      from = omega (arith, order, within, long);
      to = omega (arith, within, long);
      count = omega (arith, b.2, order, within, long);
      limit =
          omega (arith, b.0, vrx_full_small m n kind is few);
    }
words-by m n stamps kind f Empty is few long order within b =
    record {
      from = omega (arith, order, within, long);
      to = omega (arith, within, long);
      count = omega (arith, b.0, b.3, within, long);
      limit =
          omega (arith, b.0, within, long);
    }

kind-fits : (m : Media) (j : JudgedRun) (kind : Kind) (v : KindVerdict) → IsMedia m → IsGrouped j → kind_verdict m j.n j.stamps kind ≡ v → FitsKind v
kind-fits m j kind Pass is g e = tt
kind-fits m j kind (Fail f) is g e =
    let falls : NeverFall j.stamps = λ a b order below. g.rising a b 0 order below in
    let c = fail-confirms m j.n j.stamps kind f is g.some falls e in
    words-by m j.n j.stamps kind f f.model is g.few g.bounded c.ordered c.judged c.breaks

peak-fits : (f : ℕ → ℕ) (count : ℕ) → count < 2 ^ 41 → ((i : ℕ) → i < count → f i ≤ count) → IsWord (greatest f count)
peak-fits f count few h = omega (arith, few, greatest-low f count count h)

judged-fits : (m : Media) (j : JudgedRun) → IsMedia m → IsGrouped j → IsWord j.head → IsWord j.tail → FitsJudged (judged_values m j)
judged-fits m j is g head tail =
    let more = mul-le-mul_right j.groups g.some in
    record {
      is = record { n_some = g.some; n_most = g.few; three = refl };
      frames = omega (arith, more, g.whole, g.bounded);
      packets = omega (arith, g.bounded);
      head = head;
      tail = tail;
      bucket_peak = peak-fits (bucket_of m j.n j.stamps) (length j.stamps) g.bounded (bucket-low m j.n j.stamps);
      gapped_peak = peak-fits (held_at m j.n j.stamps true) (length j.stamps) g.bounded (held-low m j.n j.stamps true);
      linear_peak = peak-fits (held_at m j.n j.stamps false) (length j.stamps) g.bounded (held-low m j.n j.stamps false);
      n = kind-fits m j N (kind_verdict m j.n j.stamps N) is g refl;
      nl = kind-fits m j NL (kind_verdict m j.n j.stamps NL) is g refl;
      w = kind-fits m j W (kind_verdict m j.n j.stamps W) is g refl;
    }

-- places below a place are below it
one-low : (b : Bool) (n : ℕ) → All (λ k. k < suc n) (if b then n ∷ [] else [])
one-low true n = All-cons (λ k. k < suc n) n [] (omega arith) (All-nil (λ k. k < suc n))
one-low false n = All-nil (λ k. k < suc n)

places-low : (test : ℕ → Bool) (from n : ℕ) → All (λ k. k < n) (places test from n)
places-low test from zero = All-nil (λ k. k < 0)
places-low test from (suc n) =
    All-append (λ k. k < suc n) (places test from n) (if nat_le from n && test n then n ∷ [] else [])
    (All-weaker (λ k. k < n) (λ k. k < suc n) (λ k h. omega (arith, h)) (places test from n) (places-low test from n))
    (one-low (nat_le from n && test n) n)

first-low : (xs : List ℕ) (n : ℕ) → All (λ k. k < n) xs → slice_index xs 0 ≤ n
first-low [] n h = omega arith
first-low (x ∷ xs) n h = let low = All-head (λ k. k < n) x xs h in omega (arith, low)

either-low : (b : Bool) (x y most : ℕ) → x ≤ most → y ≤ most → (if b then x else y) ≤ most
either-low true x y most h k = h
either-low false x y most h k = k

head-low : (packets : List FlowPacket) (from to : ℕ) → head_len (markers packets from to) from to ≤ to + 1
head-low packets from to =
    let marks = markers packets from to in
    either-low (length marks == 0) (to - from) (slice_index marks 0 + 1 - from) (to + 1) (omega arith)
    (omega (arith, first-low marks to (places-low _ from to)))

outcome-case : (m : Media) (b : Bool) (head : ℕ) (j : JudgedRun) → IsMedia m → IsWord head → IsWord j.head → IsWord j.tail
    → IsGroupedOutcome (if b then no_whole_frame head else whole_frames j)
    → FitsRunVerdict (run_verdict_of m (if b then no_whole_frame head else whole_frames j))
outcome-case m true head j is h hj tj g = h
outcome-case m false head j is h hj tj g = judged-fits m j is g hj tj

outcome-fits : (m : Media) (packets : List FlowPacket) (shift : Shift) (from to : ℕ) → IsMedia m → to ≤ 2 ^ 41 → IsGroupedOutcome (run_outcome packets shift
    from to)
    → FitsRunVerdict (run_verdict_of m (run_outcome packets shift from to))
outcome-fits m packets shift from to is few g =
    let head : IsWord (head_len (markers packets from to) from to) = omega (arith, head-low packets from to, few) in
    outcome-case m (nat_lt (length (markers packets from to)) 2) (head_len (markers packets from to) from to) (judged_run packets shift from to) is head head
    (omega (arith, few)) g

one-case : (m : Media) (o : RunOutcome) → FitsRunVerdict (run_verdict_of m o) → FitsVerdict (verdict_of m (in_one_run o))
one-case m (no_whole_frame head) h = h
one-case m (whole_frames j) h = h

expected-case : (b : Bool) (y : ℕ) → IsWord y → ForSome (if b then None else Some y) IsWord
expected-case true y h = λ x e. cc
expected-case false y h = λ x e. let same : y ≡ x = cc in subst IsWord same h

run-fits : (m : Media) (most : ℕ) (packets : List FlowPacket) (shift : Shift) (from to : ℕ) → IsMedia m → most ≤ 2 ^ 41 → All (IsSmallPacket most) packets
    → to ≤ 2 ^ 41
    → IsGroupedOutcome (run_outcome packets shift from to) → FitsRun (run_of m (run_at packets shift from to))
run-fits m most packets shift from to is few small low g =
    let here = packet-at most packets from small in
    record {
      rec = omega (arith, here.rec, few);
      number = word-of _ here.read.number;
      expected = expected-case (from == 0) (expected_number packets from) (next-small _);
      outcome = outcome-fits m packets shift from to is low g;
    }

runs-fit : (m : Media) (most : ℕ) (packets : List FlowPacket) (shift : Shift) (to from : ℕ) (cs : List ℕ) → IsMedia m → most ≤ 2 ^ 41
    → All (IsSmallPacket most) packets
    → to ≤ 2 ^ 41 → All (λ k. k < to) cs
    → All (λ run. IsGroupedOutcome run.outcome) (runs_between packets shift to from cs) → All FitsRun (map (run_of m) (runs_between packets shift to from cs))
runs-fit m most packets shift to from [] is few small low cut g =
    All-cons FitsRun (run_of m (run_at packets shift from to)) []
    (run-fits m most packets shift from to is few small low (All-head (λ (run : FlowRun). IsGroupedOutcome run.outcome) (run_at packets shift from to) [] g))
    (All-nil FitsRun)
runs-fit m most packets shift to from (c ∷ cs) is few small low cut g =
    let P : FlowRun → Type 0 = λ run. IsGroupedOutcome run.outcome in
    let here : c < to = All-head (λ k. k < to) c cs cut in
    All-cons FitsRun (run_of m (run_at packets shift from c)) (map (run_of m) (runs_between packets shift to c cs))
    (run-fits m most packets shift from c is few small (omega (arith, here, low)) (All-head P (run_at packets shift from c) (runs_between packets shift to c
    cs) g))
    (runs-fit m most packets shift to c cs is few small low (All-tail (λ k. k < to) c cs cut)
    (All-tail P (run_at packets shift from c) (runs_between packets shift to c cs) g))

expects : (m : Media) (rs : List FlowRun) → ExpectsAfterFirst rs → ExpectAfterFirst (map (run_of m) rs)
expects m [] h = tt
expects m (r ∷ rs) h = (h.0, All-map (λ (run : Run). IsSome run.expected) (run_of m) rs h.1)

runs-case : (m : Media) (b : Bool) (o : RunOutcome) (rs : List FlowRun) → (IsGroupedOutcome o → FitsRunVerdict (run_verdict_of m o))
    → (AreGrouped rs → All FitsRun (map (run_of m) rs))
    → IsGroupedVerdict (if b then in_one_run o else in_runs rs) → FitsVerdict (verdict_of m (if b then in_one_run o else in_runs rs))
runs-case m true o rs one many g = one-case m o (one g)
runs-case m false o rs one many g =
    let size : length (map (run_of m) rs) ≡ length rs = length-map rs (run_of m) in
    (record { some = omega (arith, size, g.some); few = omega (arith, size, g.few); expected = expects m rs g.expected }, many g)

fault-of : (most : ℕ) (packets : List FlowPacket) (pt : ℕ) (x : FirstFault) → All (IsSmallPacket most) packets → first_fault packets pt ≡ Some x
    → FitsFault x.fault
fault-of most packets pt x small e = subst FitsFirst (first_fault-is packets pt x e).has (fault-fits most packets pt x.index small)

refused-case : (m : Media) (packets : List FlowPacket) (first : Option FirstFault) (v : FlowVerdict) → ((i : ℕ) → IsWord (packet packets i).rec)
    → ((x : FirstFault) → first ≡ Some x → FitsFault x.fault) → (first ≡ None → FitsVerdict (verdict_of m v))
    → FitsVerdict (verdict_of m (refused_or packets first v))
refused-case m packets (Some x) v rec f h = refusal-fits m (packet packets x.index).rec x.fault (rec x.index) (f x refl)
refused-case m packets None v rec f h = h refl

judged-case : (m : Media) (b : Bool) (v : FlowVerdict) → FitsVerdict (verdict_of m v) → FitsVerdict (verdict_of m (if b then absent else v))
judged-case m true v h = tt
judged-case m false v h = h

-- the verdict on a flow
verdict-fits : (m : Media) (most : ℕ) (shift : Shift) (packets : List FlowPacket) → IsMedia m → IsShift shift → most ≤ 2 ^ 41 → length packets < 2 ^ 41
    → AreStamped packets
    → All (IsSmallPacket most) packets
    → FitsVerdict (verdict_of m (judged_as_numbered packets m.pt shift))
verdict-fits m most shift packets is shifts few long stamped small =
    judged-case m (length packets == 0) _
    (refused-case m packets (first_fault packets m.pt) (judged_runs packets shift)
    (λ i. let here = packet-at most packets i small in omega (arith, here.rec, few))
    (λ x e. fault-of most packets m.pt x small e)
    (λ e. runs-case m (length (cuts packets (length packets)) == 0) (run_outcome packets shift 0 (length packets)) (runs packets shift)
    (λ g. outcome-fits m packets shift 0 (length packets) is (omega (arith, long)) g)
    (λ g. runs-fit m most packets shift (length packets) 0 (cuts packets (length packets)) is few small (omega (arith, long))
    (places-low (is_cut packets) 0 (length packets)) g.outcomes)
    (unfaulted-grouped packets m.pt shift long shifts stamped e)))

-- counted numbers are small too
counted-small : (before : Option ℕ) (n : ℕ) → counted before n < 2 ^ 32
counted-small None n = omega arith
counted-small (Some before) n = omega arith

counted-read : (before : Option ℕ) (read : Result Rtp PacketFault) → IsRead read → IsRead (counted_rtp before read)
counted-read before (Ok r) h = record { number = counted-small before r.number; fault = tt }
counted-read before (Err fault) h = h

counted_from-small : (most : ℕ) (before : Option ℕ) (packets : List FlowPacket) → All (IsSmallPacket most) packets
    → All (IsSmallPacket most) (counted_from before packets)
counted_from-small most before [] small = All-nil (IsSmallPacket most)
counted_from-small most before (p ∷ ps) small =
    let here = All-head (IsSmallPacket most) p ps small in
    All-cons (IsSmallPacket most) (counted_packet before p) (counted_from (number_after before (counted_rtp before p.rtp)) ps)
    (record { rec = here.rec; read = counted-read before p.rtp here.read })
    (counted_from-small most (number_after before (counted_rtp before p.rtp)) ps (All-tail (IsSmallPacket most) p ps small))

numbered-small : (most : ℕ) (seq16 : Bool) (packets : List FlowPacket) → All (IsSmallPacket most) packets
    → All (IsSmallPacket most) (numbered seq16 packets)
numbered-small most false packets small = small
numbered-small most true packets small = counted_from-small most None packets small

-- the verdict on a flow of small records
pub flow-fits : (m : Media) (options : FlowOptions) (before most : ℕ) (items : List Record) → IsMedia m → AreFlowOptions options → before + most ≤ 2 ^ 40
    → AreSmall before most items → FitsVerdict (verdict_of m (judged (flow items m) m.pt options))
flow-fits m options before most items is shifts few h =
    let packets = flow items m in
    verdict-fits m (before + most) options.shift (numbered options.seq16 packets) is shifts (omega (arith, few))
    (omega (arith, length-numbered options.seq16 packets, flow-few m items, h.few, few))
    (stamped-numbered options.seq16 packets (flow-stamped m (before + most) items h.each))
    (numbered-small (before + most) options.seq16 packets (flow-small m (before + most) items h.each))
