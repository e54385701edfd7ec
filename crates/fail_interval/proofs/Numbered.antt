-- The judged numbers of a flow's packets, one packet on.
use Rattle.std.proofs.Common.{◌≡◌, ◌<◌, ◌+◌, ◌-◌, ◌%◌, ◌^◌, ℕ, zero, suc, Bool, true, false, List, [], ◌∷◌, ◌++◌, length, length-append, Option, Some, None}
use Rattle.std.proofs.Common.{Result, Ok, Err, refl, arith, ap, ◌∙◌, sym}
use Rattle.std.specs.Prelude.{◌==◌, if◌then◌else◌, IsOk}
use Rattle.std.proofs.lemmas.Bool.Decides.{nat_tests}
use Rattle.timing_base.specs.Flows.{first_fault, first_fault_below, first_of, next_number, packet, read_or_zeros, reading_fault, rtp}
use Rattle.timing_base.specs.Numbered.{counted, counted_from, counted_packet, counted_rtp, last_counted, number_after, numbered, sequence}
use Rattle.timing_base.specs.declared.packet.FlowPacket.{FlowPacket}
use Rattle.timing_base.specs.declared.packet.PacketFault.{PacketFault}
use Rattle.timing_base.specs.declared.packet.Rtp.{Rtp}
use Rattle.timing_base.proofs.FirstFaults.{no_fault-at}
use Rattle.timing_base.proofs.Numberings.{length-numbered, numbered-push}
use Rattle.frame_group.specs.Expected.{going_on, last_number_of, next_packet, raise_after, raise_of, with_number}
use Rattle.fail_interval.proofs.Flows.{packet-here}

-- besides its number, a packet is as it was
alike-case : (before : Option ℕ) (x : Result Rtp PacketFault) → with_number 0 (read_or_zeros (counted_rtp before x)) ≡ with_number 0 (read_or_zeros x)
alike-case before (Ok r) = refl
alike-case before (Err fault) = refl

alike-from : (before : Option ℕ) (packets : List FlowPacket) (i : ℕ) → with_number 0 (rtp (counted_from before packets) i) ≡ with_number 0 (rtp packets i)
alike-from before [] i = refl
alike-from before (p ∷ ps) zero = alike-case before p.rtp
alike-from before (p ∷ ps) (suc i) = alike-from (number_after before (counted_rtp before p.rtp)) ps i

pub numbered-alike : (seq16 : Bool) (packets : List FlowPacket) (i : ℕ) → with_number 0 (rtp (numbered seq16 packets) i) ≡ with_number 0 (rtp packets i)
numbered-alike false packets i = refl
numbered-alike true packets i = alike-from None packets i

-- and it keeps its sequence number
sequence-counted : (before : Option ℕ) (n : ℕ) → sequence (counted before n) ≡ sequence n
sequence-counted None n = omega arith
sequence-counted (Some before) n = omega arith

sequence-case : (before : Option ℕ) (x : Result Rtp PacketFault) → sequence (read_or_zeros (counted_rtp before x)).number ≡ sequence (read_or_zeros x).number
sequence-case before (Ok r) = sequence-counted before r.number
sequence-case before (Err fault) = refl

sequence-from : (before : Option ℕ) (packets : List FlowPacket) (i : ℕ)
    → sequence (rtp (counted_from before packets) i).number ≡ sequence (rtp packets i).number
sequence-from before [] i = refl
sequence-from before (p ∷ ps) zero = sequence-case before p.rtp
sequence-from before (p ∷ ps) (suc i) = sequence-from (number_after before (counted_rtp before p.rtp)) ps i

-- a counted number has 32 bits
counted-few : (before : Option ℕ) (n : ℕ) → counted before n < 2 ^ 32
counted-few None n = omega arith
counted-few (Some before) n = omega arith

few-case : (before : Option ℕ) (x : Result Rtp PacketFault) → (read_or_zeros (counted_rtp before x)).number < 2 ^ 32
few-case before (Ok r) = counted-few before r.number
few-case before (Err fault) = omega arith

few-from : (before : Option ℕ) (packets : List FlowPacket) (i : ℕ) → (rtp (counted_from before packets) i).number < 2 ^ 32
few-from before [] i = omega arith
few-from before (p ∷ ps) zero = few-case before p.rtp
few-from before (p ∷ ps) (suc i) = few-from (number_after before (counted_rtp before p.rtp)) ps i

-- a packet without a fault was read
first-none : (a b : Option PacketFault) → first_of a b ≡ None → a ≡ None
first-none None b e = refl
first-none (Some fault) b e = cc

read-case : (x : Result Rtp PacketFault) → reading_fault x ≡ None → IsOk x
read-case (Ok r) e = refl
read-case (Err fault) e = cc

pub read-at : (packets : List FlowPacket) (pt n i : ℕ) → first_fault_below packets pt n ≡ None → i < n → IsOk (packet packets i).rtp
read-at packets pt n i e h = read-case _ (first-none _ _ (first-none _ _ (no_fault-at packets pt n i e h)))

-- the next packet counts on from the last one
after-case : (before : Option ℕ) (x : Result Rtp PacketFault) → IsOk (counted_rtp before x)
    → number_after before (counted_rtp before x) ≡ Some (read_or_zeros (counted_rtp before x)).number
after-case before (Ok r) ok = refl
after-case before (Err fault) ok = cc

last-from : (before : Option ℕ) (p : FlowPacket) (ps : List FlowPacket) → IsOk (packet (counted_from before (p ∷ ps)) (length ps)).rtp
    → last_counted before (p ∷ ps) ≡ Some (rtp (counted_from before (p ∷ ps)) (length ps)).number
last-from before p [] ok = after-case before p.rtp ok
last-from before p (q ∷ qs) ok = last-from (number_after before (counted_rtp before p.rtp)) q qs ok

some-is : (n : ℕ) → 0 < n → (n == 0) ≡ false
some-is n h = grind (arith, nat_tests)

-- the number of the last packet
pub last-number : (packets : List FlowPacket) → 0 < length packets → last_number_of packets ≡ Some (rtp packets (length packets - 1)).number
last-number packets some = ap (λ b. if b then None else Some (rtp packets (length packets - 1)).number) (some-is (length packets) some)

pub last-counted : (packets : List FlowPacket) (pt : ℕ) → first_fault (numbered true packets) pt ≡ None
    → last_counted None packets ≡ last_number_of (numbered true packets)
last-counted [] pt none = refl
last-counted (p ∷ ps) pt none =
    let all = numbered true (p ∷ ps) in
    let long : length all ≡ length (p ∷ ps) = length-numbered true (p ∷ ps) in
    let at : length all - 1 ≡ length ps = omega (arith, long) in
    last-from None p ps (read-at all pt (length all) (length ps) none (omega (arith, long)))
    ∙ sym (last-number all (omega (arith, long)) ∙ ap (λ k. Some (rtp all k).number) at)

-- one packet more, as it is judged
abbrev pub judged_next : Bool → List FlowPacket → FlowPacket → FlowPacket
judged_next false packets p = p
judged_next true packets p = counted_packet (last_counted None packets) p

pub numbered-next : (seq16 : Bool) (packets : List FlowPacket) (p : FlowPacket)
    → numbered seq16 (packets ++ p ∷ []) ≡ numbered seq16 packets ++ judged_next seq16 packets p ∷ []
numbered-next false packets p = refl
numbered-next true packets p = numbered-push packets p

-- what its judged number is above its own
pub raise-push : (seq16 : Bool) (packets : List FlowPacket) (p q : FlowPacket) → numbered seq16 (packets ++ p ∷ []) ≡ numbered seq16 packets ++ q ∷ []
    → raise_after seq16 (packets ++ p ∷ []) ≡ raise_of (read_or_zeros q.rtp).number (read_or_zeros p.rtp).number
raise-push seq16 packets p q e =
    let last : length (packets ++ p ∷ []) - 1 ≡ length packets = omega (arith, length-append packets (p ∷ [])) in
    let long : length packets ≡ length (numbered seq16 packets) = sym (length-numbered seq16 packets) in
    let own : (rtp (packets ++ p ∷ []) (length packets)).number ≡ (read_or_zeros p.rtp).number =
    ap (λ (x : FlowPacket). (read_or_zeros x.rtp).number) (packet-here packets [] p) in
    let judged : (rtp (numbered seq16 (packets ++ p ∷ [])) (length packets)).number ≡ (read_or_zeros q.rtp).number =
    ap (λ (l : List FlowPacket). (rtp l (length packets)).number) e
    ∙ (ap (λ k. (rtp (numbered seq16 packets ++ q ∷ []) k).number) long
    ∙ ap (λ (x : FlowPacket). (read_or_zeros x.rtp).number) (packet-here (numbered seq16 packets) [] q)) in
    ap (λ k. raise_of (rtp (numbered seq16 (packets ++ p ∷ [])) k).number (rtp (packets ++ p ∷ []) k).number) last
    ∙ (ap (λ n. raise_of n (rtp (packets ++ p ∷ []) (length packets)).number) judged ∙ ap (raise_of (read_or_zeros q.rtp).number) own)

-- the number of the last packet, of one packet more
pub last-push : (packets : List FlowPacket) (p : FlowPacket)
    → (rtp (packets ++ p ∷ []) (length (packets ++ p ∷ []) - 1)).number ≡ (read_or_zeros p.rtp).number
last-push packets p =
    let last : length (packets ++ p ∷ []) - 1 ≡ length packets = omega (arith, length-append packets (p ∷ [])) in
    ap (λ k. (rtp (packets ++ p ∷ []) k).number) last ∙ ap (λ (x : FlowPacket). (read_or_zeros x.rtp).number) (packet-here packets [] p)

-- a packet by its parts
abbrev rtp_by : (number timestamp : ℕ) → Bool → (pt ssrc : ℕ) → Rtp
rtp_by number timestamp marker pt ssrc = record { number = number; timestamp = timestamp; marker = marker; pt = pt; ssrc = ssrc }

-- the packet that goes on in the judged flow is the one in the bytes, but for its number
pub going-alike : (seq16 : Bool) (packets : List FlowPacket) (pt : ℕ)
    → going_on (numbered seq16 packets) pt (length (numbered seq16 packets))
    ≡ with_number (next_number (rtp (numbered seq16 packets) (length packets - 1)).number) (going_on packets pt (length packets))
going-alike seq16 packets pt =
    let all = numbered seq16 packets in
    let i = length packets - 1 in
    let number = next_number (rtp all i).number in
    ap (λ n. going_on all pt n) (length-numbered seq16 packets)
    ∙ (ap (λ (r : Rtp). rtp_by number r.timestamp false pt (rtp all 0).ssrc) (numbered-alike seq16 packets i)
    ∙ ap (λ (r : Rtp). rtp_by number (rtp packets i).timestamp false pt r.ssrc) (numbered-alike seq16 packets 0))

counted-on : (n own : ℕ) → sequence n ≡ sequence own → counted (Some n) (next_number own) ≡ next_number n
counted-on n own same = omega (arith, same)

-- the packet that goes on in the bytes goes on in the judged flow
pub numbered-going : (seq16 : Bool) (packets : List FlowPacket) (pt rec at : ℕ) → 0 < length packets → first_fault (numbered seq16 packets) pt ≡ None
    → numbered seq16 (packets ++ next_packet packets pt rec at ∷ []) ≡ numbered seq16 packets ++ next_packet (numbered seq16 packets) pt rec at ∷ []
numbered-going false packets pt rec at some none = refl
numbered-going true packets pt rec at some none =
    let all = numbered true packets in
    let i = length packets - 1 in
    let p = next_packet packets pt rec at in
    let long = length-numbered true packets in
    let last : last_counted None packets ≡ Some (rtp all i).number =
    last-counted packets pt none ∙ (last-number all (omega (arith, long, some)) ∙ ap (λ n. Some (rtp all (n - 1)).number) long) in
    let number : counted (last_counted None packets) (next_number (rtp packets i).number) ≡ next_number (rtp all i).number =
    ap (λ before. counted before (next_number (rtp packets i).number)) last
    ∙ counted-on (rtp all i).number (rtp packets i).number (sequence-from None packets i) in
    let as_packet : Rtp → FlowPacket = λ r. record { rec = rec; at = at; rtp = Ok r } in
    let same : counted_packet (last_counted None packets) p ≡ next_packet all pt rec at =
    ap (λ n. as_packet (with_number n (going_on packets pt (length packets)))) number ∙ sym (ap as_packet (going-alike true packets pt)) in
    numbered-push packets p ∙ ap (λ q. all ++ q ∷ []) same

lowered : (n own : ℕ) → n < 2 ^ 32 → own < 2 ^ 32 → (next_number n + 2 ^ 32 - raise_of n own) % 2 ^ 32 ≡ next_number own
lowered n own few less = omega (arith, few, less)

raised : (n own : ℕ) → n < 2 ^ 32 → own < 2 ^ 32 → raise_of (next_number n) (next_number own) ≡ raise_of n own
raised n own few less = omega (arith, few, less)

lowered-plain : (own : ℕ) → (next_number own + 2 ^ 32 - raise_of own own) % 2 ^ 32 ≡ next_number own
lowered-plain own = omega arith

-- the number of the packet that goes on, as it stands in the bytes
pub lowered-going : (seq16 : Bool) (packets : List FlowPacket) → (seq16 ≡ true → (rtp packets (length packets - 1)).number < 2 ^ 32)
    → (next_number (rtp (numbered seq16 packets) (length packets - 1)).number + 2 ^ 32 - raise_after seq16 packets) % 2 ^ 32
    ≡ next_number (rtp packets (length packets - 1)).number
lowered-going false packets few = lowered-plain (rtp packets (length packets - 1)).number
lowered-going true packets few = lowered _ _ (few-from None packets (length packets - 1)) (few refl)

-- numbers that aren't counted aren't raised
pub raise-plain : (packets : List FlowPacket) → raise_after false packets ≡ 0
raise-plain packets = omega arith

-- the raise stays
pub raise-going : (seq16 : Bool) (packets : List FlowPacket) (pt rec at : ℕ) → 0 < length packets → first_fault (numbered seq16 packets) pt ≡ None
    → (seq16 ≡ true → (rtp packets (length packets - 1)).number < 2 ^ 32)
    → raise_after seq16 (packets ++ next_packet packets pt rec at ∷ []) ≡ raise_after seq16 packets
raise-going false packets pt rec at some none few = raise-plain (packets ++ next_packet packets pt rec at ∷ []) ∙ sym (raise-plain packets)
raise-going true packets pt rec at some none few =
    raise-push true packets (next_packet packets pt rec at) (next_packet (numbered true packets) pt rec at)
    (numbered-going true packets pt rec at some none)
    ∙ (ap (λ (r : Rtp). raise_of r.number (next_number (rtp packets (length packets - 1)).number)) (going-alike true packets pt)
    ∙ raised _ _ (few-from None packets (length packets - 1)) (few refl))

pub numbered-none : (seq16 : Bool) → numbered seq16 [] ≡ []
numbered-none false = refl
numbered-none true = refl

-- nor that before the first packet
pub raise-none : (seq16 : Bool) → raise_after seq16 [] ≡ 0
raise-none false = refl
raise-none true = refl
