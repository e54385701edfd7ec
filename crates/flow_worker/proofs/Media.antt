-- The packets of a file that have the number of a media are the media's flow, where no two media have one target.
use Rattle.std.proofs.Common.{◌≡◌, ◌<◌, ◌+◌, ℕ, zero, suc, Bool, if◌then◌else◌, List, [], ◌∷◌, slice_get, Some, None, refl, sym, ap, ap₂, ◌∙◌}
use Rattle.std.proofs.Common.{eq-eqb, ne_eqb, arith}
use Rattle.std.specs.Prelude.{Option}
use Rattle.std.specs.List.{cons_option}
use Rattle.std.proofs.lemmas.Option.{cond_some}
use Rattle.timing_base.proofs.Targets.{same-target}
use Rattle.timing_base.specs.Captures.{Record}
use Rattle.timing_base.specs.Media.{Media}
use Rattle.timing_base.specs.Targets.{target_of, HaveOwnTargets}
use Rattle.timing_base.specs.declared.packet.FlowPacket.{FlowPacket}
use Rattle.udp_rtp.specs.Flow.{datagram_packet, flow, flow_packet, is_same_target}
use Rattle.udp_rtp.specs.Frames.{Datagram, datagram_of}
use Rattle.udp_rtp.specs.Reading.{reading}
use Rattle.ruled_intake.specs.Packets.{Packet, packet_of}
use Rattle.flow_worker.specs.Messages.{media_packet, media_packets}
use Rattle.flow_worker.specs.Opening.{numbered_or, packet_from, session_packets}

-- the target of a datagram whose packet is the media's
datagram_target : (m : Media) (number stamp : ℕ) (d : Datagram) (p : FlowPacket) → datagram_packet m number stamp (Some d) ≡ Some p → d.target ≡ target_of m
datagram_target m number stamp d p e =
    let made : FlowPacket = record { rec = number; at = stamp; rtp = reading d.payload } in
    same-target d.target (target_of m) (cond_some (is_same_target d.target (target_of m)) made p e).0

-- a record that goes to two media
one_target_of : (m n : Media) (number stamp : ℕ) (o : Option Datagram) (p q : FlowPacket) → datagram_packet m number stamp o ≡ Some p
    → datagram_packet n number stamp o ≡ Some q → target_of m ≡ target_of n
one_target_of m n number stamp None p q e f = cc
one_target_of m n number stamp (Some d) p q e f = sym (datagram_target m number stamp d p e) ∙ datagram_target n number stamp d q f

-- the two have one target
one_target : (m n : Media) (r : Record) (p q : FlowPacket) → flow_packet m r ≡ Some p → flow_packet n r ≡ Some q → target_of m ≡ target_of n
one_target m n r p q e f = one_target_of m n r.number r.stamp (datagram_of r.bytes) p q e f

-- a packet as one of this media's flow, if there is one
media_packet_if : ℕ → Option Packet → Option FlowPacket
media_packet_if k None = None
media_packet_if k (Some p) = media_packet k p

-- a packet with this number
pick_here : (k number : ℕ) (p : FlowPacket) → number ≡ k → media_packet k (packet_of number p) ≡ Some p
pick_here k number p e = ap (λ (b : Bool). if b then Some p else None) (eq-eqb number k e)

-- a packet with another
pick_other : (k number : ℕ) (p : FlowPacket) → (number ≡ k → ⊥) → media_packet k (packet_of number p) ≡ None
pick_other k number p n = ap (λ (b : Bool). if b then Some p else None) (ne_eqb number k n)

-- a number below those of these media is that of no packet
past_of : (k number : ℕ) (o : Option FlowPacket) (later : Option Packet) → k < number → media_packet_if k later ≡ None
    → media_packet_if k (numbered_or number o later) ≡ None
unfolding media_packet_if
past_of k number None later h more = more
past_of k number (Some p) later h more = pick_other k number p (λ e. omega arith)

past : (k number : ℕ) (media : List Media) (r : Record) → k < number → media_packet_if k (packet_from number media r) ≡ None
unfolding media_packet_if
past k number [] r h = refl
past k number (m ∷ ms) r h = past_of k number (flow_packet m r) (packet_from (number + 1) ms r) h (past k (number + 1) ms r (omega arith))

-- the first media is this one
first_is : (number : ℕ) (m : Media) (ms : List Media) (r : Record) (o : Option FlowPacket) → flow_packet m r ≡ o
    → media_packet_if (number + 0) (numbered_or number o (packet_from (number + 1) ms r)) ≡ o
unfolding media_packet_if
first_is number m ms r None e = past (number + 0) (number + 1) ms r (omega arith)
first_is number m ms r (Some p) e = pick_here (number + 0) number p (omega arith)

-- a record that goes to one media goes to no other
goes_nowhere : (m n : Media) (r : Record) (p : FlowPacket) (o : Option FlowPacket) → flow_packet m r ≡ Some p → (target_of m ≡ target_of n → ⊥)
    → flow_packet n r ≡ o → None ≡ o
goes_nowhere m n r p None e apart f = refl
goes_nowhere m n r p (Some q) e apart f = absurd (apart (one_target m n r p q e f))

-- the first media is another
first_other : (number k : ℕ) (m n : Media) (r : Record) (o : Option FlowPacket) (later : Option Packet) → flow_packet m r ≡ o → (target_of m ≡ target_of n → ⊥)
    → media_packet_if (number + suc k) later ≡ flow_packet n r → media_packet_if (number + suc k) (numbered_or number o later) ≡ flow_packet n r
unfolding media_packet_if
first_other number k m n r None later e apart more = more
first_other number k m n r (Some p) later e apart more =
    pick_other (number + suc k) number p (λ same. omega arith) ∙ goes_nowhere m n r p (flow_packet n r) e apart refl

-- the other media have targets of their own too
others_own : (m : Media) (ms : List Media) → HaveOwnTargets (m ∷ ms) → HaveOwnTargets ms
others_own m ms own i j a b p q same = let e : suc i ≡ suc j = own (suc i) (suc j) a b p q same in omega arith

-- what a record is of the media with this number
packet_from-at : (number : ℕ) (media : List Media) (k : ℕ) (m : Media) (r : Record) → HaveOwnTargets media → slice_get media k ≡ Some m
    → media_packet_if (number + k) (packet_from number media r) ≡ flow_packet m r
unfolding media_packet_if
packet_from-at number [] k m r own e = cc
packet_from-at number (n ∷ ms) zero m r own e =
    let same : n ≡ m = cc in
    first_is number n ms r (flow_packet n r) refl ∙ ap (λ (x : Media). flow_packet x r) same
packet_from-at number (n ∷ ms) (suc k) m r own e =
    let next : number + 1 + k ≡ number + suc k = omega arith in
    let more : media_packet_if (number + suc k) (packet_from (number + 1) ms r) ≡ flow_packet m r =
    ap (λ (x : ℕ). media_packet_if x (packet_from (number + 1) ms r)) (sym next)
    ∙ packet_from-at (number + 1) ms k m r (others_own n ms own) e in
    let apart : target_of n ≡ target_of m → ⊥ = λ same. let z : 0 ≡ suc k = own 0 (suc k) n m refl e same in absurd (omega arith) in
    first_other number k n m r (flow_packet n r) (packet_from (number + 1) ms r) refl apart more

-- one packet more, if there is one
picks-cons : (k : ℕ) (o : Option Packet) (ps : List Packet) → media_packets k (cons_option o ps) ≡ cons_option (media_packet_if k o) (media_packets k ps)
unfolding media_packet_if
picks-cons k None ps = refl
picks-cons k (Some p) ps = refl

-- the packets of a file with the number of a media are its flow
pub session_packets-media : (media : List Media) (k : ℕ) (m : Media) (items : List Record) → HaveOwnTargets media → slice_get media k ≡ Some m
    → media_packets k (session_packets media items) ≡ flow items m
session_packets-media media k m [] own e = refl
session_packets-media media k m (r ∷ rs) own e =
    let here : media_packet_if k (packet_from 0 media r) ≡ flow_packet m r =
    ap (λ (x : ℕ). media_packet_if x (packet_from 0 media r)) (let z : k ≡ 0 + k = omega arith in z) ∙ packet_from-at 0 media k m r own e in
    picks-cons k (packet_from 0 media r) (session_packets media rs)
    ∙ ap₂ cons_option here (session_packets-media media k m rs own e)
