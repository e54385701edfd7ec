-- The media that a record goes to, and the packet that it is of it.
use Rattle.std.proofs.Common.{◌≡◌, ◌<◌, ◌+◌, ℕ, suc, Bool, true, false, if◌then◌else◌, List, [], ◌∷◌, length, get_or, drop, refl, sym, ap, ◌∙◌, arith}
use Rattle.std.specs.Prelude.{Option, Some, None}
use Rattle.std.proofs.lemmas.List.{at_drop_more}
use Rattle.timing_base.specs.Captures.{Record}
use Rattle.timing_base.specs.Media.{Media}
use Rattle.timing_base.specs.Targets.{target_of}
use Rattle.timing_base.specs.declared.target.Target.{Target}
use Rattle.udp_rtp.specs.Flow.{datagram_packet, is_same_target}
use Rattle.udp_rtp.specs.Frames.{Datagram, datagram_of}
use Rattle.udp_rtp.specs.Reading.{reading}
use Rattle.ruled_intake.specs.Packets.{Packet, packet_of}
use Rattle.flow_worker.specs.Opening.{numbered_or, packet_from}
use Rattle.flow_worker.specs.Targeted.{media_to}

-- a frame with no datagram goes to none
pub packet_from-none : (n : ℕ) (ms : List Media) (r : Record) → datagram_of r.bytes ≡ None → packet_from n ms r ≡ None
packet_from-none n [] r e = refl
packet_from-none n (m ∷ ms) r e =
    ap (λ (o : Option Datagram). numbered_or n (datagram_packet m r.number r.stamp o) (packet_from (n + 1) ms r)) e
    ∙ packet_from-none (n + 1) ms r e

-- the packet of a record with this datagram, of the media with this number
abbrev packet_to : Record → Datagram → Option ℕ → Option Packet
packet_to r d None = None
packet_to r d (Some k) = Some (packet_of k record { rec = r.number; at = r.stamp; rtp = reading d.payload })

packet_to-if : (r : Record) (d : Datagram) (n : ℕ) (rest : Option ℕ) (b : Bool)
    → numbered_or n (if b then Some (record { rec = r.number; at = r.stamp; rtp = reading d.payload }) else None) (packet_to r d rest)
    ≡ packet_to r d (if b then Some n else rest)
packet_to-if r d n rest true = refl
packet_to-if r d n rest false = refl

packet_from-to : (n : ℕ) (ms : List Media) (r : Record) (d : Datagram) → datagram_of r.bytes ≡ Some d → packet_from n ms r
    ≡ packet_to r d (media_to d.target n ms)
packet_from-to n [] r d e = refl
packet_from-to n (m ∷ ms) r d e =
    ap (λ (o : Option Datagram). numbered_or n (datagram_packet m r.number r.stamp o) (packet_from (n + 1) ms r)) e
    ∙ ap (λ (o : Option Packet). numbered_or n (datagram_packet m r.number r.stamp (Some d)) o) (packet_from-to (n + 1) ms r d e)
    ∙ packet_to-if r d n (media_to d.target (n + 1) ms) (is_same_target d.target (target_of m))

-- a record that goes to none of these media
pub packet_from-other : (n : ℕ) (ms : List Media) (r : Record) (d : Datagram) → datagram_of r.bytes ≡ Some d → media_to d.target n ms ≡ None
    → packet_from n ms r ≡ None
packet_from-other n ms r d e none = packet_from-to n ms r d e ∙ ap (packet_to r d) none

-- and one that goes to one of them
pub packet_from-media : (n : ℕ) (ms : List Media) (r : Record) (d : Datagram) (k : ℕ) → datagram_of r.bytes ≡ Some d → media_to d.target n ms ≡ Some k
    → packet_from n ms r ≡ Some (packet_of k record { rec = r.number; at = r.stamp; rtp = reading d.payload })
packet_from-media n ms r d k e some = packet_from-to n ms r d e ∙ ap (packet_to r d) some

below-if : (n k long : ℕ) (rest : Option ℕ) (b : Bool) → (if b then Some n else rest) ≡ Some k → (rest ≡ Some k → k < n + 1 + long) → k < n + suc long
below-if n k long rest true e h = let same : n ≡ k = cc in omega (arith, same)
below-if n k long rest false e h = omega (arith, h e)

-- the number is one of theirs
pub media_to-below : (t : Target) (n k : ℕ) (ms : List Media) → media_to t n ms ≡ Some k → k < n + length ms
media_to-below t n k [] e = absurd (cc)
media_to-below t n k (m ∷ ms) e = below-if n k (length ms) (media_to t (n + 1) ms) (is_same_target t (target_of m)) e (media_to-below t (n + 1) k ms)

-- the first of the media that are left has the target
pub media_to-here : (t : Target) (n : ℕ) (ms : List Media) (m : Media) → n < length ms → m ≡ get_or ms n m → is_same_target t (target_of m) ≡ true
    → media_to t 0 ms ≡ media_to t n (drop n ms) → Some n ≡ media_to t 0 ms
media_to-here t n ms m below read same h =
    let later : Option ℕ = media_to t (n + 1) (drop (n + 1) ms) in
    sym
    (h ∙ at_drop_more (media_to t n) ms n m below ∙ ap (λ (x : Media). if is_same_target t (target_of x) then Some n else later) (sym read)
    ∙ ap (λ (b : Bool). if b then Some n else later) same)
