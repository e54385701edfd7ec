-- What is expected of the media of a session, as packets come.
use Rattle.std.proofs.Common.{◌≡◌, ◌<◌, ℕ, true, List, length, get_or, set, ap, ◌∙◌}
use Rattle.std.specs.Prelude.{All, Some, Ok}
use Rattle.std.proofs.lemmas.List.Elements.{All-get_or, All-set}
use Rattle.timing_base.specs.Captures.{Record}
use Rattle.timing_base.specs.Media.{Media}
use Rattle.timing_base.specs.declared.packet.Rtp.{Rtp}
use Rattle.timing_base.specs.declared.target.Target.{Target}
use Rattle.udp_rtp.specs.Awaited.{awaited, carries_awaited}
use Rattle.udp_rtp.specs.Carried.{carries}
use Rattle.udp_rtp.specs.Frames.{Datagram, datagram_at, payload_at}
use Rattle.udp_rtp.proofs.Awaiting.{awaited-carried}
use Rattle.udp_rtp.proofs.PlainFrames.{carried, datagram-carried, reading-carried}
use Rattle.ruled_intake.specs.Packets.{packet_of}
use Rattle.flow_worker.specs.Expecting.{IsExpected}
use Rattle.flow_worker.specs.Opening.{packet_from}
use Rattle.flow_worker.specs.Targeted.{media_to}
use Rattle.flow_worker.specs.declared.upcoming.Expected.{Expected}
use Rattle.flow_worker.specs.declared.upcoming.Upcoming.{Upcoming}
use Rattle.flow_worker.proofs.Targeting.{packet_from-media}

-- the place of the media whose turn it is, and what is expected there; `d` and `e` would be read past the end
abbrev pub ahead : Upcoming → (d : Expected) → ℕ
ahead u d = (get_or u.each u.last d).after

abbrev pub expected_ahead : Upcoming → (d e : Expected) → Expected
expected_ahead u d e = get_or u.each (ahead u d) e

-- what is expected may be put in any place
pub expected-put : (all : List Media) (es : List Expected) (i : ℕ) (e : Expected) → IsExpected all e → All (IsExpected all) es
    → All (IsExpected all) (set es i e)
expected-put all es i e is each = All-set (IsExpected all) es i e is each

-- what is expected in place i is expected there whatever comes after it
pub expected-before : (all : List Media) (es : List Expected) (i after : ℕ) (d : Expected) → i < length es → All (IsExpected all) es
    → All (IsExpected all) (set es i record { awaited = (get_or es i d).awaited; media = (get_or es i d).media; after = after })
expected-before all es i after d within each = All-set (IsExpected all) es i _ (All-get_or (IsExpected all) es i d within each) each

-- what is expected of the media whose turn it is
pub is-ahead : (all : List Media) (u : Upcoming) (d e : Expected) → ahead u d < length u.each → All (IsExpected all) u.each
    → IsExpected all (expected_ahead u d e)
is-ahead all u d e within each = All-get_or (IsExpected all) u.each (ahead u d) e within each

-- the target and the packet of a frame that carries what is expected of that media, whose target it is
pub carried-ahead : (all : List Media) (u : Upcoming) (d e : Expected) (frame : List ℕ) → ahead u d < length u.each → All (IsExpected all) u.each
    → carries_awaited (awaited (expected_ahead u d e).awaited) frame ≡ true
    → (target : Target) × (p : Rtp) × (awaited (expected_ahead u d e).awaited ≡ Some (target, p)) × (carries target p frame ≡ true)
    × (media_to target 0 all ≡ Some (expected_ahead u d e).media)
carried-ahead all u d e frame within each h =
    let (target, p, is, it) = awaited-carried (awaited (expected_ahead u d e).awaited) frame h in
    (target, p, is, it, is-ahead all u d e within each target p is)

-- a record whose frame carries this packet to this target has it, of the first media with the target
pub packet-expected : (all : List Media) (target : Target) (p : Rtp) (media : ℕ) (r : Record) → carries target p r.bytes ≡ true
    → media_to target 0 all ≡ Some media
    → packet_from 0 all r ≡ Some (packet_of media record { rec = r.number; at = r.stamp; rtp = Ok p })
packet-expected all target p media r h is =
    let fields = carried target p r.bytes h in
    let d : Datagram = record (datagram_at r.bytes 14) { target = target; payload = payload_at r.bytes 34 } in
    packet_from-media 0 all r d media (datagram-carried target p r.bytes fields) is
    ∙ ap (λ x. Some (packet_of media record { rec = r.number; at = r.stamp; rtp = x })) (reading-carried target p r.bytes fields)
