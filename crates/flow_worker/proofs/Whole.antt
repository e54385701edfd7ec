-- What a file has to send to a lane is whole: batches with the packets of the lane, in order, and then the end; and all of
-- a media's flow is among them.
use Rattle.std.proofs.Common.{◌≡◌, ◌≤◌, ◌<◌, ◌+◌, ◌*◌, ℕ, if◌then◌else◌, List, length, slice_get, Some, sym, ap, ◌∙◌, subst, arith}
use Rattle.std.specs.Prelude.{Option}
use Rattle.std.proofs.lemmas.Nat.{mod_below}
use Rattle.timing_base.specs.Captures.{Record}
use Rattle.timing_base.specs.Media.{Media}
use Rattle.udp_rtp.specs.Flow.{flow}
use Rattle.flow_worker.specs.Messages.{media_packets}
use Rattle.flow_worker.specs.Opening.{Capture, IsSetting, Setting, for_lane, lane_packets, media_lane, messages, packet_lane, sends_if, session_packets}
use Rattle.flow_worker.specs.Cut.{AreWhole}
use Rattle.flow_worker.proofs.Lists.{media_packets-lane}
use Rattle.flow_worker.proofs.Lanes.{sent_whole}
use Rattle.flow_worker.proofs.Media.{session_packets-media}

-- a lane is that of a worker
pub media_lane-below : (s : Setting) (f k : ℕ) → 1 ≤ s.workers → media_lane s f k < s.workers
media_lane-below s f k some = mod_below ((if s.joined then 0 else f) * length s.media + k) s.workers some

-- the messages of a file for a lane are batches with the packets of the lane, in order, and then the end
pub messages_whole : (s : Setting) (captures : List Capture) (f w : ℕ) (c : Capture) → slice_get captures f ≡ Some c → w < s.workers
    → AreWhole f (lane_packets (packet_lane s f) w (session_packets s.media c.records)) c.note (length c.records) (messages s captures f w)
messages_whole s captures f w c file below =
    let ps = session_packets s.media c.records in
    subst (λ (o : Option Capture). AreWhole f (lane_packets (packet_lane s f) w ps) c.note (length c.records) (for_lane w (sends_if 256 s f o)))
    (sym file) (sent_whole 256 f (packet_lane s f) ps s.workers w c.note (length c.records) (omega arith) below)

-- the packets of a media among those of its lane are its flow
pub lane_flow : (s : Setting) (f k : ℕ) (m : Media) (items : List Record) → IsSetting s → slice_get s.media k ≡ Some m
    → media_packets k (lane_packets (packet_lane s f) (media_lane s f k) (session_packets s.media items)) ≡ flow items m
lane_flow s f k m items is media =
    media_packets-lane (packet_lane s f) (media_lane s f k) k (λ p e. ap (media_lane s f) e) (session_packets s.media items)
    ∙ session_packets-media s.media k m items is.targets media
