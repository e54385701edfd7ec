-- The media that the reader of SDP gets from a draft, and the conditions on the videos of a draft. Lines count from 1.
use Rattle.std.specs.Prelude.{◌≡◌, ◌≤◌, ◌<◌, ◌+◌, ◌*◌, ◌^◌, ℕ, ⊤, false, List, [], ◌∷◌, None}
use Rattle.timing_base.specs.Media.{Media}
use Rattle.capture_scan.specs.declared.stream.Stream.{Stream}
use Rattle.capture_scan.specs.report.Draft.{has_target}
use Rattle.capture_scan.specs.declared.report.draft.DraftVideo.{DraftVideo}

-- the media of a video with its first line at this number; no sender type, TROFF or CMAX is declared
abbrev pub media_at : ℕ → DraftVideo → Media
media_at line v = record {
  line = line;
  address = v.target.address;
  port = v.target.port;
  pt = v.pt;
  width = v.width;
  height = v.height;
  interlaced = v.interlaced;
  p = v.rate.p;
  q = v.rate.q;
  declared = None;
  troff = None;
  cmax = None;
}

-- the media of videos, the first of which begins at this line; each has five lines
abbrev pub media_from : ℕ → List DraftVideo → List Media
media_from line [] = []
media_from line (v ∷ rest) = media_at line v ∷ media_from (line + 5) rest

-- the media of a draft; its first four lines are the session's
abbrev pub media_of : List DraftVideo → List Media
media_of videos = media_from 5 videos

-- no two videos have the same target
abbrev pub HaveOwnTargets : List DraftVideo → Type 0
HaveOwnTargets [] = ⊤
HaveOwnTargets (v ∷ rest) = (has_target v.target rest ≡ false) × HaveOwnTargets rest

-- the values of a video are in the ranges of an SDP: address, port and payload type, sizes of 1 to 32,767, and a rate
-- above 0 and at most 240 frames per second, as a fraction with a denominator of 1 to 1001
pub record IsDrafted (v : DraftVideo) : Type 0 where
  pub address : v.target.address.bits < 2 ^ 32
  pub port_some : 1 ≤ v.target.port
  pub port : v.target.port ≤ 65535
  pub pt : v.pt ≤ 127
  pub width_some : 1 ≤ v.width
  pub width : v.width ≤ 32767
  pub height_some : 1 ≤ v.height
  pub height : v.height ≤ 32767
  pub rate_some : 1 ≤ v.rate.p
  pub rate : v.rate.p ≤ 240 * v.rate.q
  pub seconds_some : 1 ≤ v.rate.q
  pub seconds : v.rate.q ≤ 1001

-- the address, port and payload type of a stream have 32, 16 and 7 bits, as in a packet
pub record HasBits (s : Stream) : Type 0 where
  pub address : s.target.address.bits < 2 ^ 32
  pub port : s.target.port < 2 ^ 16
  pub pt : s.pt < 2 ^ 7
