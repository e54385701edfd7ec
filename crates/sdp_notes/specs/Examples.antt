-- Session descriptions and videos for examples worked by hand.
use Rattle.std.specs.Prelude.{ℕ, Bool, List, ◌++◌, codes, None, Some}
use Rattle.timing_base.specs.Addresses.{ipv4}
use Rattle.timing_base.specs.Media.{Media}
use Rattle.timing_base.specs.declared.media.Kind.TheVariants.{N}
use Rattle.sdp_reader.specs.Lines.{lines}
use Rattle.sdp_notes.specs.Notes.{Note, notes_on}

-- the notes on a raw part of the lines 1 to 3 with this list of parameters on line 3, and more text after it
abbrev pub notes_with : List ℕ → List Note
notes_with more =
    notes_on (lines (codes "m=video 50000 RTP/AVP 96\na=rtpmap:96 raw/90000\na=fmtp:96 " ++ more))

-- a video of 1920 x 1080 at p / q frames per second to 239.0.0.1:50000 that declares type N
abbrev pub hd_video : Bool → ℕ → ℕ → Media
hd_video interlaced p q = record {
  line = 5;
  address = ipv4 239 0 0 1;
  port = 50000;
  pt = 96;
  width = 1920;
  height = 1080;
  interlaced = interlaced;
  p = p;
  q = q;
  declared = Some N;
  troff = None;
  cmax = None;
}
