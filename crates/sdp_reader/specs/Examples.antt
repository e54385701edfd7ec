-- Lines, parameters and parts for examples worked by hand.
use Rattle.std.specs.Prelude.{ℕ, false, List, ◌++◌, map, Option, Some, None, codes}
use Rattle.timing_base.specs.Addresses.{ipv4}
use Rattle.timing_base.specs.Media.{Media}
use Rattle.timing_base.specs.declared.address.Address.{Address}
use Rattle.timing_base.specs.declared.media.Kind.{Kind}
use Rattle.sdp_reader.specs.Lines.{TextLine}
use Rattle.sdp_reader.specs.Parameters.{Item, cause_of}
use Rattle.sdp_reader.specs.declared.fault.SdpCause.{SdpCause}
use Rattle.sdp_reader.specs.declared.fault.SdpFault.{SdpFault}
use Rattle.sdp_reader.specs.declared.parameter.Name.{Name}
use Rattle.sdp_reader.specs.declared.part.Destination.{Destination}

-- a line with this number and text
abbrev pub line : ℕ → List ℕ → TextLine
line number text = record { number = number; text = text }

-- a cause on a line
abbrev pub fault : ℕ → SdpCause → SdpFault
fault line what = record { line = line; what = what }

-- a parameter on line 7
abbrev pub item : Name → Option (List ℕ) → Item
item name value = record { line = 7; name = name; value = value }

-- the causes of parameters of a name, with these values
abbrev pub causes : Name → List (List ℕ) → List (Option SdpCause)
causes name values = map (λ value. cause_of name (item name (Some value))) values

-- the destination of a part that begins on this line
abbrev pub part : ℕ → Address → ℕ → Destination
part line address port = record { line = line; target = Some (record { address = address; port = port }) }

-- a part that begins on this line and has no valid address
abbrev pub lost_part : ℕ → Destination
lost_part line = record { line = line; target = None }

-- two lines that follow the first line of a raw part of format 0, with these parameters
abbrev pub raw_0 : List ℕ → List ℕ
raw_0 list = codes "\na=rtpmap:0 raw/90000\na=fmtp:0 " ++ list

-- the media of `one_part`
abbrev pub one_media : Option Kind → Media
one_media declared = record {
  line = 3;
  address = ipv4 1 2 3 4;
  port = 9;
  pt = 96;
  width = 7;
  height = 5;
  interlaced = false;
  p = 3;
  q = 2;
  declared = declared;
  troff = None;
  cmax = None;
}

-- a session section of lines 1 and 2, and a part of the lines 3 to 5 to port 9, with more text appended
abbrev pub one_part : List ℕ → List ℕ
one_part more =
    codes "v=0\nc=IN IP4 1.2.3.4\nm=video 9 RTP/AVP 96\na=rtpmap:96 raw/90000\n"
    ++ (codes "a=fmtp:96 width=7; height=5; exactframerate=3/2" ++ more)
