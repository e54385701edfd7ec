-- Media sections (RFC 4566, section 5.14), connections (section 5.7), and raw parts, with their faults.
-- A raw part is a video section of SMPTE ST 2110-20: its `a=rtpmap` (section 6) has the encoding raw/90000 of RFC
-- 4175.
use Rattle.std.specs.Prelude.{ℕ, ◌+◌, ◌*◌, ◌&&◌, ◌||◌, Bool, true, false, if◌then◌else◌, List, [], ◌∷◌, ◌++◌, Option}
use Rattle.std.specs.Prelude.{Some, None, is_some, is_none, codes, find}
use Rattle.std.specs.Option.{option_and_then, option_map}
use Rattle.std.specs.List.{list_any, flat_map}
use Rattle.std.specs.Str.{str_eq_ignore_ascii_case}
use Rattle.timing_base.specs.Addresses.{ipv4}
use Rattle.timing_base.specs.Media.{Media}
use Rattle.timing_base.specs.declared.address.Address.{Address}
use Rattle.sdp_reader.specs.Bytes.{before, after, holds, after_prefix, digits_of, within, number}
use Rattle.sdp_reader.specs.Lines.{TextLine, at, media_fields, video_of}
use Rattle.sdp_reader.specs.Parameters.{Item, is_the, parameters, value_size, value_offset, value_limit, value_rate}
use Rattle.sdp_reader.specs.Parameters.{value_kind, item_named, item_faults, repeated_faults}
use Rattle.sdp_reader.specs.declared.fault.SdpCause.TheVariants.{NoConnection, BadAddress, MissingParameter}
use Rattle.sdp_reader.specs.declared.fault.SdpFault.{SdpFault}
use Rattle.sdp_reader.specs.declared.line.Video.{Video}
use Rattle.sdp_reader.specs.declared.parameter.Name.{Name}
use Rattle.sdp_reader.specs.declared.parameter.Name.TheVariants.{Width, Height, ExactFrameRate, Interlace, Tp, Troff}
use Rattle.sdp_reader.specs.declared.parameter.Name.TheVariants.{Cmax}
use Rattle.sdp_reader.specs.declared.parameter.Rate.{Rate}

-- a media section: a line that begins `m=`, and the lines up to the next such line or the end
pub record Part : Type 0 where
  pub head : TextLine
  pub body : List TextLine

-- the line begins `m=`
abbrev pub is_head : TextLine → Bool
is_head l = is_some (media_fields l)

-- the lines before the first line that begins `m=`
abbrev pub own_lines : List TextLine → List TextLine
own_lines [] = []
own_lines (l ∷ ls) = if is_head l then [] else l ∷ own_lines ls

-- the media sections, in order; the lines before the first are the session section
abbrev pub parts : List TextLine → List Part
parts [] = []
parts (l ∷ ls) = if is_head l then record { head = l; body = own_lines ls } ∷ parts ls else parts ls

-- the line begins `c=`
abbrev pub is_connection : TextLine → Bool
is_connection l = is_some (after_prefix (codes "c=") l.text)

-- the first `c=` line
abbrev pub connection_line : List TextLine → Option TextLine
connection_line ls = find is_connection ls

-- the connection that applies: the part's own, or the session's if the part has none
abbrev pub counting : Option TextLine → Option TextLine → Option TextLine
counting None session = session
counting (Some own) session = Some own

-- an octet, or a TTL: one to three digits of value at most 255
abbrev pub octet : List ℕ → Option ℕ
octet text = option_and_then (within 0 255) (digits_of 3 text)

-- the address of four octets
abbrev pub address_from : Option ℕ → Option ℕ → Option ℕ → Option ℕ → Option Address
address_from a b c d = option_and_then (λ x. option_and_then
    (λ y. option_and_then (λ z. option_map (λ w. ipv4 x y z w) d) c) b) a

-- there is either no slash or a valid TTL after it
abbrev pub is_ttl : List ℕ → Bool
is_ttl last = if holds 47 last then is_some (octet (after 47 last)) else true

-- three octets, and a fourth, with or without a TTL
abbrev pub dotted : List ℕ → List ℕ → List ℕ → List ℕ → Option Address
dotted a b c last = if is_ttl last then address_from (octet a) (octet b) (octet c) (octet (before 47 last)) else None

-- `A.B.C.D` or `A.B.C.D/TTL`
abbrev pub address_at : List ℕ → Option Address
address_at rest =
    dotted (before 46 rest) (before 46 (after 46 rest)) (before 46 (after 46 (after 46 rest)))
    (after 46 (after 46 (after 46 rest)))

-- the address of a line `c=IN IP4 ADDRESS`
abbrev pub address_of : TextLine → Option Address
address_of l = option_and_then address_at (after_prefix (codes "c=IN IP4 ") l.text)

-- `FORMAT raw/90000`
abbrev pub is_raw_map_at : ℕ → Option (List ℕ) → Bool
is_raw_map_at format None = false
is_raw_map_at format (Some rest) =
    is_the format (number (before 32 rest)) && str_eq_ignore_ascii_case (after 32 rest) (codes "raw/90000")

-- a line `a=rtpmap:FORMAT raw/90000`
abbrev pub is_raw_map : ℕ → TextLine → Bool
is_raw_map format l = is_raw_map_at format (after_prefix (codes "a=rtpmap:") l.text)

-- a raw part: a video section that maps its format to raw/90000
pub record RawPart : Type 0 where
  -- the line that begins it
  pub line : ℕ
  pub video : Video
  -- the connection that applies
  pub connection : Option TextLine
  pub items : List Item

-- the raw part that begins on this line and goes on with these lines; the first argument is the session's connection
abbrev pub raw_part : Option TextLine → ℕ → List TextLine → Video → RawPart
raw_part session line body video = record {
  line = line;
  video = video;
  connection = counting (connection_line body) session;
  items = parameters video.format body;
}

-- the raw part, if the video section maps its format to raw/90000
abbrev pub raw_with : Option TextLine → ℕ → List TextLine → Video → Option RawPart
raw_with session line body video =
    if list_any (is_raw_map video.format) body then Some (raw_part session line body video) else None

-- the raw part of a media section, if it is one; the first argument is the session's connection
abbrev pub raw_of : Option TextLine → Part → Option RawPart
raw_of session part =
    option_and_then (raw_with session part.head.number part.body) (option_and_then video_of (media_fields part.head))

-- NoConnection: neither the part nor the session has a connection.
-- BadAddress: the connection that applies is invalid
abbrev pub connection_faults : ℕ → Option TextLine → List SdpFault
connection_faults line None = at line NoConnection true
connection_faults line (Some connection) = at connection.number BadAddress (is_none (address_of connection))

-- no item has this name
abbrev pub lacks : Name → List Item → Bool
lacks name items = is_none (item_named name items)

-- MissingParameter: width, height or exactframerate is missing
abbrev pub is_missing : List Item → Bool
is_missing items = lacks Width items || lacks Height items || lacks ExactFrameRate items

-- the faults with the causes 5 to 12 of a raw part with this first line, connection and parameters
abbrev pub faults_at : ℕ → Option TextLine → List Item → List SdpFault
faults_at line connection items =
    connection_faults line connection ++ (at line MissingParameter (is_missing items)
    ++ (flat_map item_faults items ++ repeated_faults items))

-- the faults that a raw part has by itself
abbrev pub part_faults : RawPart → List SdpFault
part_faults r = faults_at r.line r.connection r.items

-- the address, if the connection is valid
abbrev pub good_address : RawPart → Option Address
good_address r = option_and_then address_of r.connection

-- the stream with these sizes and this rate
abbrev pub media_with : ℕ → Video → List Item → Address → ℕ → ℕ → Rate → Media
media_with line video items address width height rate = record {
  line = line;
  address = address;
  port = video.port;
  pt = video.format;
  width = width;
  height = height;
  interlaced = is_some (item_named Interlace items);
  p = rate.p;
  q = rate.q;
  declared = option_and_then value_kind (item_named Tp items);
  troff = option_and_then value_offset (item_named Troff items);
  cmax = option_and_then value_limit (item_named Cmax items);
}

-- the stream of a part, if the part has all that a stream needs
abbrev pub media_from : ℕ → Video → Option Address → List Item → Option Media
media_from line video address items =
    option_and_then (λ a. option_and_then (λ w. option_and_then (λ h. option_map (media_with line video items a w h)
    (option_and_then value_rate (item_named ExactFrameRate items)))
    (option_and_then value_size (item_named Height items)))
    (option_and_then value_size (item_named Width items)))
    address

-- the stream of a raw part
abbrev pub media_of : RawPart → Option Media
media_of r = media_from r.line r.video (good_address r) r.items
