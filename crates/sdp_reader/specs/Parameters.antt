-- The parameters of a raw part: `a=fmtp` (RFC 4566, section 6) with the names of SMPTE ST 2110-20 and ST 2110-21.
-- Sizes are pixels and lines, the rate is frames per second, TROFF microseconds, CMAX packets and MAXUDP bytes.
use Rattle.std.specs.Prelude.{ℕ, ◌*◌, ◌==◌, ◌&&◌, Bool, true, false, nat_le, nat_lt, if◌then◌else◌, List, [], Option}
use Rattle.std.specs.Prelude.{Some, None, is_some, is_none, codes, find}
use Rattle.std.specs.Option.{option_and_then}
use Rattle.std.specs.List.{slice_split, filter_map, flat_map}
use Rattle.std.specs.Str.{bytes_eq, str_eq_ignore_ascii_case}
use Rattle.timing_base.specs.declared.media.Kind.{Kind}
use Rattle.timing_base.specs.declared.media.Kind.TheVariants.{N, NL, W}
use Rattle.sdp_reader.specs.Bytes.{before, after, holds, after_prefix, trim, number, number_within}
use Rattle.sdp_reader.specs.Lines.{TextLine, at, repeats}
use Rattle.sdp_reader.specs.declared.fault.SdpCause.{SdpCause}
use Rattle.sdp_reader.specs.declared.fault.SdpCause.TheVariants.{BadParameter, RepeatedParameter, BadRate, Segmented}
use Rattle.sdp_reader.specs.declared.fault.SdpCause.TheVariants.{ExtendedUdp}
use Rattle.sdp_reader.specs.declared.fault.SdpFault.{SdpFault}
use Rattle.sdp_reader.specs.declared.parameter.Name.{Name}
use Rattle.sdp_reader.specs.declared.parameter.Name.TheVariants.{Width, Height, ExactFrameRate, Interlace, Segmentation}
use Rattle.sdp_reader.specs.declared.parameter.Name.TheVariants.{Tp, Troff, Cmax, MaxUdp}
use Rattle.sdp_reader.specs.declared.parameter.Rate.{Rate}

-- a known parameter, on its line
pub record Item : Type 0 where
  pub line : ℕ
  pub name : Name
  pub value : Option (List ℕ)

-- the known parameter of this name, ignoring ASCII case
abbrev pub table_name : List ℕ → Option Name
table_name text =
    if str_eq_ignore_ascii_case text (codes "width") then Some Width
    else if str_eq_ignore_ascii_case text (codes "height") then Some Height
    else if str_eq_ignore_ascii_case text (codes "exactframerate") then Some ExactFrameRate
    else if str_eq_ignore_ascii_case text (codes "interlace") then Some Interlace
    else if str_eq_ignore_ascii_case text (codes "segmented") then Some Segmentation
    else if str_eq_ignore_ascii_case text (codes "TP") then Some Tp
    else if str_eq_ignore_ascii_case text (codes "TROFF") then Some Troff
    else if str_eq_ignore_ascii_case text (codes "CMAX") then Some Cmax
    else if str_eq_ignore_ascii_case text (codes "MAXUDP") then Some MaxUdp
    else None

-- the index of a known parameter, counted from 0
abbrev pub row_of : Name → ℕ
row_of Width = 0
row_of Height = 1
row_of ExactFrameRate = 2
row_of Interlace = 3
row_of Segmentation = 4
row_of Tp = 5
row_of Troff = 6
row_of Cmax = 7
row_of MaxUdp = 8

-- an item with an unknown name is ignored
abbrev pub named : ℕ → Option Name → Option (List ℕ) → Option Item
named line None value = None
named line (Some name) value = Some (record { line = line; name = name; value = value })

-- the parameter of an item `name=value`, which is split at its first `=`, or `name`
abbrev pub item_of : ℕ → List ℕ → Option Item
item_of line text =
    if holds 61 text then named line (table_name (before 61 text)) (Some (after 61 text))
    else named line (table_name text) None

-- the parameter of an item with spaces and tabs around it
abbrev pub item_at : ℕ → List ℕ → Option Item
item_at line piece = item_of line (trim piece)

-- the known parameters of a list, which is split at `;`
abbrev pub items_of : ℕ → List ℕ → List Item
items_of line list = filter_map (item_at line) (slice_split (λ x. x == 59) list)

-- the number is there, and it is this one
abbrev pub is_the : ℕ → Option ℕ → Bool
is_the n None = false
is_the n (Some m) = m == n

-- what follows the format and a space, if the format is this one
abbrev pub of_format : ℕ → Option (List ℕ) → List ℕ
of_format format None = []
of_format format (Some rest) = if is_the format (number (before 32 rest)) then after 32 rest else []

-- the list of a line `a=fmtp:FORMAT LIST`; other lines have none
abbrev pub list_of : ℕ → TextLine → List ℕ
list_of format l = of_format format (after_prefix (codes "a=fmtp:") l.text)

-- the known parameters of a part's lines, in order
abbrev pub parameters : ℕ → List TextLine → List Item
parameters format body = flat_map (λ l. items_of l.number (list_of format l)) body

-- the value as a number in a range
abbrev pub value_within : ℕ → ℕ → Item → Option ℕ
value_within low high item = option_and_then (number_within low high) item.value

-- the value as a width or a height
abbrev pub value_size : Item → Option ℕ
value_size item = value_within 1 32767 item

-- the value as an offset (TROFF)
abbrev pub value_offset : Item → Option ℕ
value_offset item = value_within 0 1000000 item

-- the value as a limit of packets or bytes (CMAX, MAXUDP)
abbrev pub value_limit : Item → Option ℕ
value_limit item = value_within 1 65535 item

-- a rate of p / q frames per second, above 0 and at most 240
abbrev pub rate_at : Option ℕ → Option ℕ → Option Rate
rate_at None q = None
rate_at (Some p) None = None
rate_at (Some p) (Some q) = if nat_le 1 p && nat_le p (240 * q) then Some (record { p = p; q = q }) else None

-- a rate `P` or `P/Q`, with Q from 1 to 1,001
abbrev pub rate_of : List ℕ → Option Rate
rate_of text =
    if holds 47 text then rate_at (number (before 47 text)) (number_within 1 1001 (after 47 text))
    else rate_at (number text) (Some 1)

-- the value as a rate
abbrev pub value_rate : Item → Option Rate
value_rate item = option_and_then rate_of item.value

-- the sender type of this name
abbrev pub kind_of : List ℕ → Option Kind
kind_of text =
    if bytes_eq text (codes "2110TPN") then Some N
    else if bytes_eq text (codes "2110TPNL") then Some NL
    else if bytes_eq text (codes "2110TPW") then Some W
    else None

-- the value as a sender type
abbrev pub value_kind : Item → Option Kind
value_kind item = option_and_then kind_of item.value

-- the cause, unless the parameter is valid
abbrev pub unless : Bool → SdpCause → Option SdpCause
unless fits cause = if fits then None else Some cause

-- the UDP size limit is at most the standard one of 1,460 bytes
abbrev pub udp_cause : Option ℕ → Option SdpCause
udp_cause None = Some BadParameter
udp_cause (Some n) = if nat_lt 1460 n then Some ExtendedUdp else None

-- BadParameter, BadRate: the parameter is invalid. Segmented, ExtendedUdp: it is valid and not supported
abbrev pub cause_of : Name → Item → Option SdpCause
cause_of Width item = unless (is_some (value_size item)) BadParameter
cause_of Height item = unless (is_some (value_size item)) BadParameter
cause_of ExactFrameRate item = unless (is_some (value_rate item)) BadRate
cause_of Interlace item = unless (is_none item.value) BadParameter
cause_of Segmentation item = if is_none item.value then Some Segmented else Some BadParameter
cause_of Tp item = unless (is_some (value_kind item)) BadParameter
cause_of Troff item = unless (is_some (value_offset item)) BadParameter
cause_of Cmax item = unless (is_some (value_limit item)) BadParameter
cause_of MaxUdp item = udp_cause (value_limit item)

-- a fault on this line, if there is a cause
abbrev pub at_most_one : ℕ → Option SdpCause → List SdpFault
at_most_one line None = []
at_most_one line (Some cause) = at line cause true

-- the fault that an item has by itself
abbrev pub item_faults : Item → List SdpFault
item_faults item = at_most_one item.line (cause_of item.name item)

-- the item has the name with this index
abbrev pub is_of : ℕ → Item → Bool
is_of row item = row_of item.name == row

-- two items have the same name
abbrev pub have_one_name : Item → Item → Bool
have_one_name item later = is_of (row_of later.name) item

-- RepeatedParameter: an earlier item of the part has the same name
abbrev pub repeated_faults : List Item → List SdpFault
repeated_faults items = repeats (λ item. item.line) RepeatedParameter have_one_name items

-- the first item of this name
abbrev pub item_named : Name → List Item → Option Item
item_named name items = find (is_of (row_of name)) items
