-- How a session description is read, as lines of text. This project's profile: the whole format.
use Rattle.std.specs.Prelude.{ℕ, ◌+◌, ◌==◌, ◌&&◌, ◌^◌, ◌-◌, not, nat_le, Bool, true, false, if◌then◌else◌, List, []}
use Rattle.std.specs.Prelude.{◌∷◌, ◌++◌, codes, Option, Some, None}
use Rattle.std.specs.Fmt.{decimal, digits, format_spec, padded_integral}
use Rattle.std.specs.List.{flat_map}
use Rattle.timing_base.specs.Media.{Media}
use Rattle.timing_base.specs.Targets.{target_of, target_text}
use Rattle.timing_base.specs.declared.target.Target.{Target}
use Rattle.timing_report.specs.Words.{declared_name}
use Rattle.sdp_reader.specs.Fault.{fault_text}
use Rattle.sdp_reader.specs.declared.fault.SdpFault.{SdpFault}
use Rattle.sdp_notes.specs.Described.{Described}
use Rattle.sdp_notes.specs.Notes.{Note, comma, near, not_raw, other_format, other_section, unknown}
use Rattle.sdp_notes.specs.declared.note.Attribute.{Attribute}
use Rattle.sdp_notes.specs.declared.note.Attribute.TheVariants.{Fmtp, RtpMap}
use Rattle.sdp_notes.specs.report.Times.{frame_ns, greatest_step, group_ns, least_step, offset_ns}

-- ---- bytes of the description

-- a byte as two lower-case hexadecimal digits: base 16, no alignment, no precision, padded with zeros (flag 4) to a
-- width of 2
abbrev pub hex_text : ℕ → List ℕ
hex_text b = padded_integral (format_spec 32 0 4 2 (2 ^ 64 - 1)) false [] (digits 16 false b)

-- a printable character of ASCII other than a quote and a backslash
abbrev pub is_plain : ℕ → Bool
is_plain b = nat_le 32 b && (nat_le b 126 && (not (b == 34) && not (b == 92)))

-- a byte of the description as it is printed: as it is if it is plain, else as `\xNN`
abbrev pub shown_byte : ℕ → List ℕ
shown_byte b = if is_plain b then b ∷ [] else codes "\\x" ++ hex_text b

-- bytes of the description as they are printed
abbrev pub shown : List ℕ → List ℕ
shown bytes = flat_map shown_byte bytes

-- the same between quotes
abbrev pub quoted : List ℕ → List ℕ
quoted bytes = codes "\"" ++ (shown bytes ++ codes "\"")

-- further names, each after a comma and a space
abbrev pub more_names : List (List ℕ) → List ℕ
more_names names = flat_map (λ name. codes ", " ++ quoted name) names

-- names with a comma and a space between them
abbrev pub names_text : List (List ℕ) → List ℕ
names_text [] = []
names_text (n ∷ ns) = quoted n ++ more_names ns

-- ---- videos

-- frames per second, `50` or `60000/1001`
abbrev pub rate_text : Media → List ℕ
rate_text m = if m.q == 1 then decimal m.p else decimal m.p ++ (codes "/" ++ decimal m.q)

-- how frames are scanned
abbrev pub scan_name : Bool → List ℕ
scan_name true = codes "interlaced"
scan_name false = codes "progressive"

-- a number with its unit, or `none`
abbrev pub or_none : List ℕ → Option ℕ → List ℕ
or_none unit None = codes "none"
or_none unit (Some n) = decimal n ++ unit

-- the time of a field, which an interlaced video has
abbrev pub field_text : Media → List ℕ
field_text m = if m.interlaced then codes "field " ++ (decimal (group_ns m) ++ codes " ns, ") else codes ""

-- the step of the RTP timestamp, or its least and its greatest value
abbrev pub step_text : Media → List ℕ
step_text m =
    if least_step m == greatest_step m then decimal (least_step m)
    else decimal (least_step m) ++ (codes " to " ++ decimal (greatest_step m))

-- the video with this number, from 1: where it is sent, its line and its payload type
abbrev pub place_text : ℕ → Target → (line pt : ℕ) → List ℕ
place_text number target line pt =
    codes "media " ++ (decimal number ++ (codes " " ++ (target_text target ++ (codes " line "
    ++ (decimal line ++ (codes ", payload type " ++ decimal pt))))))

-- its size, scan and frame rate
abbrev pub picture_text : Media → List ℕ
picture_text m =
    codes ", " ++ (decimal m.width ++ (codes "x" ++ (decimal m.height ++ (codes " " ++ (scan_name m.interlaced
    ++ (codes ", rate " ++ rate_text m))))))

-- the parameters of its sender
abbrev pub sender_text : Media → List ℕ
sender_text m =
    codes ", declared " ++ (declared_name m.declared ++ (codes ", TROFF " ++ (or_none (codes " us") m.troff
    ++ (codes ", CMAX " ++ (or_none (codes "") m.cmax ++ codes "\n")))))

-- the line of what is read of it
abbrev pub read_line : ℕ → Media → List ℕ
read_line number m = place_text number (target_of m) m.line m.pt ++ (picture_text m ++ sender_text m)

-- the line of its times
abbrev pub times_line : Media → List ℕ
times_line m =
    codes "  frame " ++ (decimal (frame_ns m) ++ (codes " ns, " ++ (field_text m ++ (codes "TR_OFFSET "
    ++ (decimal (offset_ns m) ++ (codes " ns, RTP step " ++ (step_text m ++ codes "\n")))))))

-- the two lines of the video with this number
abbrev pub video_text : ℕ → Media → List ℕ
video_text number m = read_line number m ++ times_line m

-- the lines of videos, the first of them with this number
abbrev pub media_text : ℕ → List Media → List ℕ
media_text number [] = []
media_text number (m ∷ ms) = video_text number m ++ media_text (number + 1) ms

-- ---- notes

-- the name of an attribute
abbrev pub attribute_name : Attribute → List ℕ
attribute_name RtpMap = codes "rtpmap"
attribute_name Fmtp = codes "fmtp"

-- `line L passed over: WHAT`
abbrev pub passed_over : ℕ → List ℕ → List ℕ
passed_over line what = codes "line " ++ (decimal line ++ (codes " passed over: " ++ (what ++ codes "\n")))

-- `line L passed over: video, without a=rtpmap:FORMAT raw/90000`
abbrev pub not_raw_text : ℕ → ℕ → List ℕ
not_raw_text line format =
    codes "line " ++ (decimal line ++ (codes " passed over: video, without a=rtpmap:" ++ (decimal format
    ++ codes " raw/90000\n")))

-- `line L passed over: a=ATTRIBUTE of another format`
abbrev pub other_format_text : ℕ → List ℕ → List ℕ
other_format_text line attribute =
    codes "line " ++ (decimal line ++ (codes " passed over: a=" ++ (attribute ++ codes " of another format\n")))

-- `line L NAME: did you mean KNOWN?`
abbrev pub near_text : ℕ → List ℕ → List ℕ → List ℕ
near_text line name known =
    codes "line " ++ (decimal line ++ (codes " " ++ (name ++ (codes ": did you mean " ++ (known ++ codes "?\n")))))

-- `line L comma before NAME: expected a semicolon`
abbrev pub comma_text : ℕ → List ℕ → List ℕ
comma_text line name =
    codes "line " ++ (decimal line ++ (codes " comma before " ++ (name ++ codes ": expected a semicolon\n")))

-- the line of a note
abbrev pub note_text : Note → List ℕ
note_text (other_section line kind) = passed_over line (shown kind)
note_text (not_raw line format) = not_raw_text line format
note_text (other_format line attribute) = other_format_text line (attribute_name attribute)
note_text (unknown line names) = passed_over line (names_text names)
note_text (near line name known) = near_text line (quoted name) known
note_text (comma line name) = comma_text line (quoted name)

-- the line of the fault, if the description is refused
abbrev pub refused_text : Option SdpFault → List ℕ
refused_text None = codes ""
refused_text (Some fault) = codes "refused: " ++ (fault_text fault ++ codes "\n")

-- the text of a description
abbrev pub described_text : Described → List ℕ
described_text d = media_text 1 d.media ++ (flat_map note_text d.notes ++ refused_text d.fault)
