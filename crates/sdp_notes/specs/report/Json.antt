-- How a session description is read, as JSON (RFC 8259): one value without spaces, and a newline. The members of an
-- object stand in the byte order of their keys, in whatever order they are put in. Bytes of the description are written
-- as in the text, so a backslash of `\xNN` is doubled. Lines and media count from 1; times are nanoseconds, rounded
-- down, and steps ticks of 90 kHz.
use Rattle.std.specs.Prelude.{ℕ, ◌+◌, if◌then◌else◌, List, [], ◌∷◌, ◌++◌, map, codes, Option}
use Rattle.std.specs.Prelude.{Some, None}
use Rattle.serde_json.specs.Data.{Data, string}
use Rattle.serde_json.specs.Written.{compact_text}
use Rattle.timing_base.specs.Media.{Media}
use Rattle.timing_base.specs.Targets.{target_of, target_text}
use Rattle.timing_report.specs.Words.{declared_name}
use Rattle.timing_report.specs.json_report.Json.{Member, count, interlaced_members, list_of, object_of}
use Rattle.sdp_reader.specs.Fault.{name_of}
use Rattle.sdp_reader.specs.declared.fault.SdpFault.{SdpFault}
use Rattle.sdp_notes.specs.Described.{Described}
use Rattle.sdp_notes.specs.Notes.{Note, comma, near, not_raw, other_format, other_section, unknown}
use Rattle.sdp_notes.specs.report.Text.{attribute_name, rate_text, shown}
use Rattle.sdp_notes.specs.report.Times.{frame_ns, greatest_step, group_ns, least_step, offset_ns}

-- a number that may be absent
abbrev pub number_members : List ℕ → Option ℕ → List Member
number_members key None = []
number_members key (Some n) = (key, count n) ∷ []

-- the time of a field, which an interlaced video has
abbrev pub field_members : Media → List Member
field_members m = if m.interlaced then (codes "field", count (group_ns m)) ∷ [] else []

-- the least and the greatest step of the RTP timestamp
abbrev pub step_data : Media → Data
step_data m =
    object_of ((codes "greatest", count (greatest_step m)) ∷ (codes "least", count (least_step m)) ∷ [])

-- the video with this number, from 1: where it is sent, its line and its payload type
abbrev pub place_members : ℕ → Media → List Member
place_members number m =
    (codes "line", count m.line) ∷ (codes "media", count number) ∷ (codes "pt", count m.pt)
    ∷ (codes "target", string (target_text (target_of m))) ∷ []

-- its size, scan and frame rate
abbrev pub picture_members : Media → List Member
picture_members m =
    (codes "height", count m.height) ∷ (codes "rate", string (rate_text m)) ∷ (codes "width", count m.width)
    ∷ interlaced_members m.interlaced

-- the parameters of its sender
abbrev pub sender_members : Media → List Member
sender_members m =
    (codes "declared", string (declared_name m.declared))
    ∷ (number_members (codes "cmax") m.cmax ++ number_members (codes "troff") m.troff)

-- the times of a video
abbrev pub time_members : Media → List Member
time_members m =
    (codes "frame", count (frame_ns m)) ∷ (codes "offset", count (offset_ns m)) ∷ (codes "step", step_data m)
    ∷ field_members m

-- the members of the video with this number
abbrev pub media_members : ℕ → Media → List Member
media_members number m = place_members number m ++ (picture_members m ++ (sender_members m ++ time_members m))

-- the video with this number
abbrev pub media_data : ℕ → Media → Data
media_data number m = object_of (media_members number m)

-- videos, the first of them with this number
abbrev pub all_media_data : ℕ → List Media → List Data
all_media_data number [] = []
all_media_data number (m ∷ ms) = media_data number m ∷ all_media_data (number + 1) ms

-- bytes of the description
abbrev pub shown_data : List ℕ → Data
shown_data bytes = string (shown bytes)

-- the members of a note on this line, by its kind
abbrev pub on_line : ℕ → List ℕ → List Member → List Member
on_line line what more = (codes "line", count line) ∷ (codes "what", string what) ∷ more

-- the members of a note
abbrev pub note_members : Note → List Member
note_members (other_section line kind) = on_line line (codes "section") ((codes "section", shown_data kind) ∷ [])
note_members (not_raw line format) = on_line line (codes "not_raw") ((codes "format", count format) ∷ [])
note_members (other_format line attribute) =
    on_line line (codes "other_format") ((codes "attribute", string (attribute_name attribute)) ∷ [])
note_members (unknown line names) =
    on_line line (codes "unknown") ((codes "names", list_of (map shown_data names)) ∷ [])
note_members (near line name known) =
    on_line line (codes "near") ((codes "meant", string known) ∷ (codes "name", shown_data name) ∷ [])
note_members (comma line name) = on_line line (codes "comma") ((codes "name", shown_data name) ∷ [])

-- a note
abbrev pub note_data : Note → Data
note_data note = object_of (note_members note)

-- a fault: its line, which is 0 for the description as a whole, and its cause
abbrev pub fault_data : SdpFault → Data
fault_data fault =
    object_of ((codes "cause", string (name_of fault.what)) ∷ (codes "line", count fault.line) ∷ [])

-- the fault; absent unless the description is refused
abbrev pub fault_members : Option SdpFault → List Member
fault_members None = []
fault_members (Some fault) = (codes "fault", fault_data fault) ∷ []

-- the members of a description
abbrev pub described_members : Described → List Member
described_members d =
    (codes "media", list_of (all_media_data 1 d.media)) ∷ (codes "notes", list_of (map note_data d.notes))
    ∷ fault_members d.fault

-- a description as a JSON value
abbrev pub described_data : Described → Data
described_data d = object_of (described_members d)

-- the JSON of a description
abbrev pub described_json : Described → List ℕ
described_json d = compact_text (described_data d) ++ codes "\n"
