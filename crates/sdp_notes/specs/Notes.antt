-- What the reader of session descriptions passes over, and what looks like a mistake in it. Lines count from 1. This
-- project's profile: the six kinds of notes and their order. A line `o=`, `s=` or `a=mediaclk` is no note: the reader
-- takes nothing from such lines.
use Rattle.std.specs.Prelude.{ℕ, ◌==◌, ◌||◌, not, Bool, if◌then◌else◌, List, [], ◌∷◌, ◌++◌, length, drop, map}
use Rattle.std.specs.Prelude.{codes, Option, Some, None, is_some}
use Rattle.std.specs.List.{filter, flat_map, list_any, slice_split}
use Rattle.std.specs.Option.{option_map, option_to_list}
use Rattle.sdp_reader.specs.Bytes.{after, after_prefix, before, number, trim}
use Rattle.sdp_reader.specs.Lines.{TextLine, is_video, media_fields, video_of}
use Rattle.sdp_reader.specs.Parameters.{is_the, table_name}
use Rattle.sdp_reader.specs.Parts.{Part, is_raw_map, parts}
use Rattle.sdp_reader.specs.declared.line.Video.{Video}
use Rattle.sdp_notes.specs.Near.{meant}
use Rattle.sdp_notes.specs.declared.note.Attribute.{Attribute}
use Rattle.sdp_notes.specs.declared.note.Attribute.TheVariants.{Fmtp, RtpMap}

-- a note on a line
pub data Note : Type 0 where
  -- a media section of another kind than `video`
  other_section : (line : ℕ) → (kind : List ℕ) → Note
  -- a video section without `a=rtpmap:FORMAT raw/90000` for its format
  not_raw : (line format : ℕ) → Note
  -- an attribute of a raw part, for another format than the part's
  other_format : (line : ℕ) → (attribute : Attribute) → Note
  -- the unknown names of the parameters of a line, in order
  unknown : (line : ℕ) → (names : List (List ℕ)) → Note
  -- one of these names, and the known one that it is near
  near : (line : ℕ) → (name known : List ℕ) → Note
  -- a comma in a parameter, with a known name or one that is near behind it
  comma : (line : ℕ) → (name : List ℕ) → Note

-- ---- parameters

-- the parameters of a list, without the spaces and tabs around them; an empty one is none
abbrev pub parameters_in : List ℕ → List (List ℕ)
parameters_in list = filter (λ t. not (length t == 0)) (map trim (slice_split (λ x. x == 59) list))

-- the name of a parameter
abbrev pub name_in : List ℕ → List ℕ
name_in parameter = before 61 parameter

-- the reader knows a parameter of this name
abbrev pub is_known : List ℕ → Bool
is_known name = is_some (table_name name)

-- the unknown names of parameters
abbrev pub unknown_names : List (List ℕ) → List (List ℕ)
unknown_names parameters = filter (λ name. not (is_known name)) (map name_in parameters)

-- the note on unknown names, if there are any
abbrev pub unknown_notes : ℕ → List (List ℕ) → List Note
unknown_notes line [] = []
unknown_notes line (n ∷ ns) = unknown line (n ∷ ns) ∷ []

-- the note on a name that is unknown and near a known one
abbrev pub near_notes : ℕ → List ℕ → List Note
near_notes line name = if is_known name then [] else option_to_list (option_map (near line name) (meant name))

-- the name is known, or near a known one
abbrev pub is_meant : List ℕ → Bool
is_meant name = is_known name || is_some (meant name)

-- the note on what stands behind a comma, if that is a parameter by its name
abbrev pub comma_notes : ℕ → List ℕ → List Note
comma_notes line piece = if is_meant (name_in (trim piece)) then comma line (name_in (trim piece)) ∷ [] else []

-- the notes on one parameter: on its name, then on its commas in order
abbrev pub parameter_notes : ℕ → List ℕ → List Note
parameter_notes line parameter =
    near_notes line (name_in parameter)
    ++ flat_map (comma_notes line) (drop 1 (slice_split (λ x. x == 44) parameter))

-- the notes on the list of a line `a=fmtp:FORMAT LIST`: on its unknown names, then on its parameters in order
abbrev pub list_notes : ℕ → List ℕ → List Note
list_notes line list =
    unknown_notes line (unknown_names (parameters_in list)) ++ flat_map (parameter_notes line) (parameters_in list)

-- ---- lines and sections

-- what follows the name of an attribute begins with this format
abbrev pub has_format : ℕ → List ℕ → Bool
has_format format rest = is_the format (number (before 32 rest))

-- the notes on an attribute `rtpmap`
abbrev pub map_notes : ℕ → ℕ → Option (List ℕ) → List Note
map_notes line format None = []
map_notes line format (Some rest) = if has_format format rest then [] else other_format line RtpMap ∷ []

-- the notes on an attribute `fmtp`
abbrev pub fmtp_notes : ℕ → ℕ → Option (List ℕ) → List Note
fmtp_notes line format None = []
fmtp_notes line format (Some rest) =
    if has_format format rest then list_notes line (after 32 rest) else other_format line Fmtp ∷ []

-- the notes on a line of a raw part with this format
abbrev pub line_notes : ℕ → TextLine → List Note
line_notes format l =
    map_notes l.number format (after_prefix (codes "a=rtpmap:") l.text)
    ++ fmtp_notes l.number format (after_prefix (codes "a=fmtp:") l.text)

-- the notes on a video section with this format: it isn't raw video, or those on its lines
abbrev pub video_notes : ℕ → List TextLine → Option Video → List Note
video_notes line body None = []
video_notes line body (Some video) =
    if list_any (is_raw_map video.format) body then flat_map (line_notes video.format) body
    else not_raw line video.format ∷ []

-- the notes on a section with these fields after `m=`; an invalid video line is a fault and no note
abbrev pub section_notes : ℕ → List TextLine → Option (List ℕ) → List Note
section_notes line body None = []
section_notes line body (Some fields) =
    if is_video fields then video_notes line body (video_of fields) else other_section line (before 32 fields) ∷ []

-- the notes on a media section
abbrev pub part_notes : Part → List Note
part_notes part = section_notes part.head.number part.body (media_fields part.head)

-- the notes on the lines of a session description, in the order of the lines
abbrev pub notes_on : List TextLine → List Note
notes_on ls = flat_map part_notes (parts ls)
