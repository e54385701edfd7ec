-- The lines of a session description (RFC 4566, section 5), and the faults of single lines.
-- Lines count from 1. A line is kept without its line ending and the spaces and tabs before it.
use Rattle.std.specs.Prelude.{ℕ, ◌+◌, ◌==◌, ◌&&◌, ◌||◌, not, Bool, true, false, nat_le, if◌then◌else◌, List, [], ◌∷◌}
use Rattle.std.specs.Prelude.{◌++◌, length, slice_index, Option, Some, None, is_none, codes}
use Rattle.std.specs.List.{list_any, flat_map, slice_split}
use Rattle.std.specs.Str.{bytes_eq}
use Rattle.std.specs.Char.{is_ascii_lowercase}
use Rattle.sdp_reader.specs.Bytes.{before, after, after_prefix, trim_end, number_within}
use Rattle.sdp_reader.specs.declared.fault.SdpCause.{SdpCause}
use Rattle.sdp_reader.specs.declared.fault.SdpCause.TheVariants.{NotText, NoVersion, BadLine, BadMedia}
use Rattle.sdp_reader.specs.declared.fault.SdpFault.{SdpFault}
use Rattle.sdp_reader.specs.declared.line.Video.{Video}

-- a line with its number
pub record TextLine : Type 0 where
  pub number : ℕ
  pub text : List ℕ

-- a piece that an LF ended, without one CR at its end
abbrev pub without_cr : List ℕ → List ℕ
without_cr [] = []
without_cr (x ∷ []) = if x == 13 then [] else x ∷ []
without_cr (x ∷ y ∷ xs) = x ∷ without_cr (y ∷ xs)

-- the pieces between LFs as lines, numbered from n on. The last piece isn't ended by an LF, and is a line only if it
-- isn't empty
abbrev pub numbered : ℕ → List (List ℕ) → List TextLine
numbered n [] = []
numbered n (last ∷ []) = if length last == 0 then [] else record { number = n; text = trim_end last } ∷ []
numbered n (piece ∷ next ∷ pieces) =
    record { number = n; text = trim_end (without_cr piece) } ∷ numbered (n + 1) (next ∷ pieces)

-- the lines of a text
abbrev pub lines : List ℕ → List TextLine
lines bytes = numbered 1 (slice_split (λ x. x == 10) bytes)

-- a fault of this cause on this line, if it is there
abbrev pub at : ℕ → SdpCause → Bool → List SdpFault
at line cause stands = if stands then record { line = line; what = cause } ∷ [] else []

-- a fault of this cause for each later element that is like an earlier one, on the line of the later one
abbrev pub repeats : {A : Type 0} → (A → ℕ) → SdpCause → (A → A → Bool) → List A → List SdpFault
repeats line cause alike [] = []
repeats line cause alike (x ∷ xs) =
    flat_map (λ later. at (line later) cause (alike x later)) xs ++ repeats line cause alike xs

-- NotText: the line has a byte 0 or a CR
abbrev pub is_not_text : TextLine → Bool
is_not_text l = list_any (λ b. b == 0 || b == 13) l.text

-- the text begins with a letter a to z and `=`
abbrev pub is_well_begun : List ℕ → Bool
is_well_begun text = nat_le 2 (length text) && is_ascii_lowercase (slice_index text 0) && slice_index text 1 == 61

-- BadLine: the line isn't empty and doesn't begin with a letter a to z and `=`
abbrev pub is_bad_line : TextLine → Bool
is_bad_line l = not (length l.text == 0) && not (is_well_begun l.text)

-- the text after `m=`; its fields are separated by single spaces
abbrev pub media_fields : TextLine → Option (List ℕ)
media_fields l = after_prefix (codes "m=") l.text

-- the first field is `video`
abbrev pub is_video : List ℕ → Bool
is_video fields = bytes_eq (before 32 fields) (codes "video")

-- the second field is the port
abbrev pub port_of : List ℕ → Option ℕ
port_of fields = number_within 1 65535 (before 32 (after 32 fields))

-- the third field is the protocol
abbrev pub protocol_of : List ℕ → List ℕ
protocol_of fields = before 32 (after 32 (after 32 fields))

-- the fourth field is the format
abbrev pub format_of : List ℕ → Option ℕ
format_of fields = number_within 0 127 (before 32 (after 32 (after 32 (after 32 fields))))

-- port and format, if both are valid
abbrev pub video_at : Option ℕ → Option ℕ → Option Video
video_at (Some port) (Some format) = Some (record { port = port; format = format })
video_at (Some port) None = None
video_at None f = None

-- port and format of a video line, `video PORT RTP/AVP FORMAT` after its `m=`
abbrev pub video_of : List ℕ → Option Video
video_of fields =
    if is_video fields && bytes_eq (protocol_of fields) (codes "RTP/AVP")
    then video_at (port_of fields) (format_of fields)
    else None

-- the first field is `video`, and the line isn't a video line
abbrev pub are_bad_fields : Option (List ℕ) → Bool
are_bad_fields None = false
are_bad_fields (Some fields) = is_video fields && is_none (video_of fields)

-- BadMedia: an `m=` line of `video` that isn't a video line
abbrev pub is_bad_media : TextLine → Bool
is_bad_media l = are_bad_fields (media_fields l)

-- the faults that a line has by itself, in whichever section it is
abbrev pub line_faults : TextLine → List SdpFault
line_faults l = at l.number NotText (is_not_text l) ++ (at l.number BadLine (is_bad_line l)
    ++ at l.number BadMedia (is_bad_media l))

-- NoVersion: the first line that isn't empty isn't `v=0`; on line 1 if all lines are empty
abbrev pub version_faults : List TextLine → List SdpFault
version_faults [] = at 1 NoVersion true
version_faults (l ∷ ls) =
    if length l.text == 0 then version_faults ls else at l.number NoVersion (not (bytes_eq l.text (codes "v=0")))
