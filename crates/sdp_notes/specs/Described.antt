-- How a session description is read: its videos, what is passed over, and its first fault.
use Rattle.std.specs.Prelude.{ℕ, nat_lt, if◌then◌else◌, List, [], length, Option, Some, None, Result, Ok, Err}
use Rattle.timing_base.specs.Media.{Media}
use Rattle.sdp_reader.specs.Lines.{lines}
use Rattle.sdp_reader.specs.Session.{lines_before, media_in, session}
use Rattle.sdp_reader.specs.declared.fault.SdpFault.{SdpFault}
use Rattle.sdp_notes.specs.Notes.{Note, notes_on}

-- a session description as it is read
pub record Described : Type 0 where
  pub media : List Media
  pub notes : List Note
  pub fault : Option SdpFault

-- the videos of a session; of a description that is refused those that the lines before the fault describe
abbrev pub media_read : List ℕ → Result (List Media) SdpFault → List Media
media_read bytes (Ok media) = media
media_read bytes (Err fault) = media_in (lines_before fault.line (lines bytes))

-- the fault of a description that is refused
abbrev pub fault_in : Result (List Media) SdpFault → Option SdpFault
fault_in (Ok media) = None
fault_in (Err fault) = Some fault

-- the notes on all lines; none on a description that is too large, which isn't read
abbrev pub notes_in : List ℕ → List Note
notes_in bytes = if nat_lt 1048576 (length bytes) then [] else notes_on (lines bytes)

-- a session description with these contents
abbrev pub described : List ℕ → Described
described bytes = record {
  media = media_read bytes (session bytes);
  notes = notes_in bytes;
  fault = fault_in (session bytes);
}
