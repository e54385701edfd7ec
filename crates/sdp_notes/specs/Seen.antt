-- The contents of the code's notes, without their place in memory.
use Rattle.std.specs.Prelude.{map}
use Rattle.sdp_notes.specs.Described.{Described}
use Rattle.sdp_notes.specs.Notes.{Note, comma, near, not_raw, other_format, other_section, unknown}
use Rattle.sdp_notes.specs.declared.described.Described as code
use Rattle.sdp_notes.specs.declared.note.Note as of_code
use Rattle.sdp_notes.specs.declared.note.Note.TheVariants as variant

-- a note of the code
abbrev pub note_of : of_code.Note → Note
note_of (variant.Section line kind) = other_section line kind.now
note_of (variant.NotRaw line format) = not_raw line format
note_of (variant.OtherFormat line attribute) = other_format line attribute
note_of (variant.Unknown line names) = unknown line (map (λ name. name.now) names.items)
note_of (variant.Near line name known) = near line name.now known.now
note_of (variant.Comma line name) = comma line name.now

-- a description of the code
abbrev pub described_of : code.Described → Described
described_of d = record { media = d.media.items; notes = map note_of d.notes.items; fault = d.fault }
