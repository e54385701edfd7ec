-- How far a reader has come.
use Rattle.std.specs.Prelude.{Bool, true, false, Option, Some, None}
use Rattle.timing_base.specs.declared.capture.FileNote.{FileNote}
use Rattle.pcap_reader.specs.declared.stage.Stage.{Stage}
use Rattle.pcap_reader.specs.declared.stage.Stage.TheVariants.{Header, Records, Ended}

-- the file header was read, or the records have ended
abbrev pub is_begun : Stage → Bool
is_begun Header = false
is_begun (Records layout) = true
is_begun (Ended note) = true

-- how the records have ended, if they have
abbrev pub stage_note : Stage → Option FileNote
stage_note Header = None
stage_note (Records layout) = None
stage_note (Ended note) = Some note
