-- The text of `Rows` for the judged runs of a flow. m is the video, `shift` that of the flow's capture timestamps.
use Rattle.std.specs.Prelude.{◌≡◌, ℕ, Bool, List, [], ◌++◌, Option, Some, None}
use Rattle.std.proofs.Common.{append-nil, refl, sym}
use Rattle.timing_base.specs.Shifts.{Shift}
use Rattle.timing_base.specs.Media.{Media}
use Rattle.run_meter.specs.Runs.{JudgedPart, OpenPart, RunOf}
use Rattle.flow_measure.specs.rows.Rows.{AreRows, AreRowsOf}
use Rattle.flow_measure.specs.declared.rows.rows.Rows.{Rows}

-- the rows of the complete runs, and of the complete frames or fields of the current run
abbrev pub AreRowsSoFar : (frames : Bool) → Media → (shift : Shift) → List JudgedPart → Option OpenPart → List ℕ
    → Type 0
AreRowsSoFar frames m shift over None text = AreRowsOf frames m shift over text
AreRowsSoFar frames m shift over (Some part) text =
    (past : List ℕ) × (here : List ℕ) × (text ≡ past ++ here) × AreRowsOf frames m shift over past
    × AreRows frames m shift part.run.number part.run.n [] part.packets here

-- the past of a `Rows`: whether frames are listed instead of packets, the text before the first row, and the text that
-- was removed from its front
pub record PastRows : Type 0 where
  pub frames : Bool
  pub first : List ℕ
  pub gone : List ℕ

-- these rows were appended to the first text, and this text was removed from the front
pub record Tells (past : PastRows) (rows : Rows) (m : Media) (shift : Shift) (over : List JudgedPart)
    (part : Option OpenPart) : Type 0 where
  pub frames_is : rows.frames ≡ past.frames
  pub put : List ℕ
  pub are : AreRowsSoFar rows.frames m shift over part put
  pub text_is : past.gone ++ rows.text.items ≡ past.first ++ put

-- a run that begins has no row yet
pub begins_open : (past : PastRows) (rows : Rows) (m : Media) (shift : Shift) (over : List JudgedPart) (r : RunOf)
    → Tells past rows m shift over None → Tells past rows m shift over (Some (record { run = r; packets = [] }))
begins_open past rows m shift over r h = record {
  frames_is = h.frames_is;
  put = h.put;
  are = (h.put, [], sym (append-nil h.put), h.are, refl);
  text_is = h.text_is;
}
