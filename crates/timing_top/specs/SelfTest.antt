-- The output of `selftest`: a line for each flaw that a generated capture can have. A capture is generated from its
-- number of frames, and judged with the SDP `plain.sdp`.
use Rattle.std.specs.Prelude.{◌≡◌, ℕ, zero, suc, ◌^◌, List, [], ◌∷◌, ◌++◌, Ok, codes}
use Rattle.std.specs.Fmt.{decimal}
use Rattle.timing_base.specs.Shifts.{no_options}
use Rattle.timing_base.specs.Captures.{Record}
use Rattle.timing_base.specs.Media.{Media}
use Rattle.timing_base.specs.declared.capture.FileNote.{FileNote}
use Rattle.timing_base.specs.declared.row.Row.{Row}
use Rattle.sdp_reader.specs.Session.{session}
use Rattle.pcap_reader.specs.Records.{Records}
use Rattle.fail_interval.specs.Rows.{rows_of}
use Rattle.capture_gen.specs.Capture.{capture}
use Rattle.capture_gen.specs.Sdp.{sdp_text}
use Rattle.timing_report.specs.Outcomes.{status_of}
use Rattle.timing_report.specs.Status.{code_of}
use Rattle.timing_report.specs.Verdict.{verdict_text}
use Rattle.timing_report.specs.declared.status.Status.TheVariants as status
use Rattle.timing_steps.specs.Answers.{Answer}

-- `flaw F: VERDICT; status S`, for a capture with one flow: its media, how the capture ends, and the result of the flow
abbrev pub flaw_line : ℕ → Media → FileNote → Row → List ℕ
flaw_line flaw media note row = codes "flaw " ++ (decimal flaw ++ (codes ": " ++ (verdict_text media row.verdict
    ++ (codes "; status " ++ (decimal (code_of (status_of (media ∷ []) (note ∷ []) (row ∷ []))) ++ codes "\n")))))

-- the line of the capture with this flaw, from the result of its one flow
pub record HasLine (frames flaw : ℕ) (line : List ℕ) : Type 0 where
  pub media : Media
  pub items : List Record
  pub note : FileNote
  pub row : Row
  pub session_is : session sdp_text ≡ Ok (media ∷ [])
  pub records : Records (capture frames frames flaw) (2 ^ 40) items note
  pub row_is : rows_of no_options 0 (media ∷ []) items ≡ row ∷ []
  pub line_is : line ≡ flaw_line flaw media note row

-- the lines of the captures with the flaws below `count`, in order
abbrev pub HasLines : (frames count : ℕ) → List ℕ → Type 0
HasLines frames zero text = text ≡ []
HasLines frames (suc flaw) text = (before : List ℕ) × (line : List ℕ) × (text ≡ before ++ line)
    × HasLines frames flaw before × HasLine frames flaw line

-- the lines of the flaws 0 to 4, and status 0
pub record HasSelfTest (frames : ℕ) (answer : Answer) : Type 0 where
  pub lines : HasLines frames 5 answer.text
  pub status_is : answer.status ≡ status.Pass
