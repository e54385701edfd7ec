-- The report as text: a title, a line for each capture, the lines of each flow, and a line with the status. Captures
-- and media count from 0 in keys, and from 1 in the text.
use Rattle.std.specs.Prelude.{ℕ, ◌+◌, List, [], ◌∷◌, ◌++◌, codes}
use Rattle.std.specs.Fmt.{decimal}
use Rattle.std.specs.List.{flat_map}
use Rattle.timing_base.specs.Jobs.{CheckJob}
use Rattle.timing_base.specs.Media.{Media}
use Rattle.timing_base.specs.Targets.{target_of, target_text}
use Rattle.timing_base.specs.declared.capture.FileNote.{FileNote}
use Rattle.timing_base.specs.declared.key.FlowKey.{FlowKey}
use Rattle.timing_base.specs.declared.row.Row.{Row}
use Rattle.timing_base.specs.declared.row.Verdict.{Verdict}
use Rattle.timing_base.specs.declared.target.Target.{Target}
use Rattle.timing_report.specs.Outcomes.{status_of}
use Rattle.timing_base.specs.Keys.{media_of}
use Rattle.timing_report.specs.Status.{code_of}
use Rattle.timing_report.specs.Verdict.{verdict_text, lines_below}
use Rattle.timing_report.specs.Words.{note_text}

-- a line with its newline
abbrev pub ended : List ℕ → List ℕ
ended line = line ++ codes "\n"

-- the text of a list of lines, each with its newline
abbrev pub text_of_lines : List (List ℕ) → List ℕ
text_of_lines lines = flat_map ended lines

-- the first line of a report
abbrev pub title : List ℕ
title = codes "ST 2110-21 timing report"

-- `file F NOTE NAME`, the line of a capture
abbrev pub file_text : ℕ → FileNote → List ℕ → List ℕ
file_text file note name =
    codes "file " ++ (decimal (file + 1) ++ (codes " " ++ (note_text note ++ (codes " " ++ name))))

-- the lines of the captures from number `file` on (from 0), by their names and how each ends
abbrev pub files_lines : ℕ → List (List ℕ) → List FileNote → List (List ℕ)
files_lines file (name ∷ names) (note ∷ notes) = file_text file note name ∷ files_lines (file + 1) names notes
files_lines file [] notes = []
files_lines file (name ∷ names) [] = []

-- `flow F.M A.B.C.D:PORT `, the line of a flow up to its verdict
abbrev pub flow_head : FlowKey → Target → List ℕ
flow_head key target = codes "flow " ++ (decimal (key.file + 1) ++ (codes "." ++ (decimal (key.media + 1)
    ++ (codes " " ++ (target_text target ++ codes " ")))))

-- the line of a flow of this media
abbrev pub flow_text : Media → FlowKey → Verdict → List ℕ
flow_text media key verdict = flow_head key (target_of media) ++ verdict_text media verdict

-- the line of a flow of this media, and the lines below it
abbrev pub flow_lines : Media → Row → List (List ℕ)
flow_lines media row = flow_text media row.key row.verdict ∷ lines_below media row.verdict

-- the lines of a result
abbrev pub row_lines : List Media → Row → List (List ℕ)
row_lines session row = flow_lines (media_of session row.key) row

-- `status S`, the last line of a report
abbrev pub status_text : List Media → List FileNote → List Row → List ℕ
status_text session notes rows = codes "status " ++ decimal (code_of (status_of session notes rows))

-- all lines of a report
abbrev pub report_lines : CheckJob → List Media → List FileNote → List Row → List (List ℕ)
report_lines job session notes rows =
    title ∷ (files_lines 0 job.captures notes ++ (flat_map (row_lines session) rows ++ status_text session notes rows
    ∷ []))

-- the text of a report
abbrev pub report_text : CheckJob → List Media → List FileNote → List Row → List ℕ
report_text job session notes rows = text_of_lines (report_lines job session notes rows)
