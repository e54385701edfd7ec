-- The text of a report is read back as its fails.
use Rattle.std.proofs.Common.{◌≤◌, List, length, refl, ap, ◌∙◌, arith}
use Rattle.std.proofs.lemmas.Str.{IsUtf8-append}
use Rattle.std.specs.Prelude.{All, IsUtf8, codes, option_and_then}
use Rattle.json.specs.Tree.{depth}
use Rattle.serde_json.specs.Written.{compact_text, outline}
use Rattle.timing_base.specs.Jobs.{CheckJob, IsCheckJob}
use Rattle.timing_base.specs.Media.{IsMedia, IsSession, Media}
use Rattle.timing_base.specs.declared.capture.FileNote.{FileNote}
use Rattle.timing_base.specs.declared.row.Row.{Row}
use Rattle.timing_report.specs.Outcomes.{AreRowsOf}
use Rattle.timing_report.proofs.Keys.{keys_of_rows}
use Rattle.timing_report.specs.json_report.Fails.{FitsVerdict, fails_of}
use Rattle.timing_report.specs.json_report.Json.{json_text, report_data}
use Rattle.timing_report.specs.json_report.Reading.{IsReport, report_of}
use Rattle.timing_report.proofs.lemmas.json_report.Fitting.{Fits, Tellable, report_fits}
use Rattle.timing_report.proofs.lemmas.json_report.Reread.{read_line}
use Rattle.timing_report.proofs.lemmas.json_report.Texts.{ascii, text_utf8}
use Rattle.timing_report.proofs.lemmas.json_report.Told.{report_back}

-- the text of a report tells its fails
pub read-back : (job : CheckJob) (session : List Media) (notes : List FileNote) (rows : List Row) → IsCheckJob job → IsSession session → All IsMedia session
    → AreRowsOf job session rows
    → All (λ row. FitsVerdict row.verdict) rows → All IsUtf8 job.captures → length (json_text job session notes rows) ≤ 16777216
    → IsReport (json_text job session notes rows) (fails_of rows)
read-back job session notes rows is_job is_session media are fit names few =
    let d = report_data job session notes rows in
    let keys = keys_of_rows job session rows is_job are in
    let tell : All (Tellable session) rows = λ k r within. ((keys k r within).0, (keys k r within).1, fit k r within) in
    let fits : Fits 8 d = report_fits job session notes rows names is_session.few media tell in
    let shallow : depth (outline d) ≤ 127 = omega (arith, fits.1) in
    record {
      few = few;
      utf8 = IsUtf8-append (compact_text d) (codes "\n") (text_utf8 d fits.0 fits.2) (ascii (codes "\n") refl);
      tells = ap (option_and_then report_of) (read_line d fits.0 shallow) ∙ report_back job session notes rows is_session.few tell;
    }
