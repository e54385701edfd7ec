-- The table of the media of a session. The row of a media has its verdict, the packets per frame or field, the class
-- and the declared type, and for each sender type pass or fail and the peaks with their limits. Media count from 1
-- there. This project's own format.
use Rattle.std.specs.Prelude.{ℕ, pos, ◌+◌, ◌<◌, List, ◌++◌, codes, All, length, Option, Some, None}
use Rattle.std.specs.Fmt.{decimal}
use Rattle.std.specs.List.{flat_map}
use Rattle.timing_base.specs.Keys.{key_of, media_of}
use Rattle.timing_base.specs.Media.{Media}
use Rattle.timing_base.specs.Targets.{target_of, target_text}
use Rattle.timing_base.specs.Verdicts.{Judged}
use Rattle.timing_base.specs.declared.row.Verdict.{Verdict}
use Rattle.timing_base.specs.declared.row.Verdict.TheVariants as verdict
use Rattle.timing_base.specs.declared.target.Target.{Target}
use Rattle.timing_report.specs.Outcomes.{first_passing}
use Rattle.timing_report.specs.Verdict.{verdict_text}
use Rattle.timing_report.specs.Words.{class_name, declared_name, group_name}
use Rattle.flow_page.specs.chart.Figures.{told}
use Rattle.flow_page.specs.Shown.{types_shown}
use Rattle.flow_page.specs.Words.{counted, sign_text}
use Rattle.flow_page.specs.declared.shown.FlowPage.{FlowPage}
use Rattle.flow_page.specs.declared.shown.ShownRun.{ShownRun}
use Rattle.flow_page.specs.declared.shown.TypeShown.{TypeShown}

-- the start of the table, in a box of its own
unfoldable pub media_open : List ℕ
media_open =
    codes "<div class=\"scroll\"><table><thead><tr><th>Flow</th><th>Verdict</th><th>Packets</th><th>Judged</th>"
    ++ (codes "<th>Class</th><th>Declared</th><th>N</th><th>bucket</th><th>buffer</th><th>NL</th><th>bucket</th>"
    ++ codes "<th>buffer</th><th>W</th><th>bucket</th><th>buffer</th></tr></thead><tbody>\n")

-- the end of a table
abbrev pub table_close : List ℕ
table_close = codes "</tbody></table></div>\n"

-- the cells of a type: pass or fail, and the peaks with their limits
abbrev pub type_cells : TypeShown → List ℕ
type_cells t =
    codes "<td>" ++ (sign_text t.verdict ++ (codes "</td><td>" ++ (decimal t.bucket_peak ++ (codes " of "
    ++ (decimal t.c_max ++ (codes "</td><td>" ++ (decimal t.buffer_peak ++ (codes " of " ++ (decimal t.vrx_full
    ++ codes "</td>")))))))))

-- the packets per frame or field, the count of judged frames or fields, the class, and the declared type
abbrev pub run_cells : Media → Judged → List ℕ
run_cells media judged =
    codes "</td><td>" ++ (decimal judged.n ++ (codes " per " ++ (group_name media.interlaced ++ (codes "</td><td>"
    ++ (counted (pos judged.frames) (group_name media.interlaced) ++ (codes "</td><td>" ++ (class_name (first_passing judged) ++ (codes "</td><td>"
    ++ (declared_name media.declared ++ codes "</td>")))))))))

-- the cells of the run that is shown, if there is one
abbrev pub shown_cells : Media → Option ShownRun → List ℕ
shown_cells media None = codes "</td></tr>\n"
shown_cells media (Some s) =
    run_cells media s.run.judged
    ++ (flat_map type_cells (types_shown s.run.judged s.run.numbers) ++ codes "</tr>\n")

-- the start of a row, with the number and the target of its flow
abbrev pub row_open : (number : ℕ) → Target → List ℕ
row_open number target =
    codes "<tr><th>" ++ (decimal number ++ (codes " " ++ (target_text target ++ codes "</th>")))

-- a verdict in few words, since other cells have the rest
abbrev pub verdict_told : Media → Verdict → List ℕ
verdict_told media (verdict.Judged judged) = codes "judged"
verdict_told media (verdict.Unjudged unjudged) = verdict_text media (verdict.Unjudged unjudged)
verdict_told media (verdict.Runs runs) = verdict_text media (verdict.Runs runs)

-- the start of the verdict's cell, which takes the whole row if no run is judged
abbrev pub verdict_open : Option ShownRun → List ℕ
verdict_open None = codes "<td colspan=\"14\">"
verdict_open (Some s) = codes "<td>"

-- the row of a flow of this media
abbrev pub media_row : Media → FlowPage → List ℕ
media_row media f =
    row_open (f.flow.media + 1) (target_of media)
    ++ (told (verdict_open f.shown) (verdict_told media f.flow.verdict) ++ shown_cells media f.shown)

-- the media of a flow of the capture
abbrev pub flow_media : List Media → FlowPage → Media
flow_media session f = media_of session (key_of 0 f.flow.media)

-- each flow belongs to a media of the session
abbrev pub AreOfMedia : List Media → List FlowPage → Type 0
AreOfMedia session flows = All (λ f. f.flow.media < length session) flows

-- the table
abbrev pub media_table : List Media → List FlowPage → List ℕ
media_table session flows =
    media_open ++ (flat_map (λ f. media_row (flow_media session f) f) flows ++ table_close)
