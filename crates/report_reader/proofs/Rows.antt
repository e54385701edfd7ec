-- The rows of a report are those of its lines, and equal texts have equal rows.
use Rattle.std.proofs.Common.{◌≡◌, ◌∙◌, ℕ, suc, Bool, true, false, List, [], ◌∷◌, length, refl, ap, ap₂, sym, arith}
use Rattle.std.specs.Prelude.{Option, Some, None, map, All, IsUtf8, unwrap_or, slice_index_or, if◌then◌else◌, ◌==◌}
use Rattle.timing_base.specs.Jobs.{CheckJob}
use Rattle.timing_base.specs.Keys.{media_of}
use Rattle.timing_base.specs.Media.{Media}
use Rattle.timing_base.specs.Verdicts.{Judged}
use Rattle.timing_base.specs.declared.capture.FileNote.{FileNote}
use Rattle.timing_base.specs.declared.row.KindVerdict.{KindVerdict}
use Rattle.timing_base.specs.declared.row.KindVerdict.TheVariants.{Pass}
use Rattle.timing_base.specs.Flows.{FirstFault, first_fault, packet as packet_at}
use Rattle.timing_base.specs.Judged.{FlowRun, FlowVerdict, RunOutcome, absent, in_one_run, in_runs, judged, judged_runs, refused, refused_or, refusal}
use Rattle.timing_base.specs.Numbered.{numbered}
use Rattle.timing_base.specs.Shifts.{FlowOptions, Shift}
use Rattle.timing_base.specs.declared.packet.FlowPacket.{FlowPacket}
use Rattle.timing_base.specs.declared.packet.PacketFault.{PacketFault}
use Rattle.timing_base.specs.declared.packet.PacketFault.TheVariants as packet
use Rattle.timing_base.specs.declared.row.Row.{Row}
use Rattle.timing_base.specs.declared.row.Unjudged.{Unjudged}
use Rattle.timing_base.specs.declared.row.Unjudged.TheVariants as unjudged
use Rattle.timing_base.specs.declared.row.Run.{Run}
use Rattle.timing_base.specs.declared.row.RunVerdict.{RunVerdict}
use Rattle.timing_base.specs.declared.row.RunVerdict.TheVariants as run_verdict
use Rattle.timing_base.specs.declared.row.Verdict.{Verdict}
use Rattle.timing_base.specs.declared.row.Verdict.TheVariants as verdict
use Rattle.timing_report.specs.Text.{report_text}
use Rattle.timing_report.specs.json_report.Json.{json_text}
use Rattle.timing_report.specs.json_report.Fails.{FitsRun, FitsRunVerdict, FitsVerdict}
use Rattle.report_reader.specs.JsonReading.{json_read}
use Rattle.report_reader.specs.Reading.{report_read}
use Rattle.report_reader.proofs.Json.{json_back}
use Rattle.report_reader.specs.Told.{ToldReport, judged_of, row_of, rows_of, run_of, run_verdict_of, told_flow, told_judged, told_of, told_outcome, told_report}
use Rattle.report_reader.specs.Told.{is_for_number, is_number, leaves_out, told_fault, told_row, told_run, told_unjudged, told_verdict, verdict_of}
use Rattle.report_reader.specs.Reported.{AreReported, FitsRow}
use Rattle.report_reader.proofs.Report.{report_back}

three_are : (kinds : List KindVerdict) → length kinds ≡ 3
    → slice_index_or kinds 0 Pass ∷ slice_index_or kinds 1 Pass ∷ slice_index_or kinds 2 Pass ∷ [] ≡ kinds
three_are [] e = absurd (omega (arith, e))
three_are (a ∷ []) e = absurd (omega (arith, e))
three_are (a ∷ b ∷ []) e = absurd (omega (arith, e))
three_are (a ∷ b ∷ c ∷ []) e = refl
three_are (a ∷ b ∷ c ∷ d ∷ more) e = absurd (omega (arith, e))

judged_is : (media : Media) (judged : Judged) → length judged.kinds ≡ 3 → judged_of (told_judged media judged) ≡ judged
judged_is media judged three =
    ap (λ ks. record judged { kinds = ks }) (three_are judged.kinds three)

run_verdict_is : (media : Media) (found : RunVerdict) → FitsRunVerdict found → run_verdict_of (told_outcome media found) ≡ found
run_verdict_is media (run_verdict.NoWholeFrame head) fits = refl
run_verdict_is media (run_verdict.Judged judged) fits = ap run_verdict.Judged (judged_is media judged fits.is.three)

runs_are : (media : Media) (runs : List Run) → All FitsRun runs → map run_of (map (told_run media) runs) ≡ runs
runs_are media [] fits = refl
runs_are media (run ∷ runs) fits =
    let here : run_of (told_run media run) ≡ run
    = ap (λ v. record { rec = run.rec; number = run.number; expected = run.expected; verdict = v })
    (run_verdict_is media run.verdict (fits 0 run (omega arith)).outcome) in
    ap₂ (λ r rs. r ∷ rs) here (runs_are media runs (λ k d lt. fits (suc k) d (omega arith)))

verdict_is : (media : Media) (found : Verdict) → FitsVerdict found → verdict_of (told_of media found) ≡ told_verdict found
verdict_is media (verdict.Unjudged why) fits = refl
verdict_is media (verdict.Judged judged) fits = ap verdict.Judged (judged_is media judged fits.is.three)
verdict_is media (verdict.Runs runs) fits = ap verdict.Runs (runs_are media runs fits.1)

pub rows_are : (session : List Media) (rows : List Row) → All FitsRow rows → map row_of (map (told_flow session) rows) ≡ map told_row rows
rows_are session [] fits = refl
rows_are session (row ∷ rows) fits =
    ap₂ (λ v rs. record { key = row.key; verdict = v } ∷ rs) (verdict_is (media_of session row.key) row.verdict (fits 0 row (omega arith)).verdict)
    (rows_are session rows (λ k d lt. fits (suc k) d (omega arith)))

fault_whole : (fault : PacketFault) → is_number fault ≡ false → told_fault fault ≡ fault
fault_whole (packet.Number expected got) h = cc
fault_whole packet.Short h = refl
fault_whole packet.Version h = refl
fault_whole packet.PayloadType h = refl
fault_whole packet.SecondSource h = refl
fault_whole (packet.StampBack before got) h = refl
fault_whole packet.NoMarker h = refl
fault_whole packet.SameStamp h = refl
fault_whole (packet.FrameSize want got) h = refl
fault_whole packet.FrameTooLarge h = refl

reason_whole : (why : Unjudged) → is_for_number why ≡ false → told_unjudged why ≡ why
reason_whole unjudged.Absent h = refl
reason_whole (unjudged.NoWholeFrame head) h = refl
reason_whole (unjudged.Refused rec fault) h = ap (unjudged.Refused rec) (fault_whole fault h)
reason_whole (unjudged.Gap rec expected got) h = refl

verdict_whole : (found : Verdict) → leaves_out found ≡ false → told_verdict found ≡ found
verdict_whole (verdict.Unjudged why) h = ap verdict.Unjudged (reason_whole why h)
verdict_whole (verdict.Judged judged) h = refl
verdict_whole (verdict.Runs runs) h = refl

rows_whole : (rows : List Row) → All (λ row. leaves_out row.verdict ≡ false) rows → map told_row rows ≡ rows
rows_whole [] h = refl
rows_whole (row ∷ rows) h =
    ap₂ (λ v rs. record { key = row.key; verdict = v } ∷ rs) (verdict_whole row.verdict (h 0 row (omega arith)))
    (rows_whole rows (λ k d lt. h (suc k) d (omega arith)))

-- the rows of a report are those that it was made of
pub rows_back : (session : List Media) (rows : List Row) → All FitsRow rows → All (λ row. leaves_out row.verdict ≡ false) rows
    → map row_of (map (told_flow session) rows) ≡ rows
rows_back session rows fits h = rows_are session rows fits ∙ rows_whole rows h

same_some : (a b : ToldReport) → Some a ≡ Some b → a ≡ b
same_some a b e = ap (unwrap_or_told a) e
  where
    unwrap_or_told : ToldReport → Option ToldReport → ToldReport
    unwrap_or_told a o = unwrap_or o a

-- equal texts tell the same
pub same_told : (job job' : CheckJob) (session session' : List Media) (notes notes' : List FileNote) (rows rows' : List Row)
    → AreReported job session notes rows → AreReported job' session' notes' rows'
    → report_text job session notes rows ≡ report_text job' session' notes' rows' → told_report job session notes rows ≡ told_report job' session' notes' rows'
same_told job job' session session' notes notes' rows rows' are are' e =
    same_some _ _ (sym (report_back job session notes rows are) ∙ ap report_read e ∙ report_back job' session' notes' rows' are')

-- and have the same rows
pub same_rows : (job job' : CheckJob) (session session' : List Media) (notes notes' : List FileNote) (rows rows' : List Row)
    → AreReported job session notes rows → AreReported job' session' notes' rows'
    → All (λ row. leaves_out row.verdict ≡ false) rows → All (λ row. leaves_out row.verdict ≡ false) rows'
    → report_text job session notes rows ≡ report_text job' session' notes' rows' → rows ≡ rows'
same_rows job job' session session' notes notes' rows rows' are are' all all' e =
    sym (rows_back session rows are.results all) ∙ ap rows_of (same_told job job' session session' notes notes' rows rows' are are' e)
    ∙ rows_back session' rows' are'.results all'

-- the same of JSON
pub same_json : (job job' : CheckJob) (session session' : List Media) (notes notes' : List FileNote) (rows rows' : List Row)
    → AreReported job session notes rows → AreReported job' session' notes' rows' → All IsUtf8 job.captures → All IsUtf8 job'.captures
    → json_text job session notes rows ≡ json_text job' session' notes' rows' → told_report job session notes rows ≡ told_report job' session' notes' rows'
same_json job job' session session' notes notes' rows rows' are are' utf8 utf8' e =
    same_some _ _ (sym (json_back job session notes rows are utf8) ∙ ap json_read e ∙ json_back job' session' notes' rows' are' utf8')

pub same_json_rows : (job job' : CheckJob) (session session' : List Media) (notes notes' : List FileNote) (rows rows' : List Row)
    → AreReported job session notes rows → AreReported job' session' notes' rows' → All IsUtf8 job.captures → All IsUtf8 job'.captures
    → All (λ row. leaves_out row.verdict ≡ false) rows → All (λ row. leaves_out row.verdict ≡ false) rows'
    → json_text job session notes rows ≡ json_text job' session' notes' rows' → rows ≡ rows'
same_json_rows job job' session session' notes notes' rows rows' are are' utf8 utf8' all all' e =
    sym (rows_back session rows are.results all) ∙ ap rows_of (same_json job job' session session' notes notes' rows rows' are are' utf8 utf8' e)
    ∙ rows_back session' rows' are'.results all'

-- no flow is refused for the fault `Number`
number_refused : FlowVerdict → Bool
number_refused (refused rec fault) = is_number fault
number_refused other = false

gap_or_other : (rec : ℕ) (fault : PacketFault) → number_refused (refusal rec fault) ≡ false
unfolding number_refused
gap_or_other rec (packet.Number expected got) = refl
gap_or_other rec other = refl

runs_or_one : (b : Bool) (one : RunOutcome) (more : List FlowRun) → number_refused (if b then in_one_run one else in_runs more) ≡ false
unfolding number_refused
runs_or_one true one more = refl
runs_or_one false one more = refl

refused_or_judged : (packets : List FlowPacket) (shift : Shift) (first : Option FirstFault)
    → number_refused (refused_or packets first (judged_runs packets shift)) ≡ false
refused_or_judged packets shift (Some first) = gap_or_other (packet_at packets first.index).rec first.fault
refused_or_judged packets shift None = runs_or_one _ _ _

absent_or : (b : Bool) (found : FlowVerdict) → number_refused found ≡ false → number_refused (if b then absent else found) ≡ false
unfolding number_refused
absent_or true found h = refl
absent_or false found h = h

pub none_for_number : (packets : List FlowPacket) (pt : ℕ) (options : FlowOptions) (rec : ℕ) (fault : PacketFault)
    → judged packets pt options ≡ refused rec fault → is_number fault ≡ false
unfolding number_refused
none_for_number packets pt options rec fault e =
    let counted = numbered options.seq16 packets in
    sym (ap number_refused e) ∙ absent_or (length counted == 0) _ (refused_or_judged counted options.shift (first_fault counted pt))
