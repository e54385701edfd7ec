-- A whole report is read back.
use Rattle.std.proofs.Common.{◌≡◌, ◌∙◌, ℕ, zero, suc, ◌+◌, ◌^◌, ◌<◌, ◌≤◌, true, List, [], ◌∷◌, ◌++◌, length, refl, ap}
use Rattle.std.proofs.Common.{arith, append_assoc, length-append}
use Rattle.std.specs.Prelude.{Option, Some, None, codes, map, All}
use Rattle.std.specs.Fmt.{decimal}
use Rattle.std.specs.List.{flat_map, list_all}
use Rattle.std.proofs.lemmas.List.Concat.{flat_map-append}
use Rattle.timing_base.specs.Jobs.{CheckJob}
use Rattle.timing_base.specs.Keys.{media_of, no_media}
use Rattle.timing_base.specs.Media.{Media}
use Rattle.timing_base.specs.Name.{is_file_name, is_name_byte}
use Rattle.timing_base.specs.declared.capture.FileNote.{FileNote}
use Rattle.timing_base.specs.declared.capture.FileNote.TheVariants as note
use Rattle.timing_base.specs.declared.capture.PcapFault.TheVariants as pcap
use Rattle.timing_base.specs.declared.row.Row.{Row}
use Rattle.sdp_reader.specs.Bytes.{after_prefix}
use Rattle.timing_report.specs.Outcomes.{status_of}
use Rattle.timing_report.specs.Status.{code_of}
use Rattle.timing_report.specs.Text.{ended, file_text, files_lines as lines_of_files, report_text, row_lines, status_text, text_of_lines, title}
use Rattle.timing_report.specs.Words.{note_text}
use Rattle.timing_report.proofs.Keys.{IsKeyOf, keys_of_rows}
use Rattle.timing_report.proofs.lemmas.json_report.Limits.{code_small}
use Rattle.report_reader.specs.Pieces.{line}
use Rattle.report_reader.specs.Reading.{ending, file_line, files_lines, flows_lines, report_read, report_within}
use Rattle.report_reader.specs.Told.{ToldFile, ToldFlow, told_files, told_flow, told_report}
use Rattle.report_reader.specs.Reported.{AreNames, AreReported, FitsMedia, FitsNote, FitsRow}
use Rattle.report_reader.proofs.Flows.{flow_back, flow_is, flow_rest}
use Rattle.report_reader.proofs.Numbers.{both_true, line_back, number_back}

pub ending_back : {B : Type 0} (next : FileNote → List ℕ → Option B) (end : FileNote) (rest : List ℕ) → FitsNote end
    → ending next (note_text end ++ (codes " " ++ rest)) ≡ next end rest
unfolding ending
ending_back next note.End rest fits = refl
ending_back next (note.Cut at) rest fits = simp (number_back, fits)
ending_back next (note.Refused pcap.ReadFault) rest fits = refl
ending_back next (note.Refused pcap.BadMagic) rest fits = refl
ending_back next (note.Refused pcap.BadVersion) rest fits = refl
ending_back next (note.Refused pcap.BadLink) rest fits = refl
ending_back next (note.Refused (pcap.BadStamp rec)) rest fits = simp (number_back, fits)
ending_back next (note.Refused (pcap.BadLength rec)) rest fits = simp (number_back, fits)
ending_back next (note.Refused pcap.TooLong) rest fits = refl

-- the text of a capture after its first word
abbrev file_rest : ℕ → FileNote → List ℕ → List ℕ → List ℕ
file_rest file end name rest = decimal (file + 1) ++ (codes " " ++ (note_text end ++ (codes " " ++ (name ++ 10 ∷ rest))))

file_is : (file : ℕ) (end : FileNote) (name rest : List ℕ) → ended (file_text file end name) ++ rest ≡ codes "file " ++ file_rest file end name rest
file_is file end name rest = simp append_assoc

name_bytes : (name : List ℕ) → is_file_name name ≡ true → list_all is_name_byte name ≡ true
name_bytes name h = (both_true _ _ (both_true _ _ h).1).1

file_back : {B : Type 0} (next : ToldFile → List ℕ → Option B) (file : ℕ) (end : FileNote) (name rest : List ℕ) → file + 1 < 2 ^ 64 → FitsNote end
    → is_file_name name ≡ true → file_line next (file_rest file end name rest) ≡ next record { note = end; name = name } rest
unfolding file_line
file_back next file end name rest f fits named =
    number_back _ (file + 1) _ f refl ∙ ending_back _ end _ fits ∙ line_back _ name rest (name_bytes name named)

files_end : {B : Type 0} (next : List ToldFile → List ℕ → Option B) (most : ℕ) (rest : List ℕ) → after_prefix (codes "file ") rest ≡ None
    → files_lines most next rest ≡ next [] rest
unfolding files_lines
files_end next zero rest e = refl
files_end next (suc most) rest e = rw e refl

files_back : {B : Type 0} (next : List ToldFile → List ℕ → Option B) (most file : ℕ) (names : List (List ℕ)) (notes : List FileNote) (rest : List ℕ)
    → length (lines_of_files file names notes) ≤ most → file + length names < 2 ^ 64 → AreNames names → All FitsNote notes
    → after_prefix (codes "file ") rest ≡ None
    → files_lines most next (text_of_lines (lines_of_files file names notes) ++ rest) ≡ next (told_files names notes) rest
unfolding files_lines
files_back next most file [] notes rest few small named fits e = files_end next most rest e
files_back next most file (name ∷ names) [] rest few small named fits e = files_end next most rest e
files_back next zero file (name ∷ names) (end ∷ notes) rest few small named fits e = absurd (omega (arith, few))
files_back next (suc most) file (name ∷ names) (end ∷ notes) rest few small named fits e =
    let later = text_of_lines (lines_of_files (file + 1) names notes) in
    ap (files_lines (suc most) next) (append_assoc (ended (file_text file end name)) later rest ∙ file_is file end name (later ++ rest))
    ∙ file_back _ file end name _ (omega arith) (fits 0 end (omega arith)) (named 0 name (omega arith))
    ∙ files_back (λ files. next (record { note = end; name = name } ∷ files)) most (file + 1) names notes rest (omega (arith, few)) (omega arith)
    (λ k d lt. named (suc k) d (omega arith)) (λ k d lt. fits (suc k) d (omega arith)) e

-- the text of all flows
abbrev rows_text : List Media → List Row → List ℕ
rows_text session rows = text_of_lines (flat_map (row_lines session) rows)

flows_end : {B : Type 0} (next : List ToldFlow → List ℕ → Option B) (most : ℕ) (rest : List ℕ) → after_prefix (codes "flow ") rest ≡ None
    → flows_lines most next rest ≡ next [] rest
unfolding flows_lines
flows_end next zero rest e = refl
flows_end next (suc most) rest e = rw e refl

flows_back : {B : Type 0} (next : List ToldFlow → List ℕ → Option B) (most : ℕ) (session : List Media) (rows : List Row) (rest : List ℕ)
    → length rows ≤ most → length session ≤ 64 → All FitsMedia session → All (λ row. IsKeyOf 16 (length session) row.key) rows → All FitsRow rows
    → after_prefix (codes "flow ") rest ≡ None
    → flows_lines most next (rows_text session rows ++ rest) ≡ next (map (told_flow session) rows) rest
unfolding flows_lines
flows_back next most session [] rest few small media keys fits e = flows_end next most rest e
flows_back next zero session (row ∷ rows) rest few small media keys fits e = absurd (omega (arith, few))
flows_back next (suc most) session (row ∷ rows) rest few small media keys fits e =
    let here = row_lines session row in
    let later = flat_map (row_lines session) rows in
    let m = media_of session row.key in
    let key = keys 0 row (omega arith) in
    let cut : text_of_lines (here ++ later) ++ rest ≡ codes "flow " ++ flow_rest m row (text_of_lines later ++ rest)
    = ap (λ s. s ++ rest) (flat_map-append ended here later) ∙ append_assoc (text_of_lines here) (text_of_lines later) rest
    ∙ flow_is m row (text_of_lines later ++ rest) in
    ap (flows_lines (suc most) next) cut
    ∙ flow_back _ m row _ (media row.key.media no_media key.1) (omega (arith, key.0)) (omega (arith, key.1, small)) (fits 0 row (omega arith))
    ∙ flows_back (λ flows. next (told_flow session row ∷ flows)) most session rows rest (omega (arith, few)) small media
    (λ k d lt. keys (suc k) d (omega arith)) (λ k d lt. fits (suc k) d (omega arith)) e

-- the last line
abbrev last_line : ℕ → List ℕ
last_line status = codes "status " ++ (decimal status ++ codes "\n")

report_is : (job : CheckJob) (session : List Media) (notes : List FileNote) (rows : List Row) → report_text job session notes rows
    ≡ (title ++ codes "\n") ++ (text_of_lines (lines_of_files 0 job.captures notes)
    ++ (rows_text session rows ++ last_line (code_of (status_of session notes rows))))
report_is job session notes rows =
    let files = lines_of_files 0 job.captures notes in
    let flows = flat_map (row_lines session) rows in
    let status = status_text session notes rows in
    ap (λ s. (title ++ codes "\n") ++ s) (flat_map-append ended files (flows ++ status ∷ []) ∙ ap (λ s. text_of_lines files ++ s)
    (flat_map-append ended flows (status ∷ []) ∙ ap (λ s. text_of_lines flows ++ s) (simp append_assoc)))

-- each line has a byte, and each flow a line
lines_few : (lines : List (List ℕ)) → length lines ≤ length (text_of_lines lines)
lines_few [] = omega arith
lines_few (line ∷ lines) =
    let e = length-append (ended line) (text_of_lines lines) in
    let f = length-append line (codes "\n") in
    omega (arith, e, f, lines_few lines)

rows_few : (session : List Media) (rows : List Row) → length rows ≤ length (flat_map (row_lines session) rows)
rows_few session [] = omega arith
rows_few session (row ∷ rows) =
    let e = length-append (row_lines session row) (flat_map (row_lines session) rows) in
    omega (arith, e, rows_few session rows)

-- none of the flows' lines, nor the status, begins as the line of a capture
no_file : (session : List Media) (rows : List Row) (status : ℕ) → after_prefix (codes "file ") (rows_text session rows ++ last_line status) ≡ None
no_file session [] status = refl
no_file session (row ∷ rows) status = refl

report_at : (most : ℕ) (job : CheckJob) (session : List Media) (notes : List FileNote) (rows : List Row) (status : ℕ)
    → AreReported job session notes rows → status < 2 ^ 64 → length (lines_of_files 0 job.captures notes) ≤ most → length rows ≤ most
    → report_within most ((title ++ codes "\n") ++ (text_of_lines (lines_of_files 0 job.captures notes)
    ++ (rows_text session rows ++ last_line status)))
    ≡ Some record { files = told_files job.captures notes; flows = map (told_flow session) rows; status = status }
unfolding report_within
report_at most job session notes rows status are small files_fit rows_fit =
    files_back _ most 0 job.captures notes _ files_fit (omega (arith, are.is_job.captures_are.few)) are.names are.endings (no_file session rows status)
    ∙ flows_back _ most session rows (last_line status) rows_fit are.is_session.few are.media (keys_of_rows job session rows are.is_job are.flows)
    are.results refl
    ∙ number_back _ status _ small refl

-- the text has more bytes than captures and than flows
pub report_back : (job : CheckJob) (session : List Media) (notes : List FileNote) (rows : List Row) → AreReported job session notes rows
    → report_read (report_text job session notes rows) ≡ Some (told_report job session notes rows)
report_back job session notes rows are =
    let files = lines_of_files 0 job.captures notes in
    let flows = flat_map (row_lines session) rows in
    let status = code_of (status_of session notes rows) in
    let most = length (report_text job session notes rows) in
    let whole : most ≡ length ((title ++ codes "\n") ++ (text_of_lines files ++ (text_of_lines flows ++ last_line status)))
    = ap length (report_is job session notes rows) in
    let first = length-append (title ++ codes "\n") (text_of_lines files ++ (text_of_lines flows ++ last_line status)) in
    let second = length-append (text_of_lines files) (text_of_lines flows ++ last_line status) in
    let third = length-append (text_of_lines flows) (last_line status) in
    let files_fit : length files ≤ most = omega (arith, whole, first, second, lines_few files) in
    let rows_fit : length rows ≤ most = omega (arith, whole, first, second, third, lines_few flows, rows_few session rows) in
    ap (report_within most) (report_is job session notes rows)
    ∙ report_at most job session notes rows status are (code_small (status_of session notes rows)) files_fit rows_fit
