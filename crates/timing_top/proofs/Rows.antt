-- The rows of a job are of its flows, and their numbers have 64 bits.
use Rattle.std.proofs.Common.{◌≡◌, ◌≤◌, ◌+◌, ◌*◌, ◌^◌, ℕ, Bool, true, false, List, [], ◌∷◌, ◌++◌, length, refl, arith, ap, ap₂, ◌∙◌, sym, append-nil}
use Rattle.std.proofs.lemmas.List.{map-append}
use Rattle.std.proofs.lemmas.List.Elements.{All-append, All-cons, All-head, All-map, All-nil, All-tail}
use Rattle.std.specs.Prelude.{All, map}
use Rattle.timing_base.specs.Shifts.{AreFlowOptions, FlowOptions}
use Rattle.timing_base.specs.Captures.{Record, joined}
use Rattle.timing_base.specs.Choices.{chosen, first_chosen, key_from, keys_chosen, row_from}
use Rattle.timing_base.specs.Jobs.{CheckJob}
use Rattle.timing_base.specs.Keys.{key_of, keys_of, keys_of_file, keys_of_files}
use Rattle.timing_base.specs.Media.{IsMedia, Media}
use Rattle.timing_base.specs.declared.capture.FileNote.{FileNote}
use Rattle.timing_base.specs.declared.key.FlowKey.{FlowKey}
use Rattle.timing_base.specs.declared.row.Row.{Row}
use Rattle.pcap_reader.specs.Records.{AreRecords}
use Rattle.udp_rtp.specs.Flow.{flow}
use Rattle.fail_interval.specs.Row.{row}
use Rattle.fail_interval.specs.Rows.{rows_from, rows_of, rows_of_files, rows_over}
use Rattle.timing_report.specs.json_report.Fails.{FitsVerdict}
use Rattle.pcapng_reader.specs.Bytes.{AreBytes}
use Rattle.timing_top.specs.Report.{rows}
use Rattle.timing_top.proofs.Choosing.{chosen-all, keys-chosen}
use Rattle.timing_top.proofs.Small.{AreSmall, joined-small, one-small}
use Rattle.timing_top.proofs.Words.{flow-fits}

abbrev key : Row → FlowKey
key r = r.key

abbrev Fitting : Row → Type 0
Fitting r = FitsVerdict r.verdict

keys-from : (options : FlowOptions) (file number : ℕ) (ms : List Media) (items : List Record) → map key (rows_from options file number ms items) ≡
    keys_of_file file number (length ms)
keys-from options file number [] items = refl
keys-from options file number (m ∷ ms) items = ap (λ l. key_of file number ∷ l) (keys-from options file (number + 1) ms items)

keys-files : (options : FlowOptions) (first : ℕ) (media : List Media) (files : List (List Record)) → map key (rows_of_files options first media files)
    ≡ keys_of_files first (length files) (length media)
keys-files options first media [] = refl
keys-files options first media (items ∷ files) =
    map-append key (rows_of options first media items) (rows_of_files options (first + 1) media files)
    ∙ ap₂ (λ (k l : List FlowKey). k ++ l) (keys-from options first 0 media items) (keys-files options (first + 1) media files)

-- the flows of the rows
keys-over : (b : Bool) (options : FlowOptions) (media : List Media) (files : List (List Record)) → map key (rows_over b options media files)
    ≡ keys_of b (length files) (length media)
keys-over true options media files = keys-from options 0 0 media (joined files) ∙ sym (append-nil (keys_of_file 0 0 (length media)))
keys-over false options media files = keys-files options 0 media files

-- as many files as texts
pub records-length : (texts : List (List ℕ)) (files : List (List Record)) (notes : List FileNote) → AreRecords texts files notes → length files ≡ length texts
records-length [] [] [] h = refl
records-length (t ∷ ts) (f ∷ fs) (n ∷ ns) h = let more = records-length ts fs ns h.1 in omega (arith, more)
records-length [] [] (n ∷ ns) h = absurd h
records-length [] (f ∷ fs) notes h = absurd h
records-length (t ∷ ts) [] notes h = absurd h
records-length (t ∷ ts) (f ∷ fs) [] h = absurd h

fits-from : (options : FlowOptions) (file number before most : ℕ) (ms : List Media) (items : List Record) → AreFlowOptions options → before + most ≤ 2 ^ 40
    → All IsMedia ms
    → AreSmall before most items
    → All Fitting (rows_from options file number ms items)
fits-from options file number before most [] items shifts few are h = All-nil Fitting
fits-from options file number before most (m ∷ ms) items shifts few are h =
    All-cons Fitting (row (flow items m) (key_of file number) m options) (rows_from options file (number + 1) ms items)
    (flow-fits m options before most items (All-head IsMedia m ms are) shifts few h)
    (fits-from options file (number + 1) before most ms items shifts few (All-tail IsMedia m ms are) h)

fits-files : (options : FlowOptions) (first : ℕ) (media : List Media) (texts : List (List ℕ)) (files : List (List Record)) (notes : List FileNote)
    → AreFlowOptions options → All IsMedia media
    → All AreBytes texts
    → AreRecords texts files notes → All Fitting (rows_of_files options first media files)
fits-files options first media [] [] [] shifts are bytes h = All-nil Fitting
fits-files options first media (t ∷ ts) (f ∷ fs) (n ∷ ns) shifts are bytes h =
    All-append Fitting (rows_of options first media f) (rows_of_files options (first + 1) media fs)
    (fits-from options first 0 0 (2 ^ 36) media f shifts (omega arith) are (one-small t f n (All-head AreBytes t ts bytes) h.0))
    (fits-files options (first + 1) media ts fs ns shifts are (All-tail AreBytes t ts bytes) h.1)
fits-files options first media [] [] (n ∷ ns) shifts are bytes h = absurd h
fits-files options first media [] (f ∷ fs) notes shifts are bytes h = absurd h
fits-files options first media (t ∷ ts) [] notes shifts are bytes h = absurd h
fits-files options first media (t ∷ ts) (f ∷ fs) [] shifts are bytes h = absurd h

-- the numbers of the rows
rows-fit : (b : Bool) (options : FlowOptions) (media : List Media) (texts : List (List ℕ)) (files : List (List Record)) (notes : List FileNote)
    → AreFlowOptions options
    → length texts ≤ 16 → All IsMedia media
    → All AreBytes texts → AreRecords texts files notes → All Fitting (rows_over b options media files)
rows-fit true options media texts files notes shifts few are bytes h =
    fits-from options 0 0 0 (2 ^ 36 * length texts) media (joined files) shifts (omega (arith, few)) are (joined-small 0 texts files notes bytes h)
rows-fit false options media texts files notes shifts few are bytes h = fits-files options 0 media texts files notes shifts are bytes h

-- the flows of the results of a job, and their numbers
pub job-keys : (job : CheckJob) (media : List Media) (files : List (List Record))
    → map key (rows job media files) ≡ keys_chosen job.media job.joined (length files) media
job-keys job media files =
    keys-chosen (first_chosen job.media) (rows_over job.joined job.options (chosen job.media media) files)
    ∙ ap (λ l. map (key_from (first_chosen job.media)) l) (keys-over job.joined job.options (chosen job.media media) files)

pub job-fits : (job : CheckJob) (media : List Media) (texts : List (List ℕ)) (files : List (List Record)) (notes : List FileNote)
    → AreFlowOptions job.options → length texts ≤ 16 → All IsMedia media → All AreBytes texts → AreRecords texts files notes
    → All Fitting (rows job media files)
job-fits job media texts files notes shifts few are bytes h =
    All-map Fitting (row_from (first_chosen job.media)) (rows_over job.joined job.options (chosen job.media media) files)
    (rows-fit job.joined job.options (chosen job.media media) texts files notes shifts few (chosen-all IsMedia job.media media are) bytes h)
