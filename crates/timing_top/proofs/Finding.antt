-- The captures of a job confirm each fail of its rows.
use Rattle.std.proofs.Common.{◌≡◌, ◌≤◌, ◌<◌, ◌+◌, ◌*◌, ◌^◌, ℕ, zero, suc, Bool, true, false, List, [], ◌∷◌, length, Some, None, arith, ap, ◌∙◌, sym}
use Rattle.std.proofs.Common.{subst, append-nil, ◌++◌, Option, refl}
use Rattle.std.proofs.lemmas.Bool.{lt-ltb}
use Rattle.std.proofs.lemmas.Grind.{flat_map-append}
use Rattle.std.proofs.lemmas.List.{length-map, map-append}
use Rattle.std.proofs.lemmas.List.Elements.{All-append, All-head, All-nil, All-tail, All-weaker}
use Rattle.std.specs.Prelude.{All, Ok, if◌then◌else◌, map, nat_lt, slice_get, slice_index_or}
use Rattle.timing_base.specs.Shifts.{AreFlowOptions, FlowOptions}
use Rattle.timing_base.specs.Captures.{Record, joined, raised}
use Rattle.timing_base.specs.Choices.{chosen, first_chosen, row_from}
use Rattle.timing_base.specs.Grouped.{IsGroupedVerdict}
use Rattle.timing_base.specs.Jobs.{ReportJob}
use Rattle.timing_base.specs.Judged.{judged}
use Rattle.timing_base.specs.Keys.{key_of}
use Rattle.timing_base.specs.Media.{IsMedia, Media}
use Rattle.timing_base.specs.declared.capture.FileNote.{FileNote}
use Rattle.timing_base.specs.declared.row.Row.{Row}
use Rattle.pcap_reader.specs.Records.{AreRecords, Records}
use Rattle.pcap_reader.proofs.Captures.{map-raised}
use Rattle.udp_rtp.specs.Flow.{flow}
use Rattle.fail_interval.specs.Row.{verdict_of}
use Rattle.fail_interval.specs.Rows.{rows_from, rows_of, rows_of_files, rows_over}
use Rattle.interval_checker.specs.Checked.{Says}
use Rattle.timing_report.specs.json_report.Fails.{fails_of, verdict_fails}
use Rattle.timing_report.specs.declared.json_report.reading.ReportProof.{ReportProof}
use Rattle.timing_top.specs.verify.Asked.{FindsOf, media_for}
use Rattle.timing_top.specs.verify.Findings.{Finds}
use Rattle.pcapng_reader.specs.Bytes.{AreBytes}
use Rattle.timing_top.proofs.Choosing.{chosen-all, chosen-get}
use Rattle.timing_top.proofs.Confirming.{IsOfFlow, flow-of}
use Rattle.timing_top.proofs.Small.{flow-grouped, joined-small, one-small}

-- a fail of one of these media in this file, which its records confirm
record IsInFile (media : List Media) (options : FlowOptions) (file : ℕ) (items : List Record) (c : ReportProof) : Type 0 where
  file_is : c.key.file ≡ file
  m : Media
  there : slice_get media c.key.media ≡ Some m
  says : Says m c.kind c.proof c.run (judged (flow items m) m.pt options) (Ok true)

-- the fails of a row are those of a media that is there
one-row : (media : List Media) (options : FlowOptions) (file number : ℕ) (m : Media) (items : List Record) → IsMedia m → slice_get media number ≡ Some m
    → IsGroupedVerdict (judged (flow items m) m.pt options)
    → All (IsInFile media options file items) (verdict_fails (key_of file number) (verdict_of m (judged (flow items m) m.pt options)))
one-row media options file number m items is there g =
    All-weaker (IsOfFlow m (key_of file number) (judged (flow items m) m.pt options)) (IsInFile media options file items)
    (λ c h. record {
      file_is = ap (λ k. k.file) h.key_is;
      m = m;
      there = ap (λ k. slice_get media k.media) h.key_is ∙ there;
      says = h.says;
    })
    (verdict_fails (key_of file number) (verdict_of m (judged (flow items m) m.pt options)))
    (flow-of m (key_of file number) (judged (flow items m) m.pt options) is g)

-- these media are those of the session from this number on
abbrev AreFrom : (media : List Media) (first : ℕ) → List Media → Type 0
AreFrom media first ms = (k : ℕ) (m : Media) → slice_get ms k ≡ Some m → slice_get media (first + k) ≡ Some m

-- the fails of results whose media count from this number on
abbrev fails_from : ℕ → List Row → List ReportProof
fails_from first rows = fails_of (map (row_from first) rows)

-- the fails of the rows of one file
file-rows : (media : List Media) (options : FlowOptions) (file first number : ℕ) (ms : List Media) (items : List Record) → All IsMedia ms
    → AreFrom media (first + number) ms
    → ((m : Media) → IsGroupedVerdict (judged (flow items m) m.pt options))
    → All (IsInFile media options file items) (fails_from first (rows_from options file number ms items))
file-rows media options file first number [] items are at g = All-nil (IsInFile media options file items)
file-rows media options file first number (m ∷ ms) items are at g =
    let z : first + number ≡ first + number + 0 = omega arith in
    All-append (IsInFile media options file items) (verdict_fails (key_of file (first + number)) (verdict_of m (judged (flow items m) m.pt options)))
    (fails_from first (rows_from options file (number + 1) ms items))
    (one-row media options file (first + number) m items (All-head IsMedia m ms are) (ap (slice_get media) z ∙ at 0 m refl) (g m))
    (file-rows media options file first (number + 1) ms items (All-tail IsMedia m ms are)
    (λ k x h. let s : first + (number + 1) + k ≡ first + number + suc k = omega arith in ap (slice_get media) s ∙ at (suc k) x h) g)

all-rows : (media ms : List Media) (options : FlowOptions) (file first : ℕ) (items : List Record) → All IsMedia ms → AreFrom media first ms
    → ((m : Media) → IsGroupedVerdict (judged (flow items m) m.pt options))
    → All (IsInFile media options file items) (fails_from first (rows_of options file ms items))
all-rows media ms options file first items are at g =
    file-rows media options file first 0 ms items are
    (λ k x h. let z : first + 0 + k ≡ first + k = omega arith in ap (slice_get media) z ∙ at k x h) g

-- the fails of two lists of results
fails-append : (first : ℕ) (xs ys : List Row) → fails_from first (xs ++ ys) ≡ fails_from first xs ++ fails_from first ys
fails-append first xs ys =
    ap fails_of (map-append (row_from first) xs ys)
    ∙ flat_map-append (λ (r : Row). verdict_fails r.key r.verdict) (map (row_from first) xs) (map (row_from first) ys)

-- one capture that is joined is itself
one-joined : (items : List Record) → joined (items ∷ []) ≡ items
one-joined items = append-nil (map (raised 0) items) ∙ map-raised items

-- a fail of one of these captures, which its text confirms
record IsInFiles (media : List Media) (options : FlowOptions) (first : ℕ) (names : List (List ℕ)) (text : List ℕ → List ℕ) (c : ReportProof) : Type 0 where
  place : ℕ
  within : place < length names
  file_is : c.key.file ≡ first + place
  m : Media
  there : slice_get media c.key.media ≡ Some m
  finds : Finds m c options (text (slice_index_or names place []) ∷ []) (Ok true)

here-finds : (media : List Media) (options : FlowOptions) (first : ℕ) (name : List ℕ) (names : List (List ℕ)) (text : List ℕ
    → List ℕ) (items : List Record) (end : FileNote)
    → Records (text name) (2 ^ 40) items end
    → (c : ReportProof) → IsInFile media options first items c → IsInFiles media options first (name ∷ names) text c
here-finds media options first name names text items end records c h = record {
  place = zero;
  within = omega arith;
  file_is = omega (arith, h.file_is);
  m = h.m;
  there = h.there;
  finds = record {
    files = items ∷ [];
    notes = end ∷ [];
    records = (records, tt);
    says = subst (λ l. Says h.m c.kind c.proof c.run (judged (flow l h.m) h.m.pt options) (Ok true)) (sym (one-joined items)) h.says;
  };
}

-- the fails of the rows of files; media count from `number` on
files-rows : (media ms : List Media) (number : ℕ) (options : FlowOptions) (first : ℕ) (names : List (List ℕ)) (text : List ℕ → List ℕ)
    (files : List (List Record)) (notes : List FileNote) → AreFlowOptions options → All IsMedia ms → AreFrom media number ms
    → All AreBytes (map text names) → AreRecords (map text names) files notes
    → All (IsInFiles media options first names text) (fails_from number (rows_of_files options first ms files))
files-rows media ms number options first [] text [] [] shifts are at bytes h = All-nil (IsInFiles media options first [] text)
files-rows media ms number options first (name ∷ names) text (items ∷ files) (end ∷ notes) shifts are at bytes h =
    let P = IsInFiles media options first (name ∷ names) text in
    let small = one-small (text name) items end (All-head AreBytes (text name) (map text names) bytes) h.0 in
    subst (All P) (sym (fails-append number (rows_of options first ms items) (rows_of_files options (first + 1) ms files)))
    (All-append P (fails_from number (rows_of options first ms items)) (fails_from number (rows_of_files options (first + 1) ms files))
    (All-weaker (IsInFile media options first items) P (here-finds media options first name names text items end h.0)
    (fails_from number (rows_of options first ms items))
    (all-rows media ms options first number items are at (λ m. flow-grouped m options 0 (2 ^ 36) items shifts (omega arith) small)))
    (All-weaker (IsInFiles media options (first + 1) names text) P
    (λ c k. record { place = suc k.place; within = omega (arith, k.within); file_is = omega (arith, k.file_is); m = k.m; there = k.there; finds = k.finds })
    (fails_from number (rows_of_files options (first + 1) ms files))
    (files-rows media ms number options (first + 1) names text files notes shifts are at (All-tail AreBytes (text name) (map text names) bytes) h.1)))
files-rows media ms number options first [] text [] (n ∷ ns) shifts are at bytes h = absurd h
files-rows media ms number options first [] text (f ∷ fs) notes shifts are at bytes h = absurd h
files-rows media ms number options first (name ∷ names) text [] notes shifts are at bytes h = absurd h
files-rows media ms number options first (name ∷ names) text (f ∷ fs) [] shifts are at bytes h = absurd h

-- a fail of the job's rows, which its captures confirm
abbrev pub IsConfirmed : ReportJob → List Media → (List ℕ → List ℕ) → ReportProof → Type 0
IsConfirmed job media text c = FindsOf (media_for job media c.key) job c text (Ok true)

media-there : (most : ℕ) (media : List Media) (c : ReportProof) (m : Media) → c.key.file < most → slice_get media c.key.media ≡ Some m
    → (if nat_lt c.key.file most then slice_get media c.key.media else None) ≡ Some m
media-there most media c m low there = ap (λ b. if b then slice_get media c.key.media else None) (lt-ltb c.key.file most low) ∙ there

-- the job of `verify-report` with these fields
abbrev job_with : (sdp name : List ℕ) (options : FlowOptions) (captures : List (List ℕ)) → Option ℕ → Bool → ReportJob
job_with sdp name options captures only joined =
    record { sdp = sdp; report = name; options = options; captures = captures; joined = joined; media = only }

-- the captures confirm each fail of the rows of the judged media, joined or each for itself
pub confirmed-rows : (sdp name : List ℕ) (options : FlowOptions) (captures : List (List ℕ)) (only : Option ℕ) (b : Bool) (media : List Media)
    (text : List ℕ → List ℕ) (files : List (List Record)) (notes : List FileNote)
    → AreFlowOptions options → length captures ≤ 16 → All IsMedia media → All AreBytes (map text captures) → AreRecords (map text captures) files notes
    → All (IsConfirmed (job_with sdp name options captures only b) media text)
    (fails_of (map (row_from (first_chosen only)) (rows_over b options (chosen only media) files)))
confirmed-rows sdp name options captures only true media text files notes shifts few are bytes h =
    let job = job_with sdp name options captures only true in
    let first = first_chosen only in
    let ms = chosen only media in
    let texts = map text captures in
    let count : length texts ≡ length captures = length-map captures text in
    let small = joined-small 0 texts files notes bytes h in
    All-weaker (IsInFile media options 0 (joined files)) (IsConfirmed job media text)
    (λ c k. subst (λ o. FindsOf o job c text (Ok true)) (sym (media-there 1 media c k.m (omega (arith, k.file_is)) k.there))
    record { files = files; notes = notes; records = h; says = k.says })
    (fails_from first (rows_of options 0 ms (joined files)))
    (all-rows media ms options 0 first (joined files) (chosen-all IsMedia only media are) (chosen-get only media)
    (λ m. flow-grouped m options 0 (2 ^ 36 * length texts) (joined files) shifts (omega (arith, count, few)) small))
confirmed-rows sdp name options captures only false media text files notes shifts few are bytes h =
    let job = job_with sdp name options captures only false in
    let first = first_chosen only in
    let ms = chosen only media in
    All-weaker (IsInFiles media options 0 captures text) (IsConfirmed job media text)
    (λ c k. let e : k.place ≡ c.key.file = omega (arith, k.file_is) in
    subst (λ o. FindsOf o job c text (Ok true)) (sym (media-there (length captures) media c k.m (omega (arith, k.file_is, k.within)) k.there))
    (subst (λ i. Finds k.m c options (text (slice_index_or captures i []) ∷ []) (Ok true)) e k.finds))
    (fails_from first (rows_of_files options 0 ms files))
    (files-rows media ms first options 0 captures text files notes shifts (chosen-all IsMedia only media are) (chosen-get only media) bytes h)
