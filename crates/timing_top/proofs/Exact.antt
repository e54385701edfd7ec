-- What the rows of a job tell of the sender types.
use Rattle.std.proofs.Common.{◌≡◌, ◌≤◌, ◌+◌, ◌*◌, ◌^◌, ℕ, zero, suc, Bool, true, false, List, [], ◌∷◌, length, Some, refl, arith, ap, ◌∙◌, sym}
use Rattle.std.proofs.lemmas.List.Elements.{All-append, All-cons, All-head, All-map, All-nil, All-tail, All-weaker}
use Rattle.std.specs.Prelude.{All, map, slice_get}
use Rattle.timing_base.specs.Shifts.{AreFlowOptions, FlowOptions}
use Rattle.timing_base.specs.Captures.{Record, joined}
use Rattle.timing_base.specs.Choices.{chosen, first_chosen, row_from}
use Rattle.timing_base.specs.Jobs.{CheckJob}
use Rattle.timing_base.specs.Grouped.{IsGrouped, IsGroupedOutcome, IsGroupedVerdict}
use Rattle.timing_base.specs.Judged.{FlowRun, FlowVerdict, JudgedRun, RunOutcome, absent, gap, in_one_run, in_runs, judged, no_whole_frame, refused}
use Rattle.timing_base.specs.Judged.{whole_frames}
use Rattle.timing_base.specs.Keys.{key_of}
use Rattle.timing_base.specs.Media.{IsMedia, Media}
use Rattle.timing_base.specs.declared.capture.FileNote.{FileNote}
use Rattle.timing_base.specs.declared.media.Kind.{Kind}
use Rattle.timing_base.specs.declared.media.Kind.TheVariants.{N, NL, W}
use Rattle.timing_base.specs.declared.row.Row.{Row}
use Rattle.timing_base.specs.declared.row.Unjudged.TheVariants as unjudged
use Rattle.sender_params.specs.Ticks.{NeverFall}
use Rattle.pcap_reader.specs.Records.{AreRecords}
use Rattle.udp_rtp.specs.Flow.{flow}
use Rattle.fail_interval.specs.Fails.{kind_verdict}
use Rattle.fail_interval.specs.Row.{judged_values, row, run_of, run_verdict_of, verdict_of}
use Rattle.fail_interval.proofs.Confirmed.{fail-confirms, keeps-pass, pass-keeps}
use Rattle.fail_interval.specs.Rows.{rows_from, rows_of, rows_of_files, rows_over}
use Rattle.timing_top.specs.Exact.{AreExact, IsExact, IsExactRow, TellRuns, TellsFlow, TellsRun}
use Rattle.pcapng_reader.specs.Bytes.{AreBytes}
use Rattle.timing_top.specs.Report.{rows}
use Rattle.timing_top.proofs.Choosing.{chosen-all, chosen-get}
use Rattle.timing_top.proofs.Small.{flow-grouped, joined-small, one-small}

-- the verdicts on a judged run
kinds-exact : (m : Media) (run : JudgedRun) → IsMedia m → IsGrouped run → AreExact m run (judged_values m run).kinds
kinds-exact m run is g =
    let falls : NeverFall run.stamps = λ a b order below. g.rising a b 0 order below in
    let of : (kind : Kind) → IsExact m run.n run.stamps kind (kind_verdict m run.n run.stamps kind) = λ kind. record {
      passes = pass-keeps m run.n run.stamps kind is g.some falls;
      keeps = keeps-pass m run.n run.stamps kind is g.some falls;
      confirmed = λ f e. fail-confirms m run.n run.stamps kind f is g.some falls e;
    } in
    record {
      narrow = kind_verdict m run.n run.stamps N;
      narrow_linear = kind_verdict m run.n run.stamps NL;
      wide = kind_verdict m run.n run.stamps W;
      kinds_are = refl;
      narrow_is = of N;
      narrow_linear_is = of NL;
      wide_is = of W;
    }

run-exact : (m : Media) (outcome : RunOutcome) → IsMedia m → IsGroupedOutcome outcome → TellsRun m outcome (run_verdict_of m outcome)
run-exact m (no_whole_frame head) is g = refl
run-exact m (whole_frames run) is g = (judged_values m run, refl, kinds-exact m run is g)

runs-exact : (m : Media) (runs : List FlowRun) → IsMedia m → All (λ run. IsGroupedOutcome run.outcome) runs → TellRuns m runs (map (run_of m) runs)
runs-exact m [] is g = refl
runs-exact m (r ∷ rs) is g = (
  run-exact m r.outcome is (All-head (λ (run : FlowRun). IsGroupedOutcome run.outcome) r rs g),
  runs-exact m rs is (All-tail (λ (run : FlowRun). IsGroupedOutcome run.outcome) r rs g),
)

flow-exact : (m : Media) (v : FlowVerdict) → IsMedia m → IsGroupedVerdict v → TellsFlow m v (verdict_of m v)
flow-exact m absent is g = (unjudged.Absent, refl)
flow-exact m (refused rec fault) is g = (unjudged.Refused rec fault, refl)
flow-exact m (gap rec expected got) is g = (unjudged.Gap rec expected got, refl)
flow-exact m (in_one_run (no_whole_frame head)) is g = (unjudged.NoWholeFrame head, refl)
flow-exact m (in_one_run (whole_frames run)) is g = (judged_values m run, refl, kinds-exact m run is g)
flow-exact m (in_runs runs) is g = (map (run_of m) runs, refl, runs-exact m runs is g.outcomes)

-- a row of this file that tells of its media there
record IsInFile (media : List Media) (options : FlowOptions) (file : ℕ) (items : List Record) (r : Row) : Type 0 where
  file_is : r.key.file ≡ file
  m : Media
  there : slice_get media r.key.media ≡ Some m
  tells : TellsFlow m (judged (flow items m) m.pt options) r.verdict

file-rows : (media : List Media) (options : FlowOptions) (file number : ℕ) (ms : List Media) (items : List Record) → All IsMedia ms
    → ((k : ℕ) → slice_get media (number + k) ≡ slice_get ms k)
    → ((m : Media) → IsGroupedVerdict (judged (flow items m) m.pt options))
    → All (IsInFile media options file items) (rows_from options file number ms items)
file-rows media options file number [] items are at g = All-nil (IsInFile media options file items)
file-rows media options file number (m ∷ ms) items are at g =
    let z : number ≡ number + 0 = omega arith in
    All-cons (IsInFile media options file items) (row (flow items m) (key_of file number) m options) (rows_from options file (number + 1) ms items)
    record {
      file_is = refl;
      m = m;
      there = ap (slice_get media) z ∙ at 0;
      tells = flow-exact m (judged (flow items m) m.pt options) (All-head IsMedia m ms are) (g m);
    }
    (file-rows media options file (number + 1) ms items (All-tail IsMedia m ms are)
    (λ k. let s : number + 1 + k ≡ number + suc k = omega arith in ap (slice_get media) s ∙ at (suc k)) g)

all-rows : (media : List Media) (options : FlowOptions) (file : ℕ) (items : List Record) → All IsMedia media → ((m : Media)
    → IsGroupedVerdict (judged (flow items m) m.pt options))
    → All (IsInFile media options file items) (rows_of options file media items)
all-rows media options file items are g =
    file-rows media options file 0 media items are (λ k. let z : 0 + k ≡ k = omega arith in ap (slice_get media) z) g

-- the same of one of these files
record IsInFiles (media : List Media) (options : FlowOptions) (first : ℕ) (files : List (List Record)) (r : Row) : Type 0 where
  place : ℕ
  file_is : r.key.file ≡ first + place
  items : List Record
  found : slice_get files place ≡ Some items
  m : Media
  there : slice_get media r.key.media ≡ Some m
  tells : TellsFlow m (judged (flow items m) m.pt options) r.verdict

files-rows : (media : List Media) (options : FlowOptions) (first : ℕ) (texts : List (List ℕ)) (files : List (List Record)) (notes : List FileNote)
    → AreFlowOptions options → All IsMedia media
    → All AreBytes texts
    → AreRecords texts files notes → All (IsInFiles media options first files) (rows_of_files options first media files)
files-rows media options first [] [] [] shifts are bytes h = All-nil (IsInFiles media options first [])
files-rows media options first (t ∷ ts) (items ∷ files) (n ∷ ns) shifts are bytes h =
    let P = IsInFiles media options first (items ∷ files) in
    let small = one-small t items n (All-head AreBytes t ts bytes) h.0 in
    All-append P (rows_of options first media items) (rows_of_files options (first + 1) media files)
    (All-weaker (IsInFile media options first items) P
    (λ r k. record { place = zero; file_is = omega (arith, k.file_is); items = items; found = refl; m = k.m; there = k.there; tells = k.tells })
    (rows_of options first media items)
    (all-rows media options first items are (λ m. flow-grouped m options 0 (2 ^ 36) items shifts (omega arith) small)))
    (All-weaker (IsInFiles media options (first + 1) files) P
    (λ r k. record { place = suc k.place; file_is = omega (arith, k.file_is); items = k.items; found = k.found; m = k.m; there = k.there; tells = k.tells })
    (rows_of_files options (first + 1) media files)
    (files-rows media options (first + 1) ts files ns shifts are (All-tail AreBytes t ts bytes) h.1))
files-rows media options first [] [] (n ∷ ns) shifts are bytes h = absurd h
files-rows media options first [] (f ∷ fs) notes shifts are bytes h = absurd h
files-rows media options first (t ∷ ts) [] notes shifts are bytes h = absurd h
files-rows media options first (t ∷ ts) (f ∷ fs) [] shifts are bytes h = absurd h

-- what the rows of captures tell
rows-exact : (b : Bool) (options : FlowOptions) (media : List Media) (texts : List (List ℕ)) (files : List (List Record)) (notes : List FileNote)
    → AreFlowOptions options
    → length texts ≤ 16 → All IsMedia media
    → All AreBytes texts → AreRecords texts files notes → All (IsExactRow b options media files) (rows_over b options media files)
rows-exact true options media texts files notes shifts few are bytes h =
    All-weaker (IsInFile media options 0 (joined files)) (IsExactRow true options media files)
    (λ r k. record { m = k.m; media_is = k.there; items = joined files; items_are = refl; tells = k.tells })
    (rows_of options 0 media (joined files))
    (all-rows media options 0 (joined files) are
    (λ m. flow-grouped m options 0 (2 ^ 36 * length texts) (joined files) shifts (omega (arith, few)) (joined-small 0 texts files notes bytes h)))
rows-exact false options media texts files notes shifts few are bytes h =
    All-weaker (IsInFiles media options 0 files) (IsExactRow false options media files)
    (λ r k. let e : k.place ≡ r.key.file = omega (arith, k.file_is) in
    record { m = k.m; media_is = k.there; items = k.items; items_are = ap (slice_get files) (sym e) ∙ k.found; tells = k.tells })
    (rows_of_files options 0 media files) (files-rows media options 0 texts files notes shifts are bytes h)

-- what the results of a job tell
pub job-exact : (job : CheckJob) (media : List Media) (texts : List (List ℕ)) (files : List (List Record)) (notes : List FileNote)
    → AreFlowOptions job.options → length texts ≤ 16 → All IsMedia media → All AreBytes texts → AreRecords texts files notes
    → All (IsExactRow job.joined job.options media files) (rows job media files)
job-exact job media texts files notes shifts few are bytes h =
    let judged = chosen job.media media in
    let all = rows_over job.joined job.options judged files in
    All-map (IsExactRow job.joined job.options media files) (row_from (first_chosen job.media)) all
    (All-weaker (IsExactRow job.joined job.options judged files) (λ r. IsExactRow job.joined job.options media files (row_from (first_chosen job.media) r))
    (λ r k. record {
      m = k.m;
      media_is = chosen-get job.media media r.key.media k.m k.media_is;
      items = k.items;
      items_are = k.items_are;
      tells = k.tells;
    }) all
    (rows-exact job.joined job.options judged texts files notes shifts few (chosen-all IsMedia job.media media are) bytes h))
