-- The results of a chosen media are those of that media among the results of all.
use Rattle.std.proofs.Common.{◌≡◌, ◌<◌, ◌+◌, ◌==◌, ℕ, zero, suc, Bool, true, false, List, [], ◌∷◌, ◌++◌, drop, take, None, refl, arith, ap, ap₂}
use Rattle.std.proofs.Common.{◌∙◌, sym, if◌then◌else◌}
use Rattle.std.proofs.lemmas.Bool.{eq-eqb, ne_eqb}
use Rattle.std.proofs.lemmas.List.{map-append}
use Rattle.std.proofs.lemmas.List.Elements.{filter-append}
use Rattle.std.specs.Prelude.{filter, map}
use Rattle.timing_base.specs.Captures.{Record, joined}
use Rattle.timing_base.specs.Choices.{chosen, first_chosen, row_from}
use Rattle.timing_base.specs.Jobs.{CheckJob}
use Rattle.timing_base.specs.Keys.{key_of}
use Rattle.timing_base.specs.Media.{Media}
use Rattle.timing_base.specs.Shifts.{FlowOptions}
use Rattle.timing_base.specs.declared.row.Row.{Row}
use Rattle.udp_rtp.specs.Flow.{flow}
use Rattle.fail_interval.specs.Row.{row}
use Rattle.fail_interval.specs.Rows.{rows_from, rows_of, rows_of_files, rows_over}
use Rattle.timing_top.specs.Report.{rows, with_choice}

-- the results of the media with this number
abbrev those : ℕ → List Row → List Row
those number rows = filter (λ r. r.key.media == number) rows

-- a result at the head of a list, which is of this media, or isn't
head-kept : (number : ℕ) (r : Row) (rs : List Row) → r.key.media ≡ number → those number (r ∷ rs) ≡ r ∷ those number rs
head-kept number r rs is = ap (λ b. if b then r ∷ those number rs else those number rs) (eq-eqb r.key.media number is)

head-left : (number : ℕ) (r : Row) (rs : List Row) → (r.key.media ≡ number → ⊥) → those number (r ∷ rs) ≡ those number rs
head-left number r rs other = ap (λ b. if b then r ∷ those number rs else those number rs) (ne_eqb r.key.media number other)

-- media after this one aren't this one
none-after : (options : FlowOptions) (file number next : ℕ) (ms : List Media) (items : List Record) → number < next
    → those number (map (row_from 0) (rows_from options file next ms items)) ≡ []
none-after options file number next [] items less = refl
none-after options file number next (m ∷ ms) items less =
    head-left number (row_from 0 (row (flow items m) (key_of file next) m options)) (map (row_from 0) (rows_from options file (next + 1) ms items))
    (λ same. omega (arith, same, less))
    ∙ none-after options file number (next + 1) ms items (omega (arith, less))

-- the result of one media in a file
one-from : (options : FlowOptions) (file next k : ℕ) (ms : List Media) (items : List Record)
    → map (row_from (next + k)) (rows_of options file (take 1 (drop k ms)) items) ≡ those (next + k) (map (row_from 0) (rows_from options file next ms items))
one-from options file next zero [] items = refl
one-from options file next (suc k) [] items = refl
one-from options file next zero (m ∷ ms) items =
    let same : next + 0 + 0 ≡ 0 + next = omega arith in
    let first = row_from 0 (row (flow items m) (key_of file next) m options) in
    let others = map (row_from 0) (rows_from options file (next + 1) ms items) in
    ap (λ n. record { key = key_of file n; verdict = first.verdict } ∷ []) same
    ∙ ap (λ l. first ∷ l) (sym (none-after options file (next + 0) (next + 1) ms items (omega arith)))
    ∙ sym (head-kept (next + 0) first others (omega arith))
one-from options file next (suc k) (m ∷ ms) items =
    let same : next + suc k ≡ next + 1 + k = omega arith in
    let first = row_from 0 (row (flow items m) (key_of file next) m options) in
    let others = map (row_from 0) (rows_from options file (next + 1) ms items) in
    ap (λ n. map (row_from n) (rows_of options file (take 1 (drop k ms)) items)) same
    ∙ one-from options file (next + 1) k ms items
    ∙ ap (λ n. those n others) (sym same)
    ∙ sym (head-left (next + suc k) first others (λ e. omega (arith, e)))

one-of : (options : FlowOptions) (file number : ℕ) (media : List Media) (items : List Record)
    → map (row_from number) (rows_of options file (take 1 (drop number media)) items) ≡ those number (map (row_from 0) (rows_of options file media items))
one-of options file number media items =
    let same : number ≡ 0 + number = omega arith in
    ap (λ n. map (row_from n) (rows_of options file (take 1 (drop number media)) items)) same
    ∙ one-from options file 0 number media items
    ∙ ap (λ n. those n (map (row_from 0) (rows_of options file media items))) (sym same)

-- and in each of these files
one-of-files : (options : FlowOptions) (first number : ℕ) (media : List Media) (files : List (List Record))
    → map (row_from number) (rows_of_files options first (take 1 (drop number media)) files)
    ≡ those number (map (row_from 0) (rows_of_files options first media files))
one-of-files options first number media [] = refl
one-of-files options first number media (items ∷ files) =
    let one = take 1 (drop number media) in
    map-append (row_from number) (rows_of options first one items) (rows_of_files options (first + 1) one files)
    ∙ ap₂ (λ (a b : List Row). a ++ b) (one-of options first number media items) (one-of-files options (first + 1) number media files)
    ∙ sym (filter-append (λ (r : Row). r.key.media == number) (map (row_from 0) (rows_of options first media items))
    (map (row_from 0) (rows_of_files options (first + 1) media files)))
    ∙ sym (ap (those number) (map-append (row_from 0) (rows_of options first media items) (rows_of_files options (first + 1) media files)))

-- the results of a job with a chosen media
pub rows-chosen-of : (job : CheckJob) (number : ℕ) (media : List Media) (files : List (List Record)) → job.media ≡ None
    → rows (with_choice number job) media files ≡ filter (λ r. r.key.media == number) (rows job media files)
rows-chosen-of job number media files all = by-joined job.joined ∙ sym (ap (λ only. those number (map (row_from (first_chosen only))
    (rows_over job.joined job.options (chosen only media) files))) all)
  where
    by-joined : (b : Bool) → map (row_from number) (rows_over b job.options (take 1 (drop number media)) files)
        ≡ those number (map (row_from 0) (rows_over b job.options media files))
    by-joined true = one-of job.options 0 number media (joined files)
    by-joined false = one-of-files job.options 0 number media files
