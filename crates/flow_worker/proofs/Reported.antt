-- The rows of the keys of a run, in order, are the rows of its files.
use Rattle.std.proofs.Common.{◌≡◌, ◌+◌, ℕ, suc, Bool, true, false, if◌then◌else◌, List, [], ◌∷◌, ◌++◌, length, map, slice_get, get_or, Some, refl, sym, ap, ap₂}
use Rattle.std.proofs.Common.{◌∙◌, append-nil, arith}
use Rattle.std.proofs.lemmas.List.{map-append}
use Rattle.std.proofs.lemmas.Option.{get_or_from_slice_get}
use Rattle.timing_base.specs.Captures.{Record, joined}
use Rattle.timing_base.specs.Media.{Media}
use Rattle.timing_base.specs.declared.row.Row.{Row}
use Rattle.udp_rtp.specs.Flow.{flow}
use Rattle.fail_interval.specs.Row.{row}
use Rattle.fail_interval.specs.Rows.{rows_from, rows_of, rows_of_files}
use Rattle.timing_base.specs.Keys.{key_of, keys_of_file, keys_of_files, no_media, media_of}
use Rattle.flow_worker.specs.Opening.{Capture, Setting}
use Rattle.flow_worker.specs.Posting.{judged_files, key_records, key_row, keys, records_if}

-- the rows of the last media of a file
rows-keys_from : (s : Setting) (captures : List Capture) (file number : ℕ) (ms : List Media) (items : List Record) → key_records s captures (key_of file 0)
    ≡ items
    → ((i : ℕ) (m : Media) → slice_get ms i ≡ Some m → media_of s.media (key_of file (number + i)) ≡ m)
    → map (key_row s captures) (keys_of_file file number (length ms)) ≡ rows_from s.options file number ms items
rows-keys_from s captures file number [] items at media = refl
rows-keys_from s captures file number (m ∷ ms) items at media =
    let here : media_of s.media (key_of file number) ≡ m =
    let z : number ≡ number + 0 = omega arith in ap (λ (x : ℕ). media_of s.media (key_of file x)) z ∙ media 0 m refl in
    ap₂ (λ (r : Row) (rs : List Row). r ∷ rs)
    (ap₂ (λ (l : List Record) (x : Media). row (flow l x) (key_of file number) x s.options) at here)
    (rows-keys_from s captures file (number + 1) ms items at
    (λ i n e. let z : number + 1 + i ≡ number + suc i = omega arith in ap (λ (x : ℕ). media_of s.media (key_of file x)) z ∙ media (suc i) n e))

-- the rows of all media of a file
rows-file : (s : Setting) (captures : List Capture) (file : ℕ) (items : List Record) → key_records s captures (key_of file 0) ≡ items
    → map (key_row s captures) (keys_of_file file 0 (length s.media)) ≡ rows_of s.options file s.media items
rows-file s captures file items at =
    rows-keys_from s captures file 0 s.media items at
    (λ i m e. let z : 0 + i ≡ i = omega arith in ap (λ (x : ℕ). get_or s.media x no_media) z ∙ get_or_from_slice_get s.media i m no_media e)

-- the rows of the last files
rows-files : (s : Setting) (captures : List Capture) (first : ℕ) (cs : List Capture)
    → ((i : ℕ) (c : Capture) → slice_get cs i ≡ Some c → key_records s captures (key_of (first + i) 0) ≡ c.records)
    → map (key_row s captures) (keys_of_files first (length cs) (length s.media)) ≡ rows_of_files s.options first s.media (map (λ (c : Capture). c.records) cs)
rows-files s captures first [] at = refl
rows-files s captures first (c ∷ cs) at =
    let here : key_records s captures (key_of first 0) ≡ c.records =
    let z : first ≡ first + 0 = omega arith in ap (λ (x : ℕ). key_records s captures (key_of x 0)) z ∙ at 0 c refl in
    map-append (key_row s captures) (keys_of_file first 0 (length s.media)) (keys_of_files (first + 1) (length cs) (length s.media))
    ∙ ap₂ (λ (k l : List Row). k ++ l) (rows-file s captures first c.records here)
    (rows-files s captures (first + 1) cs
    (λ i d e. let z : first + 1 + i ≡ first + suc i = omega arith in ap (λ (x : ℕ). key_records s captures (key_of x 0)) z ∙ at (suc i) d e))

-- the files for themselves, or as one
rows-keys_by : (s : Setting) (captures : List Capture) (b : Bool) → s.joined ≡ b
    → map (key_row s captures) (keys_of_files 0 (if b then 1 else length captures) (length s.media))
    ≡ rows_of_files s.options 0 s.media (if b then joined (map (λ (c : Capture). c.records) captures) ∷ [] else map (λ (c : Capture). c.records) captures)
rows-keys_by s captures true e =
    let files : List (List Record) = map (λ (c : Capture). c.records) captures in
    let at : key_records s captures (key_of 0 0) ≡ joined files = ap (λ (b : Bool). if b then joined files else records_if (slice_get captures 0)) e in
    ap (map (key_row s captures)) (append-nil (keys_of_file 0 0 (length s.media)))
    ∙ rows-file s captures 0 (joined files) at ∙ sym (append-nil (rows_of s.options 0 s.media (joined files)))
rows-keys_by s captures false e =
    let files : List (List Record) = map (λ (c : Capture). c.records) captures in
    rows-files s captures 0 captures
    (λ i c at.
    let z : 0 + i ≡ i = omega arith in
    ap (λ (b : Bool). if b then joined files else records_if (slice_get captures (0 + i))) e
    ∙ ap (λ (x : ℕ). records_if (slice_get captures x)) z ∙ ap records_if at)

-- the rows of all keys
pub rows-keys : (s : Setting) (captures : List Capture) → map (key_row s captures) (keys s (length captures))
    ≡ rows_of_files s.options 0 s.media (judged_files s captures)
rows-keys s captures = rows-keys_by s captures s.joined refl
