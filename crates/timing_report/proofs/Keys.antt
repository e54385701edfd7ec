-- The flows of a job are of its captures and of its media.
use Rattle.std.proofs.Common.{◌≡◌, ◌<◌, ◌≤◌, ◌+◌, ℕ, zero, suc, List, [], ◌∷◌, ◌++◌, length, Bool, true, false, subst, sym, arith}
use Rattle.std.specs.Prelude.{All, map, drop, take, Option, None, Some, if◌then◌else◌}
use Rattle.std.specs.List.{AllByRecursion}
use Rattle.std.proofs.lemmas.List.Elements.{All-cons}
use Rattle.timing_base.specs.Choices.{chosen, first_chosen, key_from}
use Rattle.timing_base.specs.Jobs.{CheckJob, IsCheckJob}
use Rattle.timing_base.specs.Media.{Media}
use Rattle.timing_base.specs.declared.key.FlowKey.{FlowKey}
use Rattle.timing_base.specs.declared.row.Row.{Row}
use Rattle.timing_report.specs.Outcomes.{AreRowsOf}
use Rattle.timing_base.specs.Keys.{keys_of, keys_of_file, keys_of_files}

-- a flow of so many captures and media
abbrev pub IsKeyOf : (files count : ℕ) → FlowKey → Type 0
IsKeyOf files count key = (key.file < files) × (key.media < count)

each-append : (P : FlowKey → Type 0) (xs ys : List FlowKey) → AllByRecursion P xs → AllByRecursion P ys → AllByRecursion P (xs ++ ys)
each-append P [] ys h k = k
each-append P (x ∷ xs) ys h k = (h.0, each-append P xs ys h.1 k)

file_keys : (files most file media count : ℕ) → file < files → media + count ≤ most → AllByRecursion (IsKeyOf files most) (keys_of_file file media count)
file_keys files most file media zero h k = tt
file_keys files most file media (suc count) h k = ((h, omega arith), file_keys files most file (media + 1) count h (omega arith))

files_keys : (files file more count : ℕ) → file + more ≤ files → AllByRecursion (IsKeyOf files count) (keys_of_files file more count)
files_keys files file zero count h = tt
files_keys files file (suc more) count h =
    each-append (IsKeyOf files count) (keys_of_file file 0 count) (keys_of_files (file + 1) more count)
    (file_keys files count file 0 count (omega arith) (omega arith)) (files_keys files (file + 1) more count (omega arith))

few_files : (joined : Bool) (n : ℕ) → n ≤ 16 → (if joined then 1 else n) ≤ 16
few_files true n h = omega arith
few_files false n h = h

each-map : (P : FlowKey → Type 0) (rows : List Row) → AllByRecursion P (map (λ row. row.key) rows) → All (λ row. P row.key) rows
each-map P [] h = λ k d lt. absurd (omega arith)
each-map P (row ∷ rows) h = All-cons (λ r. P r.key) row rows h.0 (each-map P rows h.1)

-- rows of the flows of a run
pub keys_within : (joined : Bool) (files count : ℕ) (rows : List Row) → files ≤ 16 → map (λ row. row.key) rows ≡ keys_of joined files count
    → All (λ row. IsKeyOf 16 count row.key) rows
keys_within joined files count rows few are =
    let P = IsKeyOf 16 count in
    let n = if joined then 1 else files in
    let keys : AllByRecursion P (keys_of joined files count) = files_keys 16 0 n count (omega (arith, few_files joined files few)) in
    each-map P rows (subst (AllByRecursion P) (sym are) keys)

-- a media among those that are left after this many
few-left : (first number : ℕ) (session : List Media) → number < length (take 1 (drop first session)) → first + number < length session
few-left zero number [] h = absurd (omega arith)
few-left zero number (m ∷ ms) h = omega arith
few-left (suc first) number [] h = absurd (omega arith)
few-left (suc first) number (m ∷ ms) h = let less = few-left first number ms h in omega arith

-- a chosen media has its number in the session
within-session : (only : Option ℕ) (session : List Media) (number : ℕ) → number < length (chosen only session) → first_chosen only + number < length session
within-session None session number h = omega (arith, h)
within-session (Some first) session number h = few-left first number session h

each-from : (first count total : ℕ) → ((number : ℕ) → number < count → first + number < total) → (keys : List FlowKey)
    → AllByRecursion (IsKeyOf 16 count) keys → AllByRecursion (IsKeyOf 16 total) (map (key_from first) keys)
each-from first count total less [] h = tt
each-from first count total less (key ∷ keys) h = ((h.0.0, less key.media h.0.1), each-from first count total less keys h.1)

-- the rows of a job
pub keys_of_rows : (job : CheckJob) (session : List Media) (rows : List Row) → IsCheckJob job → AreRowsOf job session rows
    → All (λ row. IsKeyOf 16 (length session) row.key) rows
keys_of_rows job session rows is are =
    let count = length (chosen job.media session) in
    let files = if job.joined then 1 else length job.captures in
    let keys : AllByRecursion (IsKeyOf 16 count) (keys_of job.joined (length job.captures) count) =
    files_keys 16 0 files count (omega (arith, few_files job.joined (length job.captures) is.captures_are.few)) in
    each-map (IsKeyOf 16 (length session)) rows (subst (AllByRecursion (IsKeyOf 16 (length session))) (sym are)
    (each-from (first_chosen job.media) count (length session) (within-session job.media session) (keys_of job.joined (length job.captures) count) keys))
