-- One packet more of a flow that is written as a capture.
use Rattle.std.specs.Prelude.{slice_index, nat_lt, if◌then◌else◌, max}
use Rattle.std.proofs.Common.{◌≡◌, ◌≤◌, ◌<◌, ◌+◌, ◌-◌, ℕ, suc, Bool, true, false, List, [], ◌∷◌, ◌++◌, length, refl, arith, ap, ◌∙◌, sym, inl, inr}
use Rattle.std.proofs.Common.{append-nil, append_assoc, length-append}
use Rattle.std.proofs.Math.Seq.{get_or-append_seam}
use Rattle.std.proofs.lemmas.Bool.{cases_lt}
use Rattle.std.proofs.lemmas.Bool.Decides.{nat_tests}
use Rattle.std.proofs.lemmas.List.{get_or_append_left}
use Rattle.timing_base.specs.Shifts.{Shift, unshifted}
use Rattle.pcap_reader.specs.WrittenHeads.{file_head, record_head}
use Rattle.timing_base.specs.Captures.{Record}
use Rattle.timing_reach.specs.Shapes.{last_left, leaves_at, records_text, shaped_capture}
use Rattle.timing_reach.specs.shape.Keeping.{came_text}
use Rattle.timing_reach.specs.shape.Walking.{held_back}

-- the record of a packet that leaves at this instant
abbrev pub record_at : ℕ → Record → List ℕ
record_at at r = record_head at (length r.bytes) ++ r.bytes

records-more : (leaves : ℕ → ℕ → ℕ) (k : ℕ) (rs : List Record) (r : Record)
    → records_text leaves k (rs ++ r ∷ []) ≡ records_text leaves k rs ++ record_at (leaves (k + length rs) r.stamp) r
records-more leaves k [] r =
    let here : k ≡ k + 0 = omega arith in
    ap (λ l. record_head (leaves k r.stamp) (length r.bytes) ++ l) (append-nil r.bytes) ∙ ap (λ i. record_at (leaves i r.stamp) r) here
records-more leaves k (x ∷ xs) r =
    let count : k + 1 + length xs ≡ k + suc (length xs) = omega arith in
    let rest = records_text leaves (k + 1) xs in
    let last = record_at (leaves (k + suc (length xs)) r.stamp) r in
    let head = record_head (leaves k x.stamp) (length x.bytes) in
    ap (λ l. head ++ (x.bytes ++ l)) (records-more leaves (k + 1) xs r ∙ ap (λ i. rest ++ record_at (leaves i r.stamp) r) count)
    ∙ ap (λ l. head ++ l) (sym (append_assoc x.bytes rest last)) ∙ sym (append_assoc head (x.bytes ++ rest) last)

records-same : (leaves also : ℕ → ℕ → ℕ) (k : ℕ) (rs : List Record) → ((j stamp : ℕ) → j < k + length rs → leaves j stamp ≡ also j stamp)
    → records_text leaves k rs ≡ records_text also k rs
records-same leaves also k [] same = refl
records-same leaves also k (x ∷ xs) same =
    ap (λ at. record_head at (length x.bytes) ++ (x.bytes ++ records_text leaves (k + 1) xs)) (same k x.stamp (omega arith))
    ∙ ap (λ l. record_head (also k x.stamp) (length x.bytes) ++ (x.bytes ++ l))
    (records-same leaves also (k + 1) xs (λ j stamp few. same j stamp (omega (arith, few))))

-- when a packet leaves, by what its place is
pub leaves-by : (shift : Shift) (head : ℕ) (departures : List ℕ) (k stamp : ℕ) (b c : Bool) → nat_lt k head ≡ b → nat_lt k (head + length departures) ≡ c
    → leaves_at shift head departures k stamp
    ≡ (if b then stamp else if c then unshifted shift (slice_index departures (k - head)) else max stamp (last_left shift departures))
leaves-by shift head departures k stamp b c first second =
    let judged = unshifted shift (slice_index departures (k - head)) in
    let behind = max stamp (last_left shift departures) in
    ap (λ (x : Bool). if x then stamp else if nat_lt k (head + length departures) then judged else behind) first
    ∙ ap (λ (x : Bool). if b then stamp else if x then judged else behind) second

pub leaves-judged : (shift : Shift) (head : ℕ) (departures : List ℕ) (k stamp : ℕ) → head ≤ k → k < head + length departures
    → leaves_at shift head departures k stamp ≡ unshifted shift (slice_index departures (k - head))
leaves-judged shift head departures k stamp low few =
    leaves-by shift head departures k stamp false true (grind (arith, nat_tests)) (grind (arith, nat_tests))

-- a packet before one more judged one leaves as it did
leaves-before : (shift : Shift) (head : ℕ) (departures : List ℕ) (d k stamp : ℕ) → k < head + length departures
    → leaves_at shift head (departures ++ d ∷ []) k stamp ≡ leaves_at shift head departures k stamp
leaves-before shift head departures d k stamp few =
    let more = departures ++ d ∷ [] in
    let long : length more ≡ length departures + 1 = length-append departures (d ∷ []) in
    let second : nat_lt k (head + length departures) ≡ true = grind (arith, nat_tests) in
    let third : nat_lt k (head + length more) ≡ true = grind (arith, nat_tests) in
    elim (cases_lt k head) as (λ _. leaves_at shift head more k stamp ≡ leaves_at shift head departures k stamp) [
      | inl early ↦
          let first : nat_lt k head ≡ true = grind (arith, nat_tests) in
          leaves-by shift head more k stamp true true first third ∙ sym (leaves-by shift head departures k stamp true true first second)
      | inr late ↦
          leaves-judged shift head more k stamp late (omega (arith, few, long))
          ∙ ap (unshifted shift) (get_or_append_left departures (d ∷ []) 0 (k - head) (omega (arith, late, few)))
          ∙ sym (leaves-judged shift head departures k stamp late few)
    ]

-- with one packet more
copy-more : (leaves : ℕ → ℕ → ℕ) (records : List Record) (r : Record) (at : ℕ) → leaves (length records) r.stamp ≡ at
    → records_text leaves 0 (records ++ r ∷ []) ≡ records_text leaves 0 records ++ record_at at r
copy-more leaves records r at here =
    let start : 0 + length records ≡ length records = omega arith in
    records-more leaves 0 records r ∙ ap (λ k. records_text leaves 0 records ++ record_at (leaves k r.stamp) r) start
    ∙ ap (λ x. records_text leaves 0 records ++ record_at x r) here

-- the last of some departures, and of one more
pub last-left : (shift : Shift) (departures : List ℕ) → 0 < length departures
    → last_left shift departures ≡ unshifted shift (slice_index departures (length departures - 1))
last-left shift [] some = absurd (omega (arith, some))
last-left shift (d ∷ ds) some =
    let place : length ds ≡ length (d ∷ ds) - 1 = omega arith in
    ap (λ k. unshifted shift (slice_index (d ∷ ds) k)) place

pub last-more : (shift : Shift) (departures : List ℕ) (d : ℕ) → last_left shift (departures ++ d ∷ []) ≡ unshifted shift d
last-more shift departures d =
    let more = departures ++ d ∷ [] in
    let long : length more ≡ length departures + 1 = length-append departures (d ∷ []) in
    let place : length more - 1 ≡ length departures = omega (arith, long) in
    last-left shift more (omega (arith, long)) ∙ ap (λ k. unshifted shift (slice_index more k)) place
    ∙ ap (unshifted shift) (get_or-append_seam departures d [] 0)

-- with one judged packet more
pub capture-judged : (shift : Shift) (head : ℕ) (departures : List ℕ) (d : ℕ) (records : List Record) (r : Record) → length records ≡ head + length departures
    → shaped_capture shift head (departures ++ d ∷ []) (records ++ r ∷ []) ≡ shaped_capture shift head departures records ++ record_at (unshifted shift d) r
capture-judged shift head departures d records r place =
    let more = departures ++ d ∷ [] in
    let long : length more ≡ length departures + 1 = length-append departures (d ∷ []) in
    let number : length records - head ≡ length departures = omega (arith, place) in
    let here : leaves_at shift head more (length records) r.stamp ≡ unshifted shift d =
    leaves-judged shift head more (length records) r.stamp (omega (arith, place)) (omega (arith, place, long))
    ∙ ap (λ k. unshifted shift (slice_index more k)) number
    ∙ ap (unshifted shift) (get_or-append_seam departures d [] 0) in
    ap (λ l. file_head ++ l)
    (copy-more (leaves_at shift head more) records r (unshifted shift d) here
    ∙ ap (λ l. l ++ record_at (unshifted shift d) r) (records-same (leaves_at shift head more)
    (leaves_at shift head departures) 0 records (λ j stamp few. leaves-before shift head departures d j stamp (omega (arith, few, place)))))
    ∙ sym (append_assoc file_head (records_text (leaves_at shift head departures) 0 records) (record_at (unshifted shift d) r))

-- with one packet more before the judged ones, or behind them
pub capture-beside : (shift : Shift) (head left : ℕ) (departures : List ℕ) (records : List Record) (r : Record) → left ≡ last_left shift departures
    → (length records < head → departures ≡ []) → (head ≤ length records → head + length departures ≤ length records)
    → shaped_capture shift head departures (records ++ r ∷ []) ≡ shaped_capture shift head departures records ++ record_at (max r.stamp left) r
capture-beside shift head left departures records r last ahead behind =
    let k = length records in
    let here : leaves_at shift head departures k r.stamp ≡ max r.stamp left =
    elim (cases_lt k head) as (λ _. leaves_at shift head departures k r.stamp ≡ max r.stamp left) [
      | inl early ↦
          let first : nat_lt k head ≡ true = grind (arith, nat_tests) in
          let none : left ≡ 0 = last ∙ ap (last_left shift) (ahead early) in
          leaves-by shift head departures k r.stamp true (nat_lt k (head + length departures)) first refl ∙ omega (arith, none)
      | inr late ↦
          let first : nat_lt k head ≡ false = grind (arith, nat_tests) in
          let far = behind late in
          let second : nat_lt k (head + length departures) ≡ false = grind (arith, nat_tests) in
          leaves-by shift head departures k r.stamp false false first second ∙ omega (arith, last)
    ] in
    ap (λ l. file_head ++ l) (copy-more (leaves_at shift head departures) records r (max r.stamp left) here)
    ∙ sym (append_assoc file_head (records_text (leaves_at shift head departures) 0 records) (record_at (max r.stamp left) r))

-- records that keep their stamps
records-came : (leaves : ℕ → ℕ → ℕ) (k : ℕ) (rs : List Record) → ((j stamp : ℕ) → j < k + length rs → leaves j stamp ≡ stamp)
    → records_text leaves k rs ≡ came_text rs
records-came leaves k [] same = refl
records-came leaves k (x ∷ xs) same =
    ap (λ at. record_head at (length x.bytes) ++ (x.bytes ++ records_text leaves (k + 1) xs)) (same k x.stamp (omega arith))
    ∙ ap (λ l. record_head x.stamp (length x.bytes) ++ (x.bytes ++ l))
    (records-came leaves (k + 1) xs (λ j stamp few. same j stamp (omega (arith, few))))

-- the packets of a head keep their stamps
pub capture-head : (shift : Shift) (head : ℕ) (records : List Record) → length records ≤ head
    → shaped_capture shift head [] records ≡ file_head ++ came_text records
capture-head shift head records few =
    ap (λ l. file_head ++ l)
    (records-came (leaves_at shift head []) 0 records
    (λ j stamp low. let first : nat_lt j head ≡ true = grind (arith, nat_tests) in
    leaves-by shift head [] j stamp true (nat_lt j (head + 0)) first refl))

-- with all packets behind the judged ones
pub capture-tail : (shift : Shift) (head left : ℕ) (departures : List ℕ) (front rest : List Record) → left ≡ last_left shift departures
    → head + length departures ≤ length front
    → shaped_capture shift head departures front ++ came_text (held_back left rest) ≡ shaped_capture shift head departures (front ++ rest)
capture-tail shift head left departures front [] last behind =
    append-nil (shaped_capture shift head departures front) ∙ ap (shaped_capture shift head departures) (sym (append-nil front))
capture-tail shift head left departures front (r ∷ rs) last behind =
    let at = max r.stamp left in
    let here = shaped_capture shift head departures front in
    let more = came_text (held_back left rs) in
    let one : length (front ++ r ∷ []) ≡ length front + 1 = length-append front (r ∷ []) in
    ap (λ l. here ++ l) (sym (append_assoc (record_head at (length r.bytes)) r.bytes more))
    ∙ sym (append_assoc here (record_at at r) more)
    ∙ ap (λ l. l ++ more) (sym (capture-beside shift head left departures front r last (λ few. absurd (omega (arith, few, behind))) (λ _. behind)))
    ∙ capture-tail shift head left departures (front ++ r ∷ []) rs last (omega (arith, behind, one))
    ∙ ap (shaped_capture shift head departures) (append_assoc front (r ∷ []) rs)
