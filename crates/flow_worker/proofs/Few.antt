-- How many packets of flows are among messages: no more than there are in all.
use Rattle.std.proofs.Common.{◌≡◌, ◌≤◌, ◌<◌, ◌+◌, ◌^◌, ℕ, zero, suc, Bool, true, false, cond, if◌then◌else◌, eqb, List, [], ◌∷◌, length, map, get_or, Some}
use Rattle.std.proofs.Common.{None, refl, ap, ap₂, ◌∙◌, inl, inr, eq-eqb, ne_eqb, length-append, arith}
use Rattle.std.specs.Prelude.{Option}
use Rattle.std.specs.List.{cons_option}
use Rattle.std.proofs.lemmas.Bool.{cases_eq}
use Rattle.std.proofs.lemmas.List.{length-map}
use Rattle.std.proofs.lemmas.List.Sums.{sum_by-cons}
use Rattle.timing_base.specs.declared.capture.FileNote.{FileNote}
use Rattle.timing_base.specs.declared.key.FlowKey.{FlowKey}
use Rattle.timing_base.specs.declared.packet.FlowPacket.{FlowPacket}
use Rattle.timing_base.specs.Keys.{key_of}
use Rattle.ruled_intake.specs.Lanes.{count_of, packets}
use Rattle.ruled_intake.specs.Packets.{Packet, flow_packet}
use Rattle.ruled_intake.specs.declared.message.Message.{Message}
use Rattle.ruled_intake.specs.declared.message.Message.TheVariants.{Batch, End}
use Rattle.flow_worker.specs.Judging.{AreFed, HaveRoom, IsPlace, PlainJudge, fed_at}
use Rattle.flow_worker.specs.Messages.{batch, before_end, ending, file_packets, media_packets, of_file, packets_in, records_told}
use Rattle.flow_worker.specs.Opening.{Setting}
use Rattle.flow_worker.specs.Posting.{joined_packets, raised_packet}
use Rattle.flow_worker.specs.declared.judges.Judges.{Judges}
use Rattle.flow_worker.proofs.Each.{each-at}

-- those of one media
pub media_packets-few : (m : ℕ) (ps : List Packet) → length (media_packets m ps) ≤ length ps
media_packets-few m [] = omega arith
media_packets-few m (p ∷ ps) =
    let more = media_packets-few m ps in
    elim (eqb p.media m) as (λ b. length (cons_option (if b then Some (flow_packet p) else None) (media_packets m ps)) ≤ length (p ∷ ps))
    [ true ↦ omega (arith, more) | false ↦ omega (arith, more) ]

-- the packets of so many files from one on, before their first ends
abbrev pub files_total : (file n : ℕ) → List Message → ℕ
files_total file zero taken = 0
files_total file (suc n) taken = length (file_packets file taken) + files_total (file + 1) n taken

batch-here : (f g : ℕ) (ps : List Packet) (ms : List Message) → eqb g f ≡ true → length (file_packets f (batch g ps ∷ ms)) ≡ length ps
    + length (file_packets f ms)
batch-here f g ps ms e =
    ap (λ (t : Bool). length (packets_in (cond t (batch g ps ∷ of_file f (before_end f ms)) (of_file f (before_end f ms))))) e ∙ length-append ps
    (file_packets f ms)

batch-other : (f g : ℕ) (ps : List Packet) (ms : List Message) → eqb g f ≡ false → length (file_packets f (batch g ps ∷ ms)) ≡ length (file_packets f ms)
batch-other f g ps ms e = ap (λ (t : Bool). length (packets_in (cond t (batch g ps ∷ of_file f (before_end f ms)) (of_file f (before_end f ms))))) e

end-kept : (f g : ℕ) (o : FileNote) (k : ℕ) (l : List Message) → length (packets_in (of_file f (ending g o k ∷ l))) ≤ length (packets_in (of_file f l))
end-kept f g o k l =
    elim (eqb g f) as (λ t. length (packets_in (cond t (ending g o k ∷ of_file f l) (of_file f l))) ≤ length (packets_in (of_file f l)))
    [ true ↦ omega arith | false ↦ omega arith ]

end-few : (f g : ℕ) (o : FileNote) (k : ℕ) (ms : List Message) → length (file_packets f (ending g o k ∷ ms)) ≤ length (file_packets f ms)
end-few f g o k ms =
    let kept = end-kept f g o k (before_end f ms) in
    elim (eqb g f) as (λ t. length (packets_in (of_file f (cond t [] (ending g o k ∷ before_end f ms)))) ≤ length (file_packets f ms))
    [ true ↦ omega arith | false ↦ kept ]

total-nil : (file n : ℕ) → files_total file n [] ≡ 0
total-nil file zero = refl
total-nil file (suc n) =
    let rest = total-nil (file + 1) n in
    omega (arith, rest)

total-below : (g : ℕ) (ps : List Packet) (ms : List Message) (file n : ℕ) → g < file → files_total file n (batch g ps ∷ ms) ≡ files_total file n ms
total-below g ps ms file zero h = refl
total-below g ps ms file (suc n) h =
    ap₂ (λ (x y : ℕ). x + y) (batch-other file g ps ms (ne_eqb g file (λ e. absurd (omega (arith, h, e)))))
    (total-below g ps ms (file + 1) n (omega (arith, h)))

total-batch : (g : ℕ) (ps : List Packet) (ms : List Message) (file n : ℕ) → files_total file n (batch g ps ∷ ms) ≤ length ps + files_total file n ms
total-batch g ps ms file zero = omega arith
total-batch g ps ms file (suc n) =
    elim (cases_eq g file) [
      | inl same ↦
          let first = batch-here file g ps ms (eq-eqb g file same) in
          let rest = total-below g ps ms (file + 1) n (omega (arith, same)) in
          omega (arith, first, rest)
      | inr other ↦
          let first = batch-other file g ps ms (ne_eqb g file other) in
          let rest = total-batch g ps ms (file + 1) n in
          omega (arith, first, rest)
    ]

total-end : (g : ℕ) (o : FileNote) (k : ℕ) (ms : List Message) (file n : ℕ) → files_total file n (ending g o k ∷ ms) ≤ files_total file n ms
total-end g o k ms file zero = omega arith
total-end g o k ms file (suc n) =
    let first = end-few file g o k ms in
    let rest = total-end g o k ms (file + 1) n in
    omega (arith, first, rest)

-- those of files
pub total-few : (file n : ℕ) (taken : List Message) → files_total file n taken ≤ packets taken
total-few file n [] =
    let none = total-nil file n in
    omega (arith, none)
total-few file n (Batch one ∷ ms) =
    let first = total-batch one.file one.packets ms file n in
    let rest = total-few file n ms in
    let all = sum_by-cons count_of (batch one.file one.packets) ms in
    omega (arith, first, rest, all)
total-few file n (End one ∷ ms) =
    let first = total-end one.file one.note one.records ms file n in
    let rest = total-few file n ms in
    let all = sum_by-cons count_of (ending one.file one.note one.records) ms in
    omega (arith, first, rest, all)

-- those of one file
pub file_packets-few : (f : ℕ) (taken : List Message) → length (file_packets f taken) ≤ packets taken
file_packets-few f taken =
    let all = total-few f 1 taken in
    omega (arith, all)

-- those of a flow of joined files
pub joined_packets-few : (m before file n : ℕ) (taken : List Message) → length (joined_packets m before file n taken) ≤ files_total file n taken
joined_packets-few m before file zero taken = omega arith
joined_packets-few m before file (suc n) taken =
    let own : List FlowPacket = media_packets m (file_packets file taken) in
    let rest = joined_packets-few m (before + records_told file taken) (file + 1) n taken in
    let first = media_packets-few m (file_packets file taken) in
    let whole = length-append (map (raised_packet before) own) (joined_packets m (before + records_told file taken) (file + 1) n taken) in
    let same = length-map own (raised_packet before) in
    omega (arith, rest, first, whole, same)

-- one file more
pub total-more : (file n : ℕ) (taken : List Message) → files_total file (n + 1) taken ≡ files_total file n taken + length (file_packets (file + n) taken)
total-more file zero taken =
    let f : file ≡ file + 0 = omega arith in
    let z : length (file_packets file taken) ≡ length (file_packets (file + 0) taken) = ap (λ (x : ℕ). length (file_packets x taken)) f in
    omega (arith, z)
total-more file (suc n) taken =
    let s : suc n + 1 ≡ suc (n + 1) = omega arith in
    let f : file + 1 + n ≡ file + suc n = omega arith in
    let more = total-more (file + 1) n taken in
    let z : length (file_packets (file + 1 + n) taken) ≡ length (file_packets (file + suc n) taken) = ap (λ (x : ℕ). length (file_packets x taken)) f in
    let e : length (file_packets file taken) + files_total (file + 1) (n + 1) taken ≡ (length (file_packets file taken) + files_total (file + 1) n taken)
    + length (file_packets (file + suc n) taken) = omega (arith, more, z) in
    ap (λ (x : ℕ). files_total file x taken) s ∙ e

room-place : (s : Setting) (worker : ℕ) (key : FlowKey) (fed : List FlowPacket) (more : ℕ) (place : Option PlainJudge) → IsPlace s worker key fed place
    → length fed + more ≤ 2 ^ 41 → fed_at place + more ≤ 2 ^ 41
room-place s worker key fed more None h few = omega (arith, few)
room-place s worker key fed more (Some judge) h few = omega (arith, few, h.1.fed)

-- judges have room for what is within the limits
pub room-from : (s : Setting) (worker file : ℕ) (fed : FlowKey → List FlowPacket) (judges : Judges) (more : ℕ) → AreFed s worker file fed judges
    → ((n : ℕ) → length (fed (key_of file n)) + more ≤ 2 ^ 41) → HaveRoom more judges
room-from s worker file fed judges more h few k d within =
    room-place s worker (key_of file (0 + k)) (fed (key_of file (0 + k))) more (get_or judges.places.items k d)
    (each-at (λ n. IsPlace s worker (key_of file n) (fed (key_of file n))) 0 judges.places.items k d within h.each) (few (0 + k))
