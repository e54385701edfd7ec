-- The row that a worker makes of what it took is the flow's row, where it took all of it.
use Rattle.std.proofs.Common.{◌≡◌, ◌<◌, ◌+◌, ℕ, Bool, true, false, if◌then◌else◌, eqb, nat_lt, List, [], ◌++◌, length, map, slice_get, get_or, Some}
use Rattle.std.proofs.Common.{refl, sym, ap, ◌∙◌, subst, eq-eqb, ltb-true, lt-ltb, arith}
use Rattle.std.specs.Prelude.{Option, IsTrue}
use Rattle.std.proofs.lemmas.Bool.{and_parts}
use Rattle.std.proofs.lemmas.Option.{slice_get-get_or, slice_get_within}
use Rattle.timing_base.specs.Captures.{Record, joined}
use Rattle.timing_base.specs.Media.{Media}
use Rattle.timing_base.specs.Routes.{route}
use Rattle.timing_base.specs.declared.capture.FileNote.{FileNote}
use Rattle.timing_base.specs.declared.capture.FileNote.TheVariants.{End}
use Rattle.timing_base.specs.declared.key.FlowKey.{FlowKey}
use Rattle.udp_rtp.specs.Flow.{flow}
use Rattle.timing_base.specs.Keys.{key_of, no_media, media_of}
use Rattle.ruled_intake.specs.Packets.{Packet}
use Rattle.ruled_intake.specs.declared.message.Message.{Message}
use Rattle.flow_worker.specs.Messages.{file_packets, has_end, media_packets, of_file, packets_in, records_told}
use Rattle.flow_worker.specs.Opening.{Capture, IsSetting, Setting, lane_packets, media_lane, messages, packet_lane, session_packets}
use Rattle.flow_worker.specs.Posting.{is_key, joined_packets, key_lane, key_records, key_row, records_if, row_over, taken_packets, taken_row}
use Rattle.flow_worker.specs.Kept.{HasTaken, HasTakenAll, is_in_file}
use Rattle.flow_worker.specs.Cut.{AreWhole}
use Rattle.flow_worker.proofs.Ends.{before_end-of_file, before_end-whole, has_end-of_file, records_told-of_file}
use Rattle.flow_worker.proofs.Whole.{lane_flow, media_lane-below, messages_whole}
use Rattle.flow_worker.proofs.Joined.{TellsFlow, joined_packets-all}

-- what was taken of a file begins all of it and has its end: so it is all
whole_taken : (f : ℕ) (packets : List Packet) (note : FileNote) (n : ℕ) (all taken later : List Message) → AreWhole f packets note n all
    → of_file f taken ++ later ≡ all → has_end f taken ≡ true → (file_packets f taken ≡ packets) × (records_told f taken ≡ n)
whole_taken f packets note n all taken later w e ended =
    let t = before_end-whole f note n (of_file f taken) w.batches later w.are (e ∙ w.whole) (has_end-of_file f taken ∙ ended) in (
      ap packets_in (before_end-of_file f taken) ∙ t.0 ∙ w.have,
      sym (records_told-of_file f taken) ∙ t.1,
    )

-- what was taken of a file by the worker of a media tells the media's flow
tells : (s : Setting) (captures : List Capture) (w f k : ℕ) (m : Media) (c : Capture) (taken : List Message) → IsSetting s → slice_get s.media k ≡ Some m
    → slice_get captures f ≡ Some c → media_lane s f k ≡ w → HasTaken s captures w taken f → TellsFlow k m taken f c
tells s captures w f k m c taken is media file lane has =
    let below : w < s.workers = subst (λ (x : ℕ). x < s.workers) lane (media_lane-below s f k is.some) in
    let ps = session_packets s.media c.records in
    let t = whole_taken f (lane_packets (packet_lane s f) w ps) c.note (length c.records) (messages s captures f w) taken
    has.in_order.0 (messages_whole s captures f w c file below) has.in_order.1 has.ended in
    record {
      packets =
          ap (media_packets k) t.0 ∙ ap (λ (v : ℕ). media_packets k (lane_packets (packet_lane s f) v ps)) (sym lane)
          ∙ lane_flow s f k m c.records is media;
      records = t.1;
    }

-- a file that isn't there
pub no_capture : Capture
no_capture = record { records = []; note = End }

-- the packets that were taken are the flow, whether the files are joined or not
taken_flow : (s : Setting) (captures : List Capture) (key : FlowKey) (taken : List Message) (m : Media) (b : Bool) → s.joined ≡ b → IsSetting s
    → slice_get s.media key.media ≡ Some m → key.file < (if s.joined then 1 else length captures) → HasTakenAll s captures key taken
    → taken_packets s (length captures) taken key ≡ flow (key_records s captures key) m
taken_flow s captures key taken m true e is media file has =
    let records : List (List Record) = map (λ (c : Capture). c.records) captures in
    let one : (f : ℕ) → media_lane s f key.media ≡ media_lane s key.file key.media = λ f.
    ap (λ (b : Bool). route (key_of (if b then 0 else f) key.media) (length s.media) s.workers) e
    ∙ sym (ap (λ (b : Bool). route (key_of (if b then 0 else key.file) key.media) (length s.media) s.workers) e) in
    let all : (i : ℕ) (c : Capture) → slice_get captures i ≡ Some c → TellsFlow key.media m taken (0 + i) c = λ i c at.
    let z : i ≡ 0 + i = omega arith in
    let asked : IsTrue (is_in_file s (length captures) key i) =
    ap (λ (b : Bool). if b then nat_lt i (length captures) else eqb i key.file) e ∙ lt-ltb i (length captures) (slice_get_within captures i c at) in
    subst (λ (f : ℕ). TellsFlow key.media m taken f c) z (tells s captures (key_lane s key) i key.media m c taken is media at (one i) (has i asked)) in
    ap (λ (b : Bool). if b then joined_packets key.media 0 0 (length captures) taken else media_packets key.media (file_packets key.file taken)) e
    ∙ joined_packets-all key.media m taken 0 0 captures all
    ∙ sym (ap (λ (b : Bool). flow (if b then joined records else records_if (slice_get captures key.file)) m) e)
taken_flow s captures key taken m false e is media file has =
    let records : List (List Record) = map (λ (c : Capture). c.records) captures in
    let within : key.file < length captures = subst (λ (b : Bool). key.file < (if b then 1 else length captures)) e file in
    let c = get_or captures key.file no_capture in
    let at : slice_get captures key.file ≡ Some c = slice_get-get_or captures key.file no_capture within in
    let asked : IsTrue (is_in_file s (length captures) key key.file) =
    ap (λ (b : Bool). if b then nat_lt key.file (length captures) else eqb key.file key.file) e ∙ eq-eqb key.file key.file refl in
    let t = tells s captures (key_lane s key) key.file key.media m c taken is media at refl (has key.file asked) in
    ap (λ (b : Bool). if b then joined_packets key.media 0 0 (length captures) taken else media_packets key.media (file_packets key.file taken)) e
    ∙ t.packets
    ∙ ap (λ (o : Option Capture). flow (records_if o) m) (sym at)
    ∙ sym (ap (λ (b : Bool). flow (if b then joined records else records_if (slice_get captures key.file)) m) e)

-- the row is the flow's
pub taken_row_is : (s : Setting) (captures : List Capture) (key : FlowKey) (taken : List Message) → IsSetting s → IsTrue (is_key s (length captures) key)
    → HasTakenAll s captures key taken → taken_row s (length captures) taken key ≡ key_row s captures key
taken_row_is s captures key taken is k has =
    let parts = and_parts (nat_lt key.file (if s.joined then 1 else length captures)) (nat_lt key.media (length s.media)) k in
    let file = ltb-true key.file (if s.joined then 1 else length captures) parts.0 in
    let media = slice_get-get_or s.media key.media no_media (ltb-true key.media (length s.media) parts.1) in
    ap (row_over s key) (taken_flow s captures key taken (media_of s.media key) s.joined refl is media file has)
