-- The run that is open after the packets of a flow, and its result in the row of the flow.
use Rattle.std.specs.Prelude.{◌==◌, nat_lt, if◌then◌else◌, slice_index, slice_range}
use Rattle.std.proofs.Common.{◌≡◌, ◌<◌, ◌≤◌, ◌-◌, ◌+◌, ◌∷◌, ℕ, zero, suc, Bool, true, false, List, [], length, map, drop, Option, Some, None}
use Rattle.std.proofs.Common.{◌∙◌, ap, sym, subst, refl, arith}
use Rattle.std.proofs.lemmas.Bool.{ltb-false}
use Rattle.std.proofs.lemmas.Bool.Decides.{nat_tests}
use Rattle.std.proofs.lemmas.List.{length-drop, length-take-le}
use Rattle.timing_base.specs.Flows.{cuts, first_fault, last_place, markers, packet}
use Rattle.timing_base.specs.Grouped.{IsSized}
use Rattle.timing_base.specs.Judged.{absent, head_len, in_one_run, in_runs, judged_as_numbered, judged_run, judged_runs, no_whole_frame, refused_or}
use Rattle.timing_base.specs.Judged.{run_outcome, runs_between, whole_frames}
use Rattle.timing_base.specs.Media.{Media}
use Rattle.timing_base.specs.Shifts.{Shift}
use Rattle.timing_base.specs.Verdicts.{Judged}
use Rattle.timing_base.specs.declared.media.Kind.TheVariants.{N, NL, W}
use Rattle.timing_base.specs.declared.packet.FlowPacket.{FlowPacket}
use Rattle.sender_params.specs.Keeps.{held_at}
use Rattle.drain_bucket.specs.Word.{bucket_of}
use Rattle.run_meter.specs.Runs.{IsJudgedOf, OpenPart, stamps_of}
use Rattle.fail_interval.specs.Fails.{greatest}
use Rattle.fail_interval.specs.Parts.{judged_packets, open_before, open_by, run_by}
use Rattle.fail_interval.specs.Row.{judged_values, run_of, run_verdict_of, verdict_of}
use Rattle.fail_interval.proofs.Confirmed.{names-first}
use Rattle.fail_interval.proofs.PartsTold.{sized-below}
use Rattle.timing_watch.specs.Agreeing.{last_of, last_run_in, run_result}

-- `values` is the result of the open run: the verdicts on its packets, and their peaks
pub record IsResult (m : Media) (shift : Shift) (part : OpenPart) (values : Judged) : Type 0 where
  pub judged : IsJudgedOf m shift part.run part.packets values
  pub bucket : values.bucket_peak ≡ greatest (bucket_of m part.run.n (stamps_of shift part.packets)) (length (stamps_of shift part.packets))
  pub gapped : values.gapped_peak ≡ greatest (held_at m part.run.n (stamps_of shift part.packets) true) (length (stamps_of shift part.packets))
  pub linear : values.linear_peak ≡ greatest (held_at m part.run.n (stamps_of shift part.packets) false) (length (stamps_of shift part.packets))

-- the open run has a result, which is this one
abbrev pub HasResult : Media → (shift : Shift) → OpenPart → Option Judged → Type 0
HasResult m shift part result = (values : Judged) × (result ≡ Some values) × IsResult m shift part values

not-both : (o : Option OpenPart) (part : OpenPart) → o ≡ None → o ≡ Some part → ⊥
not-both o part h k = cc

same-part : (x y : OpenPart) (o : Option OpenPart) → o ≡ Some x → o ≡ Some y → x ≡ y
same-part x y o h k = cc

-- ---- a run by its markers

-- the packets between the first marker and the last one
judged-count : (packets : List FlowPacket) (a last : ℕ) → a ≤ last → last < length packets → length (slice_range packets (a + 1) (last + 1)) ≡ last - a
judged-count packets a last order within =
    let count : (last + 1) - (a + 1) ≡ last - a = omega (arith, order) in
    let rest = length-drop (a + 1) packets in
    length-take-le ((last + 1) - (a + 1)) (drop (a + 1) packets) (omega (arith, rest, within, order)) ∙ count

made-result : (m : Media) (packets : List FlowPacket) (shift : Shift) (number from to : ℕ) → to ≤ length packets → IsSized to (markers packets from to)
    → 2 ≤ length (markers packets from to)
    → IsResult m shift
    (record { run = run_by number (packet packets from) (judged_run packets shift from to).n; packets = judged_packets packets from to })
    (judged_values m (judged_run packets shift from to))
made-result m packets shift number from to within sized two =
    let marks = markers packets from to in
    let run = judged_run packets shift from to in
    let whole = sized.whole two in
    let later = sized.later two in
    let long = judged-count packets (slice_index marks 0) (last_place marks) (omega (arith, whole)) (omega (arith, later, within)) in
    record {
      judged = record {
        n_is = refl;
        some = omega (arith, two);
        whole = omega (arith, long, whole);
        names = (names-first m run.n run.stamps N, names-first m run.n run.stamps NL, names-first m run.n run.stamps W);
      };
      bucket = refl;
      gapped = refl;
      linear = refl;
    }

-- a run that is open has two markers or more
by-few : (m : Media) (packets : List FlowPacket) (shift : Shift) (number from to : ℕ) (part : OpenPart) (few : Bool)
    → nat_lt (length (markers packets from to)) 2 ≡ few → to ≤ length packets → IsSized to (markers packets from to)
    → open_by number (packet packets from) (judged_packets packets from to)
    (if few then no_whole_frame (head_len (markers packets from to) from to) else whole_frames (judged_run packets shift from to)) ≡ Some part
    → HasResult m shift part (run_result (run_verdict_of m
    (if few then no_whole_frame (head_len (markers packets from to) from to) else whole_frames (judged_run packets shift from to))))
by-few m packets shift number from to part true e within sized is = absurd (not-both None part refl is)
by-few m packets shift number from to part false e within sized is =
    let made : OpenPart = record { run = run_by number (packet packets from) (judged_run packets shift from to).n; packets = judged_packets packets from to } in
    let two : 2 ≤ length (markers packets from to) = ltb-false (length (markers packets from to)) 2 e in (
      judged_values m (judged_run packets shift from to),
      refl,
      subst (λ (p : OpenPart). IsResult m shift p (judged_values m (judged_run packets shift from to))) (same-part made part (Some made) refl is)
          (made-result m packets shift number from to within sized two),
    )

-- ---- the last run of a flow

-- the last place
last-later : (a b : ℕ) (places : List ℕ) → last_place (a ∷ b ∷ places) ≡ last_place (b ∷ places)
last-later a b places =
    let count : length (a ∷ b ∷ places) - 1 ≡ suc (length (b ∷ places) - 1) = omega arith in
    ap (slice_index (a ∷ b ∷ places)) count

-- the last one of the runs between these gaps
last-run : (m : Media) (packets : List FlowPacket) (shift : Shift) (to from : ℕ) (places : List ℕ)
    → last_of (map (run_of m) (runs_between packets shift to from places))
    ≡ run_result (run_verdict_of m (run_outcome packets shift (last_place (from ∷ places)) to))
last-run m packets shift to from [] = refl
last-run m packets shift to from (cut ∷ []) = last-run m packets shift to cut []
last-run m packets shift to from (cut ∷ next ∷ rest) =
    last-run m packets shift to cut (next ∷ rest)
    ∙ ap (λ k. run_result (run_verdict_of m (run_outcome packets shift k to))) (sym (last-later from cut (next ∷ rest)))

none-is : (n : ℕ) → n ≡ 0 → (n == 0) ≡ true
none-is n e = grind (arith, nat_tests)

some-is : (n : ℕ) → 0 < n → (n == 0) ≡ false
some-is n h = grind (arith, nat_tests)

-- with a run that is open there is a packet
some-packets : (packets : List FlowPacket) (shift : Shift) (n : ℕ) (part : OpenPart) → open_before packets shift n ≡ Some part → 0 < n
some-packets packets shift zero part is = absurd (not-both None part refl is)
some-packets packets shift (suc n) part is = omega arith

-- in one run, or in several
by-places : (m : Media) (packets : List FlowPacket) (shift : Shift) (places : List ℕ)
    → last_run_in (verdict_of m (if length places == 0 then in_one_run (run_outcome packets shift 0 (length packets))
    else in_runs (runs_between packets shift (length packets) 0 places)))
    ≡ run_result (run_verdict_of m (run_outcome packets shift (last_place (0 ∷ places)) (length packets)))
by-places m packets shift [] = by-outcome (nat_lt (length (markers packets 0 (length packets))) 2)
  where
    by-outcome : (few : Bool)
        → last_run_in (verdict_of m (in_one_run (if few then no_whole_frame (head_len (markers packets 0 (length packets)) 0 (length packets))
        else whole_frames (judged_run packets shift 0 (length packets)))))
        ≡ run_result (run_verdict_of m (if few then no_whole_frame (head_len (markers packets 0 (length packets)) 0 (length packets))
        else whole_frames (judged_run packets shift 0 (length packets))))
    by-outcome true = refl
    by-outcome false = refl
by-places m packets shift (cut ∷ rest) =
    let several = in_runs (runs_between packets shift (length packets) 0 (cut ∷ rest)) in
    ap (λ b. last_run_in (verdict_of m (if b then in_one_run (run_outcome packets shift 0 (length packets)) else several)))
    (some-is (length (cut ∷ rest)) (omega arith))
    ∙ last-run m packets shift (length packets) 0 (cut ∷ rest)

-- the result of a flow without a fault is that of the run which is open after its packets
pub open-result : (m : Media) (packets : List FlowPacket) (shift : Shift) (part : OpenPart) → first_fault packets m.pt ≡ None
    → open_before packets shift (length packets) ≡ Some part
    → HasResult m shift part (last_run_in (verdict_of m (judged_as_numbered packets m.pt shift)))
open-result m packets shift part none is =
    let n = length packets in
    let places = cuts packets n in
    let from = last_place (0 ∷ places) in
    let some = some-packets packets shift n part is in
    let sound : judged_as_numbered packets m.pt shift ≡ judged_runs packets shift =
    ap (λ b. if b then absent else refused_or packets (first_fault packets m.pt) (judged_runs packets shift)) (some-is n some)
    ∙ ap (λ first. refused_or packets first (judged_runs packets shift)) none in
    let same : last_run_in (verdict_of m (judged_as_numbered packets m.pt shift)) ≡ run_result (run_verdict_of m (run_outcome packets shift from n)) =
    ap (λ v. last_run_in (verdict_of m v)) sound ∙ by-places m packets shift places in
    subst (HasResult m shift part) (sym same)
    (by-few m packets shift (length places + 1) from n part (nat_lt (length (markers packets from n)) 2) refl (omega arith)
    (sized-below packets m.pt n n none (omega arith)) is)
