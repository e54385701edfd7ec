-- A run keeps the packets of its complete frames or fields while it goes on.
use Rattle.std.proofs.Common.{◌≡◌, ◌<◌, ◌+◌, ◌*◌, ◌/◌, ◌++◌, ◌∷◌, ℕ, Bool, true, false, List, [], length, take, Option, Some, None}
use Rattle.std.proofs.Common.{◌∙◌, ap, sym, subst, refl, arith, length-append}
use Rattle.std.proofs.Math.Nat.{mul-div_cancel_left, mul_comm}
use Rattle.std.proofs.lemmas.List.{take-append-le, take_all}
use Rattle.timing_base.specs.Flows.{first_fault_below, has_marker, is_cut}
use Rattle.timing_base.specs.Media.{Media}
use Rattle.timing_base.specs.Numbered.{numbered}
use Rattle.timing_base.specs.Shifts.{FlowOptions}
use Rattle.timing_base.specs.declared.packet.FlowPacket.{FlowPacket}
use Rattle.timing_base.proofs.Numberings.{length-numbered}
use Rattle.timing_base.proofs.Places.{run_start-cut}
use Rattle.run_meter.specs.Runs.{OpenPart}
use Rattle.fail_interval.specs.Parts.{open_before}
use Rattle.flow_watch.specs.Watched.{RunPart, groups_in, open_part}
use Rattle.timing_watch.specs.Agreeing.{IsOpenAfter, part_at}
use Rattle.timing_watch.proofs.Ahead.{has-next}
use Rattle.timing_watch.proofs.Faults.{faults-front, open-before-front}
use Rattle.timing_watch.proofs.Results.{open-result}
use Rattle.timing_watch.proofs.Runs.{HasOneMore, open-marked, open-plain, whole-part}
use Rattle.timing_watch.proofs.Stretches.{begun-none}

not-both : (o : Option OpenPart) (part : OpenPart) → o ≡ None → o ≡ Some part → ⊥
not-both o part h k = cc

same-part : (x y : OpenPart) (o : Option OpenPart) → o ≡ Some x → o ≡ Some y → x ≡ y
same-part x y o h k = cc

-- the run before its later packets
before-later : (old new : OpenPart) (later : List FlowPacket) → length old.packets ≡ groups_in (open_part old) * old.run.n
    → new ≡ record { run = old.run; packets = old.packets ++ later } → part_at (groups_in (open_part old)) (open_part new) ≡ open_part old
before-later old new later whole same =
    let count = groups_in (open_part old) * old.run.n in
    let front : take count (old.packets ++ later) ≡ old.packets =
    take-append-le count old.packets later (omega (arith, whole)) ∙ take_all count old.packets (omega (arith, whole)) in
    let holding : List FlowPacket → RunPart = λ l. record { number = old.run.number; n = old.run.n; packets = l } in
    ap (λ (x : OpenPart). part_at (groups_in (open_part old)) (open_part x)) same ∙ ap holding front

-- without later packets
before-none : (old new : OpenPart) → length old.packets ≡ groups_in (open_part old) * old.run.n → new ≡ old
    → part_at (groups_in (open_part old)) (open_part new) ≡ open_part old
before-none old new whole same =
    let count = groups_in (open_part old) * old.run.n in
    let holding : List FlowPacket → RunPart = λ l. record { number = old.run.number; n = old.run.n; packets = l } in
    ap (λ (x : OpenPart). part_at (groups_in (open_part old)) (open_part x)) same ∙ ap holding (take_all count old.packets (omega (arith, whole)))

module _ (m : Media) (options : FlowOptions) (before : List FlowPacket) (p : FlowPacket) (old new : OpenPart) (first : IsOpenAfter m options before old)
    (second : IsOpenAfter m options (before ++ p ∷ []) new)
  where
    abbrev fewer : List FlowPacket
    fewer = numbered options.seq16 before

    abbrev all : List FlowPacket
    all = numbered options.seq16 (before ++ p ∷ [])

    abbrev here : ℕ
    here = length before

    fewer-count : length fewer ≡ here
    fewer-count = length-numbered options.seq16 before

    all-count : length all ≡ here + 1
    all-count = length-numbered options.seq16 (before ++ p ∷ []) ∙ length-append before (p ∷ [])

    fewer-sound : first_fault_below fewer m.pt here ≡ None
    fewer-sound = sym (ap (first_fault_below fewer m.pt) fewer-count) ∙ first.sound

    sound : first_fault_below all m.pt here ≡ None
    sound =
        let next = has-next options.seq16 before p in
        ap (λ (l : List FlowPacket). first_fault_below l m.pt here) next.1
        ∙ faults-front fewer (next.0 ∷ []) m.pt here (omega (arith, fewer-count)) ∙ fewer-sound

    sound-after : first_fault_below all m.pt (here + 1) ≡ None
    sound-after = sym (ap (first_fault_below all m.pt) all-count) ∙ second.sound

    opens : open_before all options.shift here ≡ Some old
    opens =
        let next = has-next options.seq16 before p in
        ap (λ (l : List FlowPacket). open_before l options.shift here) next.1
        ∙ open-before-front fewer (next.0 ∷ []) m.pt options.shift here (omega (arith, fewer-count)) fewer-sound ∙ first.last

    opens-after : open_before all options.shift (here + 1) ≡ Some new
    opens-after = sym (ap (open_before all options.shift) (length-append before (p ∷ []))) ∙ second.last

    whole : length old.packets ≡ groups_in (open_part old) * old.run.n
    whole =
        let last : open_before fewer options.shift (length fewer) ≡ Some old = ap (open_before fewer options.shift) fewer-count ∙ first.last in
        let h = open-result m fewer options.shift old first.sound last in
        let some = (whole-part fewer m.pt options.shift (length fewer) old first.sound (omega arith) last).some in
        let groups : groups_in (open_part old) ≡ h.0.frames = ap (λ k. k / old.run.n) h.2.judged.whole ∙ mul-div_cancel_left h.0.frames some in
        h.2.judged.whole ∙ mul_comm old.run.n h.0.frames ∙ ap (λ g. g * old.run.n) (sym groups)

    abbrev Kept : Type 0
    Kept = part_at (groups_in (open_part old)) (open_part new) ≡ open_part old

    few : here < length all
    few = omega (arith, all-count)

    by-marker : (marker : Bool) → is_cut all here ≡ false → has_marker all here ≡ marker → Kept
    by-marker true none e =
        let more = open-marked all m.pt options.shift here few none e sound-after sound in
        let both : HasOneMore (Some old) (Some new) =
        subst (λ o. HasOneMore (Some old) o) opens-after (subst (λ o. HasOneMore o (open_before all options.shift (here + 1))) opens more) in
        before-later old new both.1 whole both.2
    by-marker false none e =
        let same : open_before all options.shift (here + 1) ≡ Some old = open-plain all options.shift here few none e ∙ opens in
        before-none old new whole (same-part new old (open_before all options.shift (here + 1)) opens-after same)

    by-cut : (cut : Bool) → is_cut all here ≡ cut → Kept
    by-cut true e =
        absurd (not-both (open_before all options.shift (here + 1)) new (begun-none all options.shift here (run_start-cut all here e)) opens-after)
    by-cut false e = by-marker (has_marker all here) e refl

    pub run-grows : Kept
    run-grows = by-cut (is_cut all here) refl
