-- Each line of a stretch agrees with the result of the flow's packets so far.
use Rattle.std.specs.Prelude.{if◌then◌else◌}
use Rattle.std.proofs.Common.{◌≡◌, ◌≤◌, ◌-◌, ◌+◌, ◌/◌, ◌++◌, ◌∷◌, ℕ, Bool, true, false, List, [], length, Option, Some, None, inl, inr}
use Rattle.std.proofs.Common.{◌∙◌, ap, sym, subst, refl, arith, length-append}
use Rattle.std.proofs.Math.Nat.{mul-div_cancel_left}
use Rattle.timing_base.specs.Flows.{FirstFault, fault, first_fault, first_fault_below, is_cut, packet, run_start}
use Rattle.timing_base.specs.Media.{Media}
use Rattle.timing_base.specs.Numbered.{numbered}
use Rattle.timing_base.specs.Shifts.{FlowOptions}
use Rattle.timing_base.specs.declared.packet.FlowPacket.{FlowPacket}
use Rattle.timing_base.specs.declared.packet.PacketFault.{PacketFault}
use Rattle.timing_base.proofs.Numberings.{length-numbered}
use Rattle.run_meter.specs.Runs.{OpenPart}
use Rattle.fail_interval.specs.Current.{unjudged_by}
use Rattle.fail_interval.specs.Parts.{open_before}
use Rattle.flow_watch.specs.Lines.{gap_line, refused_line, stretch_line, waiting_line}
use Rattle.flow_watch.specs.Watched.{IsLeft, IsStretchOf, groups_in, left_line, left_of, open_part}
use Rattle.flow_watch.specs.declared.stretch.Stretch.{Stretch}
use Rattle.timing_watch.specs.Agreeing.{SaysEnd, SaysResult, SaysResultIfAny, SaysSoFar}
use Rattle.timing_watch.specs.Watched.{AddsAfter, AddsNext, AddsPacket, AddsSound, AddsStretch, AddsWithin, EndsStretch, IsLeftBefore, IsLeftEnd, IsLeftOf}
use Rattle.timing_watch.specs.Watched.{IsLeftUnless, Watching, completes, gap_at, is_due, waiting_at}
use Rattle.timing_watch.proofs.Ahead.{has-next}
use Rattle.timing_watch.proofs.Faults.{faults-front, open-before-front}
use Rattle.timing_watch.proofs.Passing.{all-agree}
use Rattle.timing_watch.proofs.Results.{open-result}
use Rattle.timing_watch.proofs.Runs.{sound-next, whole-part}

-- ---- a line

-- the line of a stretch up to the last complete frame or field of the open run
says : (w : Watching) (m : Media) (options : FlowOptions) (packets : List FlowPacket) (part : OpenPart) (from : ℕ) (s : Stretch) (line : List ℕ)
    → first_fault (numbered options.seq16 packets) m.pt ≡ None
    → open_before (numbered options.seq16 packets) options.shift (length (numbered options.seq16 packets)) ≡ Some part
    → IsStretchOf m options.shift (open_part part) from (groups_in (open_part part)) s → line ≡ stretch_line w.form s → SaysResult w m options packets line
says w m options packets part from s line none opens is same =
    let judged = numbered options.seq16 packets in
    let h = open-result m judged options.shift part none opens in
    let some = (whole-part judged m.pt options.shift (length judged) part none (omega arith) opens).some in
    let groups : groups_in (open_part part) ≡ h.0.frames =
    ap (λ k. k / part.run.n) h.2.judged.whole ∙ mul-div_cancel_left h.0.frames some in
    record {
      stretch = s;
      line_is = same;
      values = h.0;
      result_is = h.1;
      agrees = all-agree m options.shift part.run part.packets h.0 from s h.2.judged
          (subst (λ to. IsStretchOf m options.shift (open_part part) from to s) groups is);
    }

-- the line of what is left of a stretch
left-says : (w : Watching) (m : Media) (options : FlowOptions) (packets : List FlowPacket) (o : Option OpenPart) (text : List ℕ)
    → first_fault (numbered options.seq16 packets) m.pt ≡ None
    → open_before (numbered options.seq16 packets) options.shift (length (numbered options.seq16 packets)) ≡ o
    → IsLeftOf w m options.shift o text → SaysResultIfAny w m options packets text
left-says w m options packets None text none opens h = inl h
left-says w m options packets (Some part) text none opens h = by-left h.0 h.1 h.2
  where
    by-left : (left : Option Stretch) → IsLeft w.every m options.shift (open_part part) left → text ≡ left_line w.form left
        → SaysResultIfAny w m options packets text
    by-left None is same = inl same
    by-left (Some s) is same =
        inr (says w m options packets part (groups_in (open_part part) - left_of w.every (open_part part)) s text none opens is.1 same)

-- ---- the end

end-by : (w : Watching) (m : Media) (options : FlowOptions) (packets : List FlowPacket) (text : List ℕ) (first : Option FirstFault)
    → first_fault (numbered options.seq16 packets) m.pt ≡ first → IsLeftUnless w m options.shift (numbered options.seq16 packets) first text
    → SaysResultIfAny w m options packets text
end-by w m options packets text None e h =
    let judged = numbered options.seq16 packets in
    left-says w m options packets (open_before judged options.shift (length judged)) text e refl h
end-by w m options packets text (Some first) e h = inl h

pub end-says : (w : Watching) (m : Media) (options : FlowOptions) (packets : List FlowPacket) (text : List ℕ) → IsLeftEnd w m options packets text
    → SaysResultIfAny w m options packets text
end-says w m options packets text h = end-by w m options packets text (first_fault (numbered options.seq16 packets) m.pt) refl h

-- ---- a packet

module _ (w : Watching) (m : Media) (options : FlowOptions) (before : List FlowPacket) (p : FlowPacket) (text : List ℕ) where
  -- the packets with their numbers, before packet p and with it
  abbrev old : List FlowPacket
  old = numbered options.seq16 before

  abbrev all : List FlowPacket
  all = numbered options.seq16 (before ++ p ∷ [])

  abbrev here : ℕ
  here = length before

  old-count : length old ≡ here
  old-count = length-numbered options.seq16 before

  all-count : length all ≡ here + 1
  all-count = length-numbered options.seq16 (before ++ p ∷ []) ∙ length-append before (p ∷ [])

  -- a packet that ends a run
  left-before : (left : List ℕ) → first_fault_below all m.pt here ≡ None → IsLeftBefore w m options.shift all here left
      → SaysResultIfAny w m options before left
  left-before left none h =
      let next = has-next options.seq16 before p in
      let few : here ≤ length old = omega (arith, old-count) in
      let below : first_fault_below old m.pt here ≡ None =
      sym (ap (λ (l : List FlowPacket). first_fault_below l m.pt here) next.1 ∙ faults-front old (next.0 ∷ []) m.pt here few) ∙ none in
      let same : open_before all options.shift here ≡ open_before old options.shift here =
      ap (λ (l : List FlowPacket). open_before l options.shift here) next.1 ∙ open-before-front old (next.0 ∷ []) m.pt options.shift here few below in
      left-says w m options before (open_before all options.shift here) left
      (ap (first_fault_below old m.pt) old-count ∙ below)
      (ap (open_before old options.shift) old-count ∙ sym same) h

  ends : (line : List ℕ) → first_fault_below all m.pt here ≡ None → SaysEnd w m line → EndsStretch w m options.shift all here line text
      → SaysSoFar w m options before p text
  ends line none says_end h =
      inr (inr (record { left = h.0; line = line; text_is = h.2; left_says = left-before h.0 none h.1; line_says = says_end }))

  -- one that goes on
  by-due : (due : Bool) → text ≡ (if due then waiting_line w.form (waiting_at all (run_start all here) here) else [])
      → SaysSoFar w m options before p text
  by-due true h = inr (inl (waiting_at all (run_start all here) here, h))
  by-due false h = inl (inl h)

  by-full : (part : OpenPart) (full : Bool) → first_fault_below all m.pt (here + 1) ≡ None → open_before all options.shift (here + 1) ≡ Some part
      → AddsStretch w m options.shift part full text → SaysSoFar w m options before p text
  by-full part true none opens h =
      inl (inr (says w m options (before ++ p ∷ []) part (groups_in (open_part part) - w.every) h.stretch text
      (ap (first_fault_below all m.pt) all-count ∙ none)
      (ap (open_before all options.shift) all-count ∙ opens) h.is h.text_is))
  by-full part false none opens h = inl (inl h)

  by-open : (o : Option OpenPart) → first_fault_below all m.pt (here + 1) ≡ None → open_before all options.shift (here + 1) ≡ o
      → AddsWithin w m options.shift all here o text → SaysSoFar w m options before p text
  by-open None none opens h = by-due (is_due all (run_start all here) here) h
  by-open (Some part) none opens h = by-full part (completes w all here part) none opens h

  by-cut : (cut : Bool) → first_fault_below all m.pt here ≡ None → first_fault_below all m.pt (here + 1) ≡ None
      → AddsSound w m options.shift all here cut text → SaysSoFar w m options before p text
  by-cut true none next h = ends (gap_line w.form (gap_at all here)) none (inl (gap_at all here, refl)) h
  by-cut false none next h = by-open (open_before all options.shift (here + 1)) next refl h

  by-fault : (o : Option PacketFault) → first_fault_below all m.pt here ≡ None → fault all m.pt here ≡ o
      → AddsNext w m options.shift all here o text → SaysSoFar w m options before p text
  by-fault None none e h = by-cut (is_cut all here) none (sound-next all m.pt here none e) h
  by-fault (Some why) none e h =
      let reason = unjudged_by (packet all here).rec why in ends (refused_line w.form m reason) none (inr (reason, refl)) h

  by-first : (first : Option FirstFault) → first_fault_below all m.pt here ≡ first → AddsAfter w m options.shift all here first text
      → SaysSoFar w m options before p text
  by-first None e h = by-fault (fault all m.pt here) e refl h
  by-first (Some first) e h = inl (inl h)

  pub packet-says : AddsPacket w m options before p text → SaysSoFar w m options before p text
  packet-says h = by-first (first_fault_below all m.pt here) refl h
