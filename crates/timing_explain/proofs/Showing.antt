-- What is shown of a flow that is over: its longest run, which has details.
use Rattle.std.proofs.Common.{◌≡◌, ◌<◌, ◌==◌, ◌++◌, ◌∷◌, ℕ, List, length, Option, Some, None, refl, sym, subst}
use Rattle.std.specs.Prelude.{All}
use Rattle.std.proofs.lemmas.Bool.{cond_both}
use Rattle.timing_base.specs.Flows.{FirstFault, first_fault}
use Rattle.timing_base.specs.Judged.{FlowVerdict, absent, gap, in_one_run, in_runs, judged_as_numbered, judged_runs, no_whole_frame, refusal, refused}
use Rattle.timing_base.specs.Judged.{refused_or, whole_frames}
use Rattle.timing_base.specs.Media.{Media}
use Rattle.timing_base.specs.Shifts.{Shift}
use Rattle.timing_base.specs.declared.packet.FlowPacket.{FlowPacket}
use Rattle.timing_base.specs.declared.packet.PacketFault.{PacketFault}
use Rattle.timing_base.specs.declared.packet.PacketFault.TheVariants.{Number}
use Rattle.run_meter.specs.Runs.{JudgedPart}
use Rattle.fail_interval.specs.Measured.{TellsEnd}
use Rattle.fail_interval.specs.Parts.{judged_parts, parts_in}
use Rattle.fail_interval.specs.Row.{verdict_of}
use Rattle.flow_findings.specs.declared.inputs.ShownRun.{ShownRun}
use Rattle.flow_measure.specs.Measured.{AreMeasured, HasNumbers, IsMeasuredRun}
use Rattle.flow_measure.specs.declared.numbers.MeasuredRun.{MeasuredRun}
use Rattle.flow_measure.specs.declared.numbers_meter.MeasuredRuns.{MeasuredRuns}
use Rattle.timing_measure.proofs.lemmas.page.Showing.{Rises, less-before, measured-at, measured-some, rises-in}
use Rattle.timing_explain.specs.Ends.{HasRunOf, IsShownOf, TellsPair, shown_alone}
use Rattle.timing_explain.specs.Known.{IsShownRun, Shows}
use Rattle.timing_explain.specs.details.Told.{AreDetailsOf, Finds, IsFoundRun}
use Rattle.timing_explain.specs.declared.details.longest.FoundRun.{FoundRun}
use Rattle.timing_explain.specs.declared.details.longest.LongestFound.{LongestFound}

-- what is shown is what was found, with the numbers of that run
found-shown : (m : Media) (shift : Shift) (part : JudgedPart) (f : FoundRun) (run : MeasuredRun) (s : ShownRun) → IsFoundRun m shift part f
    → IsMeasuredRun (HasNumbers m shift) part run → IsShownOf f run s → IsShownRun m shift part s
found-shown m shift part f run s found measured is = record {
  run_is = subst (IsMeasuredRun (HasNumbers m shift) part) (sym is.run_is) measured;
  details_are = subst (AreDetailsOf m shift part) (sym is.details_are) found.details_are;
}

-- of a flow whose longest run was found
found-shows : (m : Media) (shift : Shift) (packets : List FlowPacket) (runs : List MeasuredRun) (f : Option FoundRun) (s : Option ShownRun)
    → AreMeasured (HasNumbers m shift) (judged_parts m packets shift) runs → Finds m shift (judged_parts m packets shift) f → HasRunOf f runs s
    → Shows m shift (judged_parts m packets shift) s
found-shows m shift packets runs None None measured found has = found
found-shows m shift packets runs None (Some s) measured found has = absurd has
found-shows m shift packets runs (Some f) None measured found has =
    let l = found.1 in
    absurd (measured-some (HasNumbers m shift) f.run l.before l.after found.0 runs
    (subst (λ parts. AreMeasured (HasNumbers m shift) parts runs) l.whole measured) (sym (found.2).run_is) has)
found-shows m shift packets runs (Some f) (Some s) measured found has =
    let part = found.0 in
    let l = found.1 in
    let of = has.1 in
    let here : part.number ≡ f.run = sym (found.2).run_is in
    let rises : Rises 1 (l.before ++ part ∷ l.after) = subst (Rises 1) l.whole (rises-in m packets shift (judged_as_numbered packets m.pt shift)) in
    let few = subst (λ n. All (λ (p : JudgedPart). p.number < n) l.before) here (less-before 1 l.before l.after part rises) in (
      part,
      l,
      found-shown m shift part f has.0 s found.2
          (measured-at (HasNumbers m shift) f.run l.before l.after part of.before of.after has.0
          (subst (λ x. AreMeasured (HasNumbers m shift) (l.before ++ part ∷ l.after) x) of.whole
          (subst (λ parts. AreMeasured (HasNumbers m shift) parts runs) l.whole measured)) few here of.others of.number_is)
          has.2,
    )

-- of a flow that isn't judged none is shown
verdict-shows : (m : Media) (packets : List FlowPacket) (shift : Shift) (v : FlowVerdict) (s : Option ShownRun)
    → Shows m shift (parts_in m packets shift v) s → Shows m shift (parts_in m packets shift v) (shown_alone (verdict_of m v) s)
verdict-shows m packets shift absent s h = refl
verdict-shows m packets shift (refused rec fault) s h = refl
verdict-shows m packets shift (gap rec expected got) s h = refl
verdict-shows m packets shift (in_one_run (no_whole_frame head)) s h = refl
verdict-shows m packets shift (in_one_run (whole_frames run)) s h = h
verdict-shows m packets shift (in_runs all) s h = h

-- so of one with a fault
refusal-shows : (m : Media) (packets : List FlowPacket) (shift : Shift) (rec : ℕ) (fault : PacketFault) (s : Option ShownRun)
    → Shows m shift (parts_in m packets shift (refusal rec fault)) (shown_alone (verdict_of m (refusal rec fault)) s)
refusal-shows m packets shift rec (Number expected got) s = refl
refusal-shows m packets shift rec fault s = refl

-- the longest run of a flow is shown, unless the flow isn't judged
pub flow-shows : (m : Media) (shift : Shift) (packets : List FlowPacket) (out : MeasuredRuns × LongestFound) (s : Option ShownRun)
    → TellsEnd TellsPair (tt, tt) m shift packets (first_fault packets m.pt) out → HasRunOf (out.1).found (out.0).runs.items s
    → Shows m shift (judged_parts m packets shift) (shown_alone (verdict_of m (judged_as_numbered packets m.pt shift)) s)
flow-shows m shift packets out s told has = go (first_fault packets m.pt) refl told
  where
    Shown : FlowVerdict → Type 0
    Shown v = Shows m shift (parts_in m packets shift v) (shown_alone (verdict_of m v) s)

    go : (o : Option FirstFault) → first_fault packets m.pt ≡ o → TellsEnd TellsPair (tt, tt) m shift packets o out
        → Shown (judged_as_numbered packets m.pt shift)
    go None is h =
        verdict-shows m packets shift (judged_as_numbered packets m.pt shift) s
        (found-shows m shift packets (out.0).runs.items (out.1).found s h.0 h.1 has)
    go (Some first) is h =
        cond_both (length packets == 0) absent (refused_or packets (first_fault packets m.pt) (judged_runs packets shift)) Shown (λ _. refl)
        (λ _. subst (λ (o : Option FirstFault). Shown (refused_or packets o (judged_runs packets shift))) (sym is)
        (refusal-shows m packets shift _ first.fault s))
