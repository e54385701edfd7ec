-- The judged runs of a flow that is over.
use Rattle.std.proofs.Common.{◌≡◌, ◌==◌, ℕ, List, length, Option, Some, None, refl, sym, subst}
use Rattle.std.proofs.lemmas.Bool.{cond_both}
use Rattle.timing_base.specs.Shifts.{Shift}
use Rattle.timing_base.specs.Flows.{FirstFault, first_fault}
use Rattle.timing_base.specs.Judged.{FlowVerdict, absent, gap, in_one_run, in_runs, judged_runs, no_whole_frame, refusal, refused, refused_or}
use Rattle.timing_base.specs.Judged.{judged_as_numbered}
use Rattle.timing_base.specs.Judged.{whole_frames}
use Rattle.timing_base.specs.Media.{Media}
use Rattle.timing_base.specs.declared.packet.FlowPacket.{FlowPacket}
use Rattle.timing_base.specs.declared.packet.PacketFault.{PacketFault}
use Rattle.timing_base.specs.declared.packet.PacketFault.TheVariants.{Number}
use Rattle.run_meter.specs.Runs.{JudgedPart}
use Rattle.fail_interval.specs.Measured.{TellsEnd}
use Rattle.fail_interval.specs.Metered.{Telling}
use Rattle.fail_interval.specs.Parts.{judged_parts, parts_in}
use Rattle.fail_interval.specs.Row.{verdict_of}
use Rattle.flow_measure.specs.Measured.{AreMeasured}
use Rattle.flow_measure.specs.declared.numbers.MeasuredRun.{MeasuredRun}
use Rattle.flow_measure.specs.declared.numbers.RunNumbers.{RunNumbers}
use Rattle.timing_measure.specs.flows.Ends.{judged_alone}

-- where a flow has no fault its output tells of its judged runs
pub end-told : {Past Out : Type 0} (tells : Telling Past Out) (past : Past) (m : Media) (shift : Shift) (packets : List FlowPacket)
    (o : Option FirstFault) (out : Out) → TellsEnd tells past m shift packets o out → o ≡ None → tells past out m shift (judged_parts m packets shift) None
end-told tells past m shift packets o out h is = subst (λ (x : Option FirstFault). TellsEnd tells past m shift packets x out) is h

-- the runs that a verdict leaves are those of its flow
verdict-alone : (Numbers : JudgedPart → RunNumbers → Type 0) (m : Media) (packets : List FlowPacket) (shift : Shift) (v : FlowVerdict)
    (runs : List MeasuredRun) → AreMeasured Numbers (parts_in m packets shift v) runs
    → AreMeasured Numbers (parts_in m packets shift v) (judged_alone (verdict_of m v) runs)
verdict-alone Numbers m packets shift absent runs h = tt
verdict-alone Numbers m packets shift (refused rec fault) runs h = tt
verdict-alone Numbers m packets shift (gap rec expected got) runs h = tt
verdict-alone Numbers m packets shift (in_one_run (no_whole_frame head)) runs h = tt
verdict-alone Numbers m packets shift (in_one_run (whole_frames run)) runs h = h
verdict-alone Numbers m packets shift (in_runs all) runs h = h

-- a flow with a fault has none
refusal-alone : (Numbers : JudgedPart → RunNumbers → Type 0) (m : Media) (packets : List FlowPacket) (shift : Shift) (rec : ℕ) (fault : PacketFault)
    (runs : List MeasuredRun)
    → AreMeasured Numbers (parts_in m packets shift (refusal rec fault)) (judged_alone (verdict_of m (refusal rec fault)) runs)
refusal-alone Numbers m packets shift rec (Number expected got) runs = tt
refusal-alone Numbers m packets shift rec fault runs = tt

pub measured-alone : (Numbers : JudgedPart → RunNumbers → Type 0) (m : Media) (shift : Shift) (packets : List FlowPacket) (runs : List MeasuredRun)
    → (first_fault packets m.pt ≡ None → AreMeasured Numbers (judged_parts m packets shift) runs)
    → AreMeasured Numbers (judged_parts m packets shift) (judged_alone (verdict_of m (judged_as_numbered packets m.pt shift)) runs)
measured-alone Numbers m shift packets runs told = go (first_fault packets m.pt) refl
  where
    Alone : FlowVerdict → Type 0
    Alone v = AreMeasured Numbers (parts_in m packets shift v) (judged_alone (verdict_of m v) runs)

    go : (o : Option FirstFault) → first_fault packets m.pt ≡ o → Alone (judged_as_numbered packets m.pt shift)
    go None is = verdict-alone Numbers m packets shift (judged_as_numbered packets m.pt shift) runs (told is)
    go (Some first) is =
        cond_both (length packets == 0) absent (refused_or packets (first_fault packets m.pt) (judged_runs packets shift)) Alone (λ _. tt)
        (λ _. subst (λ (o : Option FirstFault). Alone (refused_or packets o (judged_runs packets shift))) (sym is)
        (refusal-alone Numbers m packets shift _ first.fault runs))
