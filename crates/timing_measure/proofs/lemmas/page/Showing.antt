-- What a page shows of a flow that is over: its longest run, which was drawn.
use Rattle.std.proofs.Common.{◌≡◌, ◌≤◌, ◌<◌, ◌+◌, ◌==◌, ◌∙◌, ◌++◌, ◌∷◌, ℕ, List, [], length, Option, Some, None, refl, ap, sym, subst, arith, length-append}
use Rattle.std.specs.Prelude.{⊤, All}
use Rattle.std.proofs.lemmas.Bool.{cond_both}
use Rattle.std.proofs.lemmas.List.Elements.{All-cons, All-head, All-nil, All-tail}
use Rattle.timing_base.specs.Shifts.{Shift}
use Rattle.timing_base.specs.Flows.{FirstFault, cuts, first_fault, packet}
use Rattle.timing_base.specs.Judged.{FlowVerdict, RunOutcome, absent, gap, in_one_run, in_runs, judged_runs, no_whole_frame, judged_as_numbered}
use Rattle.timing_base.specs.Judged.{refusal, refused, refused_or, run_outcome, whole_frames}
use Rattle.timing_base.specs.Media.{Media}
use Rattle.timing_base.specs.declared.packet.FlowPacket.{FlowPacket}
use Rattle.timing_base.specs.declared.packet.PacketFault.{PacketFault}
use Rattle.timing_base.specs.declared.packet.PacketFault.TheVariants.{Number}
use Rattle.run_meter.specs.Runs.{JudgedPart, stamps_of}
use Rattle.fail_interval.specs.Measured.{TellsEnd}
use Rattle.fail_interval.specs.Parts.{judged_packets, judged_parts, part_by, parts_between, parts_in}
use Rattle.flow_measure.specs.Measured.{AreMeasured, HasNumbers, IsMeasuredRun}
use Rattle.flow_measure.specs.Packets.{timestamps_of}
use Rattle.flow_measure.specs.declared.numbers.MeasuredRun.{MeasuredRun}
use Rattle.flow_measure.specs.declared.numbers.RunNumbers.{RunNumbers}
use Rattle.flow_measure.specs.declared.numbers_meter.MeasuredRuns.{MeasuredRuns}
use Rattle.flow_page.specs.drawing.Drawn.{AreCurves, AreRegions}
use Rattle.flow_page.specs.drawing.Told.{Draws, IsDrawn}
use Rattle.flow_page.specs.declared.drawing.longest.DrawnRun.{DrawnRun}
use Rattle.flow_page.specs.declared.drawing.longest.LongestRun.{LongestRun}
use Rattle.flow_page.specs.declared.shown.ShownRun.{ShownRun}
use Rattle.timing_measure.specs.flows.Ends.{TellsNumbers}
use Rattle.timing_measure.specs.page.Ends.{HasRunOf, IsShownOf, TellsPair}
use Rattle.timing_measure.specs.page.Shown.{IsShownRun, Shows}

-- the numbers of runs rise, from this one on
abbrev pub Rises : ℕ → List JudgedPart → Type 0
Rises number [] = ⊤
Rises number (p ∷ parts) = (number ≤ p.number) × Rises (p.number + 1) parts

rises-less : (few many : ℕ) (parts : List JudgedPart) → few ≤ many → Rises many parts → Rises few parts
rises-less few many [] le h = tt
rises-less few many (p ∷ parts) le h = (omega (arith, le, h.0), h.1)

rises-by : (m : Media) (number : ℕ) (first : FlowPacket) (packets : List FlowPacket) (o : RunOutcome) (rest : List JudgedPart)
    → Rises (number + 1) rest → Rises number (part_by m number first packets o ++ rest)
rises-by m number first packets (no_whole_frame head) rest h = rises-less number (number + 1) rest (omega arith) h
rises-by m number first packets (whole_frames run) rest h = (omega arith, h)

rises-last : (m : Media) (number : ℕ) (first : FlowPacket) (packets : List FlowPacket) (o : RunOutcome) → Rises number (part_by m number first packets o)
rises-last m number first packets (no_whole_frame head) = tt
rises-last m number first packets (whole_frames run) = (omega arith, tt)

rises-between : (m : Media) (packets : List FlowPacket) (shift : Shift) (to number from : ℕ) (places : List ℕ)
    → Rises number (parts_between m packets shift to number from places)
rises-between m packets shift to number from [] =
    rises-last m number (packet packets from) (judged_packets packets from to) (run_outcome packets shift from to)
rises-between m packets shift to number from (cut ∷ rest) =
    rises-by m number (packet packets from) (judged_packets packets from cut) (run_outcome packets shift from cut) _
    (rises-between m packets shift to (number + 1) cut rest)

pub rises-in : (m : Media) (packets : List FlowPacket) (shift : Shift) (v : FlowVerdict) → Rises 1 (parts_in m packets shift v)
rises-in m packets shift absent = tt
rises-in m packets shift (refused rec fault) = tt
rises-in m packets shift (gap rec expected got) = tt
rises-in m packets shift (in_one_run o) = rises-last m 1 (packet packets 0) (judged_packets packets 0 (length packets)) o
rises-in m packets shift (in_runs all) = rises-between m packets shift (length packets) 1 0 (cuts packets (length packets))

low-at : (number : ℕ) (before after : List JudgedPart) (part : JudgedPart) → Rises number (before ++ part ∷ after) → number ≤ part.number
low-at number [] after part h = h.0
low-at number (p ∷ before) after part h =
    let low = low-at (p.number + 1) before after part h.1 in omega (arith, h.0, low)

pub less-before : (number : ℕ) (before after : List JudgedPart) (part : JudgedPart) → Rises number (before ++ part ∷ after)
    → All (λ (p : JudgedPart). p.number < part.number) before
less-before number [] after part h = All-nil (λ (p : JudgedPart). p.number < part.number)
less-before number (p ∷ before) after part h =
    let low = low-at (p.number + 1) before after part h.1 in
    All-cons (λ (p : JudgedPart). p.number < part.number) p before (omega (arith, low)) (less-before (p.number + 1) before after part h.1)

-- the measured run of this number is that of the part of this number
pub measured-at : (N : JudgedPart → RunNumbers → Type 0) (n : ℕ) (before after : List JudgedPart) (part : JudgedPart) (past rest : List MeasuredRun)
    (run : MeasuredRun) → AreMeasured N (before ++ part ∷ after) (past ++ run ∷ rest) → All (λ (p : JudgedPart). p.number < n) before → part.number ≡ n
    → All (λ (r : MeasuredRun). r.run ≡ n → ⊥) past → run.run ≡ n → IsMeasuredRun N part run
measured-at N n [] after part [] rest run h few here none is = h.0
measured-at N n [] after part (r ∷ past) rest run h few here none is =
    absurd (All-head (λ (r : MeasuredRun). r.run ≡ n → ⊥) r past none ((h.0).run_is ∙ here))
measured-at N n (p ∷ before) after part [] rest run h few here none is =
    let low = All-head (λ (p : JudgedPart). p.number < n) p before few in
    let same = (h.0).run_is in
    absurd (omega (arith, low, same, is))
measured-at N n (p ∷ before) after part (r ∷ past) rest run h few here none is =
    measured-at N n before after part past rest run h.1 (All-tail (λ (p : JudgedPart). p.number < n) p before few) here
    (All-tail (λ (r : MeasuredRun). r.run ≡ n → ⊥) r past none) is

pub measured-some : (N : JudgedPart → RunNumbers → Type 0) (n : ℕ) (before after : List JudgedPart) (part : JudgedPart) (runs : List MeasuredRun)
    → AreMeasured N (before ++ part ∷ after) runs → part.number ≡ n → All (λ (r : MeasuredRun). r.run ≡ n → ⊥) runs → ⊥
measured-some N n [] after part [] h here none = absurd h
measured-some N n [] after part (r ∷ runs) h here none = All-head (λ (r : MeasuredRun). r.run ≡ n → ⊥) r runs none ((h.0).run_is ∙ here)
measured-some N n (p ∷ before) after part [] h here none = absurd h
measured-some N n (p ∷ before) after part (r ∷ runs) h here none =
    measured-some N n before after part runs h.1 here (All-tail (λ (r : MeasuredRun). r.run ≡ n → ⊥) r runs none)

-- what is shown is what was drawn, with the numbers of that run
drawn-shown : (m : Media) (shift : Shift) (part : JudgedPart) (d : DrawnRun) (run : MeasuredRun) (s : ShownRun) → IsDrawn m shift part d
    → IsMeasuredRun (HasNumbers m shift) part run → IsShownOf d run s → IsShownRun m shift part s
drawn-shown m shift part d run s drawn measured is = record {
  run_is = subst (IsMeasuredRun (HasNumbers m shift) part) (sym is.run_is) measured;
  first_is = is.first_is ∙ drawn.first_is;
  last_is = is.last_is ∙ drawn.last_is;
  curves = subst (AreCurves m part.values.n part.values.frames (stamps_of shift part.packets) (timestamps_of part.packets)) (sym is.curves_are) drawn.curves;
  regions = subst (AreRegions m part.values.n (stamps_of shift part.packets) 0 part.values.kinds) (sym is.regions_are) drawn.regions;
}

-- of a flow whose longest run was drawn
pub drawn-shows : (m : Media) (shift : Shift) (packets : List FlowPacket) (runs : List MeasuredRun) (d : Option DrawnRun) (s : Option ShownRun)
    → AreMeasured (HasNumbers m shift) (judged_parts m packets shift) runs → Draws m shift (judged_parts m packets shift) d → HasRunOf d runs s
    → Shows m shift (judged_parts m packets shift) s
drawn-shows m shift packets runs None None measured drawn found = drawn
drawn-shows m shift packets runs None (Some s) measured drawn found = absurd found
drawn-shows m shift packets runs (Some d) None measured drawn found =
    let l = drawn.1 in
    absurd (measured-some (HasNumbers m shift) d.run l.before l.after drawn.0 runs
    (subst (λ parts. AreMeasured (HasNumbers m shift) parts runs) l.whole measured) (sym (drawn.2).run_is) found)
drawn-shows m shift packets runs (Some d) (Some s) measured drawn found =
    let part = drawn.0 in
    let l = drawn.1 in
    let of = found.1 in
    let here : part.number ≡ d.run = sym (drawn.2).run_is in
    let rises : Rises 1 (l.before ++ part ∷ l.after) = subst (Rises 1) l.whole (rises-in m packets shift (judged_as_numbered packets m.pt shift)) in
    let few = subst (λ n. All (λ (p : JudgedPart). p.number < n) l.before) here (less-before 1 l.before l.after part rises) in (
      part,
      l,
      drawn-shown m shift part d found.0 s drawn.2
          (measured-at (HasNumbers m shift) d.run l.before l.after part of.before of.after found.0
          (subst (λ x. AreMeasured (HasNumbers m shift) (l.before ++ part ∷ l.after) x) of.whole
          (subst (λ parts. AreMeasured (HasNumbers m shift) parts runs) l.whole measured)) few here of.others of.number_is)
          found.2,
    )

-- no run of a flow with a fault is shown, whatever was drawn
no-run : (N : JudgedPart → RunNumbers → Type 0) (parts : List JudgedPart) (runs : List MeasuredRun) → parts ≡ [] → AreMeasured N parts runs → length runs ≡ 0
no-run N [] [] none h = refl
no-run N [] (r ∷ runs) none h = absurd h
no-run N (p ∷ parts) runs none h = absurd (omega (arith, ap length none))

pub none-shows : (m : Media) (shift : Shift) (parts : List JudgedPart) (runs : List MeasuredRun) (d : Option DrawnRun) (s : Option ShownRun) → parts ≡ []
    → AreMeasured (HasNumbers m shift) parts runs → HasRunOf d runs s → Shows m shift parts s
none-shows m shift parts runs d None none measured found = none
none-shows m shift parts runs None (Some s) none measured found = absurd found
none-shows m shift parts runs (Some d) (Some s) none measured found =
    let of = found.1 in
    let long = no-run (HasNumbers m shift) parts runs none measured in
    absurd (omega (arith, long, ap length of.whole, length-append of.before (found.0 ∷ of.after)))

refusal-parts : (m : Media) (packets : List FlowPacket) (shift : Shift) (rec : ℕ) (fault : PacketFault) → parts_in m packets shift (refusal rec fault) ≡ []
refusal-parts m packets shift rec (Number expected got) = refl
refusal-parts m packets shift rec fault = refl

pub fault-parts : (m : Media) (packets : List FlowPacket) (shift : Shift) (first : FirstFault) → first_fault packets m.pt ≡ Some first
    → judged_parts m packets shift ≡ []
fault-parts m packets shift first is =
    cond_both (length packets == 0) absent (refused_or packets (first_fault packets m.pt) (judged_runs packets shift))
    (λ v. parts_in m packets shift v ≡ []) (λ _. refl)
    (λ _. subst (λ (o : Option FirstFault). parts_in m packets shift (refused_or packets o (judged_runs packets shift)) ≡ []) (sym is)
    (refusal-parts m packets shift _ first.fault))

-- of the outputs of two meters the first has the numbers
pub numbers-told : (m : Media) (shift : Shift) (packets : List FlowPacket) (o : Option FirstFault) (out : MeasuredRuns × LongestRun)
    → TellsEnd TellsPair (tt, tt) m shift packets o out → TellsEnd TellsNumbers tt m shift packets o out.0
numbers-told m shift packets None out h = h.0
numbers-told m shift packets (Some first) out h = h.0

-- the longest run of a flow is shown, unless the flow has a fault
pub flow-shows : (m : Media) (shift : Shift) (packets : List FlowPacket) (out : MeasuredRuns × LongestRun) (runs : List MeasuredRun) (s : Option ShownRun)
    → TellsEnd TellsPair (tt, tt) m shift packets (first_fault packets m.pt) out → AreMeasured (HasNumbers m shift) (judged_parts m packets shift) runs
    → HasRunOf (out.1).drawn runs s → Shows m shift (judged_parts m packets shift) s
flow-shows m shift packets out runs s told measured found = go (first_fault packets m.pt) refl told
  where
    go : (o : Option FirstFault) → first_fault packets m.pt ≡ o → TellsEnd TellsPair (tt, tt) m shift packets o out
        → Shows m shift (judged_parts m packets shift) s
    go None is h = drawn-shows m shift packets runs (out.1).drawn s measured h.1 found
    go (Some first) is h =
        none-shows m shift (judged_parts m packets shift) runs (out.1).drawn s (fault-parts m packets shift first is) measured found
