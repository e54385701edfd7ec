-- The groups of a run that is judged have 1 to 262,144 packets.
use Rattle.std.proofs.Common.{◌≡◌, ◌≤◌, ◌==◌, nat_lt, ℕ, List, length, Option, Some, None, refl, arith}
use Rattle.std.specs.Prelude.{⊤}
use Rattle.std.proofs.lemmas.Bool.{cond_both, eqb-true, ltb-false}
use Rattle.timing_base.specs.Shifts.{FlowOptions, Shift}
use Rattle.timing_base.specs.Flows.{FirstFault, cuts, first_fault, markers}
use Rattle.timing_base.specs.Grouped.{IsSized}
use Rattle.timing_base.specs.Judged.{FlowVerdict, JudgedRun, RunOutcome, absent, head_len, in_one_run, in_runs, judged, judged_as_numbered, judged_run}
use Rattle.timing_base.specs.Judged.{judged_runs, no_whole_frame, refusal, refused_or, run_outcome, runs, whole_frames}
use Rattle.timing_base.specs.Numbered.{numbered}
use Rattle.timing_base.specs.declared.packet.FlowPacket.{FlowPacket}
use Rattle.timing_base.specs.declared.packet.PacketFault.{PacketFault}
use Rattle.timing_base.specs.declared.packet.PacketFault.TheVariants.{Number}
use Rattle.timing_base.proofs.Between.{one_sized}

-- so many packets has each of its groups
pub record HasSize (run : JudgedRun) : Type 0 where
  pub some : 1 ≤ run.n
  pub few : run.n ≤ 262144

-- so has the run of a verdict, where one is judged
abbrev pub RunHasSize : FlowVerdict → Type 0
RunHasSize (in_one_run (whole_frames run)) = HasSize run
RunHasSize verdict = ⊤

-- by the markers of the run
outcome-size : (packets : List FlowPacket) (shift : Shift) (to : ℕ) → IsSized to (markers packets 0 to)
    → RunHasSize (in_one_run (run_outcome packets shift 0 to))
outcome-size packets shift to sized =
    let marks = markers packets 0 to in
    cond_both (nat_lt (length marks) 2) (no_whole_frame (head_len marks 0 to)) (whole_frames (judged_run packets shift 0 to))
    (λ (o : RunOutcome). RunHasSize (in_one_run o))
    (λ _. tt)
    (λ many.
    let two = ltb-false (length marks) 2 many in
    record { some = omega (arith, sized.some two); few = omega (arith, sized.few two) })

-- of a flow with no fault
runs-size : (packets : List FlowPacket) (pt : ℕ) (shift : Shift) → first_fault packets pt ≡ None → RunHasSize (judged_runs packets shift)
runs-size packets pt shift e =
    let n = length packets in
    cond_both (length (cuts packets n) == 0) (in_one_run (run_outcome packets shift 0 n)) (in_runs (runs packets shift)) RunHasSize
    (λ none. outcome-size packets shift n (one_sized packets pt e (eqb-true (length (cuts packets n)) 0 none)))
    (λ _. tt)

refusal-size : (rec : ℕ) (fault : PacketFault) → RunHasSize (refusal rec fault)
refusal-size rec (Number expected got) = tt
refusal-size rec fault = tt

refused-size : (packets : List FlowPacket) (first : Option FirstFault) (verdict : FlowVerdict) → (first ≡ None → RunHasSize verdict)
    → RunHasSize (refused_or packets first verdict)
refused-size packets (Some first) verdict h = refusal-size _ first.fault
refused-size packets None verdict h = h refl

-- of any flow, by the numbers of its packets as they are
numbered-size : (packets : List FlowPacket) (pt : ℕ) (shift : Shift) → RunHasSize (judged_as_numbered packets pt shift)
numbered-size packets pt shift =
    let first = first_fault packets pt in
    cond_both (length packets == 0) absent (refused_or packets first (judged_runs packets shift)) RunHasSize
    (λ _. tt)
    (λ _. refused-size packets first (judged_runs packets shift) (λ e. runs-size packets pt shift e))

-- and with the options of the flow
pub judged-size : (packets : List FlowPacket) (pt : ℕ) (options : FlowOptions) → RunHasSize (judged packets pt options)
judged-size packets pt options = numbered-size (numbered options.seq16 packets) pt options.shift
