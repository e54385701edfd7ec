-- A flow goes on by one packet.
use Rattle.std.proofs.Common.{◌≡◌, ◌≤◌, ◌+◌, ℕ, zero, suc, Bool, true, false, List, [], ◌∷◌, ◌++◌, length, length-append, map, Option, Some, None, Ok, Err}
use Rattle.std.proofs.Common.{refl, arith, ap, ◌∙◌, sym, subst}
use Rattle.std.specs.Prelude.{if◌then◌else◌, nat_lt, ◌&&◌, ◌==◌}
use Rattle.std.proofs.Math.Seq.{get_or-append_seam}
use Rattle.std.proofs.lemmas.Bool.Decides.{nat_tests}
use Rattle.std.proofs.lemmas.List.{map-append}
use Rattle.timing_base.specs.Shifts.{Shift}
use Rattle.frame_group.specs.Cuts.{answer_at, cut_at, unless_fault}
use Rattle.timing_base.specs.Flows.{FirstFault, cuts, earlier_or, expected_number, fault, first_fault_below, has_marker, is_cut, last_place, no_packet, packet}
use Rattle.timing_base.specs.Flows.{read_or_zeros, rtp}
use Rattle.timing_base.specs.Judged.{expected_at, run_at, run_outcome, runs_between}
use Rattle.timing_base.specs.Media.{Media}
use Rattle.timing_base.specs.declared.packet.FlowPacket.{FlowPacket}
use Rattle.timing_base.specs.declared.packet.PacketFault.{PacketFault}
use Rattle.timing_base.specs.declared.packet.Rtp.{Rtp}
use Rattle.timing_base.specs.declared.row.Run.{Run}
use Rattle.timing_base.specs.declared.row.RunVerdict.{RunVerdict}
use Rattle.timing_base.proofs.Between.{runs_between-push}
use Rattle.timing_base.proofs.Places.{cuts-here, cuts-other, last_place-le, last_place-push}
use Rattle.fail_interval.specs.Flowing.{ComesNext, IsClosed, IsOpen, OpensAt, StartsAt, has_fault}
use Rattle.fail_interval.specs.Row.{run_of, run_verdict_of}
use Rattle.fail_interval.specs.Runs.{StandsFor as RunStandsFor}
use Rattle.fail_interval.specs.SoFar.{SoFar, in_head, outcome_of, so_far_at, so_far_next}
use Rattle.fail_interval.specs.declared.flow.OpenRun.{OpenRun}
use Rattle.fail_interval.specs.declared.run.RunJudge.{RunJudge}
use Rattle.fail_interval.proofs.Runs.{outcome-so_far, so_far_at-next, so_far_at-start}

-- the packet after some packets
pub packet-here : (packets rest : List FlowPacket) (p : FlowPacket) → packet (packets ++ p ∷ rest) (length packets) ≡ p
packet-here packets rest p = get_or-append_seam packets p rest no_packet

answer-case : (first : Option FirstFault) (cut here : Option ℕ) → Ok cut ≡ unless_fault first here → (first ≡ None) × (cut ≡ here)
answer-case None cut here e = (refl, cc)
answer-case (Some first) cut here e = cc

-- a packet that is answered with its cut has no fault
pub cut-answered : (packets : List FlowPacket) (pt i : ℕ) (cut : Option ℕ) → Ok cut ≡ answer_at packets pt i
    → (first_fault_below packets pt (i + 1) ≡ None) × (cut ≡ cut_at packets i)
cut-answered packets pt i cut e = answer-case _ _ _ e

earlier-case : (first : Option FirstFault) (n : ℕ) (here : Option PacketFault) (cut : Option ℕ) (f : PacketFault) → first ≡ None
    → Err f ≡ unless_fault (earlier_or first n here) cut → earlier_or first n here ≡ Some record { index = n; fault = f }
earlier-case None n None cut f none e = cc
earlier-case None n (Some fault_here) cut f none e = let same : fault_here ≡ f = cc in ap (λ g. Some (record { index = n; fault = g })) same
earlier-case (Some first) n here cut f none e = cc

-- the first packet that is answered with a fault has it
pub fault-is : (packets : List FlowPacket) (pt i : ℕ) (f : PacketFault) → first_fault_below packets pt i ≡ None → Err f ≡ answer_at packets pt i
    → has_fault packets pt i f
fault-is packets pt i f none e =
    let next : i + 1 ≡ suc i = omega arith in
    let told : Err f ≡ unless_fault (first_fault_below packets pt (suc i)) (cut_at packets i) =
    e ∙ ap (λ k. unless_fault (first_fault_below packets pt k) (cut_at packets i)) next in
    ap (first_fault_below packets pt) next ∙ earlier-case (first_fault_below packets pt i) i (fault packets pt i) (cut_at packets i) f none told

-- a run by its parts
abbrev pub with_judge : {M : Type 0} → OpenRun M → RunJudge M → OpenRun M
with_judge open_run judge = record { rec = open_run.rec; number = open_run.number; expected = open_run.expected; judge = judge }

-- the marker of the packet that comes next
marker-is : (packets : List FlowPacket) (shift : Shift) (i rec_number at : ℕ) (seen : Rtp) → ComesNext packets shift i rec_number at seen
    → has_marker packets i ≡ seen.marker
marker-is packets shift i rec_number at seen next = ap (λ r. (read_or_zeros r).marker) next.reading

-- what the run has come to with it
more-is : (packets : List FlowPacket) (shift : Shift) (from i rec_number at : ℕ) (seen : Rtp) → ComesNext packets shift i rec_number at seen → from ≤ i
    → so_far_at packets shift from (i + 1) ≡ so_far_next (so_far_at packets shift from i) at seen.marker
more-is packets shift from i rec_number at seen next order =
    so_far_at-next packets shift from i order next.within
    ∙ (ap (λ t. so_far_next (so_far_at packets shift from i) t (has_marker packets i)) next.stamp
    ∙ ap (so_far_next (so_far_at packets shift from i) at) (marker-is packets shift i rec_number at seen next))

-- what a run has come to with a packet that goes on with it
pub goes_on-so_far : (packets : List FlowPacket) (shift : Shift) (i rec_number at : ℕ) (seen : Rtp) (so_far : SoFar)
    → ComesNext packets shift i rec_number at seen → is_cut packets i ≡ false
    → so_far ≡ so_far_at packets shift (last_place (0 ∷ cuts packets i)) i
    → so_far_next so_far at seen.marker ≡ so_far_at packets shift (last_place (0 ∷ cuts packets (i + 1))) (i + 1)
goes_on-so_far packets shift i rec_number at seen so_far next e is =
    let from = last_place (0 ∷ cuts packets i) in
    ap (λ s. so_far_next s at seen.marker) is
    ∙ (sym (more-is packets shift from i rec_number at seen next (last_place-le (is_cut packets) i))
    ∙ ap (λ places. so_far_at packets shift (last_place (0 ∷ places)) (i + 1)) (sym (cuts-other packets i e)))

-- packet i goes on with the open run
pub goes_on-next : {M : Type 0} (m : Media) (packets : List FlowPacket) (shift : Shift) (i rec_number at : ℕ) (seen : Rtp) (so_far : SoFar) (done : List Run)
    (open_run : OpenRun M)
    (judge : RunJudge M)
    → ComesNext packets shift i rec_number at seen → is_cut packets i ≡ false → IsOpen m shift packets i (cuts packets i) so_far done open_run
    → RunStandsFor m judge (so_far_next so_far at seen.marker)
    → IsOpen m shift packets (i + 1) (cuts packets (i + 1)) (so_far_next so_far at seen.marker) done (with_judge open_run judge)
goes_on-next m packets shift i rec_number at seen so_far done open_run judge next e o stands =
    let from = last_place (0 ∷ cuts packets i) in
    let order : from ≤ i = last_place-le (is_cut packets) i in
    subst (λ places. IsOpen m shift packets (i + 1) places (so_far_next so_far at seen.marker) done (with_judge open_run judge))
    (sym (cuts-other packets i e)) record {
      some = omega arith;
      rec = o.rec;
      number = o.number;
      expected = o.expected;
      judge = stands;
      so_far_is = ap (λ s. so_far_next s at seen.marker) o.so_far_is ∙ sym (more-is packets shift from i rec_number at seen next order);
      count = o.count;
      runs = o.runs;
    }

-- the run that starts with packet i
started : {M : Type 0} (m : Media) (packets : List FlowPacket) (shift : Shift) (i rec_number at : ℕ) (seen : Rtp) (places : List ℕ) (expected : Option ℕ)
    (done : List Run)
    (judge : RunJudge M)
    → ComesNext packets shift i rec_number at seen → last_place (0 ∷ places) ≡ i → expected ≡ expected_at packets i
    → RunStandsFor m judge (so_far_next (in_head 0) at seen.marker)
    → length done ≡ length places
    → ((to : ℕ) → map (run_of m) (runs_between packets shift to 0 places) ≡ done ++ run_of m (run_at packets shift (last_place (0 ∷ places)) to) ∷ [])
    → IsOpen m shift packets (i + 1) places (so_far_next (in_head 0) at seen.marker) done
    (record { rec = rec_number; number = seen.number; expected = expected; judge = judge })
started m packets shift i rec_number at seen places expected done judge next start expects stands count runs = record {
  some = omega arith;
  rec = sym next.rec ∙ ap (λ k. (packet packets k).rec) (sym start);
  number = sym (ap (λ r. (read_or_zeros r).number) next.reading) ∙ ap (λ k. (rtp packets k).number) (sym start);
  expected = expects ∙ ap (expected_at packets) (sym start);
  judge = stands;
  so_far_is =
      let fresh : so_far_next (so_far_at packets shift i i) at seen.marker ≡ so_far_next (in_head 0) at seen.marker =
      ap (λ so_far. so_far_next so_far at seen.marker) (so_far_at-start packets shift i) in
      let is : so_far_at packets shift i (i + 1) ≡ so_far_next (in_head 0) at seen.marker =
      more-is packets shift i i rec_number at seen next (omega arith) ∙ fresh in
      sym (ap (λ k. so_far_at packets shift k (i + 1)) start ∙ is);
  count = count;
  runs = runs;
}

-- a cut stands at no first packet
cut-later : (i : ℕ) (b : Bool) → (nat_lt 0 i && b) ≡ true → (i == 0) ≡ false
cut-later i b e = grind (arith, nat_tests)

expects-at : (packets : List FlowPacket) (i : ℕ) (expected : Option ℕ) → is_cut packets i ≡ true → expected ≡ cut_at packets i
    → expected ≡ expected_at packets i
expects-at packets i expected e f =
    f ∙ (ap (λ b. if b then Some (expected_number packets i) else None) e
    ∙ sym (ap (λ b. if b then None else Some (expected_number packets i)) (cut-later i _ e)))

-- the first packet of a flow starts a run
pub first-next : {M : Type 0} (m : Media) (packets : List FlowPacket) (shift : Shift) (i rec_number at : ℕ) (seen : Rtp) (expected : Option ℕ) (so_far : SoFar)
    (done : List Run)
    (judge : RunJudge M)
    → ComesNext packets shift i rec_number at seen → expected ≡ cut_at packets i
    → RunStandsFor m judge (so_far_next (in_head 0) at seen.marker)
    → OpensAt {M = M} m shift packets i so_far done None
    → OpensAt m shift packets (i + 1) (so_far_next (in_head 0) at seen.marker) done
    (Some (record { rec = rec_number; number = seen.number; expected = expected; judge = judge }))
first-next m packets shift (suc i) rec_number at seen expected so_far done judge next expects stands o = absurd (omega (arith, o.0))
first-next m packets shift zero rec_number at seen expected so_far (run ∷ done) judge next expects stands o = cc
first-next m packets shift zero rec_number at seen expected so_far [] judge next expects stands o =
    subst (λ places. IsOpen m shift packets 1 places (so_far_next (in_head 0) at seen.marker) []
    (record { rec = rec_number; number = seen.number; expected = expected; judge = judge }))
    (sym (cuts-other packets 0 refl))
    (started m packets shift 0 rec_number at seen [] expected [] judge next refl expects stands refl (λ to. refl))

-- a run by its parts
abbrev run_by : ℕ → ℕ → Option ℕ → RunVerdict → Run
run_by rec number expected verdict = record { rec = rec; number = number; expected = expected; verdict = verdict }

run-same : (a b : ℕ) (c d : ℕ) (e f : Option ℕ) (v w : RunVerdict) → a ≡ b → c ≡ d → e ≡ f → v ≡ w
    → run_by a c e v ≡ run_by b d f w
run-same a b c d e f v w p q r s = cc

-- a cut ends the open run and starts the next
pub cut-next : {M : Type 0} (m : Media) (packets : List FlowPacket) (shift : Shift) (i rec_number at : ℕ) (seen : Rtp) (expected : Option ℕ) (so_far : SoFar)
    (done : List Run)
    (open_run : OpenRun M) (verdict : RunVerdict) (judge : RunJudge M)
    → ComesNext packets shift i rec_number at seen → expected ≡ cut_at packets i
    → RunStandsFor m judge (so_far_next (in_head 0) at seen.marker)
    → verdict ≡ run_verdict_of m (outcome_of so_far)
    → is_cut packets i ≡ true
    → OpensAt m shift packets i so_far done (Some open_run)
    → OpensAt m shift packets (i + 1) (so_far_next (in_head 0) at seen.marker)
    (done ++ record { rec = open_run.rec; number = open_run.number; expected = open_run.expected; verdict = verdict } ∷ [])
    (Some (record { rec = rec_number; number = seen.number; expected = expected; judge = judge }))
cut-next m packets shift i rec_number at seen expected so_far done open_run verdict judge next expects stands says e o =
    let from = last_place (0 ∷ cuts packets i) in
    let over : Run = record { rec = open_run.rec; number = open_run.number; expected = open_run.expected; verdict = verdict } in
    let told : verdict ≡ run_verdict_of m (run_outcome packets shift from i) =
    says ∙ (ap (λ s. run_verdict_of m (outcome_of s)) o.so_far_is ∙ ap (run_verdict_of m)
    (sym (outcome-so_far packets shift from i (omega (arith, next.within))))) in
    let is : over ≡ run_of m (run_at packets shift from i) = run-same _ _ _ _ _ _ _ _ o.rec o.number o.expected told in
    let places : cuts packets (i + 1) ≡ cuts packets i ++ i ∷ [] = cuts-here packets i e in
    subst (λ places. IsOpen m shift packets (i + 1) places (so_far_next (in_head 0) at seen.marker) (done ++ over ∷ [])
    (record { rec = rec_number; number = seen.number; expected = expected; judge = judge })) (sym places)
    (started m packets shift i rec_number at seen (cuts packets i ++ i ∷ []) expected (done ++ over ∷ []) judge next (last_place-push (0 ∷ cuts packets i) i)
    (expects-at packets i expected e expects) stands
    (omega (arith, o.count, length-append done (over ∷ []), length-append (cuts packets i) (i ∷ [])))
    (λ to.
    ap (map (run_of m)) (runs_between-push packets shift to 0 i (cuts packets i))
    ∙ (map-append (run_of m) (runs_between packets shift i 0 (cuts packets i)) (run_at packets shift i to ∷ [])
    ∙ (ap (λ runs. runs ++ run_of m (run_at packets shift i to) ∷ []) (o.runs i ∙ ap (λ (x : Run). done ++ x ∷ []) (sym is))
    ∙ ap (λ k. (done ++ over ∷ []) ++ run_of m (run_at packets shift k to) ∷ []) (sym (last_place-push (0 ∷ cuts packets i) i))))))

-- an open run by its parts
abbrev open_by : {M : Type 0} → ℕ → ℕ → Option ℕ → RunJudge M → OpenRun M
open_by rec number expected judge = record { rec = rec; number = number; expected = expected; judge = judge }

open-same : {M : Type 0} (a b c d : ℕ) (e f : Option ℕ) (judge : RunJudge M) → a ≡ b → c ≡ d → e ≡ f → open_by a c e judge ≡ open_by b d f judge
open-same a b c d e f judge p q r = cc

-- what starts with packet i
pub begins-next : {M : Type 0} (m : Media) (packets : List FlowPacket) (shift : Shift) (i rec_number at : ℕ) (seen : Rtp) (expected : Option ℕ) (so_far : SoFar)
    (done new : List Run)
    (open_run : Option (OpenRun M)) (run : OpenRun M)
    → ComesNext packets shift i rec_number at seen → expected ≡ cut_at packets i → StartsAt packets i open_run
    → run.rec ≡ rec_number → run.number ≡ seen.number → run.expected ≡ expected
    → RunStandsFor m run.judge (so_far_next (in_head 0) at seen.marker)
    → IsClosed m done open_run new
    → OpensAt m shift packets i so_far done open_run
    → OpensAt m shift packets (i + 1) (so_far_next (in_head 0) at seen.marker) new (Some run)
begins-next m packets shift i rec_number at seen expected so_far done new None run next expects starts rec number expects_run stands closed o =
    subst (λ runs. OpensAt m shift packets (i + 1) (so_far_next (in_head 0) at seen.marker) runs (Some run)) (sym closed)
    (subst (λ r. OpensAt m shift packets (i + 1) (so_far_next (in_head 0) at seen.marker) done (Some r))
    (open-same _ _ _ _ _ _ _ (sym rec) (sym number) (sym expects_run))
    (first-next m packets shift i rec_number at seen expected so_far done run.judge next expects stands o))
begins-next m packets shift i rec_number at seen expected so_far done new (Some open_run) run next expects starts rec number expects_run stands closed o =
    subst (λ runs. OpensAt m shift packets (i + 1) (so_far_next (in_head 0) at seen.marker) runs (Some run)) (sym (closed _ o.judge))
    (subst (λ r. OpensAt m shift packets (i + 1) (so_far_next (in_head 0) at seen.marker)
    (done ++ run_by open_run.rec open_run.number open_run.expected (run_verdict_of m (outcome_of so_far)) ∷ []) (Some r))
    (open-same _ _ _ _ _ _ _ (sym rec) (sym number) (sym expects_run))
    (cut-next m packets shift i rec_number at seen expected so_far done open_run _ run.judge next expects stands refl starts o))

-- what starts with packet i, where the media, the shift and the marker are known by equations
pub begins-as : {M : Type 0} (m more_m : Media) (packets : List FlowPacket) (shift more_shift : Shift) (i rec_number at : ℕ) (seen : Rtp) (marker : Bool)
    (expected : Option ℕ)
    (so_far : SoFar) (done new : List Run) (open_run : Option (OpenRun M)) (run : OpenRun M)
    → more_m ≡ m → more_shift ≡ shift
    → ComesNext packets shift i rec_number at seen → expected ≡ cut_at packets i → StartsAt packets i open_run
    → run.rec ≡ rec_number → run.number ≡ seen.number → run.expected ≡ expected
    → marker ≡ seen.marker
    → RunStandsFor more_m run.judge (so_far_next (in_head 0) at marker)
    → IsClosed m done open_run new
    → OpensAt m shift packets i so_far done open_run
    → OpensAt more_m more_shift packets (i + 1) (so_far_next (in_head 0) at seen.marker) new (Some run)
begins-as m more_m packets shift more_shift i rec_number at seen marker expected so_far done new open_run run e f next expects starts rec number expects_run
    marked
    stood closed o =
    let stands = subst (λ b. RunStandsFor more_m run.judge (so_far_next (in_head 0) at b)) marked stood in
    subst (λ k. OpensAt k more_shift packets (i + 1) (so_far_next (in_head 0) at seen.marker) new (Some run)) (sym e)
    (subst (λ t. OpensAt m t packets (i + 1) (so_far_next (in_head 0) at seen.marker) new (Some run)) (sym f)
    (begins-next m packets shift i rec_number at seen expected so_far done new open_run run next expects starts rec number expects_run
    (subst (λ k. RunStandsFor k run.judge (so_far_next (in_head 0) at seen.marker)) e stands) closed o))
