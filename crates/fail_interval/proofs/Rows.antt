-- A flow that ends here has its verdict.
use Rattle.std.proofs.Common.{◌≡◌, ◌≤◌, ◌<◌, ◌+◌, ℕ, Bool, true, false, List, [], ◌∷◌, ◌++◌, length, length-append, map, Option, Some, None, refl, arith, ap}
use Rattle.std.proofs.Common.{◌∙◌, sym, subst}
use Rattle.std.specs.Prelude.{◌==◌, if◌then◌else◌, IsSome, vec_len, vec_capacity}
use Rattle.std.proofs.Props.{props}
use Rattle.std.proofs.Math.Logic.{∥∥₁_elim}
use Rattle.std.proofs.lemmas.Bool.Decides.{nat_tests}
use Rattle.std.proofs.lemmas.List.{append-nil}
use Rattle.std.proofs.lemmas.List.Elements.{All-map}
use Rattle.timing_base.specs.Shifts.{Shift}
use Rattle.timing_base.specs.Flows.{FirstFault, cuts, first_fault, first_fault_below, last_place, packet}
use Rattle.timing_base.specs.Grouped.{ExpectsAfterFirst}
use Rattle.timing_base.specs.Judged.{FlowRun, RunOutcome, absent, in_one_run, in_runs, judged_as_numbered, judged_runs, refusal, refused_or, run_outcome, runs}
use Rattle.timing_base.specs.Media.{Media}
use Rattle.timing_base.specs.Rows.{AreRuns, ExpectAfterFirst}
use Rattle.timing_base.specs.declared.packet.FlowPacket.{FlowPacket}
use Rattle.timing_base.specs.declared.packet.PacketFault.{PacketFault}
use Rattle.timing_base.specs.declared.row.Run.{Run}
use Rattle.timing_base.specs.declared.row.RunVerdict.{RunVerdict}
use Rattle.timing_base.specs.declared.row.Verdict.{Verdict}
use Rattle.timing_base.specs.declared.row.Verdict.TheVariants as verdict
use Rattle.timing_base.specs.declared.row.Unjudged.TheVariants as unjudged
use Rattle.timing_base.proofs.Grouped.{few_cuts, first_expected}
use Rattle.fail_interval.specs.Flowing.{IsOpen, OpensAt, StandsFor}
use Rattle.fail_interval.specs.Row.{one_run_verdict, run_of, run_verdict_of, verdict_of}
use Rattle.fail_interval.specs.Runs.{StandsFor as RunStandsFor}
use Rattle.fail_interval.specs.SoFar.{SoFar, outcome_of, so_far_at}
use Rattle.fail_interval.specs.States.{IsRefused}
use Rattle.fail_interval.specs.declared.flow.Flow.{Flow}
use Rattle.fail_interval.specs.declared.flow.OpenRun.{OpenRun}
use Rattle.fail_interval.proofs.Runs.{outcome-so_far}

none-is : (n : ℕ) → n ≡ 0 → (n == 0) ≡ true
none-is n e = grind (arith, nat_tests)

some-is : (n : ℕ) → 0 < n → (n == 0) ≡ false
some-is n h = grind (arith, nat_tests)

-- what is judged of no packets
pub judged-none : (packets : List FlowPacket) (pt : ℕ) (shift : Shift) → length packets ≡ 0 → judged_as_numbered packets pt shift ≡ absent
judged-none packets pt shift e =
    ap (λ b. if b then absent else refused_or packets (first_fault packets pt) (judged_runs packets shift)) (none-is (length packets) e)

-- of a flow without a fault
judged-sound : (packets : List FlowPacket) (pt : ℕ) (shift : Shift) → 0 < length packets → first_fault packets pt ≡ None
    → judged_as_numbered packets pt shift ≡ judged_runs packets shift
judged-sound packets pt shift some none =
    ap (λ b. if b then absent else refused_or packets (first_fault packets pt) (judged_runs packets shift)) (some-is (length packets) some)
    ∙ ap (λ first. refused_or packets first (judged_runs packets shift)) none

-- of one without a cut
pub judged-one : (packets : List FlowPacket) (pt : ℕ) (shift : Shift) → 0 < length packets → first_fault packets pt ≡ None
    → length (cuts packets (length packets)) ≡ 0
    → judged_as_numbered packets pt shift ≡ in_one_run (run_outcome packets shift 0 (length packets))
judged-one packets pt shift some none no_cut =
    judged-sound packets pt shift some none
    ∙ ap (λ b. if b then in_one_run (run_outcome packets shift 0 (length packets)) else in_runs (runs packets shift)) (none-is _ no_cut)

-- and of one with cuts
pub judged-many : (packets : List FlowPacket) (pt : ℕ) (shift : Shift) → 0 < length packets → first_fault packets pt ≡ None
    → 0 < length (cuts packets (length packets))
    → judged_as_numbered packets pt shift ≡ in_runs (runs packets shift)
judged-many packets pt shift some none a_cut =
    judged-sound packets pt shift some none
    ∙ ap (λ b. if b then in_one_run (run_outcome packets shift 0 (length packets)) else in_runs (runs packets shift)) (some-is _ a_cut)

-- the flow has no fault
pub no_fault : {M : Type 0} (flow : Flow M) (packets : List FlowPacket) → StandsFor flow packets → first_fault packets flow.media.pt ≡ None
no_fault flow packets s = subst (λ (all : List FlowPacket). first_fault_below all flow.media.pt (length packets) ≡ None) (append-nil packets) (s.sound [])

-- and these runs
pub opens : {M : Type 0} (flow : Flow M) (packets : List FlowPacket) → (s : StandsFor flow packets)
    → OpensAt flow.media flow.shift packets (length packets) s.so_far flow.done.items flow.open
opens flow packets s =
    subst (λ (all : List FlowPacket). OpensAt flow.media flow.shift all (length packets) s.so_far flow.done.items flow.open) (append-nil packets) (s.runs [])

-- a flow that has no packet is absent
pub verdict-absent : {M : Type 0} (flow : Flow M) (packets : List FlowPacket) → flow.open ≡ None → StandsFor flow packets
    → verdict.Unjudged unjudged.Absent ≡ verdict_of flow.media (judged_as_numbered packets flow.media.pt flow.shift)
verdict-absent {M} flow packets e s =
    let o : OpensAt {M = M} flow.media flow.shift packets (length packets) s.so_far flow.done.items None =
    subst (OpensAt flow.media flow.shift packets (length packets) s.so_far flow.done.items) e (opens flow packets s) in
    sym (ap (verdict_of flow.media) (judged-none packets flow.media.pt flow.shift o.0))

pub some-open : {M : Type 0} (flow : Flow M) (packets : List FlowPacket) (open_run : OpenRun M) → flow.open ≡ Some open_run → (s : StandsFor flow packets)
    → IsOpen flow.media flow.shift packets (length packets) (cuts packets (length packets)) s.so_far flow.done.items open_run
some-open flow packets open_run e s = subst (OpensAt flow.media flow.shift packets (length packets) s.so_far flow.done.items) e (opens flow packets s)

no_places : (xs : List ℕ) → length xs ≡ 0 → xs ≡ []
no_places [] e = refl
no_places (x ∷ xs) e = absurd (omega (arith, e))

-- what the judge of the open run says
abbrev pub Says : {M : Type 0} → OpenRun M → RunVerdict → Type 0
Says open_run told = (m : Media) (so_far : SoFar) → RunStandsFor m open_run.judge so_far → told ≡ run_verdict_of m (outcome_of so_far)

-- what is told of the open run
abbrev pub Tells : {M : Type 0} → OpenRun M → Run → Type 0
Tells open_run told = (m : Media) (so_far : SoFar) → RunStandsFor m open_run.judge so_far → told ≡ record {
  rec = open_run.rec;
  number = open_run.number;
  expected = open_run.expected;
  verdict = run_verdict_of m (outcome_of so_far);
}

-- its verdict
pub verdict-told : {M : Type 0} (open_run : OpenRun M) (told : Run) → Tells open_run told → Says open_run told.verdict
verdict-told open_run told tells m so_far s = ap (λ (r : Run). r.verdict) (tells m so_far s)

-- a flow of one run
pub verdict-one : {M : Type 0} (flow : Flow M) (packets : List FlowPacket) (open_run : OpenRun M) (told : RunVerdict) (result : Verdict)
    → flow.open ≡ Some open_run
    → length flow.done.items ≡ 0
    → Says open_run told
    → ((m : Media) (outcome : RunOutcome) → told ≡ run_verdict_of m outcome → result ≡ one_run_verdict m outcome)
    → StandsFor flow packets
    → result ≡ verdict_of flow.media (judged_as_numbered packets flow.media.pt flow.shift)
verdict-one flow packets open_run told result e none says is s =
    let n = length packets in
    let o = some-open flow packets open_run e s in
    let no_cut : length (cuts packets n) ≡ 0 = omega (arith, o.count, none) in
    let from : last_place (0 ∷ cuts packets n) ≡ 0 = ap (λ places. last_place (0 ∷ places)) (no_places _ no_cut) in
    let outcome : outcome_of s.so_far ≡ run_outcome packets flow.shift 0 n =
    ap outcome_of (o.so_far_is ∙ ap (λ k. so_far_at packets flow.shift k n) from) ∙ sym (outcome-so_far packets flow.shift 0 n (omega arith)) in
    is flow.media _ (says flow.media s.so_far o.judge)
    ∙ (ap (one_run_verdict flow.media) outcome
    ∙ sym (ap (verdict_of flow.media) (judged-one packets flow.media.pt flow.shift o.some (no_fault flow packets s) no_cut)))

-- a run by its parts
abbrev run_by : ℕ → ℕ → Option ℕ → RunVerdict → Run
run_by rec number expected told = record { rec = rec; number = number; expected = expected; verdict = told }

run-same : (a b c d : ℕ) (e f : Option ℕ) (v w : RunVerdict) → a ≡ b → c ≡ d → e ≡ f → v ≡ w → run_by a c e v ≡ run_by b d f w
run-same a b c d e f v w p q r s = cc

-- the runs of a flow with cuts, with the open one at the end
pub all-runs : {M : Type 0} (flow : Flow M) (packets : List FlowPacket) (open_run : OpenRun M) (told : Run) → flow.open ≡ Some open_run
    → Tells open_run told
    → StandsFor flow packets
    → flow.done.items ++ told ∷ [] ≡ map (run_of flow.media) (runs packets flow.shift)
all-runs flow packets open_run told e tells s =
    let n = length packets in
    let o = some-open flow packets open_run e s in
    let from = last_place (0 ∷ cuts packets n) in
    let outcome : outcome_of s.so_far ≡ run_outcome packets flow.shift from n =
    ap outcome_of o.so_far_is ∙ sym (outcome-so_far packets flow.shift from n (omega arith)) in
    ap (λ (x : Run). flow.done.items ++ x ∷ [])
    (tells flow.media s.so_far o.judge ∙ run-same _ _ _ _ _ _ _ _ o.rec o.number o.expected (ap (run_verdict_of flow.media) outcome))
    ∙ sym (o.runs n)

-- a flow of several runs
pub verdict-many : {M : Type 0} (flow : Flow M) (packets : List FlowPacket) (open_run : OpenRun M) (told : Run) (list : List Run) → flow.open ≡ Some open_run
    → 0 < length flow.done.items
    → Tells open_run told
    → list ≡ flow.done.items ++ told ∷ []
    → StandsFor flow packets
    → verdict.Runs list ≡ verdict_of flow.media (judged_as_numbered packets flow.media.pt flow.shift)
verdict-many flow packets open_run told list e some says is s =
    let o = some-open flow packets open_run e s in
    ap verdict.Runs (is ∙ all-runs flow packets open_run told e says s)
    ∙ sym (ap (verdict_of flow.media) (judged-many packets flow.media.pt flow.shift o.some (no_fault flow packets s) (omega (arith, o.count, some))))

expects-map : (m : Media) (runs : List FlowRun) → ExpectsAfterFirst runs → ExpectAfterFirst (map (run_of m) runs)
expects-map m [] e = tt
expects-map m (run ∷ rest) e = (e.0, All-map (λ (later : Run). IsSome later.expected) (run_of m) rest e.1)

-- they are as many as a flow may have
are-runs : {M : Type 0} (flow : Flow M) (packets : List FlowPacket) (open_run : OpenRun M) (told : Run) (list : List Run) → flow.open ≡ Some open_run
    → 0 < length flow.done.items
    → Tells open_run told
    → list ≡ flow.done.items ++ told ∷ []
    → StandsFor flow packets
    → AreRuns list
are-runs flow packets open_run told list e some says is s =
    let n = length packets in
    let o = some-open flow packets open_run e s in
    let few = few_cuts packets flow.media.pt (no_fault flow packets s) n (omega arith) in
    let long : length list ≡ length flow.done.items + 1 =
    ap length is ∙ length-append flow.done.items (told ∷ []) in
    record {
      some = omega (arith, long, some);
      few = omega (arith, long, o.count, few.few);
      expected = subst ExpectAfterFirst (sym (is ∙ all-runs flow packets open_run told e says s))
          (expects-map flow.media (runs packets flow.shift) (first_expected packets flow.shift n (cuts packets n) few.later));
    }

expect-prop : (list : List Run) → IsProp (ExpectAfterFirst list)
expect-prop [] = hlevel props
expect-prop (run ∷ rest) = hlevel props

-- whatever packets they are of
pub are-runs-known : {M : Type 0} (flow : Flow M) (open_run : OpenRun M) (told : Run) (list : List Run) → flow.open ≡ Some open_run → 0 < length flow.done.items
    → Tells open_run told
    → list ≡ flow.done.items ++ told ∷ []
    → ∥ ((packets : List FlowPacket) × StandsFor flow packets) ∥₁
    → AreRuns list
are-runs-known flow open_run told list e some says is known =
    ∥∥₁_elim known (hlevel (props, expect-prop)) (λ (packets, s). are-runs flow packets open_run told list e some says is s)

-- there is room for the open run
pub room-known : {M : Type 0} (flow : Flow M) → ∥ ((packets : List FlowPacket) × StandsFor flow packets) ∥₁ → 1 ≤ vec_len flow.done
    → vec_len flow.done < vec_capacity flow.done
room-known flow known some = ∥∥₁_elim known (hlevel props) (λ (packets, s). s.room some)

-- a list after a push that found room
pub pushed : (found : Bool) (list before more : List Run) → found ≡ true → list ≡ (if found then more else before) → list ≡ more
pushed true list before more e is = is
pushed false list before more e is = cc

-- tests of a length
pub none-there : (n len : ℕ) → n ≡ len → true ≡ (n == 0) → len ≡ 0
none-there n len e t = grind (arith, nat_tests)

pub some-there : (n len : ℕ) → n ≡ len → false ≡ (n == 0) → 0 < len
some-there n len e t = grind (arith, nat_tests)

some-packets : (packets : List FlowPacket) (pt : ℕ) (x : FirstFault) → first_fault packets pt ≡ Some x → 0 < length packets
some-packets [] pt x e = cc
some-packets (p ∷ packets) pt x e = omega arith

-- the row of a flow with a fault
pub refused-verdict : (m : Media) (shift : Shift) (packets : List FlowPacket) (rec : ℕ) (fault : PacketFault) → IsRefused m packets rec fault
    → judged_as_numbered packets m.pt shift ≡ refusal rec fault
refused-verdict m shift packets rec fault r =
    let first : first_fault packets m.pt ≡ Some (record { index = r.index; fault = fault }) =
    subst (λ (all : List FlowPacket). first_fault_below all m.pt (length packets) ≡ Some (record { index = r.index; fault = fault })) (append-nil packets)
    (r.first []) in
    let rec_is : (packet packets r.index).rec ≡ rec = subst (λ (all : List FlowPacket). (packet all r.index).rec ≡ rec) (append-nil packets) (r.rec_is []) in
    ap (λ b. if b then absent else refused_or packets (first_fault packets m.pt) (judged_runs packets shift))
    (some-is (length packets) (some-packets packets m.pt _ first))
    ∙ (ap (λ f. refused_or packets f (judged_runs packets shift)) first
    ∙ ap (λ k. refusal k fault) rec_is)
