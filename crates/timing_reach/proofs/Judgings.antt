-- A flow that is judged in one run: its markers, and its judged packets.
use Rattle.std.proofs.Common.{◌≡◌, ◌≤◌, ◌+◌, ◌-◌, ℕ, Bool, true, false, if◌then◌else◌, nat_lt, List, length, map, take, drop, min, Option}
use Rattle.std.proofs.Common.{Some, None, refl, arith, ap, ◌∙◌, sym, subst}
use Rattle.std.specs.Prelude.{◌==◌, ◌++◌, slice_index, ⊤}
use Rattle.std.proofs.lemmas.Bool.Decides.{nat_tests}
use Rattle.std.proofs.lemmas.List.{length-drop, length-map, length-take}
use Rattle.timing_base.specs.Shifts.{FlowOptions, Shift}
use Rattle.timing_base.specs.Captures.{Record}
use Rattle.timing_base.specs.Flows.{FirstFault, cuts, first_fault, last_place, markers, packet}
use Rattle.timing_base.specs.Judged.{FlowRun, FlowVerdict, JudgedRun, RunOutcome, absent, gap, head_len, in_one_run, in_runs, judged_as_numbered, judged_run}
use Rattle.timing_base.specs.Judged.{no_whole_frame, refusal, refused, refused_or, run_outcome, runs, stamp_of, whole_frames}
use Rattle.timing_base.specs.Media.{Media}
use Rattle.timing_base.specs.Verdicts.{Judged}
use Rattle.timing_base.specs.declared.key.FlowKey.{FlowKey}
use Rattle.timing_base.specs.declared.packet.FlowPacket.{FlowPacket}
use Rattle.timing_base.specs.declared.packet.PacketFault.{PacketFault}
use Rattle.timing_base.specs.declared.packet.PacketFault.TheVariants.{Number}
use Rattle.timing_base.specs.declared.row.Verdict.{Verdict}
use Rattle.timing_base.specs.declared.row.Verdict.TheVariants as verdict
use Rattle.fail_interval.specs.BankStands.{Judging}
use Rattle.fail_interval.specs.Meterings.{Feeds}
use Rattle.fail_interval.specs.Row.{judged_values, verdict_of}
use Rattle.fail_interval.specs.Stands.{StandsFor}
use Rattle.udp_rtp.specs.Flow.{flow}
use Rattle.timing_reach.proofs.Gauges.{take-again}

-- of one run
abbrev IsOne : RunOutcome → FlowVerdict → Type 0
IsOne o (in_one_run x) = x ≡ o
IsOne o absent = ⊥
IsOne o (refused rec fault) = ⊥
IsOne o (gap rec expected got) = ⊥
IsOne o (in_runs runs) = ⊥

refused-not : (o : RunOutcome) (rec : ℕ) (fault : PacketFault) → IsOne o (refusal rec fault) → ⊥
refused-not o rec (Number expected got) h = h
refused-not o rec fault h = h

one-of : (o : RunOutcome) (packets : List FlowPacket) (b c : Bool) (first : Option FirstFault) (out : RunOutcome) (all : List FlowRun)
    → IsOne o (if b then absent else refused_or packets first (if c then in_one_run out else in_runs all)) → out ≡ o
one-of o packets true c first out all h = absurd h
one-of o packets false c (Some first) out all h = absurd (refused-not o (packet packets first.index).rec first.fault h)
one-of o packets false true None out all h = h
one-of o packets false false None out all h = absurd h

-- of whole frames
abbrev IsWhole : JudgedRun → RunOutcome → Type 0
IsWhole run (no_whole_frame head) = ⊥
IsWhole run (whole_frames x) = x ≡ run

not_few : (n : ℕ) → nat_lt n 2 ≡ false → 2 ≤ n
not_few n e = grind (arith, nat_tests)

-- the run goes over all packets, and has two markers or more
pub record IsOneRun (packets : List FlowPacket) (shift : Shift) (run : JudgedRun) : Type 0 where
  pub marked : 2 ≤ length (markers packets 0 (length packets))
  pub run_is : judged_run packets shift 0 (length packets) ≡ run

whole-of : (packets : List FlowPacket) (shift : Shift) (head : ℕ) (run : JudgedRun) (b : Bool) → nat_lt (length (markers packets 0 (length packets))) 2 ≡ b
    → IsWhole run (if b then no_whole_frame head else whole_frames (judged_run packets shift 0 (length packets))) → IsOneRun packets shift run
whole-of packets shift head run true e h = absurd h
whole-of packets shift head run false e h = record { marked = not_few _ e; run_is = h }

-- what comes of the run
pub run-of : (packets : List FlowPacket) (pt : ℕ) (shift : Shift) (run : JudgedRun) → judged_as_numbered packets pt shift ≡ in_one_run (whole_frames run)
    → run_outcome packets shift 0 (length packets) ≡ whole_frames run
run-of packets pt shift run e =
    one-of (whole_frames run) packets (length packets == 0) (length (cuts packets (length packets)) == 0) (first_fault packets pt)
    (run_outcome packets shift 0 (length packets)) (runs packets shift)
    (subst (IsOne (whole_frames run)) (sym e) refl)

pub one-run : (packets : List FlowPacket) (pt : ℕ) (shift : Shift) (run : JudgedRun) → judged_as_numbered packets pt shift ≡ in_one_run (whole_frames run)
    → IsOneRun packets shift run
one-run packets pt shift run e =
    let out = run-of packets pt shift run e in
    whole-of packets shift (head_len (markers packets 0 (length packets)) 0 (length packets)) run (nat_lt (length (markers packets 0 (length packets))) 2) refl
    (subst (IsWhole run) (sym out) refl)

-- a verdict on judged packets is of one run of whole frames
abbrev IsValues : Judged → Verdict → Type 0
IsValues j (verdict.Judged x) = x ≡ j
IsValues j (verdict.Unjudged why) = ⊥
IsValues j (verdict.Runs runs) = ⊥

abbrev HasRun : Media → Judged → FlowVerdict → Type 0
HasRun m j v = (run : JudgedRun) × (v ≡ in_one_run (whole_frames run)) × (judged_values m run ≡ j)

has-run : (m : Media) (j : Judged) (v : FlowVerdict) → IsValues j (verdict_of m v) → HasRun m j v
has-run m j absent h = absurd h
has-run m j (refused rec fault) h = absurd h
has-run m j (gap rec expected got) h = absurd h
has-run m j (in_one_run (no_whole_frame head)) h = absurd h
has-run m j (in_one_run (whole_frames run)) h = (run, refl, h)
has-run m j (in_runs runs) h = absurd h

pub judged-of : (m : Media) (j : Judged) (v : FlowVerdict) (seen : Verdict) → seen ≡ verdict_of m v → seen ≡ verdict.Judged j → HasRun m j v
judged-of m j v seen e is = has-run m j v (subst (IsValues j) (sym is ∙ e) refl)

-- the judged packets stand behind the head, and are all there
pub record IsWithin (packets : List FlowPacket) (shift : Shift) (run : JudgedRun) : Type 0 where
  pub few : length run.stamps ≤ length packets - run.head
  pub stamps_are : map (stamp_of shift) (take (length run.stamps) (drop run.head packets)) ≡ run.stamps

pub head-some : (marks : List ℕ) (to : ℕ) → 2 ≤ length marks → head_len marks 0 to ≡ slice_index marks 0 + 1
head-some marks to h =
    let some : (length marks == 0) ≡ false = grind (arith, nat_tests) in
    ap (λ b. if b then to - 0 else slice_index marks 0 + 1 - 0) some ∙ omega arith

pub within-run : (packets : List FlowPacket) (shift : Shift) (run : JudgedRun) → IsOneRun packets shift run → IsWithin packets shift run
within-run packets shift run one =
    let marks = markers packets 0 (length packets) in
    let k = last_place marks + 1 - (slice_index marks 0 + 1) in
    let head : run.head ≡ slice_index marks 0 + 1 = ap (λ (x : JudgedRun). x.head) (sym one.run_is) ∙ head-some marks (length packets) one.marked in
    let stamps : run.stamps ≡ map (stamp_of shift) (take k (drop run.head packets)) =
    ap (λ (x : JudgedRun). x.stamps) (sym one.run_is) ∙ ap (λ h. map (stamp_of shift) (take k (drop h packets))) (sym head) in
    let part = take k (drop run.head packets) in
    let same : length run.stamps ≡ length part = ap length stamps ∙ length-map part (stamp_of shift) in
    let long : length part ≡ min k (length (drop run.head packets)) = length-take k (drop run.head packets) in
    let rest : length (drop run.head packets) ≡ length packets - run.head = length-drop run.head packets in
    record {
      few = omega (arith, same, long, rest);
      stamps_are = ap (λ n. map (stamp_of shift) (take n (drop run.head packets))) same ∙ ap (map (stamp_of shift)) (take-again k (drop run.head packets))
          ∙ sym stamps;
    }

-- a judge without a meter takes the flow of a media
abbrev pub JudgeTakes : Media → (old new : Judging) → List Record → Type 0
JudgeTakes m old new items = Feeds {Past = Unit {0}} false (λ _ _ _ _ _ _. ⊤) (λ _ _ _ _ _ _. ⊤) m old new items

pub judge-took : (m : Media) (key : FlowKey) (options : FlowOptions) (old new : Judging) (items : List Record) (packets : List FlowPacket)
    → JudgeTakes m old new items
    → StandsFor m key options old.judge packets → StandsFor m key options new.judge (packets ++ flow items m)
judge-took m key options old new items packets takes s = (takes tt key options packets (record { judge_is = s; told = λ wanted. cc })).judge_is
