-- The fails of a flow's row are confirmed by what its packets are judged to be.
use Rattle.std.proofs.Common.{◌≡◌, ◌≤◌, ◌+◌, ℕ, zero, suc, true, List, [], ◌∷◌, refl, arith, sym, subst}
use Rattle.std.proofs.lemmas.List.Elements.{All-append, All-cons, All-head, All-nil, All-tail, All-weaker}
use Rattle.std.specs.Prelude.{All, Ok, map}
use Rattle.timing_base.specs.Grouped.{IsGrouped, IsGroupedOutcome, IsGroupedVerdict}
use Rattle.timing_base.specs.Judged.{FlowRun, FlowVerdict, JudgedRun, RunOutcome, absent, gap, in_one_run, in_runs, no_whole_frame, refused, whole_frames}
use Rattle.timing_base.specs.Media.{IsMedia, Media}
use Rattle.timing_base.specs.declared.key.FlowKey.{FlowKey}
use Rattle.timing_base.specs.declared.media.Kind.{Kind}
use Rattle.timing_base.specs.declared.media.Kind.TheVariants.{N, NL, W}
use Rattle.timing_base.specs.declared.row.KindVerdict.{KindVerdict}
use Rattle.timing_base.specs.declared.row.KindVerdict.TheVariants.{Pass, Fail}
use Rattle.sender_params.specs.Keeps.{Confirms}
use Rattle.sender_params.specs.Ticks.{NeverFall}
use Rattle.fail_interval.specs.Fails.{kind_verdict}
use Rattle.fail_interval.specs.Row.{judged_values, run_of, run_verdict_of, verdict_of}
use Rattle.fail_interval.proofs.Confirmed.{fail-confirms}
use Rattle.interval_checker.specs.Checked.{Says, SaysAt}
use Rattle.timing_report.specs.json_report.Fails.{fail_of, judged_fails, run_fails, runs_fails, verdict_fails}
use Rattle.timing_report.specs.json_report.Reading.{told}
use Rattle.timing_report.specs.declared.json_report.reading.ReportProof.{ReportProof}

-- a fail of this run of this flow, which its judged packets confirm
record IsOf (m : Media) (n : ℕ) (stamps : List ℕ) (key : FlowKey) (run : ℕ) (c : ReportProof) : Type 0 where
  key_is : c.key ≡ key
  run_is : c.run ≡ run
  confirms : Confirms m n stamps c.kind c.proof

-- what a type tells is confirmed
told-of : (m : Media) (n : ℕ) (stamps : List ℕ) (key : FlowKey) (run : ℕ) (kind : Kind) (v : KindVerdict) → IsMedia m → 1 ≤ n → NeverFall stamps
    → kind_verdict m n stamps kind ≡ v → All (IsOf m n stamps key run) (told key run kind (fail_of v))
told-of m n stamps key run kind Pass is some falls e = All-nil (IsOf m n stamps key run)
told-of m n stamps key run kind (Fail f) is some falls e =
    All-cons (IsOf m n stamps key run) (record { key = key; run = run; kind = kind; proof = f }) []
    (record { key_is = refl; run_is = refl; confirms = fail-confirms m n stamps kind f is some falls e }) (All-nil (IsOf m n stamps key run))

-- what a judged run tells
judged-of : (m : Media) (j : JudgedRun) (key : FlowKey) (run : ℕ) → IsMedia m → IsGrouped j
    → All (IsOf m j.n j.stamps key run) (judged_fails key run (judged_values m j))
judged-of m j key run is g =
    let P = IsOf m j.n j.stamps key run in
    let falls : NeverFall j.stamps = λ a b order below. g.rising a b 0 order below in
    let of : (kind : Kind) → All P (told key run kind (fail_of (kind_verdict m j.n j.stamps kind))) =
    λ kind. told-of m j.n j.stamps key run kind (kind_verdict m j.n j.stamps kind) is g.some falls refl in
    All-append P (told key run N (fail_of (kind_verdict m j.n j.stamps N))) _ (of N)
    (All-append P (told key run NL (fail_of (kind_verdict m j.n j.stamps NL))) _ (of NL)
    (All-append P (told key run W (fail_of (kind_verdict m j.n j.stamps W))) [] (of W) (All-nil P)))

-- a fail of one of these runs, of which the first has this number, and what is said of it
record IsOfRuns (m : Media) (key : FlowKey) (index : ℕ) (outcomes : List RunOutcome) (c : ReportProof) : Type 0 where
  key_is : c.key ≡ key
  place : ℕ
  run_is : c.run ≡ index + place
  says : SaysAt m c.kind c.proof outcomes place (Ok true)

first-of : (m : Media) (key : FlowKey) (index : ℕ) (outcome : RunOutcome) (rest : List RunOutcome) → IsMedia m → IsGroupedOutcome outcome
    → All (IsOfRuns m key index (outcome ∷ rest)) (run_fails key index (run_verdict_of m outcome))
first-of m key index (no_whole_frame head) rest is g = All-nil (IsOfRuns m key index (no_whole_frame head ∷ rest))
first-of m key index (whole_frames j) rest is g =
    All-weaker (IsOf m j.n j.stamps key index) (IsOfRuns m key index (whole_frames j ∷ rest))
    (λ c h. record { key_is = h.key_is; place = zero; run_is = omega (arith, h.run_is); says = h.confirms })
    (judged_fails key index (judged_values m j)) (judged-of m j key index is g)

-- what runs tell
runs-of : (m : Media) (key : FlowKey) (index : ℕ) (runs : List FlowRun) → IsMedia m → All (λ run. IsGroupedOutcome run.outcome) runs
    → All (IsOfRuns m key index (map (λ r. r.outcome) runs)) (runs_fails key index (map (run_of m) runs))
runs-of m key index [] is g = All-nil (IsOfRuns m key index [])
runs-of m key index (r ∷ rs) is g =
    let all = map (λ (r : FlowRun). r.outcome) (r ∷ rs) in
    All-append (IsOfRuns m key index all) (run_fails key index (run_verdict_of m r.outcome)) (runs_fails key (index + 1) (map (run_of m) rs))
    (first-of m key index r.outcome (map (λ (r : FlowRun). r.outcome) rs) is (All-head (λ (run : FlowRun). IsGroupedOutcome run.outcome) r rs g))
    (All-weaker (IsOfRuns m key (index + 1) (map (λ (r : FlowRun). r.outcome) rs)) (IsOfRuns m key index all)
    (λ c h. record { key_is = h.key_is; place = suc h.place; run_is = omega (arith, h.run_is); says = h.says })
    (runs_fails key (index + 1) (map (run_of m) rs))
    (runs-of m key (index + 1) rs is (All-tail (λ (run : FlowRun). IsGroupedOutcome run.outcome) r rs g)))

-- a fail of this flow, which what is judged of it confirms
pub record IsOfFlow (m : Media) (key : FlowKey) (v : FlowVerdict) (c : ReportProof) : Type 0 where
  pub key_is : c.key ≡ key
  pub says : Says m c.kind c.proof c.run v (Ok true)

one-of : (m : Media) (key : FlowKey) (outcome : RunOutcome) → IsMedia m → IsGroupedOutcome outcome
    → All (IsOfFlow m key (in_one_run outcome)) (verdict_fails key (verdict_of m (in_one_run outcome)))
one-of m key (no_whole_frame head) is g = All-nil (IsOfFlow m key (in_one_run (no_whole_frame head)))
one-of m key (whole_frames j) is g =
    All-weaker (IsOf m j.n j.stamps key 0) (IsOfFlow m key (in_one_run (whole_frames j)))
    (λ c h. record { key_is = h.key_is; says = subst (λ run. SaysAt m c.kind c.proof (whole_frames j ∷ []) run (Ok true)) (sym h.run_is) h.confirms })
    (judged_fails key 0 (judged_values m j)) (judged-of m j key 0 is g)

-- what the row of a flow tells
pub flow-of : (m : Media) (key : FlowKey) (v : FlowVerdict) → IsMedia m → IsGroupedVerdict v → All (IsOfFlow m key v) (verdict_fails key (verdict_of m v))
flow-of m key absent is g = All-nil (IsOfFlow m key absent)
flow-of m key (refused rec fault) is g = All-nil (IsOfFlow m key (refused rec fault))
flow-of m key (gap rec expected got) is g = All-nil (IsOfFlow m key (gap rec expected got))
flow-of m key (in_one_run outcome) is g = one-of m key outcome is g
flow-of m key (in_runs runs) is g =
    let outcomes = map (λ (r : FlowRun). r.outcome) runs in
    All-weaker (IsOfRuns m key 0 outcomes) (IsOfFlow m key (in_runs runs))
    (λ c h. let e : c.run ≡ h.place = omega (arith, h.run_is) in
    record { key_is = h.key_is; says = subst (λ run. SaysAt m c.kind c.proof outcomes run (Ok true)) (sym e) h.says })
    (runs_fails key 0 (map (run_of m) runs)) (runs-of m key 0 runs is g.outcomes)
