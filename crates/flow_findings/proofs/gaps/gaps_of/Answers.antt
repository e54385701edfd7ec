use Rattle.std.proofs.Common.{◌≤◌, ◌∷◌, [], ℕ, List, length, Option, Some, None, Result, Ok, Err, IfOk, ap, rules, arith, length-append}
use Rattle.std.specs.List.{flat_map}
use Rattle.timing_base.specs.declared.row.Run.{Run}
use Rattle.flow_findings.specs.Gaps.{gap_before}
use Rattle.flow_findings.proofs.gaps.gaps_of.Goals as goal

-- what is so of a value, if there is one
if-ok : {T E : Type 0} {P Q : T → Type 0} (result : Result T E) → ((x : T) → P x → Q x) → IfOk result P → IfOk result Q
if-ok (Ok x) step h = step x h
if-ok (Err e) step h = tt

-- before a run there is at most one gap
one-gap : (number : ℕ) (expected : Option ℕ) → length (gap_before number expected) ≤ 1
one-gap number None = omega arith
one-gap number (Some expected) = omega arith

-- so there are no more gaps than runs
few-gaps : (runs : List Run) → length (flat_map (λ (run : Run). gap_before run.number run.expected) runs) ≤ length runs
few-gaps [] = omega arith
few-gaps (run ∷ runs) =
    let here = gap_before run.number run.expected in
    omega
    (arith, one-gap run.number run.expected, few-gaps runs, length-append here (flat_map (λ (run : Run). gap_before run.number run.expected) runs))

pub returns-in-Runs-clause-few : goal.returns-in-Runs-clause-few
returns-in-Runs-clause-few c =
    let few : length c.as_slice.result.now ≤ 1025 = search rules in
    if-ok c.gaps_between.result (λ gaps same. omega (arith, few, ap length same, few-gaps c.as_slice.result.now)) c.gaps_between.ensures
