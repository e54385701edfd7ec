-- Places of a list.
use Rattle.std.proofs.Common.{◌≡◌, ◌<◌, ◌++◌, ◌∷◌, ℕ, zero, suc, List, [], drop, length, take, ap, arith}
use Rattle.std.specs.Prelude.{All}
use Rattle.std.specs.List.{slice_index_or}
use Rattle.std.proofs.lemmas.List.Elements.{All-head, All-tail}
use Rattle.flow_measure.specs.declared.numbers.MeasuredRun.{MeasuredRun}
use Rattle.run_meter.specs.Runs.{JudgedPart}

-- what holds of all holds of one
pub part-at : (P : JudgedPart → Type 0) (before after : List JudgedPart) (part : JudgedPart) → All P (before ++ part ∷ after) → P part
part-at P [] after part h = All-head P part after h
part-at P (p ∷ before) after part h = part-at P before after part (All-tail P p (before ++ part ∷ after) h)

-- a list, cut at one of its items
pub cut-at : (runs : List MeasuredRun) (k : ℕ) (run : MeasuredRun) → k < length runs → slice_index_or runs k run ≡ run
    → runs ≡ take k runs ++ run ∷ drop (suc k) runs
cut-at [] k run within at = absurd (omega (arith, within))
cut-at (r ∷ runs) zero run within at = ap (λ (x : MeasuredRun). x ∷ runs) at
cut-at (r ∷ runs) (suc k) run within at = ap (λ l. r ∷ l) (cut-at runs k run (omega (arith, within)) at)
