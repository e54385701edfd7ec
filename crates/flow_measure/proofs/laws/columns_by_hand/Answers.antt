use Rattle.std.proofs.Common.{◌/◌, ◌%◌, ℕ, pos, negsuc, ◌∷◌, [], refl}
use Rattle.flow_measure.specs.Columns.{AreExtremes, column_at, places_in, strip_of, width_of}
use Rattle.flow_measure.specs.Worked.{column, listed}
use Rattle.flow_measure.proofs.ByHand.{each-two, extremes-by, within-by}
use Rattle.flow_measure.proofs.laws.columns_by_hand.Goals as goal

pub returns-clause-curve : goal.returns-clause-curve
unfolding width_of
returns-clause-curve c =
    let numbers = listed (pos 3 ∷ negsuc 4 ∷ pos 4 ∷ pos 2 ∷ pos 0 ∷ []) in
    let columns = column (negsuc 4) (pos 4) ∷ column (pos 0) (pos 0) ∷ [] in
    let column_of = λ (i : ℕ). i / width_of 5 2 in
    record {
      within = within-by column_of 5 2 refl;
      each = each-two (λ k. AreExtremes numbers (places_in column_of 5 k) (column_at columns k))
          (extremes-by column_of numbers 5 0 1 2 (column (negsuc 4) (pos 4)) refl refl refl refl refl refl refl refl)
          (extremes-by column_of numbers 5 1 4 4 (column (pos 0) (pos 0)) refl refl refl refl refl refl refl refl);
    }

pub returns-clause-eye : goal.returns-clause-eye
returns-clause-eye c =
    let numbers = listed (pos 3 ∷ negsuc 4 ∷ pos 4 ∷ pos 2 ∷ []) in
    let columns = column (pos 3) (pos 4) ∷ column (negsuc 4) (pos 2) ∷ [] in
    let column_of = λ (i : ℕ). (i % 2) / strip_of 2 2 in
    record {
      within = within-by column_of 4 2 refl;
      each = each-two (λ k. AreExtremes numbers (places_in column_of 4 k) (column_at columns k))
          (extremes-by column_of numbers 4 0 0 2 (column (pos 3) (pos 4)) refl refl refl refl refl refl refl refl)
          (extremes-by column_of numbers 4 1 1 3 (column (negsuc 4) (pos 2)) refl refl refl refl refl refl refl refl);
    }
