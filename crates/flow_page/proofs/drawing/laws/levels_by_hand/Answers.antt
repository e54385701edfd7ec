use Rattle.std.proofs.Common.{◌/◌, ◌%◌, ℕ, pos, refl}
use Rattle.flow_measure.specs.Columns.{AreExtremes, column_at, places_in, strip_of, width_of}
use Rattle.flow_measure.specs.Worked.{column}
use Rattle.flow_measure.proofs.ByHand.{each-two, extremes-by, within-by}
use Rattle.flow_page.specs.drawing.Worked.{each_packet, held, laid_over}
use Rattle.flow_page.proofs.lemmas.drawing.ByHand.{each-four}
use Rattle.flow_page.proofs.drawing.laws.levels_by_hand.Goals as goal

pub returns : goal.returns
unfolding width_of
returns c =
    let curve_of = λ (i : ℕ). i / width_of 4 1000 in
    let eye_of = λ (i : ℕ). (i % 2) / strip_of 2 500 in
    record {
      curve_is = record {
        within = within-by curve_of 4 4 refl;
        each = each-four (λ k. AreExtremes held (places_in curve_of 4 k) (column_at each_packet k))
            (extremes-by curve_of held 4 0 0 0 (column (pos 1) (pos 1)) refl refl refl refl refl refl refl refl)
            (extremes-by curve_of held 4 1 1 1 (column (pos 2) (pos 2)) refl refl refl refl refl refl refl refl)
            (extremes-by curve_of held 4 2 2 2 (column (pos 1) (pos 1)) refl refl refl refl refl refl refl refl)
            (extremes-by curve_of held 4 3 3 3 (column (pos 3) (pos 3)) refl refl refl refl refl refl refl refl);
      };
      eye_is = record {
        within = within-by eye_of 4 2 refl;
        each = each-two (λ k. AreExtremes held (places_in eye_of 4 k) (column_at laid_over k))
            (extremes-by eye_of held 4 0 0 2 (column (pos 1) (pos 1)) refl refl refl refl refl refl refl refl)
            (extremes-by eye_of held 4 1 1 3 (column (pos 2) (pos 3)) refl refl refl refl refl refl refl refl);
      };
    }
