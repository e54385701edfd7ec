use Rattle.std.proofs.Common.{pos, negsuc, ◌∷◌, [], refl, arith}
use Rattle.flow_measure.specs.Worked.{listed}
use Rattle.flow_measure.proofs.ByHand.{greatest-by, least-by}
use Rattle.flow_measure.proofs.laws.summaries_by_hand.Goals as goal

pub returns-clause-five : goal.returns-clause-five
returns-clause-five c =
    let numbers = listed (pos 3 ∷ negsuc 4 ∷ pos 4 ∷ pos 4 ∷ pos 0 ∷ []) in
    record {
      some = omega arith;
      least = least-by numbers 5 1 (negsuc 4) refl refl refl;
      greatest = greatest-by numbers 5 2 (pos 4) refl refl refl;
      sum_is = refl;
      first = refl;
      last = refl;
    }

pub returns-clause-four : goal.returns-clause-four
returns-clause-four c =
    let numbers = listed (pos 3 ∷ negsuc 4 ∷ pos 4 ∷ pos 4 ∷ pos 0 ∷ []) in
    record {
      some = omega arith;
      least = least-by numbers 4 1 (negsuc 4) refl refl refl;
      greatest = greatest-by numbers 4 2 (pos 4) refl refl refl;
      sum_is = refl;
      first = refl;
      last = refl;
    }

pub returns-clause-one : goal.returns-clause-one
returns-clause-one c =
    let numbers = listed (negsuc 4 ∷ []) in
    record {
      some = omega arith;
      least = least-by numbers 1 0 (negsuc 4) refl refl refl;
      greatest = greatest-by numbers 1 0 (negsuc 4) refl refl refl;
      sum_is = refl;
      first = refl;
      last = refl;
    }
