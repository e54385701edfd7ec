-- Examples of levels and violations worked by hand.
use Rattle.std.specs.Prelude.{ℕ, ℤ, pos, List, [], ◌∷◌}
use Rattle.timing_base.specs.declared.fail.Broken.TheVariants.{Bucket}
use Rattle.timing_base.specs.declared.fail.FailProof.{FailProof}
use Rattle.flow_measure.specs.Worked.{column, listed}
use Rattle.flow_measure.specs.declared.columns.Extremes.{Extremes}

-- the levels just after four packets
abbrev pub held : ℕ → ℤ
held = listed (pos 1 ∷ pos 2 ∷ pos 1 ∷ pos 3 ∷ [])

-- their columns, one for each packet
abbrev pub each_packet : List Extremes
each_packet =
    column (pos 1) (pos 1) ∷ column (pos 2) (pos 2) ∷ column (pos 1) (pos 1) ∷ column (pos 3) (pos 3) ∷ []

-- their columns, with frames of two packets overlaid
abbrev pub laid_over : List Extremes
laid_over = column (pos 1) (pos 1) ∷ column (pos 2) (pos 3) ∷ []

-- a violation in the second frame, by a burst of five packets
abbrev pub burst_proof : FailProof
burst_proof = record { model = Bucket; from = 20; to = 24; count = 5; limit = 4 }

-- a violation with a long interval, in the middle of a run
abbrev pub later_proof : FailProof
later_proof = record { model = Bucket; from = 100; to = 1000; count = 201; limit = 4 }
