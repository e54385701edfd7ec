-- Steps of a small run, worked by hand: two files, each with flows of two media, and two workers. Files, lanes and
-- media count from 0.
use Rattle.std.specs.Prelude.{List, [], ◌∷◌}
use Rattle.timing_base.specs.Keys.{key_of}
use Rattle.flow_worker.specs.World.{Step}
use Rattle.flow_worker.specs.World.Step.{posts_row, sends_next, takes_front}

-- the second worker takes a packet of the second file, one of the first, and the end of the second
abbrev pub early_steps : List Step
early_steps =
    sends_next 1 ∷ sends_next 0 ∷ sends_next 0 ∷ takes_front 1 ∷ posts_row 1 (key_of 1 1) ∷ takes_front 1
    ∷ sends_next 1 ∷ sends_next 1 ∷ takes_front 1 ∷ []

-- then it may post the result of its flow in that file, once, and the first worker may not
abbrev pub later_steps : List Step
later_steps = posts_row 0 (key_of 1 1) ∷ posts_row 1 (key_of 1 1) ∷ posts_row 1 (key_of 1 1) ∷ posts_row 1 (key_of 0 1)
    ∷ []

-- all is sent and taken, and all results are posted
abbrev pub all_steps : List Step
all_steps =
    sends_next 1 ∷ sends_next 0 ∷ sends_next 1 ∷ sends_next 0 ∷ sends_next 0 ∷ sends_next 1 ∷ sends_next 0
    ∷ takes_front 1 ∷ takes_front 0 ∷ takes_front 1 ∷ takes_front 1 ∷ posts_row 1 (key_of 1 1) ∷ takes_front 1
    ∷ posts_row 1 (key_of 0 1) ∷ takes_front 0 ∷ takes_front 0 ∷ posts_row 0 (key_of 0 0) ∷ posts_row 0 (key_of 1 0)
    ∷ []
