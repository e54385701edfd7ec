use Rattle.std.proofs.Common.{refl}
use Rattle.std.proofs.lemmas.Int.{to_z-of_z}
use Rattle.read_schedule.proofs.grid.Grid.of.Goals as goal

pub returns : goal.returns
returns c =
    let fits = c.ranges.n0 in
    simp to_z-of_z at (c.begun.ensures.with refl)
