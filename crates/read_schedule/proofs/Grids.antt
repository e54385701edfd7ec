-- The reads of a grid are those of the video.
use Rattle.std.proofs.Common.{◌≡◌, ◌≤◌, ◌+◌, ◌-◌, ◌*◌, ◌^◌, ℕ, ℤ, Bool, Some, arith, pos, ◌-ℤ◌}
use Rattle.timing_base.specs.Media.{Media}
use Rattle.sender_params.specs.Sizes.{AreSizes, HavePer}
use Rattle.sender_params.proofs.Lines.{reads-by-place}
use Rattle.read_schedule.specs.declared.grid.Grid.{Grid}
use Rattle.read_schedule.specs.Parts.{IsGridOf, IsGridWithout, parts_at, parts_of}

-- a grid of these sizes is of the video
pub is_grid_of : (m : Media) (n : ℕ) (anchor : ℤ) (gapped : Bool) (a offset : ℕ) (g : Grid)
    → HavePer m n gapped
    → AreSizes m n gapped g.den g.group g.step offset
    → g.n ≡ n
    → anchor ≡ pos a -ℤ pos 480
    → 480 * g.group ≤ 2 ^ 49 * g.den
    → g.start ≡ a * g.group + (2 ^ 49 * g.den - 480 * g.group) + offset
    → IsGridOf m n anchor gapped g
is_grid_of m n anchor gapped a offset g have sizes same is room start =
    let reads = λ (x t : ℕ). reads-by-place m n anchor gapped a 480 g.den g.group g.step offset x t (2 ^ 49 * g.den) (parts_at g x)
    (parts_of g t) have sizes g.den_some is
    (rw (start, same) (omega (arith, room))) (omega arith) in
    record { before = λ x t. (reads x t).0; after = λ x t. (reads x t).1 }

-- a grid of these sizes without an offset is of the video, onto which offsets are added
pub is_grid_without : (m : Media) (n : ℕ) (anchor : ℤ) (gapped : Bool) (a offset : ℕ) (g : Grid)
    → HavePer m n gapped
    → AreSizes m n gapped g.den g.group g.step offset
    → g.n ≡ n
    → anchor ≡ pos a -ℤ pos 480
    → 480 * g.group ≤ 2 ^ 49 * g.den
    → g.start ≡ a * g.group + (2 ^ 49 * g.den - 480 * g.group)
    → IsGridWithout m n anchor gapped g
is_grid_without m n anchor gapped a offset g have sizes same is room start =
    let reads = λ (micros x t : ℕ). reads-by-place (record m { troff = Some micros }) n anchor gapped a 480 g.den g.group g.step (1000 * micros * g.den) x t
    (2 ^ 49 * g.den) (parts_at g x + 1000 * micros * g.den) (parts_of g t)
    (record { group = have.group; offset = omega arith; step = have.step })
    (record { den_is = sizes.den_is; group_is = sizes.group_is; step_is = sizes.step_is; offset_is = omega arith }) g.den_some is
    (rw (start, same) (omega (arith, room))) (omega arith) in
    record { before = λ micros x t. (reads micros x t).0; after = λ micros x t. (reads micros x t).1 }
