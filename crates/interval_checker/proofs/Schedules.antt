-- The reads of a schedule in parts of a nanosecond are those of the video, and are in order.
use Rattle.std.proofs.Common.{◌≡◌, ◌≤◌, ◌+◌, ◌*◌, ℕ, ℤ, Bool, refl, arith, pos, ◌-ℤ◌}
use Rattle.timing_base.specs.Media.{Media}
use Rattle.sender_params.specs.Sizes.{AreSizes, HavePer}
use Rattle.sender_params.proofs.Lines.{reads-by-place}
use Rattle.sender_params.proofs.Turns.{place_of-le}
use Rattle.interval_checker.specs.Schedule.{AreReads, parts_at, parts_of}
use Rattle.interval_checker.specs.declared.reads.Reads.{Reads}

-- reads of these sizes are of the video
pub are_reads : (m : Media) (n : ℕ) (anchor : ℤ) (gapped : Bool) (a offset : ℕ) (r : Reads)
    → HavePer m n gapped
    → AreSizes m n gapped r.den r.group r.step offset
    → r.n ≡ n
    → anchor ≡ pos a -ℤ pos 480
    → r.start ≡ a * r.group + offset
    → AreReads m n anchor gapped r
are_reads m n anchor gapped a offset r have sizes same is start =
    let reads = λ (x t : ℕ). reads-by-place m n anchor gapped a 480 r.den r.group r.step offset x t (480 * r.group) (parts_at r x)
    (parts_of r t) have sizes r.den_some is
    (rw (start, same) (omega arith)) refl in
    record { before = λ x t. (reads x t).0; after = λ x t. (reads x t).1 }

-- an earlier read is no later
pub parts_at-le : (r : Reads) (x y : ℕ) → x ≤ y → parts_at r x ≤ parts_at r y
parts_at-le r x y order = place_of-le r.start r.n r.group r.step x y r.n_some r.group_fits order
