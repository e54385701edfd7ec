-- A packet has one level.
use Rattle.std.proofs.Common.{◌≡◌, ◌+◌, ℕ, ℤ, pos, ◌-ℤ◌, Bool, List, refl, slice_index, sym, ap, ◌∙◌, arith}
use Rattle.std.proofs.lemmas.Int.{ints}
use Rattle.fraction128.specs.Fractions.{whole}
use Rattle.timing_base.specs.Media.{Media}
use Rattle.sender_params.specs.Reads.{anchor_of}
use Rattle.read_schedule.proofs.Rising.{due-once}
use Rattle.vrx_buffer.specs.Occupancy.{IsOccupancy}
use Rattle.vrx_buffer.specs.declared.held.Held.{Held}
use Rattle.run_meter.specs.Levels.{IsHeld, IsLevel}
use Rattle.run_meter.specs.declared.level.Level.{Level}

-- a packet has one occupancy
pub occupancy-once : (m : Media) (n : ℕ) (stamps : List ℕ) (gapped : Bool) (i : ℕ) (x other : ℤ)
    → IsOccupancy m n stamps gapped i x → IsOccupancy m n stamps gapped i other → x ≡ other
occupancy-once m n stamps gapped i x other h k =
    let same = due-once m n (anchor_of m (slice_index stamps 0)) gapped (whole (slice_index stamps i)) h.reads k.reads h.due k.due in
    omega (arith, ints, same, h.is, k.is)

held-once : (m : Media) (n : ℕ) (stamps : List ℕ) (gapped : Bool) (i : ℕ) (a b : Held)
    → IsHeld m n stamps gapped i a → IsHeld m n stamps gapped i b → a ≡ b
held-once m n stamps gapped i a b x y =
    let occupancy : a.occupancy ≡ b.occupancy = occupancy-once m n stamps gapped i a.occupancy b.occupancy x.occupancy y.occupancy in
    let late : a.late ≡ b.late = x.late ∙ sym y.late in
    ap (λ (o : ℤ). record (b) { occupancy = o; late = a.late }) occupancy ∙ ap (λ (l : Bool). record (b) { late = l }) late

pub level-once : (m : Media) (n : ℕ) (stamps : List ℕ) (i : ℕ) (a b : Level)
    → IsLevel m n stamps i a → IsLevel m n stamps i b → a ≡ b
level-once m n stamps i a b x y =
    let bucket : a.bucket ≡ b.bucket = x.bucket ∙ sym y.bucket in
    ap (λ (k : ℕ). record (a) { bucket = k }) bucket
    ∙ ap (λ (h : Held). record (a) { bucket = b.bucket; gapped = h }) (held-once m n stamps _ i a.gapped b.gapped x.gapped y.gapped)
    ∙ ap (λ (h : Held). record (b) { linear = h }) (held-once m n stamps _ i a.linear b.linear x.linear y.linear)
