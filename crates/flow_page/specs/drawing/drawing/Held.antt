-- The levels of the models just after a packet, for a sender type.
use Rattle.std.specs.Prelude.{ℕ, ℤ, pos, Bool, ◌||◌, nat_lt, int_lt}
use Rattle.timing_base.specs.declared.fail.Broken.{Broken}
use Rattle.timing_base.specs.declared.fail.Broken.TheVariants.{Bucket, Over, Empty}
use Rattle.timing_base.specs.declared.media.Kind.{Kind}
use Rattle.timing_base.specs.declared.media.Kind.TheVariants.{N, NL, W}
use Rattle.vrx_buffer.specs.declared.held.Held.{Held}
use Rattle.run_meter.specs.declared.level.Level.{Level}

-- the buffer by the reads of the type
abbrev pub buffer_of : Kind → Level → Held
buffer_of N level = level.gapped
buffer_of NL level = level.linear
buffer_of W level = level.linear

-- the level that a model limits: the bucket, or that buffer
abbrev pub held_by : Kind → Broken → Level → ℤ
held_by kind Bucket level = pos level.bucket
held_by kind Over level = (buffer_of kind level).occupancy
held_by kind Empty level = (buffer_of kind level).occupancy

-- a packet with these levels just after it breaks a limit of the type or is late
abbrev pub breaks_at : Kind → (c_max full : ℕ) → Level → Bool
breaks_at kind c_max full level =
    (nat_lt c_max level.bucket || int_lt (pos full) (buffer_of kind level).occupancy) || (buffer_of kind level).late
