-- The contents of a sink in memory, and which writes fail. Sizes are bytes; writes count from 1.
use Rattle.std.specs.Prelude.{◌≡◌, ℕ, List, length, min, Bool, ◌&&◌, ◌||◌, nat_eq, nat_lt}
use Rattle.timing_outside.specs.Counts.{is_planned, raised, raised_if}
use Rattle.timing_outside.specs.declared.memory_sink.MemorySink.{MemorySink}

-- the bytes that were written
abbrev pub bytes_of : MemorySink → List ℕ
bytes_of s = s.bytes.items

-- the number of bytes that still fit
abbrev pub room_of : MemorySink → ℕ
room_of s = s.room

-- the greatest number of bytes that one write takes
abbrev pub piece_of : MemorySink → ℕ
piece_of s = s.piece

-- the numbers of the writes that fail
abbrev pub fails_of : MemorySink → List ℕ
fails_of s = s.fails.items

-- the number of writes with at least one byte to write, including those that failed
abbrev pub writes_of : MemorySink → ℕ
writes_of s = s.writes

-- the number of writes that failed
abbrev pub faults_of : MemorySink → ℕ
faults_of s = s.faults

-- there is a byte to write, and either this write is to fail or there is no room
abbrev pub write_fails : MemorySink → List ℕ → Bool
write_fails s piece =
    nat_lt 0 (length piece)
    && (is_planned (fails_of s) (raised (writes_of s)) || nat_eq (room_of s) 0)

-- the number of bytes that a write takes if it doesn't fail
abbrev pub taken : MemorySink → List ℕ → ℕ
taken s piece = min (min (piece_of s) (room_of s)) (length piece)

-- the counts after one write of these bytes; the plan is unchanged
pub record Counted (old new : MemorySink) (bytes : List ℕ) (failed : Bool) : Type 0 where
  pub writes : writes_of new ≡ raised_if (nat_lt 0 (length bytes)) (writes_of old)
  pub faults : faults_of new ≡ raised_if failed (faults_of old)
  pub fails : fails_of new ≡ fails_of old
  pub piece : piece_of new ≡ piece_of old

-- nothing was written yet, and there is room for this many bytes
pub record IsNew (s : MemorySink) (bytes : ℕ) : Type 0 where
  pub room : room_of s ≡ bytes
  pub writes : writes_of s ≡ 0
  pub faults : faults_of s ≡ 0

-- the plan and the counts are unchanged
pub record SameCounts (old new : MemorySink) : Type 0 where
  pub writes : writes_of new ≡ writes_of old
  pub faults : faults_of new ≡ faults_of old
  pub fails : fails_of new ≡ fails_of old
  pub piece : piece_of new ≡ piece_of old
