-- Contents that were fetched from a `MemoryShelf`. Sizes are bytes; reads count from 1.
use Rattle.std.specs.Prelude.{◌≡◌, ℕ, List, Bool, string_bytes}
use Rattle.timing_outside.specs.Counts.{is_planned, raised}
use Rattle.timing_outside.specs.Texts.{rest_of}
use Rattle.timing_outside.specs.declared.plan.ReadPlan.{ReadPlan}
use Rattle.timing_outside.specs.declared.memory_source.MemorySource.{MemorySource}

-- the name under which it was fetched
abbrev pub name_of : MemorySource → List ℕ
name_of s = string_bytes s.name

-- the bytes that weren't read yet
abbrev pub left_of : MemorySource → List ℕ
left_of s = rest_of s.text

-- the greatest number of bytes that one read returns
abbrev pub piece_of : MemorySource → ℕ
piece_of s = s.piece

-- the numbers of the reads that fail
abbrev pub fails_of : MemorySource → List ℕ
fails_of s = s.fails.items

-- the number of reads, including those that failed
abbrev pub reads_of : MemorySource → ℕ
reads_of s = s.reads

-- the number of reads that failed
abbrev pub faults_of : MemorySource → ℕ
faults_of s = s.faults

-- the next read fails
abbrev pub read_fails : MemorySource → Bool
read_fails s = is_planned (fails_of s) (raised (reads_of s))

-- it is read by this plan, and wasn't read yet
pub record Follows (s : MemorySource) (plan : ReadPlan) : Type 0 where
  pub piece : piece_of s ≡ plan.piece
  pub fails : fails_of s ≡ plan.fails.items
  pub reads : reads_of s ≡ 0

-- it is read by the same plan as before
pub record SamePlan (old new : MemorySource) : Type 0 where
  pub piece : piece_of new ≡ piece_of old
  pub fails : fails_of new ≡ fails_of old

-- it is at the start of these bytes, has this name, and no read has failed
pub record Begins (s : MemorySource) (called bytes : List ℕ) : Type 0 where
  pub name : name_of s ≡ called
  pub left : left_of s ≡ bytes
  pub faults : faults_of s ≡ 0
