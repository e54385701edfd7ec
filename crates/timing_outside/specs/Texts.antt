-- Bytes in memory that are read from their start.
use Rattle.std.specs.Prelude.{ℕ, List, drop}
use Rattle.timing_outside.specs.declared.text.Text.{Text}

-- the bytes that weren't read yet
abbrev pub rest_of : Text → List ℕ
rest_of t = drop t.at t.bytes.items
