-- The contents of a window.
use Rattle.std.specs.Prelude.{ℕ, ◌-◌, List, take, drop}
use Rattle.pcapng_reader.specs.declared.window.Window.{Window}

-- the output bytes, which wait to be given
abbrev pub kept_bytes : Window → List ℕ
kept_bytes w = take (w.kept_end - w.kept) (drop w.kept w.buf.items)

-- the buffered bytes, which were read and not consumed
abbrev pub held_bytes : Window → List ℕ
held_bytes w = take (w.filled - w.start) (drop w.start w.buf.items)
