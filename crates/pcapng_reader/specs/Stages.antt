-- How far a converter has come.
use Rattle.std.specs.Prelude.{ℕ, Bool, true, false}
use Rattle.pcapng_reader.specs.declared.stage.Stage.{Stage}
use Rattle.pcapng_reader.specs.declared.stage.Stage.TheVariants.{Start, Through, Block, Options, Passing, Over}

-- the first bytes of the file aren't known yet
abbrev pub is_start : Stage → Bool
is_start Start = true
is_start Through = false
is_start Block = false
is_start (Options body found) = false
is_start (Passing body content) = false
is_start Over = false

-- the output bytes of the window are to be given
abbrev pub is_due : Stage → Bool
is_due Start = false
is_due Through = true
is_due Block = true
is_due (Options body found) = false
is_due (Passing body content) = false
is_due Over = true

-- the part of a stage in the bound on steps (`work` in `Texts`)
abbrev pub rank : Stage → ℕ
rank Start = 100
rank Through = 0
rank Block = 40
rank (Options body found) = 42
rank (Passing body content) = 41
rank Over = 0
