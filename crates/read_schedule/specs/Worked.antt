-- A video for values worked by hand.
use Rattle.std.specs.Prelude.{false, Some, None}
use Rattle.timing_base.specs.Media.{Media}
use Rattle.timing_base.specs.declared.media.Kind.TheVariants.{N}
use Rattle.sender_params.specs.Worked.{described}

-- 1080 lines, progressive, at 50 frames per second, declared narrow, with TROFF=1000
abbrev pub with_troff : Media
with_troff = described 1080 false 50 1 (Some N) (Some 1000) None
