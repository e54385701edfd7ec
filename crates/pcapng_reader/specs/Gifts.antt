-- The output of a call of a converter.
use Rattle.std.specs.Prelude.{ℕ, nat_lt, if◌then◌else◌}
use Rattle.pcapng_reader.specs.declared.step.Step.{Step}
use Rattle.pcapng_reader.specs.declared.step.Step.TheVariants as step
use Rattle.pcapng_reader.specs.declared.step.Gift.{Gift}
use Rattle.pcapng_reader.specs.declared.step.Gift.TheVariants as gift

-- the output of a call that gave no byte before a step had this result
abbrev pub bare_gift : Step → Gift
bare_gift step.Moved = gift.Bytes 0
bare_gift step.Hungry = gift.Hungry
bare_gift step.Through = gift.Through
bare_gift step.Over = gift.Over

-- the output of a call that gave `at` bytes before a step had this result
abbrev pub gift_of : (at : ℕ) → Step → Gift
gift_of at answer = if nat_lt 0 at then gift.Bytes at else bare_gift answer
