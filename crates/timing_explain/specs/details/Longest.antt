-- The comparison of two runs by their length.
use Rattle.std.specs.Prelude.{nat_lt, if◌then◌else◌, Option, Some, None}
use Rattle.timing_explain.specs.declared.details.longest.FoundRun.{FoundRun}

-- the run with more packets; of equal ones the one before
abbrev pub longer : (before : Option FoundRun) → FoundRun → FoundRun
longer None run = run
longer (Some found) run = if nat_lt found.packets run.packets then run else found
