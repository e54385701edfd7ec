-- What the process prints, and the code that it ends with.
use Rattle.std.specs.Prelude.{◌≡◌, ℕ, List, Option, Some, None}
use Rattle.std.specs.Io.KnownBytes.{Appends, Keeps}
use Rattle.timing_report.specs.Status.{code_of}
use Rattle.timing_report.specs.declared.status.Status.{Status}
use Rattle.timing_report.specs.declared.status.Status.TheVariants as status
use Rattle.timing_steps.specs.Answers.{Inputs}
use Rattle.timing_steps.specs.Ran.{Output, TellsLine}
use Rattle.timing_words.specs.Request.{request}
use Rattle.timing_top.specs.Runs.{RanAs}

-- the run of these arguments; without memory for the arguments nothing is run, and that is said on standard error
abbrev pub RunsArguments : Option (List (List ℕ)) → Inputs → (o e : Output) → Status → Type 0
RunsArguments (Some words) i o e ends = RanAs (request words) i o e ends
RunsArguments None i o e ends = (ends ≡ status.OutOfMemory) × Keeps o.old o.new × TellsLine e ends

-- what the process did. `i` is what it saw of its inputs, `o` and `e` are standard output and standard error, `code` is
-- its exit code
pub record IsStarted (i : Inputs) (o e : Output) (code : ℕ) : Type 0 where
  -- the arguments after the name of the program, or nothing if there was no memory for them
  pub arguments : Option (List (List ℕ))
  pub ends : Status
  -- standard error before and after the run
  pub line : Output
  pub ran : RunsArguments arguments i o line ends
  pub begins : line.old ≡ e.old
  -- what is printed after the line of the status
  pub more : List ℕ
  pub explained : Appends line.new e.new more
  pub code_is : code ≡ code_of ends
