use Rattle.std.proofs.Common.{◌≡◌, refl, length, Some, arith}
use Rattle.std.specs.List.{Contains}
use Rattle.timing_words.specs.declared.command.Command.{Command}
use Rattle.timing_words.specs.declared.command.Command.TheVariants as command
use Rattle.timing_words.specs.Help.{commands, name_of}
use Rattle.timing_words.specs.Request.{command_named}
use Rattle.timing_words.proofs.laws.shown_words_are_read.Goals as goal

pub returns-clause-read : goal.returns-clause-read
returns-clause-read c = go
  where
    go : (named : Command) → command_named (name_of named) ≡ Some named
    go command.Check = refl
    go command.Verify = refl
    go command.VerifyReport = refl
    go command.SelfTest = refl
    go command.Window = refl
    go command.Shape = refl
    go command.Skew = refl
    go command.Scan = refl
    go command.Measure = refl
    go command.Series = refl
    go command.Sdp = refl
    go command.Page = refl
    go command.Explain = refl
    go command.Watch = refl

pub returns-clause-all : goal.returns-clause-all
returns-clause-all c = go
  where
    size : length commands ≡ 14
    size = refl

    go : (told : Command) → Contains commands told
    go command.Check = (0, omega (arith, size), refl)
    go command.Verify = (1, omega (arith, size), refl)
    go command.VerifyReport = (2, omega (arith, size), refl)
    go command.SelfTest = (3, omega (arith, size), refl)
    go command.Window = (4, omega (arith, size), refl)
    go command.Shape = (5, omega (arith, size), refl)
    go command.Skew = (6, omega (arith, size), refl)
    go command.Scan = (7, omega (arith, size), refl)
    go command.Measure = (8, omega (arith, size), refl)
    go command.Series = (9, omega (arith, size), refl)
    go command.Sdp = (10, omega (arith, size), refl)
    go command.Page = (11, omega (arith, size), refl)
    go command.Explain = (12, omega (arith, size), refl)
    go command.Watch = (13, omega (arith, size), refl)
