use Rattle.std.proofs.Common.{◌≡◌, ◌++◌, drop}
use Rattle.flow_page.specs.Shown.{types_from}
use Rattle.flow_page.proofs.shown.types_from.Given as goal

abbrev pub invariant-loop-place : goal.invariant-loop-place
invariant-loop-place l =
    l.types.items ++ types_from l.judged l.numbers l.place (drop l.place l.kinds) ≡ types_from l.judged l.numbers 0 l.kinds
