use Rattle.std.proofs.Common.{◌≡◌, ◌++◌, drop}
use Rattle.std.specs.Prelude.{string_bytes}
use Rattle.flow_page.specs.Often.{often_from}
use Rattle.flow_page.proofs.often.add_often.Given as goal

abbrev pub invariant-loop-place : goal.invariant-loop-place
invariant-loop-place l =
    string_bytes l.text ++ often_from l.numbers l.place (drop l.place l.kinds)
    ≡ string_bytes l.fn.text ++ often_from l.numbers 0 l.kinds
