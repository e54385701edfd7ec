use Rattle.std.proofs.Common.{◌≡◌, ◌++◌, drop}
use Rattle.std.specs.Prelude.{string_bytes}
use Rattle.flow_page.specs.Around.{around_figures}
use Rattle.flow_page.proofs.around.add_around_figures.Given as goal

abbrev pub invariant-loop-shown : goal.invariant-loop-shown
invariant-loop-shown l =
    string_bytes l.text ++ around_figures (drop l.shown-index l.types) l.regions
    ≡ string_bytes l.fn.text ++ around_figures l.types l.regions
