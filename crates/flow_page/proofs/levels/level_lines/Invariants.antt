use Rattle.std.proofs.Common.{◌≡◌, ◌++◌, drop}
use Rattle.std.specs.List.{flat_map}
use Rattle.flow_page.specs.Levels.{level_lines, type_line}
use Rattle.flow_page.proofs.levels.level_lines.Given as goal

abbrev pub invariant-loop-shown : goal.invariant-loop-shown
invariant-loop-shown l =
    l.lines.items ++ flat_map (type_line l.level) (drop l.shown-index l.types) ≡ level_lines l.level l.types
