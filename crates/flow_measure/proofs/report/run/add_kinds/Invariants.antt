use Rattle.std.proofs.Common.{◌≡◌, ◌++◌, drop}
use Rattle.std.specs.Prelude.{string_bytes, map}
use Rattle.flow_measure.specs.report.Json.{kinds_from}
use Rattle.flow_measure.specs.report.Told.{kind_told}
use Rattle.flow_measure.proofs.report.run.add_kinds.Given as goal

abbrev pub invariant-loop-index : goal.invariant-loop-index
invariant-loop-index l =
    string_bytes l.text ++ kinds_from l.judged l.index (map kind_told (drop l.index l.kinds))
    ≡ string_bytes l.fn.text ++ kinds_from l.judged 0 (map kind_told l.kinds)
