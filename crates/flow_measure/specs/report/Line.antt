-- The contents of a line that is written from its end to its start.
use Rattle.std.specs.Prelude.{ℕ, List, drop}
use Rattle.flow_measure.specs.declared.report.line.Line.{Line}

-- the bytes written so far
abbrev pub written : Line → List ℕ
written line = drop line.start line.bytes
