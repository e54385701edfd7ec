-- Lists of findings: which kinds of findings they have, and how often.
use Rattle.std.specs.Prelude.{◌≡◌, ℕ, ◌==◌, ◌&&◌, not, Bool, List, length}
use Rattle.std.specs.Prelude.{is_some}
use Rattle.std.specs.List.{filter, list_any}
use Rattle.std.specs.Str.{bytes_eq}
use Rattle.timing_report.specs.Outcomes.{is_pass}
use Rattle.flow_findings.specs.Findings.{breaks_buffer}
use Rattle.flow_findings.specs.declared.finding.Finding.{Finding}
use Rattle.flow_findings.specs.declared.numbers.ShownNumbers.{ShownNumbers}
use Rattle.flow_findings.specs.Words.{finding_name}

-- a finding has this name
abbrev pub is_named : (name : List ℕ) → Finding → Bool
is_named name f = bytes_eq (finding_name f) name

-- a list has a finding with this name
abbrev pub has : List Finding → (name : List ℕ) → Bool
has findings name = list_any (is_named name) findings

-- how many findings of a list have this name
abbrev pub often : List Finding → (name : List ℕ) → ℕ
often findings name = length (filter (is_named name) findings)

-- the numbers of a run are those of its verdict: K passes exactly if no packet is above a limit and none is late, and
-- the first packet above C_MAX has a place exactly if there is one. The measurements of a judged run are so.
pub record AreOfVerdict (x : ShownNumbers) : Type 0 where
  pub passes : is_pass x.verdict ≡ (not (is_some x.overfull.first) && not (breaks_buffer x))
  pub above : is_some x.overfull.first ≡ not (x.limits.above_bucket == 0)
