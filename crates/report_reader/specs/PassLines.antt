-- The lines that say that a sender type passes.
use Rattle.std.specs.Prelude.{Bool, false, List, ℕ, ◌++◌, codes, is_some}
use Rattle.timing_base.specs.declared.media.Kind.{Kind}
use Rattle.timing_base.specs.declared.row.RunVerdict.{RunVerdict}
use Rattle.timing_base.specs.declared.row.RunVerdict.TheVariants as run_verdict
use Rattle.timing_base.specs.declared.row.Verdict.{Verdict}
use Rattle.timing_base.specs.declared.row.Verdict.TheVariants as verdict
use Rattle.sdp_reader.specs.Bytes.{after_prefix}
use Rattle.timing_report.specs.Outcomes.{passes}
use Rattle.timing_report.specs.Words.{kind_name}

-- whether a line begins with this indentation, the name of the type, and `pass`
abbrev pub is_pass_line : List ℕ → Kind → List ℕ → Bool
is_pass_line space kind line = is_some (after_prefix (space ++ (kind_name kind ++ codes " pass,")) line)

-- whether a run is judged and passes as this type
abbrev pub run_passes : RunVerdict → Kind → Bool
run_passes (run_verdict.NoWholeFrame head) kind = false
run_passes (run_verdict.Judged judged) kind = passes judged kind

-- whether a flow is judged as one run and passes as this type
abbrev pub flow_passes : Verdict → Kind → Bool
flow_passes (verdict.Unjudged reason) kind = false
flow_passes (verdict.Judged judged) kind = passes judged kind
flow_passes (verdict.Runs runs) kind = false
