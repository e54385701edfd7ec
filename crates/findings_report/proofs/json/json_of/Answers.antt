use Rattle.std.proofs.Common.{ap, ◌∙◌, ◌++◌}
use Rattle.std.specs.Prelude.{codes}
use Rattle.serde_json.specs.Written.{compact_text, has_float}
use Rattle.findings_report.proofs.Floatless.{all-floatless}
use Rattle.findings_report.proofs.json.json_of.Goals as goal

pub returns : goal.returns
returns c =
    let value = c.in_ok-value.ensures in
    let floatless = ap has_float value ∙ all-floatless c.args.captures.now c.args.notes.now c.args.session.now c.args.flows.now in
    c.in_ok-push_str.ensures.bytes ∙ ap (λ s. s ++ codes "\n") (c.in_ok-text.ensures.text floatless ∙ ap compact_text value)
