use Rattle.std.proofs.Common.{ap, ◌∙◌, ◌++◌}
use Rattle.std.specs.Prelude.{codes}
use Rattle.serde_json.specs.Written.{compact_text, has_float}
use Rattle.capture_scan.specs.report.Contents.{contents_of}
use Rattle.capture_scan.proofs.lemmas.report.Floatless.{contents-floatless}
use Rattle.capture_scan.proofs.report.json.json_of.Goals as goal

pub returns : goal.returns
returns c =
    let value = c.in_ok-value.ensures in
    let floatless = ap has_float value ∙ contents-floatless c.args.name.now c.args.note (contents_of c.args.found.now) in
    c.in_ok-push_str.ensures.bytes ∙ ap (λ s. s ++ codes "\n") (c.in_ok-text.ensures.text floatless ∙ ap compact_text value)
