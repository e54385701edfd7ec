use Rattle.std.proofs.Common.{ap, ◌∙◌, ◌++◌}
use Rattle.std.specs.Prelude.{codes}
use Rattle.serde_json.specs.Written.{compact_text, has_float}
use Rattle.sdp_notes.specs.Seen.{described_of}
use Rattle.sdp_notes.proofs.Floatless.{described-floatless}
use Rattle.sdp_notes.proofs.report.json.json_of.Goals as goal

pub returns : goal.returns
returns c =
    let value = c.in_ok-value.ensures in
    let floatless = ap has_float value ∙ described-floatless (described_of c.args.described.now) in
    c.in_ok-push_str.ensures.bytes ∙ ap (λ s. s ++ codes "\n") (c.in_ok-text.ensures.text floatless ∙ ap compact_text value)
