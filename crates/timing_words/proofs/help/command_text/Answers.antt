use Rattle.std.proofs.Common.{◌≡◌, ◌∙◌}
use Rattle.std.specs.Prelude.{string_bytes}
use Rattle.std.proofs.lemmas.Result.{IfOk-weaker}
use Rattle.timing_words.specs.Help.{command_text}
use Rattle.timing_words.proofs.Shown.{framed, framed-same}
use Rattle.timing_words.proofs.help.command_text.Goals as goal

pub returns : goal.returns
returns c =
    IfOk-weaker c.format.result
    (λ s. string_bytes s
    ≡ framed (string_bytes c.in_ok-usage.usage) c.about-about.result.now (string_bytes c.in_ok-lines.lines) c.printed-printed.result.now
    c.example-example.result.now)
    (λ s. string_bytes s ≡ command_text c.args.command)
    (λ s wrote. wrote ∙ framed-same _ _ _ _ _ _ _ _ _ _ c.in_ok-usage.ensures c.about-about.ensures c.in_ok-lines.ensures c.printed-printed.ensures
    c.example-example.ensures)
    c.format.ensures.ok
