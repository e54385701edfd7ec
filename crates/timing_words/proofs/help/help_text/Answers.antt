use Rattle.std.proofs.Common.{◌≡◌, ◌∙◌, ◌++◌, ap, sym}
use Rattle.std.specs.Prelude.{string_bytes}
use Rattle.std.proofs.lemmas.Result.{IfOk-weaker}
use Rattle.timing_words.specs.Help.{help_text}
use Rattle.timing_words.proofs.Shown.{three-same}
use Rattle.timing_words.proofs.help.help_text.Goals as goal

pub returns-in_ok-summaries-in-None : goal.returns-in_ok-summaries-in-None
returns-in_ok-summaries-in-None c =
    IfOk-weaker c.format.result
    (λ s. string_bytes s
    ≡ c.front_text-front.result.now ++ (string_bytes c.in_ok-summaries-in-None.summaries ++ c.back_text-back.result.now))
    (λ s. string_bytes s ≡ help_text c.args.command)
    (λ s wrote. wrote ∙ three-same _ _ _ _ _ _ c.front_text-front.ensures c.in_ok-summaries-in-None.ensures c.back_text-back.ensures
    ∙ sym (ap help_text c.in-None.is))
    c.format.ensures.ok
