use Rattle.std.proofs.Common.{◌∙◌, ap, map}
use Rattle.std.proofs.lemmas.Result.{IfOk-weaker}
use Rattle.clap.specs.Walk.{rule_of}
use Rattle.clap.specs.Words.{app_of}
use Rattle.timing_words.specs.Request.{sorts}
use Rattle.usage_hints.proofs.Sorts.{found-sorts}
use Rattle.usage_hints.proofs.options.choices_of.Goals as goal

pub returns : goal.returns
returns c =
    let found = found-sorts (app_of c.in_ok-parser.parser) c.get_arguments.result.now (sorts c.args.command)
    (ap (map rule_of) c.get_arguments.ensures) c.in_ok-parser.ensures in
    IfOk-weaker c.choices_in.result _ _ (λ v e. e ∙ found) c.choices_in.ensures
