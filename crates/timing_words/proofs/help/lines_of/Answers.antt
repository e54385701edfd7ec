use Rattle.std.proofs.Common.{◌∙◌, ap, map}
use Rattle.std.proofs.lemmas.Result.{IfOk-weaker}
use Rattle.clap.specs.Walk.{rule_of}
use Rattle.clap.specs.Words.{app_of}
use Rattle.timing_words.specs.Help.{told}
use Rattle.timing_words.specs.Parsers.{told_in}
use Rattle.timing_words.specs.Request.{sorts}
use Rattle.timing_words.proofs.Shown.{shows-lines, shown-sorts}
use Rattle.timing_words.proofs.help.lines_of.Goals as goal

pub returns : goal.returns
returns c =
    let shown = shown-sorts told_in told (app_of c.in_ok-parser.parser) c.get_arguments.result.now (sorts c.args.command)
    shows-lines (ap (map rule_of) c.get_arguments.ensures) c.in_ok-parser.ensures in
    IfOk-weaker c.lines_in.result _ _ (λ s e. e ∙ shown) c.lines_in.ensures
