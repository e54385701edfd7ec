use Rattle.std.proofs.Common.{◌∙◌, ap, map}
use Rattle.std.proofs.lemmas.Result.{IfOk-weaker}
use Rattle.clap.specs.Walk.{rule_of}
use Rattle.clap.specs.Words.{app_of}
use Rattle.timing_words.specs.Help.{word}
use Rattle.timing_words.specs.Parsers.{word_in}
use Rattle.timing_words.specs.Request.{sorts}
use Rattle.timing_words.proofs.Shown.{shows-words, shown-sorts}
use Rattle.timing_words.proofs.help.words_of.Goals as goal

pub returns : goal.returns
returns c =
    let shown = shown-sorts (word_in c.args.command) (word c.args.command) (app_of c.in_ok-parser.parser) c.get_arguments.result.now (sorts c.args.command)
    (shows-words c.args.command) (ap (map rule_of) c.get_arguments.ensures) c.in_ok-parser.ensures in
    IfOk-weaker c.words_in.result _ _ (λ s e. e ∙ shown) c.words_in.ensures
