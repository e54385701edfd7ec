use Rattle.std.proofs.Common.{◌≡◌, ◌∙◌, ◌++◌, ap₂, [], true, false, rules}
use Rattle.std.proofs.lemmas.Result.{IfOk-weaker}
use Rattle.clap.specs.Words.{app_of, with_rule}
use Rattle.timing_words.specs.Clap.{bare}
use Rattle.timing_words.specs.Sorts.{sorts_of}
use Rattle.timing_words.proofs.command.parser_of.Goals as goal

pub returns : goal.returns
returns c =
    let start : app_of c.disable_help_flag-parser.result ≡ bare [] = search rules in
    let options : app_of c.in_ok-parser.parser ≡ bare (sorts_of true c.args.options.now) = c.in_ok-parser.ensures [] start in
    let both : app_of c.in_ok-parser-2.parser ≡ bare (sorts_of true c.args.options.now ++ sorts_of false c.args.flags.now) =
    c.in_ok-parser-2.ensures (sorts_of true c.args.options.now) options in
    IfOk-weaker c.arg.result _ _ (λ parser adds. adds.shape c.names_arg.ensures.local ∙ ap₂ with_rule both c.names_arg.ensures.rule) c.arg.ensures
