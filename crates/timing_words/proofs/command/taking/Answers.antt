use Rattle.std.proofs.Common.{◌∙◌, ap₂, arith}
use Rattle.clap.specs.Words.{with_rule}
use Rattle.timing_words.proofs.Tables.{bare_more}
use Rattle.timing_words.proofs.command.taking.Goals as goal

pub loop-name-preserved : goal.loop-name-preserved
loop-name-preserved c = λ taken is.
    c.in_ok-parser.ensures.shape c.arg_of.ensures.local
    ∙ ap₂ with_rule (c.loop-name.invariant taken is) c.arg_of.ensures.rule
    ∙ bare_more taken c.args.valued c.args.names.now c.loop-name.name-index _ (omega arith)
