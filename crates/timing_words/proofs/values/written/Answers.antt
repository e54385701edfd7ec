use Rattle.std.proofs.Common.{◌≡◌, ◌∙◌, true, arith}
use Rattle.timing_words.specs.Request.{is_numeral}
use Rattle.timing_words.proofs.Checks.{written_is}
use Rattle.timing_words.proofs.values.written.Goals as goal

pub returns : goal.returns
returns c =
    let numeral : is_numeral c.args.text.now ≡ true = grind arith in
    c.ok.ensures.value ∙ written_is c.args.text.now c.parse.result numeral c.parse.ensures.value.0
