use Rattle.std.proofs.Common.{rules}
use Rattle.timing_top.proofs.lemmas.verify.Served.{serves-finds}
use Rattle.timing_top.proofs.verify.needs.answer.Goals as goal

pub returns : goal.returns
returns c = λ job media claims text m serves same reported there.
    serves-finds job media claims text c.args.read.now c.args.claim.now m c.answer_of.result serves same reported there
    (λ x t l r e is. c.answer_of.ensures x t l r (search rules) is)
