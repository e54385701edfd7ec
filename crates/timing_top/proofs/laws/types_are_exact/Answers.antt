use Rattle.std.proofs.Common.{arith}
use Rattle.timing_top.proofs.Exact.{job-exact}
use Rattle.timing_top.proofs.laws.types_are_exact.Goals as goal

pub returns : goal.returns
returns c = λ job media texts answer is are bytes many h. job-exact job media texts h.files h.notes is.options_are
    (omega (arith, many, is.captures_are.few)) are bytes h.records
