use Rattle.std.proofs.Common.{◌<◌, length, rules, get_or, set, ap, ◌∙◌, add-one}
use Rattle.timing_base.specs.Choices.{row_from}
use Rattle.timing_top.proofs.Numbering.{mapped-at, mapped-next, mapped_to}
use Rattle.timing_top.proofs.check.count_from.Goals as goal

pub loop-row-preserved : goal.loop-row-preserved
loop-row-preserved c =
    let f = row_from c.args.first in
    let old = c.args.rows.now in
    let i = c.loop-row.row-index in
    let d = c.row-item.result in
    let within : i < length old = search rules in
    rw add-one (ap (λ l. set l i (f (get_or l i d))) c.loop-row.invariant
    ∙ ap (λ x. set (mapped_to f i old) i (f x)) (mapped-at f i old d within)
    ∙ mapped-next f i old d within)
