use Rattle.std.proofs.Common.{◌++◌, ◌∷◌, [], ap₂, sym, ◌∙◌}
use Rattle.std.proofs.Math.Seq.{take_all}
use Rattle.std.proofs.lemmas.List.{take_more}
use Rattle.timing_watch.proofs.report.copied.Goals as goal

pub loop-name-init : goal.loop-name-init
loop-name-init c = c.new-copies.ensures.items

pub loop-name-preserved : goal.loop-name-preserved
loop-name-preserved c =
    c.in_ok-push.ensures.items ∙ ap₂ (λ xs x. xs ++ x ∷ []) c.loop-name.invariant (c.in_ok-try_copy.ensures ∙ c.name-item.is)
    ∙ sym (take_more c.args.names.now c.loop-name.name-index _ c.loop-name-test.true)

pub returns : goal.returns
returns c = c.loop-name.invariant ∙ take_all c.loop-name.name-index c.args.names.now c.loop-name-test.false
