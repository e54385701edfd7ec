use Rattle.std.proofs.Common.{ap, arith, eq-eqb, sym, ◌*◌, ◌%◌, ◌∙◌}
use Rattle.std.proofs.lemmas.Bool.{ne_eqb}
use Rattle.capture_scan.specs.report.Rates.{is_whole_in}
use Rattle.capture_scan.proofs.lemmas.report.Rates.{denominator_here, denominator_later, denominator_none}
use Rattle.capture_scan.proofs.report.rate.least_denominator.Goals as goal

pub returns-then-from-frames-eq0-clause-least : goal.returns-then-from-frames-eq0-clause-least
returns-then-from-frames-eq0-clause-least c =
    denominator_here 1001 c.loop-before.before c.args.frames c.args.ticks _ c.loop-before-test.true
    (sym (ap (is_whole_in c.args.frames c.args.ticks) c.from.ensures) ∙ eq-eqb (c.from.result * c.args.frames % c.args.ticks) 0 c.if-from-frames-eq0.true)
    c.loop-before.invariant

pub loop-before-preserved : goal.loop-before-preserved
loop-before-preserved c =
    denominator_later 1001 c.loop-before.before c.args.frames c.args.ticks _ c.loop-before-test.true
    (sym (ap (is_whole_in c.args.frames c.args.ticks) c.from.ensures) ∙ ne_eqb (c.from.result * c.args.frames % c.args.ticks) 0 c.if-from-frames-eq0.false)
    c.loop-before.invariant

pub returns-clause-least : goal.returns-clause-least
returns-clause-least c =
    denominator_none 1001 c.loop-before.before c.args.frames c.args.ticks _ (omega (arith, c.loop-before-test.false)) c.loop-before.invariant
