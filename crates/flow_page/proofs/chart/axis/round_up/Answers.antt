use Rattle.std.proofs.Common.{◌≤◌, arith}
use Rattle.std.proofs.lemmas.Bool.Decides.{nat_tests}
use Rattle.flow_page.proofs.lemmas.chart.Reaches.{round_reaches}
use Rattle.flow_page.proofs.lemmas.chart.Texts.{one_power, round_begins, round_ends}
use Rattle.flow_page.proofs.chart.axis.round_up.Goals as goal

pub loop-tried-init : goal.loop-tried-init
loop-tried-init c = let e = round_begins c.args.wanted in grind arith

pub returns-then-wanted-power-clause-value : goal.returns-then-wanted-power-clause-value
returns-then-wanted-power-clause-value c =
    let e = one_power c.loop-tried.tried c.loop-tried.power c.args.wanted c.loop-tried-test.true in grind (arith, nat_tests)

pub returns-then-wanted-power-2-clause-value : goal.returns-then-wanted-power-2-clause-value
returns-then-wanted-power-2-clause-value c =
    let e = one_power c.loop-tried.tried c.loop-tried.power c.args.wanted c.loop-tried-test.true in grind (arith, nat_tests)

pub returns-then-wanted-power-3-clause-value : goal.returns-then-wanted-power-3-clause-value
returns-then-wanted-power-3-clause-value c =
    let e = one_power c.loop-tried.tried c.loop-tried.power c.args.wanted c.loop-tried-test.true in grind (arith, nat_tests)

pub loop-tried-preserved : goal.loop-tried-preserved
loop-tried-preserved c =
    let e = one_power c.loop-tried.tried c.loop-tried.power c.args.wanted c.loop-tried-test.true in grind (arith, nat_tests)

pub returns-clause-value : goal.returns-clause-value
returns-clause-value c =
    let past : 19 ≤ c.loop-tried.tried = omega arith in
    let e = round_ends c.loop-tried.tried c.loop-tried.power c.args.wanted past in grind arith

pub returns-clause-reaches : goal.returns-clause-reaches
returns-clause-reaches c =
    let past : 19 ≤ c.loop-tried.tried = omega arith in
    let e = round_ends c.loop-tried.tried c.loop-tried.power c.args.wanted past in
    let f = round_reaches c.args.wanted c.requires in grind arith
