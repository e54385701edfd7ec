use Rattle.std.proofs.Common.{◌≡◌, drop, subst, suc, sym, take, take_all}
use Rattle.std.specs.Prelude.{All}
use Rattle.std.proofs.lemmas.List.Elements.{All-push}
use Rattle.flow_measure.specs.declared.numbers.MeasuredRun.{MeasuredRun}
use Rattle.timing_measure.proofs.Eaches.{next-taken}
use Rattle.timing_measure.proofs.lemmas.page.Places.{cut-at}
use Rattle.timing_explain.proofs.flows.run_of.Goals as goal

pub loop-run-preserved : goal.loop-run-preserved
loop-run-preserved c =
    subst (All (λ (run : MeasuredRun). run.run ≡ c.args.number → ⊥))
    (sym (next-taken c.loop-run.run-index c.args.runs.now c.run-item.result c.loop-run-test.true (sym c.run-item.is)))
    (All-push (λ (run : MeasuredRun). run.run ≡ c.args.number → ⊥) (take c.loop-run.run-index c.args.runs.now) c.run-item.result c.loop-run.invariant
    c.if-run-number.false)

pub returns-then-run-number-clause-some : goal.returns-then-run-number-clause-some
returns-then-run-number-clause-some c = record {
  before = take c.loop-run.run-index c.args.runs.now;
  after = drop (suc c.loop-run.run-index) c.args.runs.now;
  whole = cut-at c.args.runs.now c.loop-run.run-index c.run-item.result c.loop-run-test.true (sym c.run-item.is);
  others = c.loop-run.invariant;
  number_is = c.if-run-number.true;
}

pub returns-clause-none : goal.returns-clause-none
returns-clause-none c = λ _.
    subst (All (λ (run : MeasuredRun). run.run ≡ c.args.number → ⊥)) (take_all c.loop-run.run-index c.args.runs.now c.loop-run-test.false)
    c.loop-run.invariant
