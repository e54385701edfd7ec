use Rattle.std.proofs.Common.{false, refl, subst, sym, true, ◌≡◌}
use Rattle.timing_steps.specs.Answers.{Answer}
use Rattle.timing_steps.specs.Queries.{judged_ends}
use Rattle.timing_reach.proofs.Takings.{if-ok}
use Rattle.timing_reach.proofs.WindowReadings.{verdict-on}
use Rattle.timing_reach.proofs.window.told_of.Goals as goal

pub returns-in_default : goal.returns-in_default
returns-in_default c = record {
  ends = if-ok c.not_judged.result (λ answer is. subst (λ (a : Answer). judged_ends false a.status ≡ true) (sym is) refl) c.not_judged.ensures;
  answers = if-ok c.not_judged.result
      (λ answer is options packets h. verdict-on c.args.media.now options packets c.args.measured.now _ answer refl (λ j e. c.in_default.not-Judged j e) is h)
      c.not_judged.ensures;
}
