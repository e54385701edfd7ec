use Rattle.std.proofs.Common.{◌≡◌, ◌<◌, ◌+◌, ◌^◌, ◌∙◌, ℕ, List, Option, ap, length, rules, subst, sym}
use Rattle.std.proofs.lemmas.List.{length-map}
use Rattle.std.specs.Prelude.{All, IfOk, map}
use Rattle.timing_base.specs.Choices.{chosen, first_chosen, row_from}
use Rattle.timing_base.specs.Jobs.{IsChoice}
use Rattle.timing_base.specs.declared.row.Row.{Row}
use Rattle.timing_report.specs.Outcomes.{AreOfSession}
use Rattle.timing_steps.specs.Answers.{Answer}
use Rattle.timing_top.specs.Report.{printed}
use Rattle.timing_top.proofs.Choosing.{rows-chosen, rows-few}
use Rattle.timing_top.proofs.Numbering.{written-back}
use Rattle.timing_top.proofs.check.report_chosen.Goals as goal

pub count_from-requires : goal.count_from-requires
count_from-requires c =
    let only = c.args.job.now.media in
    let first : c.first_chosen.result ≡ first_chosen only = search rules in
    let same : c.job.inside.media ≡ only = search rules in
    let choice : IsChoice only = subst (λ (o : Option ℕ). IsChoice o) same c.job.invariant.media_few in
    let few = rows-few only (chosen only c.args.session.now) c.args.found.rows.items choice c.requires.few c.requires.rows in
    record {
      few =
          subst (λ n. All (λ (row : Row). n + row.key.media < 2 ^ 32) c.deref_mut.result.now) (sym first)
          (subst (λ (l : List Row). All (λ (row : Row). first_chosen only + row.key.media < 2 ^ 32) l) (sym c.deref_mut.ensures.value) few);
    }

pub report_on-requires : goal.report_on-requires
report_on-requires c =
    let only = c.args.job.now.media in
    let items = c.args.found.rows.items in
    let first : c.first_chosen.result ≡ first_chosen only = search rules in
    let renumbered : c.count_from.new.rows ≡ map (row_from (first_chosen only)) items =
    c.count_from.ensures ∙ ap (map (row_from c.first_chosen.result)) c.deref_mut.ensures.value ∙ ap (λ n. map (row_from n) items) first in
    let long : length items ≡ c.args.found.rows.len = sym (ap length c.deref_mut.ensures.value) ∙ c.deref_mut.ensures.len in
    let written = written-back c.args.found.rows.len c.count_from.new.rows items
    (ap length renumbered ∙ length-map items (row_from (first_chosen only)) ∙ long) long ∙ renumbered in
    record { rows = subst (AreOfSession c.args.session.now) (sym written) (rows-chosen only c.args.session.now items c.requires.rows) }

pub returns-clause-text : goal.returns-clause-text
returns-clause-text c =
    let only = c.args.job.now.media in
    let items = c.args.found.rows.items in
    let first : c.first_chosen.result ≡ first_chosen only = search rules in
    let renumbered : c.count_from.new.rows ≡ map (row_from (first_chosen only)) items =
    c.count_from.ensures ∙ ap (map (row_from c.first_chosen.result)) c.deref_mut.ensures.value ∙ ap (λ n. map (row_from n) items) first in
    let long : length items ≡ c.args.found.rows.len = sym (ap length c.deref_mut.ensures.value) ∙ c.deref_mut.ensures.len in
    let written = written-back c.args.found.rows.len c.count_from.new.rows items
    (ap length renumbered ∙ length-map items (row_from (first_chosen only)) ∙ long) long ∙ renumbered in
    subst (λ (l : List Row). IfOk c.report_on.result (λ (answer : Answer). answer.text
    ≡ printed c.args.job.now c.args.session.now c.args.found.notes.items l)) written c.report_on.ensures.text
