use Rattle.std.proofs.Common.{◌≤◌, ◌<◌, arith, length, refl, rules}
use Rattle.timing_measure.proofs.lemmas.series.Ending.{Finishes, ends-none, ends-rows}
use Rattle.timing_measure.proofs.lemmas.series.Pouring.{if-ok}
use Rattle.timing_measure.proofs.series.flow.SeriesFlow.finish.Goals as goal
use Rattle.timing_measure.proofs.series.flow.SeriesFlow.finish.Goals.{else-waiting-gt0-via-then-waiting-gt0+else-len-waiting}
use Rattle.timing_measure.proofs.series.flow.SeriesFlow.finish.Goals.{else-waiting-gt0-via-else-waiting-gt0}

pub returns-then-len-waiting : goal.returns-then-len-waiting
returns-then-len-waiting c =
    let rows = c.in_ok-row.rows in
    let finishes : Finishes c.args.self (c.in_ok-row.row, rows) =
    record { result = c.in_ok-row.ensures.row; tells = c.in_ok-row.ensures.tells refl } in
    let few : length rows.text.items ≤ c.args.self.waiting = search rules in
    if-ok c.not_judged.result
    (λ rest is. ends-none c.args.notes.now c.args.self (c.in_ok-row.row, rows) rest finishes c.if-waiting-gt0.true few is) c.not_judged.ensures

pub returns : goal.returns
returns c =
    let rows = c.in_ok-row.rows in
    let finishes : Finishes c.args.self (c.in_ok-row.row, rows) =
    record { result = c.in_ok-row.ensures.row; tells = c.in_ok-row.ensures.tells refl } in
    let some : 0 < c.args.self.waiting → c.args.self.waiting < length rows.text.items =
    elim c.else-waiting-gt0.branch as (λ _. 0 < c.args.self.waiting → c.args.self.waiting < length rows.text.items) [
      | else-waiting-gt0-via-then-waiting-gt0+else-len-waiting w ↦ λ waits. search rules
      | else-waiting-gt0-via-else-waiting-gt0 w ↦ λ waits. absurd (omega (arith, w.if-waiting-gt0.false, waits))
    ] in
    ends-rows c.args.notes.now c.args.self (c.in_ok-row.row, rows) (record { text = rows.text.items; status = c.status_of.result }) finishes some refl
    c.status_of.ensures
