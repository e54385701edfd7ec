use Rattle.timing_report.proofs.Keys.{keys_of_rows}
use Rattle.timing_report.proofs.laws.rows_are_of_session.Goals as goal

pub returns : goal.returns
returns c = λ job session rows is are.
    (λ k d within. (keys_of_rows job session rows is are k d within).0, λ k d within. (keys_of_rows job session rows is are k d within).1)
