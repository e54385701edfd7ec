use Rattle.pcap_reader.proofs.Captures.{some-records}
use Rattle.timing_steps.proofs.Onces.{only-has}
use Rattle.timing_reach.specs.Windows.{window_query}
use Rattle.timing_reach.proofs.Windowing.{once-window, some-lines-of}
use Rattle.timing_reach.proofs.laws.one_window_answer.Goals as goal

pub returns-clause-some : goal.returns-clause-some
returns-clause-some c = λ job media texts unsettled.
    let all = some-records texts in
    let made = some-lines-of job media all.0 all.1 unsettled in
    (made.0, record { files = all.0; notes = all.1; records = all.2; defined = made.1 })

pub returns-clause-once : goal.returns-clause-once
returns-clause-once c = λ job media texts a b h k. only-has (window_query job) media texts a b (once-window job) h k
