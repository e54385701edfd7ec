-- What is opened to read JSON that is worked by hand.
use Rattle.std.specs.Prelude.{⊤}
use Rattle.report_reader.specs.Pieces.{number}
use Rattle.report_reader.specs.Reading.{destination}
use Rattle.table_reader.specs.Rows.{signed}
use Rattle.measure_reader.specs.Reading.{bins, breaks, buffer, counts, flag, flow, gap_or_none, kind, kinds, level, member_or_none, outcome, place_or_none}
use Rattle.measure_reader.specs.Reading.{proof, run, runs_or_none, ssrc_or_none, step_or_none, summary, summary_and_target, summary_front, verdict, window}

unfoldable pub readers : ⊤
unfolding number destination signed bins breaks buffer counts flag flow gap_or_none kind kinds level member_or_none outcome place_or_none proof run
    runs_or_none ssrc_or_none step_or_none summary summary_and_target summary_front verdict window
readers = tt
