-- The output and status of `series`, by the contents of its inputs: the rows of the judged runs of the flow of one
-- media as comma-separated values (RFC 4180), in one capture or in several that are taken as one (`--joined`). The SDP
-- is read first, then the captures. This project's profile.
use Rattle.std.specs.Prelude.{◌≡◌, ◌++◌, ℕ, Bool, List, [], ◌∷◌}
use Rattle.timing_base.specs.Shifts.{FlowOptions}
use Rattle.timing_base.specs.Captures.{Record}
use Rattle.timing_base.specs.Jobs.{SeriesJob}
use Rattle.timing_base.specs.Judged.{judged}
use Rattle.timing_base.specs.Media.{Media}
use Rattle.timing_base.specs.declared.capture.FileNote.{FileNote}
use Rattle.timing_base.specs.declared.row.Verdict.{Verdict}
use Rattle.fail_interval.specs.Row.{verdict_of}
use Rattle.flow_measure.specs.rows.Rows.{header_text}
use Rattle.timing_steps.specs.Answers.{Answer}
use Rattle.timing_steps.specs.Flows.{flow_query, not_judged}
use Rattle.timing_steps.specs.Queries.{Query}
use Rattle.udp_rtp.specs.Flow.{flow}
use Rattle.timing_measure.specs.series.Rows.{AreRowsOfFlow}
use Rattle.timing_measure.specs.series.Status.{series_status}

-- the answer for the flow of a media with this verdict and these rows: the header and the rows; without a row, the
-- verdict
abbrev pub series_of : (frames : Bool) → Media → List FileNote → Verdict → (rows : List ℕ) → Answer
series_of frames m notes found [] = not_judged m found
series_of frames m notes found (byte ∷ rows) = record {
  text = header_text frames ++ byte ∷ rows;
  status = series_status notes found;
}

-- the answer of `series` for the flow of this media, in the packet records of all captures as one, which end in these
-- ways
pub record DefinesSeries (frames : Bool) (options : FlowOptions) (m : Media) (items : List Record)
    (notes : List FileNote) (answer : Answer) : Type 0 where
  pub rows : List ℕ
  pub are : AreRowsOfFlow frames m options (flow items m) rows
  pub answer_is : answer ≡ series_of frames m notes (verdict_of m (judged (flow items m) m.pt options)) rows

-- what `series` asks: the captures are read if the SDP has the media
abbrev pub series_query : SeriesJob → Query
series_query job = flow_query job.flow (DefinesSeries job.frames job.flow.options)
