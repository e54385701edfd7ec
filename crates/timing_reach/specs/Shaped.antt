-- The output and status of `shape`, by the contents of its inputs: the SDP, then captures. This project's profile.
use Rattle.std.specs.Prelude.{List}
use Rattle.timing_base.specs.Captures.{Record}
use Rattle.timing_base.specs.Jobs.{ShapeJob}
use Rattle.timing_base.specs.Judged.{judged}
use Rattle.timing_base.specs.Media.{Media}
use Rattle.timing_base.specs.declared.capture.FileNote.{FileNote}
use Rattle.udp_rtp.specs.Flow.{flow}
use Rattle.timing_steps.specs.Answers.{Answer}
use Rattle.timing_steps.specs.Flows.{flow_query}
use Rattle.timing_steps.specs.Queries.{Query}
use Rattle.timing_reach.specs.Asked.{OnRun}
use Rattle.timing_reach.specs.Shapes.{HasShape}

-- the answer of `shape` for the flow of this media in captures with these packet records as one, however they end
abbrev pub DefinesShape : ShapeJob → Media → List Record → List FileNote → Answer → Type 0
DefinesShape job m items notes answer =
    OnRun m (HasShape job.list job.flow.options.shift job.kind m items) (judged (flow items m) m.pt job.flow.options)
    answer

-- what `shape` asks
abbrev pub shape_query : ShapeJob → Query
shape_query job = flow_query job.flow (DefinesShape job)
