-- The output and status of `window`, by the contents of its inputs: the SDP, then captures. For a flow that is judged
-- in one run the output has, for each sender type of SMPTE ST 2110-21, the offsets with which the receiver buffer would
-- neither underflow nor overflow. Offsets are microseconds, and judged packets count from 0. This project's profile.
use Rattle.std.specs.Prelude.{◌≡◌, ℕ, List, [], ◌++◌, Option, Some, None, codes}
use Rattle.std.specs.Fmt.{decimal}
use Rattle.timing_base.specs.Shifts.{FlowOptions}
use Rattle.timing_base.specs.Captures.{Record}
use Rattle.timing_base.specs.Jobs.{FlowJob}
use Rattle.timing_base.specs.Judged.{JudgedRun, judged}
use Rattle.timing_base.specs.Media.{Media}
use Rattle.timing_base.specs.declared.capture.FileNote.{FileNote}
use Rattle.timing_base.specs.declared.media.Kind.{Kind}
use Rattle.timing_base.specs.declared.media.Kind.TheVariants.{N, NL, W}
use Rattle.offset_window.specs.Window.{IsWindow}
use Rattle.offset_window.specs.declared.window.Window.{Window}
use Rattle.offset_window.specs.declared.window.WindowEnd.{WindowEnd}
use Rattle.offset_window.specs.declared.window.WindowEnd.TheVariants.{Absent, At}
use Rattle.udp_rtp.specs.Flow.{flow}
use Rattle.timing_report.specs.Words.{kind_name}
use Rattle.timing_report.specs.declared.status.Status.TheVariants as status
use Rattle.timing_steps.specs.Answers.{Answer}
use Rattle.timing_steps.specs.Flows.{flow_query}
use Rattle.timing_steps.specs.Queries.{Query}
use Rattle.timing_reach.specs.Asked.{OnRun}
use Rattle.timing_reach.specs.declared.window.windows.Windows.{Windows}

-- ` at packet I`, if a packet binds the end
abbrev pub binding_text : Option ℕ → List ℕ
binding_text None = []
binding_text (Some packet) = codes " at packet " ++ decimal packet

-- `none`, `X` or `X at packet I`
abbrev pub end_text : WindowEnd → List ℕ
end_text Absent = codes "none"
end_text (At micros binding) = decimal micros ++ binding_text binding

-- `K lower A, upper B`, with the newline
abbrev pub window_line : Kind → Window → List ℕ
window_line kind w =
    kind_name kind ++ (codes " lower " ++ (end_text w.lower ++ (codes ", upper " ++ (end_text w.upper ++ codes "\n"))))

-- the lines of the types N, NL and W
abbrev pub windows_text : Windows → List ℕ
windows_text w = window_line N w.narrow ++ (window_line NL w.narrow_linear ++ window_line W w.wide)

-- the windows of packets with these capture timestamps, `n` of them in each frame or field
pub record AreWindowsOf (m : Media) (n : ℕ) (stamps : List ℕ) (w : Windows) : Type 0 where
  pub narrow : IsWindow m n stamps N w.narrow
  pub narrow_linear : IsWindow m n stamps NL w.narrow_linear
  pub wide : IsWindow m n stamps W w.wide

-- the three lines for the judged packets of this media, and status 0
pub record HasLines (m : Media) (run : JudgedRun) (answer : Answer) : Type 0 where
  pub windows : Windows
  pub are : AreWindowsOf m run.n run.stamps windows
  pub answer_is : answer ≡ record { text = windows_text windows; status = status.Pass }

-- the answer of `window` for the flow of this media in captures with these packet records as one, however they end
abbrev pub DefinesWindow : FlowOptions → Media → List Record → List FileNote → Answer → Type 0
DefinesWindow options m items notes answer = OnRun m (HasLines m) (judged (flow items m) m.pt options) answer

-- what `window` asks
abbrev pub window_query : FlowJob → Query
window_query job = flow_query job (DefinesWindow job.options)
