-- The rest of the answer of `series` for a flow that has ended.
use Rattle.std.specs.Prelude.{◌≡◌, ℕ, Bool, List, ◌++◌}
use Rattle.timing_base.specs.Shifts.{FlowOptions}
use Rattle.timing_base.specs.Captures.{Record}
use Rattle.timing_base.specs.Judged.{judged}
use Rattle.timing_base.specs.Media.{Media}
use Rattle.timing_base.specs.declared.capture.FileNote.{FileNote}
use Rattle.udp_rtp.specs.Flow.{flow}
use Rattle.fail_interval.specs.Row.{verdict_of}
use Rattle.timing_steps.specs.Answers.{Answer}
use Rattle.timing_measure.specs.series.Rows.{AreRowsOfFlow}
use Rattle.timing_measure.specs.series.Series.{series_of}
use Rattle.timing_measure.specs.series.Stands.{StandsFor}
use Rattle.timing_measure.specs.declared.series.flow.SeriesFlow.{SeriesFlow}

-- what was written and this rest are the answer for the flow of this media, in these packet records
pub record IsRestOf (frames : Bool) (m : Media) (options : FlowOptions) (notes : List FileNote) (items : List Record)
    (gone : List ℕ) (rest : Answer) : Type 0 where
  pub rows : List ℕ
  pub are : AreRowsOfFlow frames m options (flow items m) rows
  pub whole : record { text = gone ++ rest.text; status = rest.status }
      ≡ series_of frames m notes (verdict_of m (judged (flow items m) m.pt options)) rows

-- `rest` is the rest of the answer, whatever was taken and written before
abbrev pub EndsSeries : List FileNote → SeriesFlow → (rest : Answer) → Type 0
EndsSeries notes x rest =
    (frames : Bool) (m : Media) (number : ℕ) (options : FlowOptions) (gone : List ℕ) (items : List Record)
    → StandsFor frames m number options gone x items → IsRestOf frames m options notes items gone rest
