-- The measurements of the judged runs of a flow. Capture timestamps are nanoseconds of TAI, after the shift of the
-- flow. Runs and packet records count from 1. This project's profile.
use Rattle.std.specs.Prelude.{◌≡◌, ℕ, ⊤, List, [], ◌∷◌, map, Option, Some, None}
use Rattle.timing_base.specs.Shifts.{Shift}
use Rattle.timing_base.specs.Flows.{read_or_zeros}
use Rattle.timing_base.specs.Media.{Media}
use Rattle.timing_base.specs.declared.row.KindVerdict.{KindVerdict}
use Rattle.timing_base.specs.declared.row.KindVerdict.TheVariants as kind_verdict
use Rattle.run_meter.specs.Runs.{JudgedPart, stamps_of}
use Rattle.flow_measure.specs.Packets.{records_of, timestamps_of}
use Rattle.flow_measure.specs.Run.{IsMeasured}
use Rattle.flow_measure.specs.declared.numbers.MeasuredRun.{MeasuredRun}
use Rattle.flow_measure.specs.declared.numbers.RunNumbers.{RunNumbers}

-- the packet that a violation names: the last of its interval
abbrev pub named_by : KindVerdict → Option ℕ
named_by kind_verdict.Pass = None
named_by (kind_verdict.Fail proof) = Some proof.to

-- the measurements of a judged run of a media: those of its judged packets
abbrev pub HasNumbers : Media → (shift : Shift) → JudgedPart → RunNumbers → Type 0
HasNumbers m shift part numbers =
    IsMeasured m part.values.n part.values.frames (stamps_of shift part.packets) (records_of part.packets)
    (timestamps_of part.packets) (map named_by part.values.kinds) numbers

-- a judged run with its measurements, which satisfy `Numbers`
pub record IsMeasuredRun (Numbers : JudgedPart → RunNumbers → Type 0) (part : JudgedPart) (run : MeasuredRun)
    : Type 0 where
  pub run_is : run.run ≡ part.number
  pub record_is : run.«record» ≡ part.first.rec
  pub number : run.number ≡ (read_or_zeros part.first.rtp).number
  pub judged_is : run.judged ≡ part.values
  pub numbers : Numbers part run.numbers

-- the measured runs are these judged runs, in order, each with its measurements
abbrev pub AreMeasured : (Numbers : JudgedPart → RunNumbers → Type 0) → List JudgedPart → List MeasuredRun → Type 0
AreMeasured Numbers [] [] = ⊤
AreMeasured Numbers [] (run ∷ runs) = ⊥
AreMeasured Numbers (part ∷ parts) [] = ⊥
AreMeasured Numbers (part ∷ parts) (run ∷ runs) = IsMeasuredRun Numbers part run × AreMeasured Numbers parts runs
