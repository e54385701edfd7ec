-- The lines of the stretches of a flow's judged runs. m is the video, `shift` that of the capture timestamps, `form`
-- the media and how lines are written, and `every` the frames or fields of a complete stretch. Each run begins a
-- stretch of its own; when a run ends, what is left of its last stretch has a line too. Frames and fields count from 0
-- here. This project's profile: which stretches there are.
use Rattle.std.specs.Prelude.{◌≡◌, ◌<◌, ◌+◌, ◌-◌, ◌*◌, ◌/◌, ◌%◌, ℕ, zero, suc, List, [], ◌∷◌, ◌++◌, length, Option}
use Rattle.std.specs.Prelude.{Some, None, string_bytes}
use Rattle.std.specs.Int.{div_ceil}
use Rattle.std.proofs.Common.{append-nil, ap, refl, subst, sym, ◌∙◌}
use Rattle.std.proofs.Math.Nat.{zero-div, zero-mod}
use Rattle.timing_base.specs.Media.{Media}
use Rattle.timing_base.specs.Shifts.{Shift}
use Rattle.timing_base.specs.declared.packet.FlowPacket.{FlowPacket}
use Rattle.sender_params.specs.Times.{groups_of}
use Rattle.run_meter.specs.Runs.{JudgedPart, OpenPart, RunOf, stamps_of}
use Rattle.flow_watch.specs.Lines.{stretch_line}
use Rattle.flow_watch.specs.Stretches.{IsStretch}
use Rattle.flow_watch.specs.declared.form.LineForm.{LineForm}
use Rattle.flow_watch.specs.declared.lines.WatchLines.{WatchLines}
use Rattle.flow_watch.specs.declared.stretch.Stretch.{Stretch}

-- the frames or fields of a video in one second, rounded up
abbrev pub per_second : Media → ℕ
per_second m = div_ceil (groups_of m * m.p) m.q

-- a run with these judged packets so far, each in a frame or field of n packets
pub record RunPart : Type 0 where
  -- position among all runs of the flow, from 1
  pub number : ℕ
  pub n : ℕ
  pub packets : List FlowPacket

-- the judged packets of a run that has ended
abbrev pub ended_part : JudgedPart → RunPart
ended_part part = record { number = part.number; n = part.values.n; packets = part.packets }

-- the judged packets so far of a run that hasn't ended
abbrev pub open_part : OpenPart → RunPart
open_part part = record { number = part.run.number; n = part.run.n; packets = part.packets }

-- the complete frames or fields of a run
abbrev pub groups_in : RunPart → ℕ
groups_in part = length part.packets / part.n

-- the stretch of a run's frames or fields from `from` on and before `to`
abbrev pub IsStretchOf : Media → Shift → RunPart → (from to : ℕ) → Stretch → Type 0
IsStretchOf m shift part from to s = IsStretch m part.number part.n (stamps_of shift part.packets) from to s

-- the line of a stretch of the run
pub record HasLine (form : LineForm) (m : Media) (shift : Shift) (part : RunPart) (from to : ℕ) (text : List ℕ) : Type 0
  where
    pub stretch : Stretch
    pub is : IsStretchOf m shift part from to stretch
    pub text_is : text ≡ stretch_line form stretch

-- the lines of the first `count` complete stretches of a run, one after the other
abbrev pub AreLines : LineForm → (every : ℕ) → Media → Shift → RunPart → (count : ℕ) → List ℕ → Type 0
AreLines form every m shift part zero text = text ≡ []
AreLines form every m shift part (suc k) text =
    (before : List ℕ) × (here : List ℕ) × (text ≡ before ++ here) × AreLines form every m shift part k before
    × HasLine form m shift part (k * every) (k * every + every) here

-- the frames or fields of a run that are in no complete stretch
abbrev pub left_of : (every : ℕ) → RunPart → ℕ
left_of every part = groups_in part % every

-- what is left of the last stretch of a run, if anything is
abbrev pub IsLeft : (every : ℕ) → Media → Shift → RunPart → Option Stretch → Type 0
IsLeft every m shift part None = left_of every part ≡ 0
IsLeft every m shift part (Some s) =
    (0 < left_of every part) × IsStretchOf m shift part (groups_in part - left_of every part) (groups_in part) s

-- the line of what is left of a stretch; none if nothing is
abbrev pub left_line : LineForm → Option Stretch → List ℕ
left_line form None = []
left_line form (Some s) = stretch_line form s

-- what the end of a run adds: the line of what is left of its last stretch
abbrev pub IsLeftLine : LineForm → (every : ℕ) → Media → Shift → RunPart → List ℕ → Type 0
IsLeftLine form every m shift part text =
    (left : Option Stretch) × IsLeft every m shift part left × (text ≡ left_line form left)

-- all lines of a run that has ended
abbrev pub AreAllLines : LineForm → (every : ℕ) → Media → Shift → RunPart → List ℕ → Type 0
AreAllLines form every m shift part text =
    (full : List ℕ) × (rest : List ℕ) × (text ≡ full ++ rest)
    × AreLines form every m shift part (groups_in part / every) full × IsLeftLine form every m shift part rest

-- the lines of runs that have ended, one run after the other
abbrev pub AreLinesOf : LineForm → (every : ℕ) → Media → Shift → List JudgedPart → List ℕ → Type 0
AreLinesOf form every m shift [] text = text ≡ []
AreLinesOf form every m shift (part ∷ parts) text =
    (here : List ℕ) × (rest : List ℕ) × (text ≡ here ++ rest)
    × AreAllLines form every m shift (ended_part part) here × AreLinesOf form every m shift parts rest

-- the lines of the runs that have ended, and of the complete stretches of the open run; `left` is what is left of it
abbrev pub AreLinesSoFar : LineForm → (every : ℕ) → Media → Shift → List JudgedPart → Option OpenPart → List ℕ
    → (left : Option Stretch) → Type 0
AreLinesSoFar form every m shift over None text left = AreLinesOf form every m shift over text × (left ≡ None)
AreLinesSoFar form every m shift over (Some part) text left =
    (past : List ℕ) × (here : List ℕ) × (text ≡ past ++ here) × AreLinesOf form every m shift over past
    × AreLines form every m shift (open_part part) (groups_in (open_part part) / every) here
    × IsLeft every m shift (open_part part) left

-- the past of a `WatchLines`: how its lines are made, and the text that was removed from its front
pub record PastLines : Type 0 where
  pub form : LineForm
  pub every : ℕ
  pub gone : List ℕ

-- the text has these lines, but for what was removed from its front, and the open stretch is what is left
pub record Tells (past : PastLines) (x : WatchLines) (m : Media) (shift : Shift) (over : List JudgedPart)
    (part : Option OpenPart) : Type 0 where
  pub form_is : x.form ≡ past.form
  pub every_is : x.every ≡ past.every
  pub put : List ℕ
  pub are : AreLinesSoFar past.form past.every m shift over part put x.open
  pub text_is : past.gone ++ string_bytes x.text ≡ put

-- a run that begins has no line yet
pub begins_open : (past : PastLines) (x : WatchLines) (m : Media) (shift : Shift) (over : List JudgedPart) (r : RunOf)
    → Tells past x m shift over None → Tells past x m shift over (Some (record { run = r; packets = [] }))
begins_open past x m shift over r h =
    let part = open_part (record { run = r; packets = [] }) in
    let none : groups_in part ≡ 0 = zero-div r.n in
    let full : groups_in part / past.every ≡ 0 = ap (λ g. g / past.every) none ∙ zero-div past.every in
    let left : left_of past.every part ≡ 0 = ap (λ g. g % past.every) none ∙ zero-mod past.every in
    record {
      form_is = h.form_is;
      every_is = h.every_is;
      put = h.put;
      are = (
        h.put,
        [],
        sym (append-nil h.put),
        h.are.0,
        subst (λ k. AreLines past.form past.every m shift part k []) (sym full) refl,
        subst (λ o. IsLeft past.every m shift part o) (sym h.are.1) left,
      );
      text_is = h.text_is;
    }
