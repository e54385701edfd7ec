-- The steps of a `WatchFlow` at a packet: its meters take it, and then its lines are added.
use Rattle.std.specs.Prelude.{◌≡◌, ◌+◌, ◌-◌, ◌^◌, ℕ, Bool, true, false, if◌then◌else◌, min, nat_lt, ◌||◌, is_some}
use Rattle.std.specs.Prelude.{List, [], ◌∷◌, ◌++◌, length, Option, Some, None, string_bytes}
use Rattle.timing_base.specs.Flows.{first_fault_below}
use Rattle.timing_base.specs.Keys.{key_of}
use Rattle.timing_base.specs.Media.{Media}
use Rattle.timing_base.specs.Numbered.{numbered}
use Rattle.timing_base.specs.Shifts.{FlowOptions, Shift}
use Rattle.timing_base.specs.declared.packet.FlowPacket.{FlowPacket}
use Rattle.timing_base.specs.declared.row.Unjudged.{Unjudged}
use Rattle.fail_interval.specs.Meterings.{IsFed}
use Rattle.fail_interval.specs.Parts.{open_before, parts_before, sound_before}
use Rattle.fail_interval.specs.Stands.{count_fed}
use Rattle.fail_interval.specs.declared.current.RunSoFar.{RunSoFar}
use Rattle.flow_watch.specs.Lines.{gap_line, refused_line, waiting_line}
use Rattle.flow_watch.specs.Watched.{AreLinesSoFar, Tells, left_line}
use Rattle.flow_watch.specs.making.Meters.{StandsFor as MeterStandsFor}
use Rattle.flow_watch.specs.declared.form.LineForm.{LineForm}
use Rattle.flow_watch.specs.declared.form.Waiting.{Waiting}
use Rattle.flow_watch.specs.declared.stretch.Stretch.{Stretch}
use Rattle.timing_watch.specs.Watched.{AddsPacket, Watching}
use Rattle.timing_watch.specs.making.Flows.{IsAtOpen, StandsFor, past_of, text_in}
use Rattle.timing_watch.specs.declared.flow.WatchFlow.{WatchFlow}

-- the lines of the meters that weren't moved yet
abbrev pub stretches_in : WatchFlow → List ℕ
stretches_in x = string_bytes x.metered.out.text

-- the numbers of the open run are the same
pub record KeepsRun (old new : WatchFlow) : Type 0 where
  pub run_is : new.run ≡ old.run
  pub before_is : new.before ≡ old.before

-- the lines of the meters were moved behind the others
pub record MovesStretches (old new : WatchFlow) : Type 0 where
  pub media_is : new.media ≡ old.media
  pub judge_is : new.metered.judge ≡ old.metered.judge
  pub form_is : new.metered.out.form ≡ old.metered.out.form
  pub every_is : new.metered.out.every ≡ old.metered.out.every
  pub open_is : new.metered.out.open ≡ old.metered.out.open
  pub run : KeepsRun old new
  pub since_is : new.since ≡ old.since
  pub refused_is : new.refused ≡ old.refused
  pub none : stretches_in new ≡ []
  pub text_is : text_in new ≡ text_in old ++ stretches_in old

-- judge, meters and their output are the same
pub record KeepsMetered (old new : WatchFlow) : Type 0 where
  pub media_is : new.media ≡ old.media
  pub metered_is : new.metered ≡ old.metered

-- the flow isn't judged any more, for this reason: what was left of the stretch has its line, and the flow too
pub record AddsRefusal (reason : Unjudged) (old new : WatchFlow) : Type 0 where
  pub metered : KeepsMetered old new
  pub refused_is : new.refused ≡ true
  pub text_is : text_in new ≡ text_in old ++ (left_line old.metered.out.form old.metered.out.open
      ++ refused_line old.metered.out.form old.media reason)

-- the line of the gap before a run; none before the first run
abbrev pub gap_before : LineForm → RunSoFar → Option ℕ → List ℕ
gap_before form run None = []
gap_before form run (Some expected) =
    gap_line form (record { rec = run.rec; expected = expected; got = run.number })

-- the run begins with the last packet, which came at this instant
pub record BeginsRun (run : RunSoFar) (at : ℕ) (old new : WatchFlow) : Type 0 where
  pub metered : KeepsMetered old new
  pub run_is : new.run ≡ run.run
  pub before_is : new.before ≡ count_fed old.metered.judge - 1
  pub since_is : new.since ≡ at
  pub refused_is : new.refused ≡ old.refused
  pub text_is : text_in new ≡ text_in old ++ gap_before old.metered.out.form run run.expected

-- the run has a complete frame or field, or less than a second is over at this instant
abbrev pub is_quiet : RunSoFar → (since at : ℕ) → Bool
is_quiet run since at = run.whole || nat_lt at (min (since + 10 ^ 9) (2 ^ 64 - 1))

-- the packets of the open run so far
abbrev pub waiting_in : RunSoFar → WatchFlow → Waiting
waiting_in run x = record { packets = count_fed x.metered.judge - x.before; rec = run.rec }

-- the run goes on with the last packet, which came at this instant
pub record AddsWaiting (run : RunSoFar) (at : ℕ) (old new : WatchFlow) : Type 0 where
  pub metered : KeepsMetered old new
  pub run_is : KeepsRun old new
  pub since_is : new.since ≡ (if is_quiet run old.since at then old.since else at)
  pub refused_is : new.refused ≡ old.refused
  pub text_is : text_in new ≡ text_in old ++ (if is_quiet run old.since at then []
      else waiting_line old.metered.out.form (waiting_in run old))

-- the lines of the first n packets of a flow without what is left of a stretch, `left`; up to the first fault
abbrev pub AreLinesBefore : Watching → Media → Shift → List FlowPacket → (n : ℕ) → List ℕ → (left : Option Stretch)
    → Type 0
AreLinesBefore w m shift packets n text left =
    let sound = sound_before (first_fault_below packets m.pt n) n in
    AreLinesSoFar w.form w.every m shift (parts_before m packets shift sound) (open_before packets shift sound)
    text left

-- the meters took packet n, the last one of these, and the flow's own numbers are still those before it
pub record IsAhead (w : Watching) (m : Media) (shift : Shift) (x : WatchFlow) (packets : List FlowPacket) (n : ℕ)
    (gone : List ℕ) : Type 0 where
  pub refused_is : x.refused ≡ is_some (first_fault_below packets m.pt n)
  -- what was left of a stretch before packet n
  pub left : Option Stretch
  pub before_are : AreLinesBefore w m shift packets n gone left
  pub open_is : x.refused ≡ false → IsAtOpen packets n x

-- the meters took this packet after those before; `gone` are the lines of complete stretches that were moved
pub record HasTaken (w : Watching) (m : Media) (options : FlowOptions) (x : WatchFlow) (packets : List FlowPacket)
    (p : FlowPacket) : Type 0 where
  pub media_is : x.media ≡ m
  pub gone : List ℕ
  pub fed : IsFed true MeterStandsFor Tells (past_of w gone) m (key_of 0 w.form.media) options x.metered
      (packets ++ p ∷ [])
  pub ahead : IsAhead w m options.shift x (numbered options.seq16 (packets ++ p ∷ [])) (length packets) gone

-- the packet was taken after those before, and the lines that it adds were appended
pub record TookPacket (w : Watching) (m : Media) (options : FlowOptions) (old new : WatchFlow)
    (packets : List FlowPacket) (p : FlowPacket) : Type 0 where
  pub more : List ℕ
  pub text_is : text_in new ≡ text_in old ++ more
  pub adds : AddsPacket w m options packets p more
  pub stands : StandsFor w m options new (packets ++ p ∷ [])
