-- A series takes a record, and its rows are written.
use Rattle.std.proofs.Common.{◌≡◌, ◌≤◌, ◌<◌, ◌∙◌, ◌++◌, ℕ, Bool, true, List, [], length, Option, inl, inr, refl, ap, sym, subst, arith, append-nil}
use Rattle.std.proofs.Common.{length-append}
use Rattle.std.specs.Prelude.{IfOk, Result, Ok, Err}
use Rattle.std.proofs.lemmas.List.Elements.{filter_map-append}
use Rattle.timing_base.specs.Shifts.{Shift}
use Rattle.timing_base.specs.Captures.{Record}
use Rattle.timing_base.specs.Keys.{key_of}
use Rattle.timing_base.specs.Media.{Media}
use Rattle.udp_rtp.specs.Flow.{flow, flow_packet}
use Rattle.run_meter.specs.Runs.{JudgedPart, OpenPart}
use Rattle.fail_interval.specs.Measured.{JudgeTells}
use Rattle.fail_interval.specs.Meterings.{Feeds, IsFed, room_less}
use Rattle.fail_interval.specs.Stands.{StandsFor as JudgeStandsFor}
use Rattle.fail_interval.specs.declared.judge.FlowJudge.{FlowJudge}
use Rattle.fail_interval.proofs.JudgeTold.{carried-tells}
use Rattle.flow_demux.specs.Takings.{TakesFlow}
use Rattle.flow_measure.specs.rows.Told.{AreRowsSoFar, Tells}
use Rattle.flow_measure.specs.rows.making.Meters.{StandsFor as RowsStandsFor}
use Rattle.flow_measure.specs.declared.rows.meter.RowsMeter.{RowsMeter}
use Rattle.flow_measure.specs.declared.rows.rows.Rows.{Rows}
use Rattle.timing_measure.specs.series.Stands.{HasRoom, HoldsText, PoursOn, TakesOn, Waits, past_of, text_of}
use Rattle.timing_measure.specs.declared.series.flow.SeriesFlow.{SeriesFlow}

-- room for many packets is room for few
pub room-less : (few many : ℕ) (x : SeriesFlow) → few ≤ many → HasRoom many x → HasRoom few x
room-less few many x less room = record { few = room_less few many x.flow.taker less room.few; awaits = room.awaits }

-- some records more were taken
pub series-took : (old new : SeriesFlow) (more : List Record) → new.waiting ≡ old.waiting
    → TakesFlow (λ m x y l. Feeds true RowsStandsFor Tells m x y l) old.flow new.flow more → TakesOn old new more
series-took old new more same t frames m number options gone items h =
    let feeds : Feeds true RowsStandsFor Tells m old.flow.taker new.flow.taker more =
    subst (λ (x : Media). Feeds true RowsStandsFor Tells x old.flow.taker new.flow.taker more) h.media_is t.fed in
    record {
      media_is = t.media ∙ h.media_is;
      fed = subst (IsFed true RowsStandsFor Tells (past_of frames gone) m (key_of 0 number) options new.flow.taker)
          (sym (filter_map-append (flow_packet m) items more)) (feeds (past_of frames gone) (key_of 0 number) options (flow items m) h.fed);
      waits = subst (Waits frames gone) (sym same) h.waits;
    }

-- what stood in a text was taken out
tells-out : (frames : Bool) (gone : List ℕ) (old new : Rows) (m : Media) (shift : Shift) (over : List JudgedPart) (part : Option OpenPart)
    → new.frames ≡ old.frames → new.text.items ≡ [] → Tells (past_of frames gone) old m shift over part
    → Tells (past_of frames (gone ++ old.text.items)) new m shift over part
tells-out frames gone old new m shift over part same none t = record {
  frames_is = same ∙ t.frames_is;
  put = t.put;
  are = subst (λ f. AreRowsSoFar f m shift over part t.put) (sym same) t.are;
  text_is = ap (λ l. (gone ++ old.text.items) ++ l) none ∙ append-nil (gone ++ old.text.items) ∙ t.text_is;
}

-- the header was written, and a row behind it
waits-out : (frames : Bool) (gone text : List ℕ) (waiting : ℕ) → waiting < length text → Waits frames gone waiting → Waits frames (gone ++ text) 0
waits-out frames gone text waiting some (inl h) =
    inr (refl, omega (arith, some, h.1, ap length (ap (λ l. l ++ text) h.0), length-append gone text))
waits-out frames gone text waiting some (inr h) = inr (refl, omega (arith, h.1, length-append gone text))

-- all that was made was written
pub poured-out : (old new : SeriesFlow) → HoldsText old → new.flow.media ≡ old.flow.media → new.flow.taker.judge ≡ old.flow.taker.judge
    → new.flow.taker.out.frames ≡ old.flow.taker.out.frames → text_of new ≡ [] → new.waiting ≡ 0 → PoursOn old new (text_of old)
poured-out old new some media judge same none waits frames m number options gone items h = record {
  media_is = media ∙ h.media_is;
  fed = record {
    judge_is = subst (λ (j : FlowJudge RowsMeter). JudgeStandsFor m (key_of 0 number) options j (flow items m)) (sym judge) h.fed.judge_is;
    told = λ wants.
        subst (λ (j : FlowJudge RowsMeter).
        JudgeTells RowsStandsFor Tells (past_of frames (gone ++ text_of old)) m options (flow items m) j new.flow.taker.out) (sym judge)
        (carried-tells RowsStandsFor Tells (past_of frames gone) (past_of frames (gone ++ text_of old)) m options old.flow.taker.judge (flow items m)
        old.flow.taker.out new.flow.taker.out
        (λ over part t. tells-out frames gone old.flow.taker.out new.flow.taker.out m options.shift over part same none t) (h.fed.told wants));
  };
  waits = subst (Waits frames (gone ++ text_of old)) (sym waits) (waits-out frames gone (text_of old) old.waiting some h.waits);
}

-- what follows from an answer
pub if-ok : {T E : Type 0} {P Q : T → Type 0} (result : Result T E) → ((x : T) → P x → Q x) → IfOk result P → IfOk result Q
if-ok (Ok x) next h = next x h
if-ok (Err e) next h = tt
