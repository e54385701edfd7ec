-- What stands where `series` stops before the end of a capture is a prefix of the text of an answer.
use Rattle.std.proofs.Common.{◌≡◌, ◌≤◌, ◌<◌, ◌+◌, ℕ, List, [], ◌∷◌, ◌++◌, length, drop, take, Bool, true, false, Option, Some, None, inl, inr, refl, ap, ◌∙◌}
use Rattle.std.proofs.Common.{sym, subst, arith, append-nil, append_assoc, length-append, take-append-drop}
use Rattle.std.specs.Prelude.{◌⊎◌}
use Rattle.std.proofs.lemmas.List.Elements.{filter_map-append}
use Rattle.timing_base.specs.Shifts.{FlowOptions, Shift}
use Rattle.timing_base.specs.Captures.{Record}
use Rattle.timing_base.specs.Flows.{first_fault_below}
use Rattle.timing_base.specs.Judged.{judged}
use Rattle.timing_base.specs.Media.{IsMedia, Media}
use Rattle.timing_base.specs.Numbered.{counted_from, last_counted, numbered}
use Rattle.timing_base.specs.declared.capture.FileNote.{FileNote}
use Rattle.timing_base.specs.declared.packet.FlowPacket.{FlowPacket}
use Rattle.timing_base.specs.declared.row.Run.{Run}
use Rattle.timing_base.specs.declared.row.Verdict.{Verdict}
use Rattle.timing_base.proofs.FirstFaults.{fault-kept}
use Rattle.timing_base.proofs.Numberings.{counted_from-append}
use Rattle.udp_rtp.specs.Flow.{flow, flow_packet}
use Rattle.fail_interval.specs.Flowing.{OpensAt}
use Rattle.fail_interval.specs.Measured.{StateTells}
use Rattle.fail_interval.specs.Parts.{open_before, parts_before, sound_before}
use Rattle.fail_interval.specs.Row.{verdict_of}
use Rattle.fail_interval.specs.SoFar.{SoFar}
use Rattle.fail_interval.specs.States.{IsAt}
use Rattle.fail_interval.specs.Telling.{TellsAt}
use Rattle.fail_interval.specs.declared.flow.OpenRun.{OpenRun}
use Rattle.fail_interval.specs.declared.judge.State.{State}
use Rattle.fail_interval.specs.declared.judge.State.TheVariants.{Going, Refused, Spent}
use Rattle.flow_measure.specs.rows.Rows.{header_text}
use Rattle.flow_measure.specs.rows.Told.{PastRows, Tells}
use Rattle.flow_measure.specs.rows.making.Meters.{StandsFor as RowsStandsFor}
use Rattle.flow_measure.specs.declared.rows.meter.RowsMeter.{RowsMeter}
use Rattle.flow_measure.specs.declared.rows.rows.Rows.{Rows}
use Rattle.timing_steps.specs.Queries.{IsFrontOf}
use Rattle.timing_steps.specs.Ran.{Appended, Output}
use Rattle.timing_measure.specs.series.Copies.{Stopped}
use Rattle.timing_measure.specs.series.Rows.{AreRowsAsNumbered, AreRowsUpTo}
use Rattle.timing_measure.specs.series.Series.{DefinesSeries, series_of}
use Rattle.timing_measure.specs.series.Stands.{StandsFor, Waits, past_of, text_of}
use Rattle.timing_measure.specs.declared.series.flow.SeriesFlow.{SeriesFlow}
use Rattle.timing_measure.proofs.lemmas.series.Ending.{some-put}
use Rattle.timing_measure.proofs.lemmas.series.Fronting.{RowsBefore, rows-ahead}

-- these rows were put behind the header so far, and with more they are the rows of the flow
pub record AreBegun (frames : Bool) (m : Media) (shift : Shift) (packets : List FlowPacket) (gone text : List ℕ) : Type 0 where
  pub put : List ℕ
  pub text_is : gone ++ text ≡ header_text frames ++ put
  pub more : List ℕ
  pub are : AreRowsAsNumbered frames m shift packets (put ++ more)

-- what the output tells of the packets before a place
before-place : (past : PastRows) (m : Media) (shift : Shift) (packets : List FlowPacket) (n : ℕ) (so_far : SoFar) (done : List Run)
    (open_run : Option (OpenRun RowsMeter)) (out : Rows)
    → OpensAt m shift packets n so_far done open_run → TellsAt RowsStandsFor Tells past m shift packets n open_run out
    → Tells past out m shift (parts_before m packets shift n) (open_before packets shift n)
before-place past m shift packets n so_far done None out o t =
    subst (λ k. Tells past out m shift (parts_before m packets shift k) (open_before packets shift k)) (sym o.0) t
before-place past m shift packets n so_far done (Some open_run) out o t = t.out_tells

-- the rows of the first packets, of which none has a fault
begun-going : (frames : Bool) (gone : List ℕ) (m : Media) (shift : Shift) (packets : List FlowPacket) (n : ℕ) (out : Rows) → IsMedia m
    → first_fault_below packets m.pt n ≡ None → n ≤ length packets
    → Tells (past_of frames gone) out m shift (parts_before m packets shift n) (open_before packets shift n)
    → AreBegun frames m shift packets gone out.text.items
begun-going frames gone m shift packets n out is none within t =
    let rows = rows-ahead frames m shift packets n t.put is none within (subst (λ f. RowsBefore f m shift packets n t.put) t.frames_is t.are) in
    record { put = t.put; text_is = t.text_is; more = rows.0; are = rows.1 }

begun-state : (frames : Bool) (gone : List ℕ) (m : Media) (shift : Shift) (packets rest : List FlowPacket) (state : State RowsMeter) (out : Rows) → IsMedia m
    → IsAt m shift packets state → StateTells RowsStandsFor Tells (past_of frames gone) m shift packets state out
    → AreBegun frames m shift (packets ++ rest) gone out.text.items
begun-state frames gone m shift packets rest (Going flow) out is at told =
    let all = packets ++ rest in
    let n = length packets in
    let past = past_of frames gone in
    let long : length all ≡ length packets + length rest = length-append packets rest in
    let stands = at.2 in
    let opens : OpensAt m shift all n stands.so_far flow.done.items flow.open =
    subst (λ (x : Media). OpensAt x shift all n stands.so_far flow.done.items flow.open) at.0
    (subst (λ s. OpensAt flow.media s all n stands.so_far flow.done.items flow.open) at.1 (stands.runs rest)) in
    begun-going frames gone m shift all n out is
    (subst (λ (x : Media). first_fault_below all x.pt n ≡ None) at.0 (stands.sound rest)) (omega (arith, long))
    (before-place past m shift all n stands.so_far flow.done.items flow.open out opens (told rest))
begun-state frames gone m shift packets rest (Refused rec fault) out is at told =
    let all = packets ++ rest in
    let n = length packets in
    let past = past_of frames gone in
    let long : length all ≡ length packets + length rest = length-append packets rest in
    let first = at.first rest in
    let t = subst (λ x. Tells past out m shift (parts_before m all shift (sound_before x n)) (open_before all shift (sound_before x n))) first (told rest) in
    let whole = fault-kept all m.pt n (length all) _ (omega (arith, long)) first in
    record {
      put = t.put;
      text_is = t.text_is;
      more = [];
      are = subst (AreRowsAsNumbered frames m shift all) (sym (append-nil t.put))
          (subst (λ o. AreRowsUpTo frames m shift all o t.put) (sym whole)
          (subst (λ f. RowsBefore f m shift all at.index t.put) t.frames_is t.are));
    }
begun-state frames gone m shift packets rest Spent out is at told = absurd at

-- the judged packets of a flow are the first of those of a longer one
later-numbered : (seq16 : Bool) (packets later : List FlowPacket)
    → (rest : List FlowPacket) × (numbered seq16 (packets ++ later) ≡ numbered seq16 packets ++ rest)
later-numbered false packets later = (later, refl)
later-numbered true packets later = (counted_from (last_counted None packets) later, counted_from-append None packets later)

-- a flow whose records were taken has begun with its rows, whatever records follow
series-begun : (frames : Bool) (m : Media) (number : ℕ) (options : FlowOptions) (gone : List ℕ) (x : SeriesFlow) (taken rest : List Record) → IsMedia m
    → StandsFor frames m number options gone x taken
    → AreBegun frames m options.shift (numbered options.seq16 (flow (taken ++ rest) m)) gone (text_of x)
series-begun frames m number options gone x taken rest is h =
    let later = later-numbered options.seq16 (flow taken m) (flow rest m) in
    subst (λ l. AreBegun frames m options.shift l gone (text_of x))
    (sym (ap (numbered options.seq16) (filter_map-append (flow_packet m) taken rest) ∙ later.1))
    (begun-state frames gone m options.shift (numbered options.seq16 (flow taken m)) later.0 x.flow.taker.judge.state x.flow.taker.out is
    h.fed.judge_is.state (h.fed.told refl))

-- an answer that has rows
text-of-rows : (frames : Bool) (m : Media) (notes : List FileNote) (v : Verdict) (rows : List ℕ) → 0 < length rows
    → (series_of frames m notes v rows).text ≡ header_text frames ++ rows
text-of-rows frames m notes v [] some = absurd (omega (arith, some))
text-of-rows frames m notes v (byte ∷ rows) some = refl

-- the pieces of a text
pieces : (gone text put more header : List ℕ) (count : ℕ) → gone ++ text ≡ header ++ put
    → header ++ (put ++ more) ≡ (gone ++ take count text) ++ (drop count text ++ more)
pieces gone text put more header count is =
    sym (append_assoc header put more)
    ∙ ap (λ l. l ++ more) (sym is ∙ ap (λ l. gone ++ l) (sym (take-append-drop count text)) ∙ sym (append_assoc gone (take count text) (drop count text)))
    ∙ append_assoc (gone ++ take count text) (drop count text) more

-- a prefix of what was made so far is one of the answer's text, if a row was made
begins-some : (frames : Bool) (m : Media) (options : FlowOptions) (items : List Record) (notes : List FileNote) (gone made : List ℕ) (count : ℕ)
    → AreBegun frames m options.shift (numbered options.seq16 (flow items m)) gone made
    → length (header_text frames) < length gone + length made
    → IsFrontOf (DefinesSeries frames options m items notes) (gone ++ take count made)
begins-some frames m options items notes gone made count begun more =
    let rows = begun.put ++ begun.more in
    let v = verdict_of m (judged (flow items m) m.pt options) in
    let put : 0 < length begun.put = some-put (header_text frames) begun.put gone made begun.text_is more in
    let some : 0 < length rows = omega (arith, put, length-append begun.put begun.more) in
    record {
      answer = series_of frames m notes v rows;
      has = record { rows = rows; are = begun.are; answer_is = refl };
      rest = drop count made ++ begun.more;
      whole = text-of-rows frames m notes v rows some ∙ pieces gone made begun.put begun.more (header_text frames) count begun.text_is;
    }

-- what was written behind the header has a row
rows-gone : (frames : Bool) (gone made : List ℕ) (waiting : ℕ) → Waits frames gone waiting
    → (gone ≡ []) ⊎ (length (header_text frames) < length gone + length made)
rows-gone frames gone made waiting (inl w) = inl w.0
rows-gone frames gone made waiting (inr w) = inr (omega (arith, w.1))

rows-held : (frames : Bool) (gone made : List ℕ) (waiting : ℕ) → Waits frames gone waiting → waiting < length made
    → length (header_text frames) < length gone + length made
rows-held frames gone made waiting (inl w) some = omega (arith, w.1, some)
rows-held frames gone made waiting (inr w) some = omega (arith, w.1)

begins-none : (frames : Bool) (m : Media) (options : FlowOptions) (items : List Record) (notes : List FileNote) (gone made : List ℕ)
    → AreBegun frames m options.shift (numbered options.seq16 (flow items m)) gone made
    → (gone ≡ []) ⊎ (length (header_text frames) < length gone + length made)
    → (gone ≡ []) ⊎ IsFrontOf (DefinesSeries frames options m items notes) gone
begins-none frames m options items notes gone made begun (inl none) = inl none
begins-none frames m options items notes gone made begun (inr more) =
    inr (subst (IsFrontOf (DefinesSeries frames options m items notes)) (append-nil gone) (begins-some frames m options items notes gone made 0 begun more))

-- what was written where it stopped
stopped-case : (frames : Bool) (m : Media) (options : FlowOptions) (items : List Record) (notes : List FileNote) (gone made : List ℕ) (waiting count : ℕ)
    → AreBegun frames m options.shift (numbered options.seq16 (flow items m)) gone made → Waits frames gone waiting
    → (count ≡ 0) ⊎ (waiting < length made)
    → (gone ++ take count made ≡ []) ⊎ IsFrontOf (DefinesSeries frames options m items notes) (gone ++ take count made)
stopped-case frames m options items notes gone made waiting count begun waits (inl none) =
    let same : gone ≡ gone ++ take count made = sym (ap (λ k. gone ++ take k made) none ∙ append-nil gone) in
    subst (λ l. (l ≡ []) ⊎ IsFrontOf (DefinesSeries frames options m items notes) l) same
    (begins-none frames m options items notes gone made begun (rows-gone frames gone made waiting waits))
stopped-case frames m options items notes gone made waiting count begun waits (inr some) =
    inr (begins-some frames m options items notes gone made count begun (rows-held frames gone made waiting waits some))

-- what `series` has written where it stopped is nothing, or a prefix of the answer's text
pub stopped-begins : (frames : Bool) (m : Media) (number : ℕ) (options : FlowOptions) (items : List Record) (notes : List FileNote) (o : Output) (old :
    SeriesFlow)
    → IsMedia m → StandsFor frames m number options [] old [] → Stopped o old items
    → (front : List ℕ) × Appended o front × ((front ≡ []) ⊎ IsFrontOf (DefinesSeries frames options m items notes) front)
stopped-begins frames m number options items notes o old is fresh s =
    let stands : StandsFor frames m number options s.written s.stood s.taken = s.goes frames m number options [] [] fresh in
    let begun : AreBegun frames m options.shift (numbered options.seq16 (flow items m)) s.written (text_of s.stood) =
    subst (λ l. AreBegun frames m options.shift (numbered options.seq16 (flow l m)) s.written (text_of s.stood)) (sym s.whole)
    (series-begun frames m number options s.written s.stood s.taken s.rest is stands) in (
      s.written ++ take s.count (text_of s.stood),
      s.appended,
      stopped-case frames m options items notes s.written (text_of s.stood) s.stood.waiting s.count begun stands.waits s.some,
    )
