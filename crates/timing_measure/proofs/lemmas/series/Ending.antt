-- A flow whose rows were written is over: what is left of its answer.
use Rattle.std.proofs.Common.{◌≡◌, ◌≤◌, ◌<◌, ◌+◌, ◌∙◌, ◌++◌, ◌∷◌, ℕ, Bool, true, false, List, [], length, Option, Some, None, inl, inr, refl, ap, sym, subst}
use Rattle.std.proofs.Common.{arith, length-append}
use Rattle.timing_base.specs.Shifts.{FlowOptions, Shift}
use Rattle.timing_base.specs.Captures.{Record}
use Rattle.timing_base.specs.Flows.{FirstFault, first_fault}
use Rattle.timing_base.specs.Judged.{judged}
use Rattle.timing_base.specs.Keys.{key_of}
use Rattle.timing_base.specs.Media.{Media}
use Rattle.timing_base.specs.Numbered.{numbered}
use Rattle.timing_base.specs.declared.capture.FileNote.{FileNote}
use Rattle.timing_base.specs.declared.key.FlowKey.{FlowKey}
use Rattle.timing_base.specs.declared.packet.FlowPacket.{FlowPacket}
use Rattle.timing_base.specs.declared.row.Row.{Row}
use Rattle.timing_base.specs.declared.row.Verdict.{Verdict}
use Rattle.udp_rtp.specs.Flow.{flow}
use Rattle.fail_interval.specs.Measured.{TellsEnd, TellsOfAll}
use Rattle.fail_interval.specs.Meterings.{IsFed}
use Rattle.fail_interval.specs.Row.{row, verdict_of}
use Rattle.fail_interval.specs.Stands.{StandsFor as JudgeStandsFor}
use Rattle.flow_measure.specs.rows.Rows.{header_text}
use Rattle.flow_measure.specs.rows.Told.{PastRows, Tells}
use Rattle.flow_measure.specs.rows.making.Meters.{StandsFor as RowsStandsFor}
use Rattle.flow_measure.specs.declared.rows.rows.Rows.{Rows}
use Rattle.timing_steps.specs.Answers.{Answer}
use Rattle.timing_steps.specs.Flows.{not_judged}
use Rattle.timing_measure.specs.series.Ends.{EndsSeries, IsRestOf}
use Rattle.timing_measure.specs.series.Rows.{AreRowsAsNumbered, AreRowsOfFlow, AreRowsUpTo}
use Rattle.timing_measure.specs.series.Series.{series_of}
use Rattle.timing_measure.specs.series.Stands.{StandsFor, Waits, past_of}
use Rattle.timing_measure.specs.series.Status.{series_status}
use Rattle.timing_measure.specs.declared.series.flow.SeriesFlow.{SeriesFlow}

-- these rows were put behind the header, and so much was written
record HasPut (frames : Bool) (m : Media) (shift : Shift) (packets : List FlowPacket) (gone text : List ℕ) : Type 0 where
  pub put : List ℕ
  pub are : AreRowsAsNumbered frames m shift packets put
  pub text_is : gone ++ text ≡ header_text frames ++ put

put-up-to : (frames : Bool) (m : Media) (shift : Shift) (packets : List FlowPacket) (gone : List ℕ) (rows : Rows) (o : Option FirstFault)
    → TellsEnd Tells (past_of frames gone) m shift packets o rows
    → (put : List ℕ) × AreRowsUpTo frames m shift packets o put × (gone ++ rows.text.items ≡ header_text frames ++ put)
put-up-to frames m shift packets gone rows None h = (h.put, subst (λ f. AreRowsUpTo f m shift packets None h.put) h.frames_is h.are, h.text_is)
put-up-to frames m shift packets gone rows (Some first) h = (h.put, subst (λ f. AreRowsUpTo f m shift packets (Some first) h.put) h.frames_is h.are, h.text_is)

has-put : (frames : Bool) (m : Media) (shift : Shift) (packets : List FlowPacket) (gone : List ℕ) (rows : Rows)
    → TellsEnd Tells (past_of frames gone) m shift packets (first_fault packets m.pt) rows → HasPut frames m shift packets gone rows.text.items
has-put frames m shift packets gone rows h =
    let p = put-up-to frames m shift packets gone rows (first_fault packets m.pt) h in
    record { put = p.0; are = p.1; text_is = p.2 }

no-bytes : (xs : List ℕ) → length xs ≡ 0 → xs ≡ []
no-bytes [] e = refl
no-bytes (x ∷ xs) e = absurd (omega (arith, e))

-- the header still waits, and there is no row
rest-none : (frames : Bool) (m : Media) (options : FlowOptions) (notes : List FileNote) (items : List Record) (gone text : List ℕ) (waiting : ℕ) (rest : Answer)
    → Waits frames gone waiting → 0 < waiting → length text ≤ waiting → HasPut frames m options.shift (numbered options.seq16 (flow items m)) gone text
    → rest ≡ not_judged m (verdict_of m (judged (flow items m) m.pt options))
    → IsRestOf frames m options notes items gone rest
rest-none frames m options notes items gone text waiting rest (inr w) some few h is = absurd (omega (arith, some, w.0))
rest-none frames m options notes items gone text waiting rest (inl w) some few h is =
    let v = verdict_of m (judged (flow items m) m.pt options) in
    let long : length text ≡ length (header_text frames) + length h.put =
    ap length (ap (λ l. l ++ text) (sym w.0) ∙ h.text_is) ∙ length-append (header_text frames) h.put in
    let none : h.put ≡ [] = no-bytes h.put (omega (arith, long, few, w.1)) in
    record {
      rows = [];
      are = subst (AreRowsOfFlow frames m options (flow items m)) none h.are;
      whole = ap (λ l. record { text = l ++ rest.text; status = rest.status }) w.0 ∙ is;
    }

-- there are rows
by-rows : (frames : Bool) (m : Media) (notes : List FileNote) (v : Verdict) (put gone : List ℕ) (rest : Answer) → 0 < length put
    → gone ++ rest.text ≡ header_text frames ++ put → rest.status ≡ series_status notes v
    → record { text = gone ++ rest.text; status = rest.status } ≡ series_of frames m notes v put
by-rows frames m notes v [] gone rest some text status = absurd (omega (arith, some))
by-rows frames m notes v (byte ∷ put) gone rest some text status = λ i. record { text = text i; status = status i }

pub some-put : (header put gone text : List ℕ) → gone ++ text ≡ header ++ put → length header < length gone + length text → 0 < length put
some-put header put gone text e more =
    omega (arith, more, sym (length-append gone text) ∙ ap length e ∙ length-append header put)

rest-rows : (frames : Bool) (m : Media) (options : FlowOptions) (notes : List FileNote) (items : List Record) (gone : List ℕ) (waiting : ℕ) (rest : Answer)
    → Waits frames gone waiting → (0 < waiting → waiting < length rest.text)
    → HasPut frames m options.shift (numbered options.seq16 (flow items m)) gone rest.text
    → 0 < length (header_text frames)
    → rest.status ≡ series_status notes (verdict_of m (judged (flow items m) m.pt options))
    → IsRestOf frames m options notes items gone rest
rest-rows frames m options notes items gone waiting rest (inl w) more h head status =
    let long : waiting < length rest.text = more (omega (arith, head, w.1)) in
    record {
      rows = h.put;
      are = h.are;
      whole = by-rows frames m notes _ h.put gone rest
          (some-put (header_text frames) h.put gone rest.text h.text_is (omega (arith, long, w.1))) h.text_is status;
    }
rest-rows frames m options notes items gone waiting rest (inr w) more h head status = record {
  rows = h.put;
  are = h.are;
  whole = by-rows frames m notes _ h.put gone rest
      (some-put (header_text frames) h.put gone rest.text h.text_is (omega (arith, w.1))) h.text_is status;
}

-- a header has bytes
header-some : (frames : Bool) → 0 < length (header_text frames)
header-some true = omega arith
header-some false = omega arith

-- what the judge and the rows of a flow that has ended say of its packets
pub record Finishes (x : SeriesFlow) (told : Row × Rows) : Type 0 where
  pub result : (m : Media) (key : FlowKey) (options : FlowOptions) (packets : List FlowPacket) → JudgeStandsFor m key options x.flow.taker.judge packets
      → told.0 ≡ row packets key m options
  pub tells : (past : PastRows) (m : Media) (key : FlowKey) (options : FlowOptions) (packets : List FlowPacket)
      → IsFed true RowsStandsFor Tells past m key options x.flow.taker packets → TellsOfAll Tells past m options packets told.1

verdict-is : (x : SeriesFlow) (told : Row × Rows) (frames : Bool) (m : Media) (number : ℕ) (options : FlowOptions) (gone : List ℕ) (items : List Record)
    → Finishes x told
    → StandsFor frames m number options gone x items → told.0.verdict ≡ verdict_of m (judged (flow items m) m.pt options)
verdict-is x told frames m number options gone items f h =
    ap (λ (r : Row). r.verdict) (f.result m (key_of 0 number) options (flow items m) h.fed.judge_is)

rows-put : (x : SeriesFlow) (told : Row × Rows) (frames : Bool) (m : Media) (number : ℕ) (options : FlowOptions) (gone : List ℕ) (items : List Record)
    → Finishes x told
    → StandsFor frames m number options gone x items → HasPut frames m options.shift (numbered options.seq16 (flow items m)) gone told.1.text.items
rows-put x told frames m number options gone items f h =
    has-put frames m options.shift (numbered options.seq16 (flow items m)) gone told.1
    (f.tells (past_of frames gone) m (key_of 0 number) options (flow items m) h.fed)

-- there is no row: the verdict is the answer
pub ends-none : (notes : List FileNote) (x : SeriesFlow) (told : Row × Rows) (rest : Answer) → Finishes x told → 0 < x.waiting
    → length told.1.text.items ≤ x.waiting → rest ≡ not_judged x.flow.media told.0.verdict
    → EndsSeries notes x rest
ends-none notes x told rest f some few is frames m number options gone items h =
    rest-none frames m options notes items gone told.1.text.items x.waiting rest h.waits some few (rows-put x told frames m number options gone items f h)
    (is ∙ ap (λ (n : Media). not_judged n told.0.verdict) h.media_is ∙ ap (not_judged m) (verdict-is x told frames m number options gone items f h))

-- the rows that weren't written yet are the rest
pub ends-rows : (notes : List FileNote) (x : SeriesFlow) (told : Row × Rows) (rest : Answer) → Finishes x told
    → (0 < x.waiting → x.waiting < length told.1.text.items) → rest.text ≡ told.1.text.items → rest.status ≡ series_status notes told.0.verdict
    → EndsSeries notes x rest
ends-rows notes x told rest f some text ends frames m number options gone items h =
    rest-rows frames m options notes items gone x.waiting rest h.waits
    (λ waits. subst (λ l. x.waiting < length l) (sym text) (some waits))
    (subst (HasPut frames m options.shift (numbered options.seq16 (flow items m)) gone) (sym text)
    (rows-put x told frames m number options gone items f h)) (header-some frames)
    (ends ∙ ap (series_status notes) (verdict-is x told frames m number options gone items f h))
