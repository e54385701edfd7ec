-- Rows are written while records are taken.
use Rattle.std.proofs.Common.{◌≡◌, ◌+◌, ◌++◌, ◌∷◌, [], ℕ, suc, List, length, take, Option, Some, None, Ok, Bor, inl, inr, refl, ap, ◌∙◌, sym, subst, arith}
use Rattle.std.proofs.Common.{append-nil, append_assoc, length-append}
use Rattle.std.proofs.lemmas.List.{map-append}
use Rattle.std.specs.Io.KnownBytes.{Appends}
use Rattle.std.proofs.KnownBytes.{Appends-trans}
use Rattle.std.specs.Prelude.{Err, IfErr, Result, map}
use Rattle.timing_base.specs.Captures.{Record, raised}
use Rattle.timing_base.specs.declared.capture.FileNote.{FileNote}
use Rattle.timing_base.specs.declared.capture.PcapFault.{PcapFault}
use Rattle.pcap_reader.specs.Readers.{Counts, Gives, GivesNote, Steps, WillGive, frame_count}
use Rattle.pcap_reader.specs.Taken.{HasTaken}
use Rattle.pcap_reader.specs.declared.reader.PcapReader.{PcapReader}
use Rattle.pcap_reader.specs.declared.reader.Step.{Step}
use Rattle.pcap_reader.specs.declared.reader.Step.TheVariants as step
use Rattle.timing_outside.specs.Written.{AppendsFront}
use Rattle.timing_steps.specs.Ran.{Output}
use Rattle.timing_measure.specs.series.Copies.{Copies, IsCopying, Stopped}
use Rattle.timing_measure.specs.series.Stands.{HoldsText, PoursOn, StandsFor, TakesOn, text_of}
use Rattle.timing_measure.specs.declared.series.flow.SeriesFlow.{SeriesFlow}

-- where nothing is written
pub appends-same : (o : Option (List ℕ)) → Appends o o []
appends-same None = tt
appends-same (Some xs) = sym (append-nil xs)

-- a run's output, with its bytes at another moment
abbrev pub until : Output → (new : Option (List ℕ)) → (now : ℕ) → Output
until o new now = record { old = o.old; new = new; before = o.before; now = now }

-- before the first record
pub copies-none : (o : Output) (f : SeriesFlow) → o.new ≡ o.old → Copies o f f []
copies-none o f same = record {
  written = [];
  appended = subst (λ n. Appends o.old n []) (sym same) (appends-same o.old);
  goes = λ frames m number options gone before h.
      subst (λ l. StandsFor frames m number options l f (before ++ [])) (sym (append-nil gone))
      (subst (StandsFor frames m number options gone f) (sym (append-nil before)) h);
}

-- some records more were taken
copies-more : (o : Output) (old mid new : SeriesFlow) (a b : List Record) → Copies o old mid a → TakesOn mid new b → Copies o old new (a ++ b)
copies-more o old mid new a b c t = record {
  written = c.written;
  appended = c.appended;
  goes = λ frames m number options gone before h.
      subst (StandsFor frames m number options (gone ++ c.written) new) (append_assoc before a b)
      (t frames m number options (gone ++ c.written) (before ++ a) (c.goes frames m number options gone before h));
}

-- what was made was written
copies-poured : (o : Output) (new : Option (List ℕ)) (now : ℕ) (old f g : SeriesFlow) (items : List Record) (poured : List ℕ)
    → Copies o old f items → Appends o.new new poured → PoursOn f g poured → Copies (until o new now) old g items
copies-poured o new now old f g items poured c more pours = record {
  written = c.written ++ poured;
  appended = Appends-trans o.old o.new new c.written poured c.appended more;
  goes = λ frames m number options gone before h.
      subst (λ l. StandsFor frames m number options l g (before ++ items)) (append_assoc gone c.written poured)
      (pours frames m number options (gone ++ c.written) (before ++ items) (c.goes frames m number options gone before h));
}

-- memory ran out: what was written stands
pub stopped-here : (o : Output) (old f : SeriesFlow) (taken rest items : List Record) → items ≡ taken ++ rest → Copies o old f taken
    → Stopped o old items
stopped-here o old f taken rest items whole c = record {
  taken = taken;
  rest = rest;
  whole = whole;
  stood = f;
  written = c.written;
  goes = c.goes;
  count = 0;
  some = inl refl;
  appended = subst (λ t. Appends o.old o.new t) (sym (append-nil c.written)) c.appended;
}

-- more than the first of two texts
pub take-more : (a b : List ℕ) (k : ℕ) → take (length a + k) (a ++ b) ≡ a ++ take k b
take-more [] b k =
    let e : 0 + k ≡ k = omega arith in
    ap (λ j. take j b) e
take-more (x ∷ a) b k =
    let e : length (x ∷ a) + k ≡ suc (length a + k) = omega arith in
    ap (λ j. take j (x ∷ (a ++ b))) e ∙ ap (λ l. x ∷ l) (take-more a b k)

-- a write failed: a front of what was made stands behind what was written
stopped-broken : (o : Output) (new : Option (List ℕ)) (now : ℕ) (old f : SeriesFlow) (taken rest items : List Record)
    → items ≡ taken ++ rest → Copies o old f taken → HoldsText f → AppendsFront o.new new (text_of f)
    → Stopped (until o new now) old items
stopped-broken o new now old f taken rest items whole c some front = record {
  taken = taken;
  rest = rest;
  whole = whole;
  stood = f;
  written = c.written;
  goes = c.goes;
  count = front.0;
  some = inr some;
  appended = Appends-trans o.old o.new new c.written (take front.0 (text_of f)) c.appended front.2;
}

-- a frame is counted
pub counted : (old new at : ℕ) (bytes : Bor (List ℕ)) (result : Result Step PcapFault) → result ≡ Ok (step.Frame at bytes) → Counts old new result
    → new ≡ old + 1
counted old new at bytes result is h = (subst (λ r. Counts old new r) is h).2

-- a reader answered a frame, and its record was taken
copying-more : {S : Type 0} (left : S → Option (List ℕ)) (name : S → List ℕ) (faults : S → ℕ) (o : Output) (before count next : ℕ)
    (first reader new : PcapReader S)
    (old f g : SeriesFlow) (at : ℕ) (bytes : Bor (List ℕ)) (result : Result Step PcapFault)
    → result ≡ Ok (step.Frame at bytes) → Steps left name faults reader new result → next ≡ count + 1
    → TakesOn f g (record { number = before + frame_count new; stamp = at; bytes = bytes.now } ∷ [])
    → IsCopying (WillGive left) o before count first reader old f
    → IsCopying (WillGive left) o before next first new old g
copying-more left name faults o before count next first reader new old f g at bytes result is steps one takes c =
    let item : Record = record { number = frame_count new; stamp = at; bytes = bytes.now } in
    record {
      taken = c.taken ++ item ∷ [];
      count_is = omega (arith, length-append c.taken (item ∷ []), c.count_is, one);
      copies = subst (Copies o old g) (sym (map-append (raised before) c.taken (item ∷ [])))
          (copies-more o old f g (map (raised before) c.taken) (raised before item ∷ []) c.copies takes);
      told = λ items end gives.
          let so_far = c.told items end gives in
          let here = subst (λ r. Gives left new r so_far.0 end) is (steps.gives so_far.0 end so_far.2) in (
            here.0,
            so_far.1 ∙ ap (λ l. c.taken ++ l) here.1 ∙ sym (append_assoc c.taken (item ∷ []) here.0),
            here.2,
          );
    }

-- so of the record of the next number
pub copying-taken : {S : Type 0} (left : S → Option (List ℕ)) (name : S → List ℕ) (faults : S → ℕ) (o : Output) (before count : ℕ)
    (first reader new : PcapReader S)
    (old f g : SeriesFlow) (at : ℕ) (bytes : Bor (List ℕ)) (result : Result Step PcapFault)
    → result ≡ Ok (step.Frame at bytes) → Steps left name faults reader new result → count ≡ frame_count reader
    → TakesOn f g (record { number = before + (count + 1); stamp = at; bytes = bytes.now } ∷ [])
    → IsCopying (WillGive left) o before count first reader old f
    → IsCopying (WillGive left) o before (count + 1) first new old g
copying-taken left name faults o before count first reader new old f g at bytes result is steps count_is takes c =
    let next : count + 1 ≡ frame_count new =
    omega (arith, counted (frame_count reader) (frame_count new) at bytes result is steps.counts, count_is) in
    copying-more left name faults o before count (count + 1) first reader new old f g at bytes result is steps refl
    (subst (λ k. TakesOn f g (record { number = before + k; stamp = at; bytes = bytes.now } ∷ [])) next takes) c

-- rows were written meanwhile
pub copying-poured : {R : Type 0} (gives : R → List Record → FileNote → Type 0) (o : Output) (new : Option (List ℕ)) (now before count : ℕ)
    (first reader : R)
    (old f g : SeriesFlow) (poured : List ℕ)
    → IsCopying gives o before count first reader old f → Appends o.new new poured → PoursOn f g poured
    → IsCopying gives (until o new now) before count first reader old g
copying-poured gives o new now before count first reader old f g poured c more pours = record {
  taken = c.taken;
  count_is = c.count_is;
  copies = copies-poured o new now old f g (map (raised before) c.taken) poured c.copies more pours;
  told = c.told;
}

-- the packet records of a reader, in two parts, with their numbers in a run
pub raised-parts : (before : ℕ) (items taken rest : List Record) → items ≡ taken ++ rest
    → map (raised before) items ≡ map (raised before) taken ++ map (raised before) rest
raised-parts before items taken rest whole = ap (map (raised before)) whole ∙ map-append (raised before) taken rest

-- it stopped, for want of memory, or since a write failed
pub copying-stopped : {R : Type 0} (gives : R → List Record → FileNote → Type 0) (o : Output) (before count : ℕ) (first reader : R) (old f : SeriesFlow)
    → IsCopying gives o before count first reader old f
    → (items : List Record) (end : FileNote) → gives first items end → Stopped o old (map (raised before) items)
copying-stopped gives o before count first reader old f c items end told =
    let so_far = c.told items end told in
    stopped-here o old f (map (raised before) c.taken) (map (raised before) so_far.0) (map (raised before) items)
    (raised-parts before items c.taken so_far.0 so_far.1) c.copies

pub copying-broken : {R : Type 0} (gives : R → List Record → FileNote → Type 0) (o : Output) (new : Option (List ℕ)) (now before count : ℕ)
    (first reader : R)
    (old f : SeriesFlow)
    → IsCopying gives o before count first reader old f → HoldsText f → AppendsFront o.new new (text_of f)
    → (items : List Record) (end : FileNote) → gives first items end → Stopped (until o new now) old (map (raised before) items)
copying-broken gives o new now before count first reader old f c some front items end told =
    let so_far = c.told items end told in
    stopped-broken o new now old f (map (raised before) c.taken) (map (raised before) so_far.0) (map (raised before) items)
    (raised-parts before items c.taken so_far.0 so_far.1) c.copies some front

-- before the first record
pub copying-none : {R : Type 0} (gives : R → List Record → FileNote → Type 0) (o : Output) (before : ℕ) (first : R) (old : SeriesFlow) → o.new ≡ o.old
    → IsCopying gives o before 0 first first old old
copying-none gives o before first old same = record {
  taken = [];
  count_is = refl;
  copies = copies-none o old same;
  told = λ items end told. (items, refl, told);
}

-- the reader has no record more
pub copying-whole : {R : Type 0} (gives : R → List Record → FileNote → Type 0) (o : Output) (before count : ℕ) (first reader : R) (old f : SeriesFlow)
    (note : FileNote)
    → IsCopying gives o before count first reader old f
    → ((rest : List Record) (end : FileNote) → gives reader rest end → GivesNote note rest end)
    → (items : List Record) (end : FileNote) → gives first items end → HasTaken (Copies o) before old f note count items end
copying-whole gives o before count first reader old f note c ends items end told =
    let so_far = c.told items end told in
    record { taken = c.taken; rest = so_far.0; whole = so_far.1; ends = ends so_far.0 end so_far.2; count_is = c.count_is; fed = c.copies }

-- what holds whatever the failure is
pub any-err : {T E : Type 0} (r : Result T E) (P : Type 0) → P → IfErr r (λ _. P)
any-err (Ok x) P h = tt
any-err (Err e) P h = h
