-- Text is written while packet records are taken.
use Rattle.pcap_reader.proofs.Lists.{only_by}
use Rattle.pcap_reader.specs.Header.{header}
use Rattle.pcap_reader.specs.Readers.{Counts, Gives, GivesNote, Steps, WillGive, frame_count}
use Rattle.pcap_reader.specs.Records.{Records}
use Rattle.pcap_reader.specs.Taken.{HasTaken}
use Rattle.pcap_reader.specs.declared.reader.PcapReader.{PcapReader}
use Rattle.pcap_reader.specs.declared.reader.Step.TheVariants as step
use Rattle.pcap_reader.specs.declared.reader.Step.{Step}
use Rattle.pcap_reader.specs.declared.records.Taken.{Taken}
use Rattle.std.proofs.Common.{append-nil, append_assoc, length-append}
use Rattle.std.proofs.Common.{◌≡◌, ◌+◌, ◌++◌, ◌∷◌, [], ℕ, suc, List, length, take, Option, Some, None, Ok, Bor, inl, inr, refl, ap, ◌∙◌, sym, subst, arith}
use Rattle.std.proofs.Common.{◌≡◌, ◌^◌, ◌++◌, [], ◌∷◌, ℕ, List, length, take, Option, Some, None, inl, inr, refl, sym, subst, append-nil}
use Rattle.std.proofs.KnownBytes.{Appends-trans}
use Rattle.std.proofs.lemmas.List.{map-append}
use Rattle.std.specs.Io.KnownBytes.{Appends}
use Rattle.std.specs.Prelude.{Err, IfErr, Result, map}
use Rattle.std.specs.Prelude.{map}
use Rattle.timing_base.specs.Captures.{Record, raised}
use Rattle.timing_base.specs.declared.capture.FileNote.{FileNote}
use Rattle.timing_base.specs.declared.capture.PcapFault.{PcapFault}
use Rattle.timing_outside.specs.Written.{AppendsFront}
use Rattle.timing_steps.specs.Ran.{Appended, Output}
use Rattle.timing_steps.specs.Ran.{Output}
use Rattle.timing_steps.specs.Taken.{TakesText}
use Rattle.timing_steps.specs.Printings.{Copies, CopiesSome, GoingOn, IsCopying, Stopped}

-- where nothing is written
pub appends-same : (o : Option (List ℕ)) → Appends o o []
appends-same None = tt
appends-same (Some xs) = sym (append-nil xs)

-- a run's output, with its bytes at another moment
abbrev pub until : Output → (new : Option (List ℕ)) → (now : ℕ) → Output
until o new now = record { old = o.old; new = new; before = o.before; now = now }

-- more than the first of two texts
pub take-more : (a b : List ℕ) (k : ℕ) → take (length a + k) (a ++ b) ≡ a ++ take k b
take-more [] b k =
    let e : 0 + k ≡ k = omega arith in
    ap (λ j. take j b) e
take-more (x ∷ a) b k =
    let e : length (x ∷ a) + k ≡ suc (length a + k) = omega arith in
    ap (λ j. take j (x ∷ (a ++ b))) e ∙ ap (λ l. x ∷ l) (take-more a b k)

-- a frame is counted
pub counted : (old new at : ℕ) (bytes : Bor (List ℕ)) (result : Result Step PcapFault) → result ≡ Ok (step.Frame at bytes) → Counts old new result
    → new ≡ old + 1
counted old new at bytes result is h = (subst (λ r. Counts old new r) is h).2

-- the packet records of a reader, in two parts, with their numbers in a run
pub raised-parts : (before : ℕ) (items taken rest : List Record) → items ≡ taken ++ rest
    → map (raised before) items ≡ map (raised before) taken ++ map (raised before) rest
raised-parts before items taken rest whole = ap (map (raised before)) whole ∙ map-append (raised before) taken rest

-- what holds whatever the failure is
pub any-err : {T E : Type 0} (r : Result T E) (P : Type 0) → P → IfErr r (λ _. P)
any-err (Ok x) P h = tt
any-err (Err e) P h = h

-- a front was written behind what was
pub front-more : (old mid new : Option (List ℕ)) (written text : List ℕ) → Appends old mid written → AppendsFront mid new text
    → (front : List ℕ) × Appends old new front
front-more old mid new written text a b = (written ++ take b.0 text, Appends-trans old mid new written (take b.0 text) a b.2)

-- what follows from the laws of what makes the text
module _ {X : Type 0} (goes : GoingOn X) (holds : X → Type 0) (waiting : X → List ℕ)
    (goes-none : (x : X) → goes x x [] [])
    (goes-more : (x y z : X) (s t : List ℕ) (a b : List Record) → goes x y s a → goes y z t b → goes x z (s ++ t) (a ++ b)) where
  -- before the first record
  pub copies-none : (o : Output) (f : X) → o.new ≡ o.old → Copies goes o f f []
  copies-none o f same = record {
    written = [];
    appended = subst (λ n. Appends o.old n []) (sym same) (appends-same o.old);
    goes_on = goes-none f;
  }

  -- some records more were taken
  copies-more : (o : Output) (old mid new : X) (a b : List Record) → Copies goes o old mid a → goes mid new [] b → Copies goes o old new (a ++ b)
  copies-more o old mid new a b c t = record {
    written = c.written;
    appended = c.appended;
    goes_on = subst (λ l. goes old new l (a ++ b)) (append-nil c.written) (goes-more old mid new c.written [] a b c.goes_on t);
  }

  -- text was written
  copies-poured : (o : Output) (new : Option (List ℕ)) (now : ℕ) (old f g : X) (items : List Record) (poured : List ℕ)
      → Copies goes o old f items → Appends o.new new poured → goes f g poured [] → Copies goes (until o new now) old g items
  copies-poured o new now old f g items poured c appended pours = record {
    written = c.written ++ poured;
    appended = Appends-trans o.old o.new new c.written poured c.appended appended;
    goes_on = subst (goes old g (c.written ++ poured)) (append-nil items) (goes-more old f g c.written poured items [] c.goes_on pours);
  }

  -- memory ran out: what was written stands
  pub stopped-here : (o : Output) (old f : X) (taken rest items : List Record) → items ≡ taken ++ rest → Copies goes o old f taken
      → Stopped goes holds waiting o old items
  stopped-here o old f taken rest items whole c = record {
    taken = taken;
    rest = rest;
    whole = whole;
    stood = f;
    written = c.written;
    goes_on = c.goes_on;
    count = 0;
    some = inl refl;
    appended = subst (λ t. Appends o.old o.new t) (sym (append-nil c.written)) c.appended;
  }

  -- a write failed: a front of what was made stands behind what was written
  stopped-broken : (o : Output) (new : Option (List ℕ)) (now : ℕ) (old f : X) (taken rest items : List Record)
      → items ≡ taken ++ rest → Copies goes o old f taken → holds f → AppendsFront o.new new (waiting f)
      → Stopped goes holds waiting (until o new now) old items
  stopped-broken o new now old f taken rest items whole c some front = record {
    taken = taken;
    rest = rest;
    whole = whole;
    stood = f;
    written = c.written;
    goes_on = c.goes_on;
    count = front.0;
    some = inr some;
    appended = Appends-trans o.old o.new new c.written (take front.0 (waiting f)) c.appended front.2;
  }

  -- a reader answered a frame, and its record was taken
  copying-more : {S : Type 0} (left : S → Option (List ℕ)) (name : S → List ℕ) (faults : S → ℕ) (o : Output) (before count next : ℕ)
      (first reader new : PcapReader S)
      (old f g : X) (at : ℕ) (bytes : Bor (List ℕ)) (result : Result Step PcapFault)
      → result ≡ Ok (step.Frame at bytes) → Steps left name faults reader new result → next ≡ count + 1
      → goes f g [] (record { number = before + frame_count new; stamp = at; bytes = bytes.now } ∷ [])
      → IsCopying (WillGive left) goes o before count first reader old f
      → IsCopying (WillGive left) goes o before next first new old g
  copying-more left name faults o before count next first reader new old f g at bytes result is steps one takes c =
      let item : Record = record { number = frame_count new; stamp = at; bytes = bytes.now } in
      record {
        taken = c.taken ++ item ∷ [];
        count_is = omega (arith, length-append c.taken (item ∷ []), c.count_is, one);
        copies = subst (Copies goes o old g) (sym (map-append (raised before) c.taken (item ∷ [])))
            (copies-more o old f g (map (raised before) c.taken) (raised before item ∷ []) c.copies takes);
        told = λ items end gives.
            let so_far = c.told items end gives in
            let here = subst (λ r. Gives left new r so_far.0 end) is (steps.gives so_far.0 end so_far.2) in (
              here.0,
              so_far.1 ∙ ap (λ l. c.taken ++ l) here.1 ∙ sym (append_assoc c.taken (item ∷ []) here.0),
              here.2,
            );
      }

  -- so of the record of the next number
  pub copying-taken : {S : Type 0} (left : S → Option (List ℕ)) (name : S → List ℕ) (faults : S → ℕ) (o : Output) (before count : ℕ)
      (first reader new : PcapReader S)
      (old f g : X) (at : ℕ) (bytes : Bor (List ℕ)) (result : Result Step PcapFault)
      → result ≡ Ok (step.Frame at bytes) → Steps left name faults reader new result → count ≡ frame_count reader
      → goes f g [] (record { number = before + (count + 1); stamp = at; bytes = bytes.now } ∷ [])
      → IsCopying (WillGive left) goes o before count first reader old f
      → IsCopying (WillGive left) goes o before (count + 1) first new old g
  copying-taken left name faults o before count first reader new old f g at bytes result is steps count_is takes c =
      let next : count + 1 ≡ frame_count new =
      omega (arith, counted (frame_count reader) (frame_count new) at bytes result is steps.counts, count_is) in
      copying-more left name faults o before count (count + 1) first reader new old f g at bytes result is steps refl
      (subst (λ k. goes f g [] (record { number = before + k; stamp = at; bytes = bytes.now } ∷ [])) next takes) c

  -- rows were written meanwhile
  pub copying-poured : {R : Type 0} (gives : R → List Record → FileNote → Type 0) (o : Output) (new : Option (List ℕ)) (now before count : ℕ)
      (first reader : R)
      (old f g : X) (poured : List ℕ)
      → IsCopying gives goes o before count first reader old f → Appends o.new new poured → goes f g poured []
      → IsCopying gives goes (until o new now) before count first reader old g
  copying-poured gives o new now before count first reader old f g poured c more pours = record {
    taken = c.taken;
    count_is = c.count_is;
    copies = copies-poured o new now old f g (map (raised before) c.taken) poured c.copies more pours;
    told = c.told;
  }

  -- it stopped, for want of memory, or since a write failed
  pub copying-stopped : {R : Type 0} (gives : R → List Record → FileNote → Type 0) (o : Output) (before count : ℕ) (first reader : R) (old f : X)
      → IsCopying gives goes o before count first reader old f
      → (items : List Record) (end : FileNote) → gives first items end → Stopped goes holds waiting o old (map (raised before) items)
  copying-stopped gives o before count first reader old f c items end told =
      let so_far = c.told items end told in
      stopped-here o old f (map (raised before) c.taken) (map (raised before) so_far.0) (map (raised before) items)
      (raised-parts before items c.taken so_far.0 so_far.1) c.copies

  pub copying-broken : {R : Type 0} (gives : R → List Record → FileNote → Type 0) (o : Output) (new : Option (List ℕ)) (now before count : ℕ)
      (first reader : R)
      (old f : X)
      → IsCopying gives goes o before count first reader old f → holds f → AppendsFront o.new new (waiting f)
      → (items : List Record) (end : FileNote) → gives first items end → Stopped goes holds waiting (until o new now) old (map (raised before) items)
  copying-broken gives o new now before count first reader old f c some front items end told =
      let so_far = c.told items end told in
      stopped-broken o new now old f (map (raised before) c.taken) (map (raised before) so_far.0) (map (raised before) items)
      (raised-parts before items c.taken so_far.0 so_far.1) c.copies some front

  -- before the first record
  pub copying-none : {R : Type 0} (gives : R → List Record → FileNote → Type 0) (o : Output) (before : ℕ) (first : R) (old : X) → o.new ≡ o.old
      → IsCopying gives goes o before 0 first first old old
  copying-none gives o before first old same = record {
    taken = [];
    count_is = refl;
    copies = copies-none o old same;
    told = λ items end told. (items, refl, told);
  }

  -- the reader has no record more
  pub copying-whole : {R : Type 0} (gives : R → List Record → FileNote → Type 0) (o : Output) (before count : ℕ) (first reader : R) (old f : X)
      (note : FileNote)
      → IsCopying gives goes o before count first reader old f
      → ((rest : List Record) (end : FileNote) → gives reader rest end → GivesNote note rest end)
      → (items : List Record) (end : FileNote) → gives first items end → HasTaken (Copies goes o) before old f note count items end
  copying-whole gives o before count first reader old f note c ends items end told =
      let so_far = c.told items end told in
      record { taken = c.taken; rest = so_far.0; whole = so_far.1; ends = ends so_far.0 end so_far.2; count_is = c.count_is; fed = c.copies }

  -- a read failed: what was written stands
  pub copied-stopped : (o : Output) (old new : X) (before count : ℕ) (note : FileNote) (items : List Record) (end : FileNote)
      → HasTaken (Copies goes o) before old new note count items end → Stopped goes holds waiting o old (map (raised before) items)
  copied-stopped o old new before count note items end c =
      stopped-here o old new (map (raised before) c.taken) (map (raised before) c.rest) (map (raised before) items)
      (raised-parts before items c.taken c.rest c.whole) c.fed

  -- it stopped behind a capture
  pub taken-stopped : (o : Output) (old new : X) (text : List ℕ) (before : ℕ) (taken : Taken) (items : List Record) (end : FileNote)
      → TakesText (Copies goes o) text before old new taken → Records text (2 ^ 40) items end → Stopped goes holds waiting o old (map (raised before) items)
  taken-stopped o old new text before taken items end t records =
      let same = only_by (header text) (2 ^ 40) text t.items items taken.note end t.records records in
      subst (λ l. Stopped goes holds waiting o old (map (raised before) l)) same.0
      (stopped-here o old new (map (raised before) t.items) [] (map (raised before) t.items) (sym-nil (map (raised before) t.items)) t.fed)
    where
      sym-nil : (l : List Record) → l ≡ l ++ []
      sym-nil l = sym (append-nil l)

  pub some-front : (o : Output) (old new : X) → CopiesSome goes o old new → (front : List ℕ) × Appended o front
  some-front o old new c = (c.1.written, c.1.appended)

  -- nothing was written
  pub stopped-none : (o : Output) (f : X) (items : List Record) → o.new ≡ o.old → Stopped goes holds waiting o f items
  stopped-none o f items same = stopped-here o f f [] items items refl (copies-none o f same)

pub front-none : (o : Output) → o.new ≡ o.old → (front : List ℕ) × Appended o front
front-none o same = ([], subst (λ n. Appends o.old n []) (sym same) (appends-same o.old))
