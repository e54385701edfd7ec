-- Text of captures that are read one after the other.
use Rattle.std.proofs.Common.{◌≡◌, ◌≤◌, ◌+◌, ◌^◌, ◌++◌, ◌∷◌, [], ℕ, List, length, take, Option, Some, Ok, false, refl, ap, ◌∙◌, sym, subst, arith}
use Rattle.std.proofs.Common.{append-nil, append_assoc, length-append}
use Rattle.std.specs.Prelude.{Err, IfErr, IfOk, Result, is_ok, map, slice_index_or}
use Rattle.std.specs.Io.KnownBytes.{Appends}
use Rattle.std.proofs.KnownBytes.{Appends-trans}
use Rattle.std.proofs.lemmas.Bool.{false≢true}
use Rattle.std.proofs.lemmas.List.{length-map}
use Rattle.timing_base.specs.Captures.{Record, joined, joined_after, raised}
use Rattle.timing_base.specs.declared.capture.FileNote.{FileNote}
use Rattle.timing_outside.specs.Causes.{Rose}
use Rattle.pcap_reader.specs.Records.{AreRecords, Records}
use Rattle.pcap_reader.proofs.Captures.{only-records, records-push}
use Rattle.timing_report.specs.declared.status.Input.{Input}
use Rattle.timing_report.specs.declared.status.Input.TheVariants.{Capture}
use Rattle.timing_steps.specs.Answers.{AreTold, CaptureRose}
use Rattle.timing_steps.specs.Fetched.{AreFetched}
use Rattle.timing_steps.specs.Ran.{Appended, Output}
use Rattle.timing_steps.specs.Streams.{OnFailure}
use Rattle.timing_steps.specs.Taken.{TakesNext, TakesTexts}
use Rattle.timing_steps.specs.declared.captures.TakenCaptures.{TakenCaptures}
use Rattle.timing_steps.specs.declared.failure.Failure.{Failure}
use Rattle.timing_steps.specs.declared.failure.Failure.TheVariants as failure
use Rattle.timing_steps.specs.Printings.{Copies, CopiesSome, CopiesSources, GoingOn, Stopped}
use Rattle.timing_steps.proofs.Parts.{joined-append, joined-one, records-one, records-parts, told-one, told-parts}
use Rattle.timing_steps.proofs.Printing.{copies-none}

-- an output at two moments: its bytes, if they are known, and its count of faults
abbrev pub between : (old new : Option (List ℕ)) → (before now : ℕ) → Output
between old new before now = record { old = old; new = new; before = before; now = now }

-- the name of the next source, and the others
record Next {S : Type 0} (name : S → List ℕ) (left : S → Option (List ℕ)) (faults : S → ℕ) (texts : List ℕ → Option (List ℕ)) (ahead : List (List ℕ))
    (s : S) (rest : List S) : Type 0 where
  first : List ℕ
  others : List (List ℕ)
  whole : ahead ≡ first ∷ others
  named : name s ≡ first
  told : left s ≡ texts first
  fetched : AreFetched name left faults texts others rest

next-of : {S : Type 0} (name : S → List ℕ) (left : S → Option (List ℕ)) (faults : S → ℕ) (texts : List ℕ → Option (List ℕ)) (ahead : List (List ℕ))
    (s : S) (rest : List S)
    → AreFetched name left faults texts ahead (s ∷ rest) → Next name left faults texts ahead s rest
next-of name left faults texts [] s rest h = absurd h
next-of name left faults texts (n ∷ ns) s rest h = record { first = n; others = ns; whole = refl; named = h.0; told = h.1; fetched = h.3 }

none-ahead : {S : Type 0} (name : S → List ℕ) (left : S → Option (List ℕ)) (faults : S → ℕ) (texts : List ℕ → Option (List ℕ)) (ahead : List (List ℕ))
    → AreFetched name left faults texts ahead [] → ahead ≡ []
none-ahead name left faults texts [] h = refl
none-ahead name left faults texts (n ∷ ns) h = absurd h

place-of : (past : List (List ℕ)) (n : List ℕ) (ns : List (List ℕ)) → slice_index_or (past ++ n ∷ ns) (length past) [] ≡ n
place-of [] n ns = refl
place-of (p ∷ ps) n ns = place-of ps n ns

rose-later : (a b c : ℕ) → b ≤ c → Rose a b → Rose a c
rose-later a b c h r = omega (arith, h, r)

rose-from : (a b c : ℕ) → a ≤ b → Rose b c → Rose a c
rose-from a b c h r = omega (arith, h, r)

-- of a failure, what follows from what holds of it
failure-map : (x y z : Option (List ℕ)) (i j k : ℕ) (e : Failure) (P Q : Input → Type 0) → i ≤ j → ((n : Input) → P n → Q n)
    → OnFailure (between y z j k) e P → OnFailure (between x z i k) e Q
failure-map x y z i j k (failure.ReadFault n) P Q later f h = f n h
failure-map x y z i j k failure.WriteFault P Q later f h = rose-from i j k later h
failure-map x y z i j k failure.OutOfMemory P Q later f h = tt

-- of a call that failed, what follows from what holds of its failure
pub if_err-map : {T : Type 0} (r : Result T Failure) (P Q : Failure → Type 0) → ((e : Failure) → P e → Q e) → IfErr r P → IfErr r Q
if_err-map (Ok x) P Q f h = tt
if_err-map (Err e) P Q f h = f e h

-- the count of faults of a capture rose from an earlier one
pub failed-earlier : {T : Type 0} (o : Output) (before mid now : List ℕ → ℕ) (names : List (List ℕ)) (r : Result T Failure)
    → ((n : List ℕ) → before n ≤ mid n)
    → IfErr r (λ e. OnFailure o e (λ n. (at : ℕ) × (n ≡ Capture at) × CaptureRose mid now names at))
    → IfErr r (λ e. OnFailure o e (λ n. (at : ℕ) × (n ≡ Capture at) × CaptureRose before now names at))
failed-earlier o before mid now names r earlier =
    if_err-map r (λ e. OnFailure o e (λ n. (at : ℕ) × (n ≡ Capture at) × CaptureRose mid now names at))
    (λ e. OnFailure o e (λ n. (at : ℕ) × (n ≡ Capture at) × CaptureRose before now names at))
    (λ e h. failure-map o.old o.old o.new o.before o.before o.now e (λ n. (at : ℕ) × (n ≡ Capture at) × CaptureRose mid now names at)
    (λ n. (at : ℕ) × (n ≡ Capture at) × CaptureRose before now names at) (omega arith)
    (λ n c. (c.0, c.1, record { within = c.2.within; rose = rose-from _ _ _ (earlier _) c.2.rose })) h)

-- what follows from the laws of what makes the text
module _ {X : Type 0} (goes : GoingOn X) (holds : X → Type 0) (waiting : X → List ℕ)
    (goes-none : (x : X) → goes x x [] [])
    (goes-more : (x y z : X) (s t : List ℕ) (a b : List Record) → goes x y s a → goes y z t b → goes x z (s ++ t) (a ++ b)) where
  copies-then : (x y z : Option (List ℕ)) (i j k : ℕ) (old mid new : X) (a b : List Record) → Copies goes (between x y i j) old mid a
      → Copies goes (between y z j k) mid new b → Copies goes (between x z i k) old new (a ++ b)
  copies-then x y z i j k old mid new a b c d = record {
    written = c.written ++ d.written;
    appended = Appends-trans x y z c.written d.written c.appended d.appended;
    goes_on = goes-more old mid new c.written d.written a b c.goes_on d.goes_on;
  }

  some-then : (x y z : Option (List ℕ)) (i j k : ℕ) (old mid new : X) → CopiesSome goes (between x y i j) old mid
      → CopiesSome goes (between y z j k) mid new → CopiesSome goes (between x z i k) old new
  some-then x y z i j k old mid new c d = (c.0 ++ d.0, copies-then x y z i j k old mid new c.0 d.0 c.1 d.1)

  -- where the second stretch was taken
  pub if_ok-some : (x y z : Option (List ℕ)) (i j k : ℕ) (old mid new : X) (outcome : Result (Unit {0}) Failure)
      → CopiesSome goes (between x y i j) old mid → IfOk outcome (λ _. CopiesSome goes (between y z j k) mid new)
      → IfOk outcome (λ _. CopiesSome goes (between x z i k) old new)
  if_ok-some x y z i j k old mid new (Ok u) c d = some-then x y z i j k old mid new c d
  if_ok-some x y z i j k old mid new (Err e) c d = tt

  -- where it wasn't, a prefix was written
  pub front-then : (x y z : Option (List ℕ)) (i j k : ℕ) (old mid : X) (outcome : Result (Unit {0}) Failure)
      → CopiesSome goes (between x y i j) old mid → IfErr outcome (λ _. (front : List ℕ) × Appended (between y z j k) front)
      → IfErr outcome (λ _. (front : List ℕ) × Appended (between x z i k) front)
  front-then x y z i j k old mid (Ok u) c d = tt
  front-then x y z i j k old mid (Err e) c d = (c.1.written ++ d.0, Appends-trans x y z c.1.written d.0 c.1.appended d.1)

  -- it stopped in the second stretch
  stopped-then : (x y z : Option (List ℕ)) (i j k : ℕ) (old mid : X) (a items : List Record) → Copies goes (between x y i j) old mid a
      → Stopped goes holds waiting (between y z j k) mid items → Stopped goes holds waiting (between x z i k) old (a ++ items)
  stopped-then x y z i j k old mid a items c s =
      let last = take s.count (waiting s.stood) in
      record {
        taken = a ++ s.taken;
        rest = s.rest;
        whole = ap (λ l. a ++ l) s.whole ∙ sym (append_assoc a s.taken s.rest);
        stood = s.stood;
        written = c.written ++ s.written;
        goes_on = goes-more old mid s.stood c.written s.written a s.taken c.goes_on s.goes_on;
        count = s.count;
        some = s.some;
        appended = subst (λ t. Appends x z t) (sym (append_assoc c.written s.written last))
            (Appends-trans x y z c.written (s.written ++ last) c.appended s.appended);
      }

  -- it stopped before packet records that follow
  stopped-more : (o : Output) (old : X) (items more : List Record) → Stopped goes holds waiting o old items → Stopped goes holds waiting o old (items ++ more)
  stopped-more o old items more s = record {
    taken = s.taken;
    rest = s.rest ++ more;
    whole = ap (λ l. l ++ more) s.whole ∙ append_assoc s.taken s.rest more;
    stood = s.stood;
    written = s.written;
    goes_on = s.goes_on;
    count = s.count;
    some = s.some;
    appended = s.appended;
  }

  -- one capture more
  texts-next : (x y z : Option (List ℕ)) (i j k : ℕ) (texts : List (List ℕ)) (text : List ℕ) (old mid new : X) (before after : TakenCaptures)
      → TakesTexts (Copies goes (between x y i j)) texts old mid before → TakesNext (Copies goes (between y z j k)) text mid new before after
      → TakesTexts (Copies goes (between x z i k)) (texts ++ text ∷ []) old new after
  texts-next x y z i j k texts text old mid new before after h n =
      let items = n.text_is.items in
      let more : joined (h.files ++ items ∷ []) ≡ joined h.files ++ map (raised before.records) items = joined-one h.files items before.records h.count in
      record {
        files = h.files ++ items ∷ [];
        records = subst (AreRecords (texts ++ text ∷ []) (h.files ++ items ∷ [])) (sym n.notes)
            (records-push texts h.files before.notes.items text items n.taken.note h.records n.text_is.records);
        count =
            let long : length (joined (h.files ++ items ∷ [])) ≡ length (joined h.files) + length items =
            ap length more ∙ length-append (joined h.files) (map (raised before.records) items) ∙ ap (λ l. length (joined h.files) + l)
            (length-map items (raised before.records)) in
            omega (arith, long, n.count, n.text_is.count, h.count);
        fed = subst (Copies goes (between x z i k) old new) (sym more)
            (copies-then x y z i j k old mid new (joined h.files) (map (raised before.records) items) h.fed n.text_is.fed);
      }

  -- it stopped in that one
  stopped-next : (x y z : Option (List ℕ)) (i j k : ℕ) (texts : List (List ℕ)) (text : List ℕ) (old mid : X) (before : TakenCaptures)
      → TakesTexts (Copies goes (between x y i j)) texts old mid before
      → ((items : List Record) (end : FileNote) → Records text (2 ^ 40) items end → Stopped goes holds waiting (between y z j k) mid (map (raised
      before.records) items))
      → (files : List (List Record)) (notes : List FileNote) → AreRecords (texts ++ text ∷ []) files notes → Stopped goes holds waiting (between x z i k) old
      (joined files)
  stopped-next x y z i j k texts text old mid before h stops files notes records =
      let parts = records-parts texts (text ∷ []) files notes records in
      let one = records-one text parts.second parts.second_notes parts.second_records in
      let same = only-records texts parts.first h.files parts.first_notes before.notes.items parts.first_records h.records in
      let whole : files ≡ h.files ++ one.items ∷ [] =
      parts.whole ∙ ap (λ l. l ++ parts.second) same.0 ∙ ap (λ l. h.files ++ l) one.whole in
      subst (Stopped goes holds waiting (between x z i k) old) (sym (ap joined whole ∙ joined-one h.files one.items before.records h.count))
      (stopped-then x y z i j k old mid (joined h.files) (map (raised before.records) one.items) h.fed (stops one.items one.note one.records))

  -- no capture was taken yet
  none-told : (texts : List ℕ → Option (List ℕ)) (read : List (List ℕ)) (o : Output) (f : X) (done : TakenCaptures) → done.notes.items ≡ []
      → done.records ≡ 0 → o.new ≡ o.old → AreTold texts [] read → TakesTexts (Copies goes o) read f f done
  none-told texts [] o f done none zero same h =
      record { files = []; records = subst (AreRecords [] []) (sym none) tt; count = zero; fed = copies-none goes holds waiting goes-none goes-more o f same }
  none-told texts (t ∷ ts) o f done none zero same h = absurd h

  module _ {S : Type 0} (name : S → List ℕ) (left : S → Option (List ℕ)) (faults : S → ℕ) (texts : List ℕ → Option (List ℕ)) where
    -- none was taken yet
    pub sources-start : (before : List ℕ → ℕ) (names : List (List ℕ)) (sources rest : List S) (o : Output) (f : X) (done : TakenCaptures)
        → rest ≡ sources → done.notes.items ≡ [] → done.records ≡ 0 → o.new ≡ o.old → AreFetched name left faults texts names sources
        → CopiesSources name left faults texts before before names rest goes holds waiting o f f done (Ok tt)
    sources-start before names sources rest o f done same none zero still h = record {
      past = [];
      ahead = names;
      whole = refl;
      fetched = subst (AreFetched name left faults texts names) (sym same) h;
      count = ap length none;
      told = λ read told. none-told texts read o f done none zero still told;
      stopped = tt;
      cause = tt;
    }

    -- one more was taken, or it stopped there
    pub sources-next : (before mid now : List ℕ → ℕ) (names : List (List ℕ)) (s : S) (rest others : List S) (x y z : Option (List ℕ)) (i j k : ℕ)
        (old flow new : X) (done after : TakenCaptures) (was outcome : Result (Unit {0}) Failure) → rest ≡ s ∷ others → was ≡ Ok tt
        → ((n : List ℕ) → before n ≤ mid n) → i ≤ j
        → IfOk outcome (λ _. (text : List ℕ) → left s ≡ Some text → TakesNext (Copies goes (between y z j k)) text flow new done after)
        → IfOk outcome (λ _. length after.notes.items ≡ length done.notes.items + 1)
        → IfErr outcome (λ _. (text : List ℕ) (items : List Record) (end : FileNote) → left s ≡ Some text → Records text (2 ^ 40) items end
        → Stopped goes holds waiting (between y z j k) flow (map (raised done.records) items))
        → IfErr outcome (λ e. OnFailure (between y z j k) e (λ n. (n ≡ Capture (length done.notes.items)) × Rose (mid (name s)) (now (name s))))
        → CopiesSources name left faults texts before mid names rest goes holds waiting (between x y i j) old flow done was
        → CopiesSources name left faults texts before now names others goes holds waiting (between x z i k) old new after outcome
    sources-next before mid now names s rest others x y z i j k old flow new done after was (Ok u) is fine earlier later told count stopped cause h =
        let g = subst (λ r. CopiesSources name left faults texts before mid names rest goes holds waiting (between x y i j) old flow done r) fine h in
        let next = next-of name left faults texts g.ahead s others (subst (AreFetched name left faults texts g.ahead) is g.fetched) in
        record {
          past = g.past ++ next.first ∷ [];
          ahead = next.others;
          whole = g.whole ∙ ap (λ l. g.past ++ l) next.whole ∙ sym (append_assoc g.past (next.first ∷ []) next.others);
          fetched = next.fetched;
          count = omega (arith, count, g.count, length-append g.past (next.first ∷ []));
          told = λ read t.
              let parts = told-parts texts g.past (next.first ∷ []) read t in
              let one = told-one texts next.first parts.second parts.second_told in
              subst (λ l. TakesTexts (Copies goes (between x z i k)) l old new after) (sym (parts.whole ∙ ap (λ l. parts.first ++ l) one.whole))
              (texts-next x y z i j k parts.first one.text old flow new done after (g.told parts.first parts.first_told)
              (told one.text (next.told ∙ one.told)));
          stopped = tt;
          cause = tt;
        }
    sources-next before mid now names s rest others x y z i j k old flow new done after was (Err e) is fine earlier later told count stopped cause h =
        let g = subst (λ r. CopiesSources name left faults texts before mid names rest goes holds waiting (between x y i j) old flow done r) fine h in
        let next = next-of name left faults texts g.ahead s others (subst (AreFetched name left faults texts g.ahead) is g.fetched) in
        let number = length done.notes.items in
        let all : names ≡ g.past ++ next.first ∷ next.others = g.whole ∙ ap (λ l. g.past ++ l) next.whole in
        let place : slice_index_or names number [] ≡ next.first =
        ap (λ l. slice_index_or l number []) all ∙ ap (λ n. slice_index_or (g.past ++ next.first ∷ next.others) n []) g.count
        ∙ place-of g.past next.first next.others in
        record {
          past = g.past ++ next.first ∷ [];
          ahead = next.others;
          whole = all ∙ sym (append_assoc g.past (next.first ∷ []) next.others);
          fetched = tt;
          count = tt;
          told = tt;
          stopped = λ read files notes t records.
              let parts = told-parts texts g.past (next.first ∷ []) read t in
              let one = told-one texts next.first parts.second parts.second_told in
              stopped-next x y z i j k parts.first one.text old flow done (g.told parts.first parts.first_told)
              (λ items end holds. stopped one.text items end (next.told ∙ one.told) holds) files notes
              (subst (λ l. AreRecords l files notes) (parts.whole ∙ ap (λ l. parts.first ++ l) one.whole) records);
          cause = failure-map x y z i j k e (λ n. (n ≡ Capture number) × Rose (mid (name s)) (now (name s)))
              (λ n. (at : ℕ) × (n ≡ Capture at) × CaptureRose before now names at) later (λ n c. (
                number,
                c.0,
                record {
                  within = let long : length names ≡ length g.past + length (next.first ∷ next.others) =
                      ap length all ∙ length-append g.past (next.first ∷ next.others) in omega (arith, long, g.count);
                  rose = subst (λ l. Rose (before l) (now l)) (next.named ∙ sym place)
                      (rose-from (before (name s)) (mid (name s)) (now (name s)) (earlier (name s)) c.1);
                },
              )) cause;
        }

    -- the others are passed over, where it stopped before
    pub sources-past : (before mid now : List ℕ → ℕ) (names : List (List ℕ)) (rest others : List S) (x y : Option (List ℕ)) (i j : ℕ)
        (old flow : X) (done : TakenCaptures) (was : Result (Unit {0}) Failure) (e : Failure) → was ≡ Err e
        → ((n : List ℕ) → mid n ≤ now n)
        → CopiesSources name left faults texts before mid names rest goes holds waiting (between x y i j) old flow done was
        → CopiesSources name left faults texts before now names others goes holds waiting (between x y i j) old flow done (Err e)
    sources-past before mid now names rest others x y i j old flow done was e failed later h =
        let g = subst (λ r. CopiesSources name left faults texts before mid names rest goes holds waiting (between x y i j) old flow done r) failed h in
        record {
          past = g.past;
          ahead = g.ahead;
          whole = g.whole;
          fetched = tt;
          count = tt;
          told = tt;
          stopped = g.stopped;
          cause = failure-map x x y i i j e (λ n. (at : ℕ) × (n ≡ Capture at) × CaptureRose before mid names at)
              (λ n. (at : ℕ) × (n ≡ Capture at) × CaptureRose before now names at) (omega arith)
              (λ n c. (c.0, c.1, record { within = c.2.within; rose = rose-later _ _ _ (later _) c.2.rose })) g.cause;
        }

    -- all were taken
    pub sources-whole : (before now : List ℕ → ℕ) (names read : List (List ℕ)) (rest : List S) (o : Output) (old flow : X) (done : TakenCaptures)
        (outcome : Result (Unit {0}) Failure) → outcome ≡ Ok tt → rest ≡ []
        → CopiesSources name left faults texts before now names rest goes holds waiting o old flow done outcome → AreTold texts names read
        → TakesTexts (Copies goes o) read old flow done
    sources-whole before now names read rest o old flow done outcome fine none h told =
        let g = subst (λ r. CopiesSources name left faults texts before now names rest goes holds waiting o old flow done r) fine h in
        let empty : g.ahead ≡ [] = none-ahead name left faults texts g.ahead (subst (AreFetched name left faults texts g.ahead) none g.fetched) in
        g.told read (subst (λ l. AreTold texts l read) (g.whole ∙ ap (λ l. g.past ++ l) empty ∙ append-nil g.past) told)

    -- it stopped: so it did whatever follows
    pub sources-stopped : (before now : List ℕ → ℕ) (names read : List (List ℕ)) (rest : List S) (o : Output) (old flow : X) (done : TakenCaptures)
        (outcome : Result (Unit {0}) Failure) (files : List (List Record)) (notes : List FileNote) → is_ok outcome ≡ false
        → CopiesSources name left faults texts before now names rest goes holds waiting o old flow done outcome → AreTold texts names read
        → AreRecords read files notes
        → Stopped goes holds waiting o old (joined files)
    sources-stopped before now names read rest o old flow done (Ok u) files notes failed g told records = absurd (false≢true (sym failed))
    sources-stopped before now names read rest o old flow done (Err e) files notes failed g told records =
        let names_parts = told-parts texts g.past g.ahead read (subst (λ l. AreTold texts l read) g.whole told) in
        let parts = records-parts names_parts.first names_parts.second files notes (subst (λ l. AreRecords l files notes) names_parts.whole records) in
        subst (Stopped goes holds waiting o old) (sym (ap joined parts.whole ∙ joined-append 0 parts.first parts.second))
        (stopped-more o old (joined parts.first) (joined_after (0 + length (joined parts.first)) parts.second)
        (g.stopped names_parts.first parts.first parts.first_notes names_parts.first_told parts.first_records))
