-- The answer of `watch`: what was printed while the captures were read, and the rest.
use Rattle.std.specs.Prelude.{All, IfErr, Result, is_ok, map, string_bytes, ◌⊎◌}
use Rattle.std.proofs.Common.{◌≡◌, ◌<◌, ◌≤◌, ◌+◌, ◌++◌, ◌∷◌, ℕ, false, List, [], length, drop, take, Option, Some, None, Ok, Err, inl, inr}
use Rattle.std.proofs.Common.{◌∙◌, ap, sym, subst, refl, arith, append-nil, append_assoc, length-drop}
use Rattle.std.proofs.lemmas.Bool.{false≢true}
use Rattle.std.proofs.lemmas.List.{length-take-le, take-append-drop}
use Rattle.std.proofs.lemmas.List.Elements.{All-cons, All-nil}
use Rattle.timing_base.specs.Captures.{Record, joined}
use Rattle.timing_base.specs.Choices.{chosen, first_chosen}
use Rattle.timing_base.specs.Jobs.{IsWatchJob, WatchJob}
use Rattle.timing_base.specs.Media.{IsMedia, Media}
use Rattle.timing_base.specs.Shifts.{FlowOptions}
use Rattle.timing_base.specs.declared.capture.FileNote.{FileNote}
use Rattle.timing_base.specs.declared.row.Row.{Row}
use Rattle.flow_demux.specs.Rooms.{flows_of}
use Rattle.flow_demux.specs.declared.media_flow.MediaFlow.{MediaFlow}
use Rattle.fail_interval.specs.Rows.{rows_from}
use Rattle.pcap_reader.specs.Records.{AreRecords}
use Rattle.pcap_reader.proofs.Captures.{some-records}
use Rattle.pcapng_reader.specs.Classic.{classic, classic_texts}
use Rattle.timing_report.specs.Outcomes.{AreOfSession, status_of}
use Rattle.timing_report.specs.declared.status.Input.TheVariants as input
use Rattle.timing_steps.specs.Answers.{Answer, AreThere, AreTold, CaptureRose, Inputs}
use Rattle.timing_steps.specs.Flows.{no_choice}
use Rattle.timing_steps.specs.Printings.{Copies, CopiesSome, Stopped}
use Rattle.timing_steps.specs.Queries.{BeginsCaptures, FollowsCaptures, HasAnswer, IsFrontOf, Query}
use Rattle.timing_steps.specs.Ran.{Appended, Output}
use Rattle.timing_steps.specs.Streams.{HasBegun, HasRest, OnFailure, Rests}
use Rattle.timing_steps.specs.Taken.{TakesTexts}
use Rattle.timing_steps.specs.declared.captures.TakenCaptures.{TakenCaptures}
use Rattle.timing_steps.specs.declared.failure.Failure.{Failure}
use Rattle.timing_steps.specs.declared.failure.Failure.TheVariants as failure
use Rattle.timing_steps.proofs.Capturing.{media_within, reads-all}
use Rattle.timing_steps.proofs.Classics.{told-classic}
use Rattle.timing_steps.proofs.Onces.{told-once}
use Rattle.timing_watch.specs.Watches.{AreLinesAfter, DefinesWatch, end_text, rows_of_job, watch_query}
use Rattle.timing_watch.specs.making.Watches.{AreFlows, EndsWatch, GoesOn, HoldsText, StandsFor, rest_of, text_of}
use Rattle.timing_watch.specs.declared.flow.WatchFlow.{WatchFlow}
use Rattle.timing_watch.specs.declared.watch.Watch.{Watch}
use Rattle.timing_watch.specs.declared.watch.Watched.{Watched}
use Rattle.timing_watch.proofs.Lines.{lines-joined}
use Rattle.timing_watch.proofs.Some.{some-left, some-lines}

-- ---- the media and the results

-- the chosen media are not more than those of the session
one-few : (rest : List Media) → length (take 1 rest) ≤ length rest
one-few [] = omega arith
one-few (m ∷ rest) = omega arith

pub chosen-few : (only : Option ℕ) (session : List Media) → length (chosen only session) ≤ length session
chosen-few None session = omega arith
chosen-few (Some number) session = omega (arith, one-few (drop number session), length-drop number session)

-- they are media of the session
pub chosen-fits : (only : Option ℕ) (session : List Media) → no_choice only session ≡ None → first_chosen only + length (chosen only session) ≤ length session
chosen-fits None session e = omega arith
chosen-fits (Some number) session e =
    let within = media_within session number e in
    let rest = length-drop number session in
    let one : length (take 1 (drop number session)) ≡ 1 = length-take-le 1 (drop number session) (omega (arith, rest, within)) in
    omega (arith, one, within)

rows-below : (options : FlowOptions) (number : ℕ) (media : List Media) (items : List Record) (limit : ℕ) → number + length media ≤ limit
    → All (λ (row : Row). row.key.media < limit) (rows_from options 0 number media items)
rows-below options number [] items limit few = All-nil (λ (row : Row). row.key.media < limit)
rows-below options number (m ∷ media) items limit few =
    All-cons (λ (row : Row). row.key.media < limit) _ (rows_from options 0 (number + 1) media items) (omega (arith, few))
    (rows-below options (number + 1) media items limit (omega (arith, few)))

-- each result is of a media of the session
pub rows-of-session : (job : WatchJob) (session : List Media) (items : List Record) → no_choice job.flows.media session ≡ None
    → AreOfSession session (rows_of_job job session items)
rows-of-session job session items e =
    rows-below job.flows.options (first_chosen job.flows.media) (chosen job.flows.media session) items (length session)
    (chosen-fits job.flows.media session e)

-- ---- an answer over captures

has-watch : (job : WatchJob) (session : List Media) (texts : List (List ℕ)) (files : List (List Record)) (notes : List FileNote) (answer : Answer)
    → AreRecords texts files notes → DefinesWatch job session (joined files) notes answer → HasAnswer (watch_query job) session texts answer
has-watch job session texts files notes answer records defined = record { files = files; notes = notes; records = records; defined = defined }

-- the media of flows are within their limits
flows-media : (job : WatchJob) (items : List Record) (number : ℕ) (media : List Media) (flows : List (MediaFlow WatchFlow))
    → AreFlows job items number media flows → All IsMedia media
flows-media job items number [] [] h = All-nil IsMedia
flows-media job items number [] (f ∷ flows) h = absurd h
flows-media job items number (m ∷ media) [] h = absurd h
flows-media job items number (m ∷ media) (f ∷ flows) h =
    All-cons IsMedia m media (subst IsMedia h.0.stands.media_is f.taker.media_is) (flows-media job items (number + 1) media flows h.1)

-- nothing was taken yet
abbrev pub IsFresh : WatchJob → List Media → Watch → Type 0
IsFresh job session x = StandsFor job (first_chosen job.flows.media) (chosen job.flows.media session) [] x []

-- what may be printed if the answer isn't printed whole
abbrev pub BeginsOr : WatchJob → List Media → (texts : List (List ℕ)) → (front : List ℕ) → Type 0
BeginsOr job session texts front = (front ≡ []) ⊎ IsFrontOf (HasAnswer (watch_query job) session texts) front

pieces : (written made more end : List ℕ) (count : ℕ)
    → ((written ++ made) ++ more) ++ end ≡ (written ++ take count made) ++ (drop count made ++ (more ++ end))
pieces written made more end count =
    append_assoc (written ++ made) more end
    ∙ ap (λ x. (written ++ x) ++ (more ++ end)) (sym (take-append-drop count made))
    ∙ ap (λ x. x ++ (more ++ end)) (sym (append_assoc written (take count made) (drop count made)))
    ∙ append_assoc (written ++ take count made) (drop count made) (more ++ end)

-- it stopped among the packet records of the captures
stopped-at : (job : WatchJob) (session : List Media) (o : Output) (old : Watch) (texts : List (List ℕ)) (files : List (List Record)) (notes : List FileNote)
    → IsWatchJob job → IsFresh job session old → AreRecords texts files notes → Stopped GoesOn HoldsText text_of o old (joined files)
    → HasBegun o (BeginsOr job session texts)
stopped-at job session o old texts files notes limits fresh records s =
    let first = first_chosen job.flows.media in
    let watched = chosen job.flows.media session in
    let items = joined files in
    let are = flows-media job [] first watched (flows_of old.demux) fresh.flows_are in
    let stands : StandsFor job first watched s.written s.stood s.taken = s.goes_on job first watched [] [] fresh in
    let made = text_of s.stood in
    let more = some-lines job first watched s.taken s.rest limits are in
    let lines : AreLinesAfter job first watched [] items ((s.written ++ made) ++ more.0) =
    subst (λ l. AreLinesAfter job first watched [] l ((s.written ++ made) ++ more.0)) (sym s.whole)
    (lines-joined job first watched [] s.taken s.rest (s.written ++ made) more.0 stands.lines_are more.1) in
    let left = some-left job first watched items limits are in
    let rows = rows_of_job job session items in
    let end = left.0 ++ end_text job session notes rows in
    let answer : Answer = record { text = ((s.written ++ made) ++ more.0) ++ end; status = status_of session notes rows } in
    let defined : DefinesWatch job session items notes answer = record {
      lines = (s.written ++ made) ++ more.0;
      left = left.0;
      lines_are = lines;
      left_are = left.1;
      text_is = refl;
      status_is = refl;
    } in (
      s.written ++ take s.count made,
      s.appended,
      inr (record {
        answer = answer;
        has = has-watch job session texts files notes answer records defined;
        rest = drop s.count made ++ (more.0 ++ end);
        whole = pieces s.written made more.0 end s.count;
      }),
    )

-- it stopped while the captures were read
pub begun-stopped : (job : WatchJob) (session : List Media) (o : Output) (old : Watch) (texts : List (List ℕ)) → IsWatchJob job
    → IsFresh job session old
    → ((files : List (List Record)) (notes : List FileNote) → AreRecords texts files notes → Stopped GoesOn HoldsText text_of o old (joined files))
    → HasBegun o (BeginsOr job session texts)
begun-stopped job session o old texts limits fresh stopped =
    let all = some-records texts in
    stopped-at job session o old texts all.0 all.1 limits fresh all.2 (stopped all.0 all.1 all.2)

stopped-whole : (o : Output) (old new : Watch) (items : List Record) → Copies GoesOn o old new items → Stopped GoesOn HoldsText text_of o old items
stopped-whole o old new items c = record {
  taken = items;
  rest = [];
  whole = sym (append-nil items);
  stood = new;
  written = c.written;
  goes_on = c.goes_on;
  count = 0;
  some = inl refl;
  appended = subst (λ t. Appended o t) (sym (append-nil c.written)) c.appended;
}

-- it stopped at their end
pub begun-whole : (job : WatchJob) (session : List Media) (o : Output) (old new : Watch) (texts : List (List ℕ)) (taken : TakenCaptures) → IsWatchJob job
    → IsFresh job session old → TakesTexts (Copies GoesOn o) texts old new taken → HasBegun o (BeginsOr job session texts)
begun-whole job session o old new texts taken limits fresh t =
    stopped-at job session o old texts t.files taken.notes.items limits fresh t.records (stopped-whole o old new (joined t.files) t.fed)

-- they were read to their end: what was printed and the rest are the answer
pub rest-of-watch : (job : WatchJob) (session : List Media) (o : Output) (old new : Watch) (texts : List (List ℕ)) (taken : TakenCaptures) (y : Watched)
    (rest : Answer) → IsFresh job session old → TakesTexts (Copies GoesOn o) texts old new taken → EndsWatch new y
    → rest ≡ rest_of job session taken.notes.items y → HasRest o (HasAnswer (watch_query job) session texts) rest
rest-of-watch job session o old new texts taken y rest fresh t ends rest_is =
    let first = first_chosen job.flows.media in
    let watched = chosen job.flows.media session in
    let items = joined t.files in
    let notes = taken.notes.items in
    let written = t.fed.written in
    let left = ends job first watched written items (t.fed.goes_on job first watched [] [] fresh) in
    let end = end_text job session notes in
    let text : written ++ (string_bytes y.text ++ end y.rows.items) ≡ left.lines ++ (left.left ++ end (rows_of_job job session items)) =
    ap (λ rows. written ++ (string_bytes y.text ++ end rows)) left.rows_are
    ∙ sym (append_assoc written (string_bytes y.text) (end (rows_of_job job session items)))
    ∙ ap (λ x. x ++ end (rows_of_job job session items)) left.text_is
    ∙ append_assoc left.lines left.left (end (rows_of_job job session items)) in
    let whole : Answer = record { text = written ++ (string_bytes y.text ++ end y.rows.items); status = status_of session notes y.rows.items } in
    let defined : DefinesWatch job session items notes whole = record {
      lines = left.lines;
      left = left.left;
      lines_are = left.lines_are;
      left_are = left.left_are;
      text_is = text;
      status_is = ap (status_of session notes) left.rows_are;
    } in
    let has = has-watch job session texts t.files notes whole t.records defined in (
      written,
      t.fed.appended,
      subst (λ (a : Answer). HasAnswer (watch_query job) session texts (record { text = written ++ a.text; status = a.status })) (sym rest_is) has,
    )

-- the results of what was taken are of the session, whatever the captures
pub left-of-session : (job : WatchJob) (session : List Media) (o : Output) (old new : Watch) (y : Watched) → IsFresh job session old
    → CopiesSome GoesOn o old new → EndsWatch new y → no_choice job.flows.media session ≡ None → AreOfSession session y.rows.items
left-of-session job session o old new y fresh c ends e =
    let first = first_chosen job.flows.media in
    let watched = chosen job.flows.media session in
    let left = ends job first watched c.1.written c.0 (c.1.goes_on job first watched [] [] fresh) in
    subst (AreOfSession session) (sym left.rows_are) (rows-of-session job session c.0 e)

-- ---- the outcome

pub some-front : (o : Output) (old new : Watch) → CopiesSome GoesOn o old new → (front : List ℕ) × Appended o front
some-front o old new c = (c.1.written, c.1.appended)

-- the names are told, or not
told-or : (texts : List ℕ → Option (List ℕ)) (names : List (List ℕ))
    → ((read : List (List ℕ)) × AreTold texts names read) ⊎ ((read : List (List ℕ)) → AreTold texts names read → ⊥)
told-or texts [] = inl ([], tt)
told-or texts (n ∷ ns) = by (texts n) refl (told-or texts ns)
  where
    none : (o : Option (List ℕ)) → o ≡ None → (t : List ℕ) → o ≡ Some t → ⊥
    none o is t told = cc

    unknown : texts n ≡ None → (read : List (List ℕ)) → AreTold texts (n ∷ ns) read → ⊥
    unknown is [] h = h
    unknown is (t ∷ ts) h = none (texts n) is t h.0

    others : ((read : List (List ℕ)) → AreTold texts ns read → ⊥) → (read : List (List ℕ)) → AreTold texts (n ∷ ns) read → ⊥
    others lacking [] h = h
    others lacking (t ∷ ts) h = lacking ts h.1

    by : (o : Option (List ℕ)) → texts n ≡ o → ((read : List (List ℕ)) × AreTold texts ns read) ⊎ ((read : List (List ℕ)) → AreTold texts ns read → ⊥)
        → ((read : List (List ℕ)) × AreTold texts (n ∷ ns) read) ⊎ ((read : List (List ℕ)) → AreTold texts (n ∷ ns) read → ⊥)
    by None is rest = inr (unknown is)
    by (Some t) is (inl r) = inl (t ∷ r.0, (is, r.1))
    by (Some t) is (inr lacking) = inr (others lacking)

-- what was written, and of which something holds if all texts are told
wrote-known : (texts : List ℕ → Option (List ℕ)) (names : List (List ℕ)) (o : Output) (Q : List (List ℕ) → List ℕ → Type 0)
    → ((read : List (List ℕ)) → AreTold texts names read → (written : List ℕ) × Appended o written × Q read written)
    → (written : List ℕ) × Appended o written
    → (written : List ℕ) × Appended o written × ((read : List (List ℕ)) → AreTold texts names read → Q read written)
wrote-known texts names o Q told some = by (told-or texts names)
  where
    by : ((read : List (List ℕ)) × AreTold texts names read) ⊎ ((read : List (List ℕ)) → AreTold texts names read → ⊥)
        → (written : List ℕ) × Appended o written × ((read : List (List ℕ)) → AreTold texts names read → Q read written)
    by (inl t) =
        let h = told t.0 t.1 in
        (h.0, h.1, λ read known. subst (λ l. Q l h.0) (told-once texts names t.0 read t.1 known) h.2)
    by (inr lacking) = (some.0, some.1, λ read known. absurd (lacking read known))

-- the captures were read to their end
pub rests-whole : (query : Query) (media : List Media) (i : Inputs) (o : Output) (rest : Answer) → AreThere i.lacks query.captures
    → ((texts : List (List ℕ)) → AreTold (classic_texts i.texts) query.captures texts → HasRest o (HasAnswer query media texts) rest)
    → (written : List ℕ) × Appended o written
    → Rests o (FollowsCaptures query media i) (BeginsCaptures query media i) (Ok rest)
rests-whole query media i o rest there told some =
    let w =
    wrote-known (classic_texts i.texts) query.captures o
    (λ texts written. HasAnswer query media texts (record { text = written ++ rest.text; status = rest.status })) told some in
    (w.0, w.1, reads-all query media i (Ok (record { text = w.0 ++ rest.text; status = rest.status })) there w.2 tt)

-- why the captures couldn't be read to their end
unread-follows : (query : Query) (media : List Media) (i : Inputs) (o : Output) (e : Failure)
    → OnFailure o e (λ x. (number : ℕ) × (x ≡ input.Capture number) × CaptureRose i.before i.now query.captures number)
    → (e ≡ failure.WriteFault) ⊎ FollowsCaptures query media i (Err e)
unread-follows query media i o (failure.ReadFault x) cause = inr (reads-all query media i (Err (failure.ReadFault x)) tt tt cause)
unread-follows query media i o failure.WriteFault cause = inl refl
unread-follows query media i o failure.OutOfMemory cause = inr (inl refl)

-- they weren't, and a prefix was written
pub rests-part : (query : Query) (media : List Media) (i : Inputs) (o : Output) (rest : Result Answer Failure) → is_ok rest ≡ false
    → IfErr rest (λ e. OnFailure o e (λ x. (number : ℕ) × (x ≡ input.Capture number) × CaptureRose i.before i.now query.captures number))
    → ((texts : List (List ℕ)) → AreTold (classic_texts i.texts) query.captures texts
    → HasBegun o (λ front. (front ≡ []) ⊎ IsFrontOf (HasAnswer query media texts) front))
    → (front : List ℕ) × Appended o front
    → Rests o (FollowsCaptures query media i) (BeginsCaptures query media i) rest
rests-part query media i o (Ok rest) failed cause begun front = absurd (false≢true (sym failed))
rests-part query media i o (Err e) failed cause begun front =
    let w =
    wrote-known (classic_texts i.texts) query.captures o (λ texts front. (front ≡ []) ⊎ IsFrontOf (HasAnswer query media texts) front) begun front in (
      unread-follows query media i o e cause,
      (w.0, w.1, λ texts told. w.2 (map classic texts) (told-classic i.texts query.captures texts told)),
    )
