-- What a run finds in the texts of its files.
use Rattle.std.proofs.Common.{◌≡◌, ◌<◌, ◌^◌, ℕ, zero, suc, Bool, true, false, eqb, nat_lt, if◌then◌else◌, List, [], ◌∷◌, length, map, filter, replicate}
use Rattle.std.proofs.Common.{slice_index_or, Some, None, refl, sym, ap, ◌∙◌, subst, eqb-true, ltb-true, lt-ltb, arith, append-nil, Vec, Global}
use Rattle.std.specs.Prelude.{All, IfSome, IsTrue, Option}
use Rattle.std.proofs.lemmas.Bool.{and_from, false≢true}
use Rattle.std.proofs.lemmas.List.{length-map}
use Rattle.timing_base.specs.Captures.{joined as joined_records}
use Rattle.timing_base.specs.Keys.{key_of}
use Rattle.timing_base.specs.Routes.{route}
use Rattle.timing_base.specs.declared.capture.FileNote.{FileNote}
use Rattle.timing_base.specs.declared.capture.FileNote.TheVariants.{Cut, End, Refused}
use Rattle.timing_base.specs.declared.capture.PcapFault.TheVariants as fault
use Rattle.timing_base.specs.declared.key.FlowKey.{FlowKey}
use Rattle.timing_base.specs.declared.row.Row.{Row}
use Rattle.pcap_reader.specs.Header.{header}
use Rattle.pcap_reader.specs.Records.{AreRecords, Records}
use Rattle.pcap_reader.proofs.Lists.{some_by}
use Rattle.ruled_intake.specs.Lanes.{IsPrefix, LaneId, Sender, Taker, messages, of}
use Rattle.ruled_intake.specs.declared.message.Message.{Message}
use Rattle.ruled_intake.specs.declared.passes.SendPass.{SendPass}
use Rattle.ruled_intake.specs.declared.rule.Entry.{Entry}
use Rattle.verdict_book.specs.declared.book.Book.{Book}
use Rattle.verdict_book.specs.declared.book.Receipt.{Receipt}
use Rattle.fail_interval.specs.Found.{AreFound}
use Rattle.fail_interval.specs.Rows.{rows_of, rows_of_files, rows_over}
use Rattle.flow_worker.specs.Intakes.{HasSentAll, HasTold}
use Rattle.flow_worker.specs.Kept.{is_in_file}
use Rattle.flow_worker.specs.Messages.{of_file}
use Rattle.flow_worker.specs.Opening.{Capture, IsSetting, Setting, messages as file_messages}
use Rattle.flow_worker.specs.Posting.{has_ends, key_lane, key_row, keys, own_keys, taken_row}
use Rattle.flow_worker.specs.Works.{HasJudged}
use Rattle.flow_worker.specs.declared.intakes.IntakeDone.{IntakeDone}
use Rattle.flow_worker.specs.declared.workers.WorkDone.{WorkDone}
use Rattle.flow_worker.proofs.Posting.{taken_row_is}
use Rattle.flow_worker.proofs.Reported.{rows-keys}
use Rattle.flow_worker.proofs.Rows.{has_ends-at}
use Rattle.flow_worker.proofs.Senders.{in_order-by_sender}
use Rattle.flow_worker.specs.crew.Ends.{receipts_in}
use Rattle.flow_worker.specs.crew.Gathering.{ArePosted}
use Rattle.flow_worker.specs.crew.Jobs.{AreIntakes, AreMade}
use Rattle.flow_worker.specs.crew.Judging.{AreTexts, IsWhole}
use Rattle.flow_worker.specs.crew.Reading.{AreRead}
use Rattle.flow_worker.specs.crew.Threads.{AreWorked}
use Rattle.flow_worker.specs.declared.crew.jobs.IntakeJob.{IntakeJob}
use Rattle.flow_worker.specs.declared.crew.jobs.WorkJob.{WorkJob}
use Rattle.flow_worker.proofs.lemmas.crew.Listing.{keys-all}
use Rattle.flow_worker.proofs.lemmas.crew.Lists.{at_map, filter-agree, map-same, map_kept-agree, same_at, some_item}
use Rattle.flow_worker.specs.crew.Closing.{AreClosed}
use Rattle.flow_worker.specs.crew.Columns.{dealt_all}
use Rattle.flow_worker.proofs.lemmas.crew.Running.{HasRun, HaveSentAll, taken_begins}
use Rattle.flow_worker.proofs.lemmas.crew.Starting.{AreNotes, AreRows, job_number, read_at, row_at, row_count, rows_are, taker_count, takers_are, work_count}

-- of receipts that are there
receipts_are : (P : List Receipt → Type 0) (o : Option (Vec Receipt Global)) → IfSome o (λ v. P v.items) → IfSome (receipts_in o) P
receipts_are P None h = h
receipts_are P (Some v) h = h

if_some : (P : List Receipt → Type 0) (o : Option (List Receipt)) (x : List Receipt) → o ≡ Some x → IfSome o P → P x
if_some P o x e h = subst (λ (p : Option (List Receipt)). IfSome p P) e h

-- joined files are one: where keys are those of a run, packets go to the worker that the key names
lane_of : (s : Setting) (b : Bool) (files f m : ℕ) → s.joined ≡ b → f < (if b then 1 else files)
    → route (key_of f m) (length s.media) s.workers ≡ key_lane s (key_of f m)
lane_of s true files f m e h =
    let z : f ≡ 0 = omega (arith, h) in
    ap (λ n. route (key_of n m) (length s.media) s.workers) z
    ∙ sym (ap (λ (b : Bool). route (key_of (if b then 0 else f) m) (length s.media) s.workers) e)
lane_of s false files f m e h = sym (ap (λ (b : Bool). route (key_of (if b then 0 else f) m) (length s.media) s.workers) e)

-- the keys of a worker by either
own-keys : (s : Setting) (files w : ℕ) → own_keys s files w ≡ filter (λ key. eqb (route key (length s.media) s.workers) w) (keys s files)
own-keys s files w =
    sym (filter-agree (λ key. eqb (route key (length s.media) s.workers) w) (λ key. eqb (key_lane s key) w) (keys s files)
    (keys-all (λ key. eqb (route key (length s.media) s.workers) w ≡ eqb (key_lane s key) w) s.joined files (length s.media)
    (λ f m h k. ap (λ n. eqb n w) (lane_of s s.joined files f m refl h))))

-- rows that are right for each worker's own keys are posted
pub posted_by : (s : Setting) (files : ℕ) (book : Book) (lanes : List LaneId) (columns : List (List Sender)) (jobs : List WorkJob) (dones : List WorkDone)
    (posted : List (Option (Vec Receipt Global))) (row_for : FlowKey → Row)
    → AreMade files s.workers lanes jobs columns → AreWorked s files book jobs dones → posted ≡ map (λ d. d.receipts) dones
    → ((w : ℕ) (d : WorkDone) → w < length dones → IsTrue (has_ends files (messages (slice_index_or dones w d).pass.taken))
    → All (λ key. key_lane s key ≡ w → taken_row s files (messages (slice_index_or dones w d).pass.taken) key ≡ row_for key) (keys s files))
    → ArePosted book row_for (length s.media) s.workers (keys s files) posted
posted_by s files book lanes columns jobs dones posted row_for made worked e right = λ w below receipts is.
    let long : length posted ≡ length dones = ap length e ∙ length-map dones (λ (d : WorkDone). d.receipts) in
    let there : w < length dones = omega (arith, below, long) in
    let here : w < length jobs = let b = worked.count in omega (arith, b, there) in
    let j : WorkJob = some_item jobs w here in
    let d : WorkDone = some_item dones w there in
    let done : WorkDone = slice_index_or dones w d in
    let number = job_number files s.workers lanes jobs columns w j made here in
    let at : slice_index_or (map receipts_in posted) w None ≡ receipts_in done.receipts =
    at_map receipts_in posted (map receipts_in posted) w None None refl below
    ∙ ap receipts_in (at_map (λ (k : WorkDone). k.receipts) dones posted w d None e there) in
    let judged : HasJudged s files w done.pass book receipts =
    if_some (HasJudged s files w done.pass book) (receipts_in done.receipts) receipts (sym at ∙ is)
    (receipts_are (HasJudged s files w done.pass book) done.receipts
    (subst (λ n. IfSome done.receipts (λ v. HasJudged s files n done.pass book v.items)) number (worked.each w j d here).judged)) in
    let all = right w d there judged.ended in
    record {
      posted = judged.posted;
      rows =
          judged.rows
          ∙ map_kept-agree (λ key. eqb (key_lane s key) w) (taken_row s files (messages done.pass.taken)) row_for (keys s files)
          (λ k c m t. all k c m (eqb-true (key_lane s (slice_index_or (keys s files) k c)) w t))
          ∙ ap (map row_for) (own-keys s files w);
    }

-- what each worker took
pub taken_by : List WorkDone → ℕ → List Message
taken_by dones w = slice_index_or (map (λ d. messages d.pass.taken) dones) w []

-- so there are rows that are posted
pub some_posted : (s : Setting) (files : ℕ) (book : Book) (lanes : List LaneId) (columns : List (List Sender)) (jobs : List WorkJob) (dones : List WorkDone)
    (posted : List (Option (Vec Receipt Global)))
    → AreMade files s.workers lanes jobs columns → AreWorked s files book jobs dones → posted ≡ map (λ d. d.receipts) dones
    → ArePosted book (λ key. taken_row s files (taken_by dones (key_lane s key)) key) (length s.media) s.workers (keys s files) posted
unfolding taken_by
some_posted s files book lanes columns jobs dones posted made worked e =
    posted_by s files book lanes columns jobs dones posted (λ key. taken_row s files (taken_by dones (key_lane s key)) key) made worked e
    (λ w d there ended k c m own.
    let key : FlowKey = slice_index_or (keys s files) k c in
    ap (λ (t : List Message). taken_row s files t key)
    (sym (at_map (λ (x : WorkDone). messages x.pass.taken) dones (map (λ x. messages x.pass.taken) dones) w d [] refl there)
    ∙ ap (λ n. slice_index_or (map (λ (x : WorkDone). messages x.pass.taken) dones) n []) (sym own)))

-- a file that a key is in is a file of the run
file_below : (s : Setting) (b : Bool) (files f m g : ℕ) → s.joined ≡ b → f < (if b then 1 else files) → IsTrue (is_in_file s files (key_of f m) g) → g < files
file_below s true files f m g e h asked = ltb-true g files (sym (ap (λ (b : Bool). if b then nat_lt g files else eqb g f) e) ∙ asked)
file_below s false files f m g e h asked =
    let same : g ≡ f = eqb-true g f (sym (ap (λ (b : Bool). if b then nat_lt g files else eqb g f) e) ∙ asked) in
    omega (arith, same, h)

-- a worker that took an end of each file makes the rows of its own keys
row_right : (s : Setting) (captures : List Capture) (w f m : ℕ) (taken : List Entry) → IsSetting s → f < (if s.joined then 1 else length captures)
    → m < length s.media
    → ((g : ℕ) → IsPrefix (of g taken) (file_messages s captures g w)) → IsTrue (has_ends (length captures) (messages taken)) → key_lane s (key_of f m) ≡ w
    → taken_row s (length captures) (messages taken) (key_of f m) ≡ key_row s captures (key_of f m)
row_right s captures w f m taken is h k begins ended own =
    taken_row_is s captures (key_of f m) (messages taken) is
    (and_from (nat_lt f (if s.joined then 1 else length captures)) (nat_lt m (length s.media)) (lt-ltb f (if s.joined then 1 else length captures) h)
    (lt-ltb m (length s.media) k))
    (λ g asked. record {
      in_order = subst (λ n. IsPrefix (of_file g (messages taken)) (file_messages s captures g n)) (sym own) (in_order-by_sender s captures w taken begins g);
      ended = has_ends-at (length captures) g (messages taken) ended (file_below s s.joined (length captures) f m g refl h asked);
    })

-- so the rows of the keys are posted
pub rows_posted : (s : Setting) (captures : List Capture) (book : Book) (lanes : List LaneId) (columns : List (List Sender)) (jobs : List WorkJob)
    (dones : List WorkDone) (posted : List (Option (Vec Receipt Global)))
    → IsSetting s → AreMade (length captures) s.workers lanes jobs columns → AreWorked s (length captures) book jobs dones
    → posted ≡ map (λ d. d.receipts) dones
    → ((w : ℕ) (d : WorkDone) → w < length dones → (g : ℕ) → IsPrefix (of g (slice_index_or dones w d).pass.taken) (file_messages s captures g w))
    → ArePosted book (key_row s captures) (length s.media) s.workers (keys s (length captures)) posted
rows_posted s captures book lanes columns jobs dones posted is made worked e begins =
    posted_by s (length captures) book lanes columns jobs dones posted (key_row s captures) made worked e
    (λ w d there ended.
    keys-all (λ key. key_lane s key ≡ w → taken_row s (length captures) (messages (slice_index_or dones w d).pass.taken) key ≡ key_row s captures key) s.joined
    (length captures) (length s.media)
    (λ f m h k own. row_right s captures w f m (slice_index_or dones w d).pass.taken is h k (begins w d there) ended own))

-- what was told of a file that is whole
sent_whole : (s : Setting) (file : ℕ) (lanes : List LaneId) (c : Capture) (note : FileNote) (passes : List Sender) → IsWhole note
    → HasTold s file lanes c (Some note) passes → HasSentAll s file lanes c note passes
sent_whole s file lanes c End passes whole h = h
sent_whole s file lanes c (Cut at) passes whole h = h
sent_whole s file lanes c (Refused fault.ReadFault) passes whole h = absurd (false≢true whole)
sent_whole s file lanes c (Refused fault.BadMagic) passes whole h = h
sent_whole s file lanes c (Refused fault.BadVersion) passes whole h = h
sent_whole s file lanes c (Refused fault.BadLink) passes whole h = h
sent_whole s file lanes c (Refused (fault.BadStamp n)) passes whole h = h
sent_whole s file lanes c (Refused (fault.BadLength n)) passes whole h = h
sent_whole s file lanes c (Refused fault.TooLong) passes whole h = h

-- a text as a capture
pub capture_of : List ℕ → Capture
capture_of text = let all = some_by (header text) (2 ^ 40) text in record { records = all.0; note = all.1 }

records_of : (text : List ℕ) → Records text (2 ^ 40) (capture_of text).records (capture_of text).note
unfolding capture_of
records_of text = (some_by (header text) (2 ^ 40) text).2

captures_records : (texts : List (List ℕ)) → AreRecords texts (map (λ c. c.records) (map capture_of texts)) (map (λ c. c.note) (map capture_of texts))
captures_records [] = tt
captures_records (text ∷ texts) = (records_of text, captures_records texts)

-- the text of a source
text_at : {S : Type 0} (left : S → Option (List ℕ)) (texts : List (List ℕ)) (sources : List S) (f : ℕ) (t : List ℕ) (x : S) → AreTexts left texts sources
    → f < length sources
    → left (slice_index_or sources f x) ≡ Some (slice_index_or texts f t)
text_at left [] [] f t x are h = absurd (omega (arith, h))
text_at left [] (y ∷ ys) f t x are h = absurd are
text_at left (u ∷ us) [] f t x are h = absurd are
text_at left (u ∷ us) (y ∷ ys) zero t x are h = are.0
text_at left (u ∷ us) (y ∷ ys) (suc f) t x are h = text_at left us ys f t x are.1 (omega (arith, h))

text_count : {S : Type 0} (left : S → Option (List ℕ)) (texts : List (List ℕ)) (sources : List S) → AreTexts left texts sources → length texts ≡ length sources
text_count left [] [] are = refl
text_count left [] (y ∷ ys) are = absurd are
text_count left (u ∷ us) [] are = absurd are
text_count left (u ∷ us) (y ∷ ys) are = ap suc (text_count left us ys are.1)

-- each file that is whole was sent whole
all_sent : {S : Type 0} (name : S → List ℕ) (left : S → Option (List ℕ)) (faults : S → ℕ) (s : Setting) (lanes : List LaneId) (columns : List (List Sender))
    (sources : List S)
    (jobs : List (IntakeJob S)) (dones : List (IntakeDone S)) (texts : List (List ℕ)) (notes : List FileNote) (rows : List (Vec SendPass Global)) (f : ℕ)
    (c : Capture) (n : FileNote)
    → AreIntakes sources columns jobs → AreRead name left faults s lanes jobs dones → AreTexts left texts sources → AreNotes notes dones
    → rows ≡ map (λ d. d.passes) dones
    → All IsWhole notes → f < length sources
    → HasSentAll s f lanes (slice_index_or (map capture_of texts) f c) (slice_index_or notes f n) (slice_index_or (map (λ v. v.items) rows) f [])
unfolding capture_of
all_sent {S} name left faults s lanes columns sources jobs dones texts notes rows f c n are read are_texts a b whole h =
    let here : f < length jobs = let k = length-map jobs (λ (j : IntakeJob S). j.source) in let q = ap length are.file_sources in omega (arith, h, k, q) in
    let there : f < length dones = let k = read.count in omega (arith, here, k) in
    let j : IntakeJob S = some_item jobs f here in
    let d : IntakeDone S = some_item dones f there in
    let done : IntakeDone S = slice_index_or dones f d in
    let has = (read_at name left faults s lanes columns sources jobs dones f j d are read h).3 in
    let number = (read_at name left faults s lanes columns sources jobs dones f j d are read h).2 in
    let in_texts : f < length texts = let k = text_count left texts sources are_texts in omega (arith, h, k) in
    let in_notes : f < length notes =
    let k = length-map notes (λ (x : FileNote). Some x) in let m = ap length a in let q = length-map dones (λ (x : IntakeDone S). x.note) in
    omega (arith, there, k, m, q) in
    let text : List ℕ = slice_index_or texts f [] in
    let source : slice_index_or sources f j.source ≡ (slice_index_or jobs f j).source =
    at_map (λ (x : IntakeJob S). x.source) jobs sources f j j.source (sym are.file_sources) here in
    let left_is : left (slice_index_or jobs f j).source ≡ Some text = ap left (sym source) ∙ text_at left texts sources f [] j.source are_texts h in
    let told : HasTold s f lanes (capture_of text) done.note done.passes.items =
    subst (λ m. HasTold s m lanes (capture_of text) done.note done.passes.items) number
    (has.told text (capture_of text).records (capture_of text).note left_is (records_of text)) in
    let note : done.note ≡ Some (slice_index_or notes f n) =
    sym (at_map (λ (x : IntakeDone S). x.note) dones (map Some notes) f d (Some n) a there)
    ∙ at_map (λ (x : FileNote). Some x) notes (map Some notes) f n (Some n) refl in_notes in
    let here_told = subst (λ (o : Option FileNote). HasTold s f lanes (capture_of text) o done.passes.items) note told in
    let sent = sent_whole s f lanes (capture_of text) (slice_index_or notes f n) done.passes.items (whole f n in_notes) here_told in
    subst (λ (x : Capture). HasSentAll s f lanes x (slice_index_or notes f n) (slice_index_or (map (λ v. v.items) rows) f []))
    (sym (at_map capture_of texts (map capture_of texts) f [] c refl in_texts))
    (subst (HasSentAll s f lanes (capture_of text) (slice_index_or notes f n)) (sym (row_at dones rows f d b there)) sent)

rows-over_by : (s : Setting) (captures : List Capture) (b : Bool) → s.joined ≡ b
    → rows_of_files s.options 0 s.media
    (if b then joined_records (map (λ (c : Capture). c.records) captures) ∷ [] else map (λ (c : Capture). c.records) captures)
    ≡ rows_over b s.options s.media (map (λ (c : Capture). c.records) captures)
rows-over_by s captures true e = append-nil (rows_of s.options 0 s.media (joined_records (map (λ (c : Capture). c.records) captures)))
rows-over_by s captures false e = refl

-- the rows of the keys are those over the records
key_rows : (s : Setting) (captures : List Capture) → map (key_row s captures) (keys s (length captures))
    ≡ rows_over s.joined s.options s.media (map (λ (c : Capture). c.records) captures)
key_rows s captures = rows-keys s captures ∙ rows-over_by s captures s.joined refl

-- what came back of a run
pub run_is : {S : Type 0} (name : S → List ℕ) (left : S → Option (List ℕ)) (faults : S → ℕ) (s : Setting) (files : ℕ) (book : Book) (lanes : List LaneId)
    (columns : List (List Sender)) (sources : List S)
    (wjobs : List WorkJob) (wdones : List WorkDone) (takers : List Taker) (ijobs : List (IntakeJob S)) (idones : List (IntakeDone S))
    (passes : List (Vec SendPass Global)) (senders : List (List Sender))
    → AreMade files s.workers lanes wjobs columns → AreIntakes sources columns ijobs → length sources ≡ files → AreWorked s files book wjobs wdones
    → takers ≡ map (λ d. d.pass) wdones
    → AreRead name left faults s lanes ijobs idones → passes ≡ map (λ d. d.passes) idones
    → senders ≡ dealt_all (map (λ v. v.items) passes) (replicate s.workers [])
    → HasRun files s.workers lanes (map (λ v. v.items) passes) senders takers
run_is {S} name left faults s files book lanes columns sources wjobs wdones takers ijobs idones passes senders made intakes long worked a read b dealt_out =
    record {
      lane_count = made.lane_count;
      row_count = length-map passes (λ (v : Vec SendPass Global). v.items) ∙ row_count name left faults s lanes columns sources ijobs idones passes intakes read
          b
          ∙ long;
      taker_count = taker_count files s.workers s book lanes wjobs columns wdones takers made worked a;
      are_rows = rows_are name left faults s lanes columns sources ijobs idones passes intakes read b;
      are_takers = takers_are files s.workers s book lanes wjobs columns wdones takers made worked a;
      dealt_out = dealt_out;
    }

-- so many rows of passes
pub each_long : (lanes : List LaneId) (workers : ℕ) (passes : List (Vec SendPass Global)) → length lanes ≡ workers → AreRows lanes (map (λ v. v.items) passes)
    → All (λ (v : Vec SendPass Global). length v.items ≡ workers) passes
each_long lanes workers passes long are = λ k d h.
    let there : k < length (map (λ (v : Vec SendPass Global). v.items) passes) =
    let a = length-map passes (λ (v : Vec SendPass Global). v.items) in omega (arith, h, a) in
    ap (λ (l : List Sender). length l) (sym (at_map (λ (v : Vec SendPass Global). v.items) passes (map (λ v. v.items) passes) k d [] refl h))
    ∙ (are k there).1.count ∙ long

-- the files of a run are found, where each is whole
pub found : {S : Type 0} (name : S → List ℕ) (left : S → Option (List ℕ)) (faults : S → ℕ) (s : Setting) (files : ℕ) (book : Book) (lanes : List LaneId)
    (columns : List (List Sender)) (sources : List S)
    (wjobs : List WorkJob) (wdones : List WorkDone) (takers : List Taker) (posted : List (Option (Vec Receipt Global))) (ijobs : List (IntakeJob S))
    (idones : List (IntakeDone S)) (notes : List FileNote)
    (passes : List (Vec SendPass Global)) (senders : List (List Sender)) (rows : List Row) (texts : List (List ℕ))
    → IsSetting s → AreMade files s.workers lanes wjobs columns → AreIntakes sources columns ijobs → length sources ≡ files
    → AreWorked s files book wjobs wdones → takers ≡ map (λ d. d.pass) wdones
    → posted ≡ map (λ d. d.receipts) wdones → AreRead name left faults s lanes ijobs idones → AreNotes notes idones → passes ≡ map (λ d. d.passes) idones
    → senders ≡ dealt_all (map (λ v. v.items) passes) (replicate s.workers []) → AreClosed senders takers → All IsWhole notes
    → ((row_for : FlowKey → Row) → ArePosted book row_for (length s.media) s.workers (keys s files) posted → rows ≡ map row_for (keys s files))
    → AreTexts left texts sources → AreFound texts (rows_over s.joined s.options s.media) notes rows
found {S} name left faults s files book lanes columns sources wjobs wdones takers posted ijobs idones notes passes senders rows texts
    is made intakes long worked takers_is posted_is read notes_is passes_is dealt_out closed whole rows_are are_texts =
    let captures : List Capture = map capture_of texts in
    let same : length captures ≡ length sources = length-map texts capture_of ∙ text_count left texts sources are_texts in
    let count : files ≡ length captures = sym long ∙ sym same in
    let run : HasRun (length captures) s.workers lanes (map (λ v. v.items) passes) senders takers =
    subst (λ n. HasRun n s.workers lanes (map (λ v. v.items) passes) senders takers) count
    (run_is name left faults s files book lanes columns sources wjobs wdones takers ijobs idones passes senders made intakes long worked takers_is read
    passes_is dealt_out) in
    let sent = λ (f : ℕ) (c : Capture) (n : FileNote) (h : f < length sources).
    all_sent name left faults s lanes columns sources ijobs idones texts notes passes f c n intakes read are_texts notes_is passes_is whole h in
    let all : HaveSentAll s lanes captures (map (λ v. v.items) passes) = λ f c h. (sent f c End (omega (arith, h, same))).have_sent in
    let note_count : length notes ≡ length sources =
    sym (length-map notes (λ (n : FileNote). Some n)) ∙ ap length notes_is ∙ length-map idones (λ (d : IntakeDone S). d.note) ∙ read.count
    ∙ sym (length-map ijobs (λ (j : IntakeJob S). j.source)) ∙ ap length intakes.file_sources in
    let none : Capture = record { records = []; note = End } in
    let notes_of : notes ≡ map (λ (c : Capture). c.note) captures =
    same_at notes (map (λ c. c.note) captures) (note_count ∙ sym same ∙ sym (length-map captures (λ (c : Capture). c.note)))
    (λ n a h.
    let below : n < length sources = omega (arith, h, note_count) in
    (sent n none a below).note_is ∙ sym (at_map (λ (c : Capture). c.note) captures (map (λ c. c.note) captures) n none a refl (omega (arith, below, same)))) in
    let begins : (w : ℕ) (d : WorkDone) → w < length wdones → (g : ℕ) → IsPrefix (of g (slice_index_or wdones w d).pass.taken) (file_messages s captures g w) =
    λ w d there g.
    let below : w < s.workers =
    let a = worked.count in let b = work_count files s.workers lanes wjobs columns made in let k = made.lane_count in omega (arith, there, a, b, k) in
    subst (λ (t : Taker). IsPrefix (of g t.taken) (file_messages s captures g w)) (at_map (λ (x : WorkDone). x.pass) wdones takers w d d.pass takers_is there)
    (taken_begins s captures s.workers lanes (map (λ v. v.items) passes) senders takers w d.pass run below all closed g) in
    let made_of : AreMade (length captures) s.workers lanes wjobs columns = subst (λ n. AreMade n s.workers lanes wjobs columns) count made in
    let worked_of : AreWorked s (length captures) book wjobs wdones = subst (λ n. AreWorked s n book wjobs wdones) count worked in
    let is_posted : ArePosted book (key_row s captures) (length s.media) s.workers (keys s files) posted =
    subst (λ n. ArePosted book (key_row s captures) (length s.media) s.workers (keys s n) posted) (sym count)
    (rows_posted s captures book lanes columns wjobs wdones posted is made_of worked_of posted_is begins) in
    record {
      files = map (λ (c : Capture). c.records) captures;
      records = subst (AreRecords texts (map (λ (c : Capture). c.records) captures)) (sym notes_of) (captures_records texts);
      rows_are = rows_are (key_row s captures) is_posted ∙ ap (λ n. map (key_row s captures) (keys s n)) count ∙ key_rows s captures;
    }

-- the keys of the rows
pub keys-found : (s : Setting) (files : ℕ) (book : Book) (lanes : List LaneId) (columns : List (List Sender)) (wjobs : List WorkJob) (wdones : List WorkDone)
    (posted : List (Option (Vec Receipt Global))) (rows : List Row)
    → AreMade files s.workers lanes wjobs columns → AreWorked s files book wjobs wdones → posted ≡ map (λ d. d.receipts) wdones
    → ((row_for : FlowKey → Row) → ArePosted book row_for (length s.media) s.workers (keys s files) posted → rows ≡ map row_for (keys s files))
    → map (λ r. r.key) rows ≡ keys s files
keys-found s files book lanes columns wjobs wdones posted rows made worked e rows_are =
    let row_for : FlowKey → Row = λ key. taken_row s files (taken_by wdones (key_lane s key)) key in
    ap (λ (l : List Row). map (λ r. r.key) l) (rows_are row_for (some_posted s files book lanes columns wjobs wdones posted made worked e))
    ∙ map-same row_for (λ r. r.key) (keys s files) (λ key. refl)

-- a count of those that the workers left
pub posted_count : (s : Setting) (files : ℕ) (book : Book) (lanes : List LaneId) (columns : List (List Sender)) (wjobs : List WorkJob) (wdones : List WorkDone)
    (posted : List (Option (Vec Receipt Global)))
    → AreMade files s.workers lanes wjobs columns → AreWorked s files book wjobs wdones → posted ≡ map (λ d. d.receipts) wdones → length posted ≡ s.workers
posted_count s files book lanes columns wjobs wdones posted made worked e =
    ap length e ∙ length-map wdones (λ (d : WorkDone). d.receipts) ∙ worked.count ∙ work_count files s.workers lanes wjobs columns made ∙ made.lane_count

-- lanes that are the same
pub read_on : {S : Type 0} (name : S → List ℕ) (left : S → Option (List ℕ)) (faults : S → ℕ) (s : Setting) (lanes news : List LaneId)
    (jobs : List (IntakeJob S)) (dones : List (IntakeDone S))
    → news ≡ lanes → AreRead name left faults s news jobs dones → AreRead name left faults s lanes jobs dones
read_on name left faults s lanes news jobs dones e read = subst (λ (l : List LaneId). AreRead name left faults s l jobs dones) e read

-- what follows of three things that hold of a value
pub if_all : {T : Type 0} (o : Option T) (P Q R S : T → Type 0) → IfSome o P → IfSome o Q → IfSome o R → ((x : T) → P x → Q x → R x → S x) → IfSome o S
if_all None P Q R S a b c more = a
if_all (Some x) P Q R S a b c more = more x a b c

-- lanes of a run that are so many
pub made_on : (files workers : ℕ) (lanes news : List LaneId) (jobs : List WorkJob) (columns : List (List Sender)) → news ≡ lanes
    → AreMade files workers lanes jobs columns → AreMade files (length news) lanes jobs columns
made_on files workers lanes news jobs columns e made =
    subst (λ n. AreMade files n lanes jobs columns) (sym (ap length e ∙ made.lane_count)) made
