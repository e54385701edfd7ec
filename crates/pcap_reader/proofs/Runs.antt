-- A run of records that stand whole in bytes that are held.
use Rattle.std.proofs.Common.{subst, refl, ◌≡◌, ◌≤◌, ◌+◌, ◌-◌, ℕ, List, [], ◌∷◌, ◌++◌, length, take, drop, None, Some, sym, ap, ◌∙◌, arith, append_assoc}
use Rattle.std.proofs.Common.{length-append, length-drop}
use Rattle.std.proofs.lemmas.List.{drop-append-le, drop-drop, length-take, take_all, take-append-drop}
use Rattle.std.specs.Prelude.{map, IfOk, MatchResult, Option, Result, Ok, Err}
use Rattle.std.specs.Io.KnownBytes.{prepend_known}
use Rattle.std.proofs.KnownBytes.{Keeps-refl}
use Rattle.timing_base.specs.Captures.{Record, raised}
use Rattle.timing_base.specs.declared.capture.FileNote.{FileNote}
use Rattle.pcap_reader.specs.declared.layout.Layout.{Layout}
use Rattle.pcap_reader.specs.declared.run.Run.{Run}
use Rattle.pcap_reader.specs.declared.stage.Head.{Head}
use Rattle.pcap_reader.specs.declared.stage.Stage.TheVariants as stage
use Rattle.pcap_reader.specs.declared.window.Window.{Window}
use Rattle.pcap_reader.specs.Heads.{IsWhole}
use Rattle.pcap_reader.specs.Readers.{StageGives}
use Rattle.pcap_reader.specs.Windows.{held_bytes}
use Rattle.pcap_reader.specs.Records.{captured, note_at, record_of, RecordsFrom}
use Rattle.pcap_reader.specs.Runs.{BehindRun, TakesRun}
use Rattle.pcap_reader.specs.Taken.{HasBegun}
use Rattle.pcap_reader.proofs.Reading.{gives-at, make, none_some, record_is}
use Rattle.pcap_reader.proofs.TakenRecords.{stops-first, taken-gives}
use Rattle.pcap_reader.proofs.Texts.{ahead-let_go, bytes-read, captured-read, known_text, note_at-append, stamp-read}

-- the same records, from the same place, reckoned otherwise
pub from-same : (l : Layout) (most n m p q : ℕ) (t u : List ℕ) (items : List Record) (end : FileNote) → n ≡ m → p ≡ q → t ≡ u
    → RecordsFrom l most n p t items end → RecordsFrom l most m q u items end
from-same l most n m p q t u items end e f g r =
    subst (λ k. RecordsFrom l most k q u items end) e (subst (λ k. RecordsFrom l most n k u items end) f (subst (λ k. RecordsFrom l most n p k items end) g r))

-- nothing stands in the way of a record that is whole
free-append : (l : Layout) (most n place : ℕ) (h y : List ℕ) (head : Head) → IsWhole l h head → place + length h ≤ most
    → note_at l most n place (h ++ y) ≡ None
free-append l most n place h y head w m =
    note_at-append l most n place h y (omega (arith, w.within)) ∙ w.free most n place (length (h ++ y)) m (omega (arith, length-append h y))

-- the first of some records is the one that stands whole, and the others come behind it
abbrev pub Behind : Layout → (most n place : ℕ) → (h y : List ℕ) → Head → List Record → FileNote → Type 0
Behind l most n place h y head items end =
    (later : List Record) × (items ≡ record { number = n; stamp = head.at; bytes = take head.captured (drop 16 h) } ∷ later)
    × RecordsFrom l most (n + 1) (place + 16 + head.captured) (drop (16 + head.captured) (h ++ y)) later end

pub run-next : (l : Layout) (most n place : ℕ) (h y : List ℕ) (head : Head) (items : List Record) (end : FileNote) → IsWhole l h head
    → place + length h ≤ most → RecordsFrom l most n place (h ++ y) items end → Behind l most n place h y head items end
run-next l most n place h y head [] end w m r = absurd (none_some end (sym (free-append l most n place h y head w m) ∙ r))
run-next l most n place h y head (item ∷ items) end w m r =
    let long : 16 ≤ length h = omega (arith, w.within) in
    let same : captured l (h ++ y) ≡ head.captured = captured-read l (Some (h ++ y)) (Some y) h (h ++ y) refl refl long ∙ sym w.captured_is in
    let first : record_of l n (h ++ y) ≡ record { number = n; stamp = head.at; bytes = take head.captured (drop 16 h) } =
    record_is _ _ _ _ _ _ refl (stamp-read l (Some (h ++ y)) (Some y) h (h ++ y) refl refl long ∙ sym w.stamp_is)
    (ap (λ k. take k (drop 16 (h ++ y))) same ∙ bytes-read (Some (h ++ y)) (Some y) h (h ++ y) head.captured refl refl w.within) in (
      items,
      ap (λ i. i ∷ items) (r.1 ∙ first),
      subst (λ k. RecordsFrom l most (n + 1) (place + 16 + k) (drop (16 + k) (h ++ y)) items end) same r.2,
    )

-- the bytes behind a run
behind-append : (k : ℕ) (xs ys : List ℕ) → k ≤ length xs → drop k xs ++ ys ≡ drop k (xs ++ ys)
behind-append k xs ys h = sym (drop-append-le k xs ys h)

-- the record behind a run, in what is left of these bytes
pub whole-rest : (l : Layout) (k : ℕ) (xs : List ℕ) (head : Head) → IsWhole l (take (length xs - k) (drop k xs)) head → IsWhole l (drop k xs) head
whole-rest l k xs head w = subst (λ h. IsWhole l h head) (take_all (length xs - k) (drop k xs) (omega (arith, length-drop k xs))) w

-- the captured bytes of the record behind a run
pub same-frame : (k c : ℕ) (xs : List ℕ) → take ((k + 16 + c) - (k + 16)) (drop (k + 16) xs) ≡ take c (drop 16 (drop k xs))
same-frame k c xs =
    let size : (k + 16 + c) - (k + 16) ≡ c = omega arith in
    ap (λ n. take n (drop (k + 16) xs)) size ∙ ap (take c) (sym (drop-drop 16 k xs))

-- a run that is longer by a record
abbrev pub longer : Run → Head → Run
longer run head = record { records = run.records + 1; size = run.size + 16 + head.captured }

-- the record behind a run is the first of those that stand there, and this is it with its number raised
abbrev Next : Layout → (most number place : ℕ) → (text : List ℕ) → Run → Head → (before : ℕ) → (first : Record) → List Record → FileNote → Type 0
Next l most number place text run head before first items end =
    (item : Record) × (later : List Record) × (items ≡ item ∷ later) × (first ≡ raised before item)
    × BehindRun l most number place text (longer run head) later end

next-of : (l : Layout) (most number place : ℕ) (bytes behind : List ℕ) (run : Run) (head : Head) (frame : List ℕ) (before : ℕ)
    (items : List Record) (end : FileNote)
    → run.size ≤ length bytes → IsWhole l (drop run.size bytes) head → place + length bytes ≤ most
    → frame ≡ take head.captured (drop 16 (drop run.size bytes)) → BehindRun l most number place (bytes ++ behind) run items end
    → Next l most number place (bytes ++ behind) run head before (make (before + number + run.records) head.at frame) items end
next-of l most number place bytes behind run head frame before items end within whole room same given =
    let h = drop run.size bytes in
    let at = number + run.records in
    let here = place + run.size in
    let here_room : here + length h ≤ most = omega (arith, length-drop run.size bytes, within, room) in
    let joined = behind-append run.size bytes behind within in
    let next = run-next l most at here h behind head items end whole here_room (from-same l most at at here here _ _ items end refl refl (sym joined) given) in
    let skip : drop (16 + head.captured) (h ++ behind) ≡ drop (run.size + 16 + head.captured) (bytes ++ behind) =
    ap (drop (16 + head.captured)) joined ∙ drop-drop (16 + head.captured) run.size (bytes ++ behind)
    ∙ ap (λ n. drop n (bytes ++ behind)) (omega arith) in (
      make at head.at (take head.captured (drop 16 h)),
      next.0,
      next.1,
      record_is _ _ _ _ _ _ (omega arith) refl same,
      from-same l most _ _ _ _ _ _ next.0 end (omega arith) (omega arith) skip next.2,
    )

-- it was taken
pub begun-next : {T : Type 0} (takes : T → T → List Record → Type 0) (l : Layout) (most number place : ℕ) (bytes behind : List ℕ) (run : Run) (head : Head)
    (frame : List ℕ) (before : ℕ) (old new : T) (items : List Record) (end : FileNote)
    → run.size ≤ length bytes → IsWhole l (drop run.size bytes) head → place + length bytes ≤ most
    → frame ≡ take head.captured (drop 16 (drop run.size bytes)) → BehindRun l most number place (bytes ++ behind) run items end
    → takes old new (make (before + number + run.records) head.at frame ∷ [])
    → HasBegun (BehindRun l most number place (bytes ++ behind) (longer run head)) takes before old new 1 items end
begun-next takes l most number place bytes behind run head frame before old new items end within whole room same given taken =
    let next = next-of l most number place bytes behind run head frame before items end within whole room same given in
    record {
      taken = next.0 ∷ [];
      rest = next.1;
      whole = next.2;
      given = next.4;
      count_is = refl;
      fed = subst (λ (r : Record). takes old new (r ∷ [])) next.3 taken;
    }

-- it was the last
pub stops-next : {T E : Type 0} (stops : T → T → E → List Record → Type 0) (l : Layout) (most number place : ℕ) (bytes behind : List ℕ) (run : Run)
    (head : Head) (frame : List ℕ) (before : ℕ) (old new : T) (stop : E) (items : List Record) (end : FileNote)
    → run.size ≤ length bytes → IsWhole l (drop run.size bytes) head → place + length bytes ≤ most
    → frame ≡ take head.captured (drop 16 (drop run.size bytes)) → BehindRun l most number place (bytes ++ behind) run items end
    → ((b : List Record) → stops old new stop (make (before + number + run.records) head.at frame ∷ [])
    → stops old new stop ((make (before + number + run.records) head.at frame ∷ []) ++ b))
    → stops old new stop (make (before + number + run.records) head.at frame ∷ [])
    → stops old new stop (map (raised before) items)
stops-next stops l most number place bytes behind run head frame before old new stop items end within whole room same given halts stopped =
    let next = next-of l most number place bytes behind run head frame before items end within whole room same given in
    stops-first stops before old new stop _ next.0 next.1 items next.2 next.3 halts stopped

-- what a reader that stands at a record has to give, in terms of the bytes that are within the greatest length of a capture
abbrev Within : Layout → Window → (left : Option (List ℕ)) → (bytes : List ℕ) → List Record → FileNote → Type 0
Within l w left bytes items end =
    (behind : List ℕ) × (text : List ℕ) × (prepend_known (held_bytes w) left ≡ Some text) × (text ≡ bytes ++ behind)
    × (w.place + length bytes ≤ w.most) × RecordsFrom l w.most (w.count + 1) w.place (bytes ++ behind) items end

within-of : (l : Layout) (w : Window) (left : Option (List ℕ)) (bytes : List ℕ) (items : List Record) (end : FileNote)
    → w.stage ≡ stage.Records l → bytes ≡ take (w.most - w.place) (held_bytes w)
    → StageGives w.stage w (prepend_known (held_bytes w) left) items end → Within l w left bytes items end
within-of l w left bytes items end at cut given =
    let known = prepend_known (held_bytes w) left in
    let held = held_bytes w in
    let room = w.most - w.place in
    let here = gives-at w.stage (stage.Records l) w known items end at given in
    let more = known_text known left held here.0 (Keeps-refl known) here.1 in
    let behind : List ℕ = drop room held ++ more.0 in
    let parts : here.0 ≡ bytes ++ behind =
    more.2 ∙ ap (λ l. l ++ more.0) (sym (take-append-drop room held)) ∙ append_assoc (take room held) (drop room held) more.0
    ∙ ap (λ b. b ++ behind) (sym cut) in
    let long : length bytes ≤ room = subst (λ b. length b ≤ room) (sym cut) (omega (arith, length-take room held)) in (
      behind,
      here.0,
      here.1,
      parts,
      omega (arith, long, w.inside),
      from-same l w.most _ _ _ _ _ _ items end refl refl parts here.2,
    )

-- what a reader has begun to give, where a run was let go
pub held-begun : {T : Type 0} (takes : T → T → List Record → Type 0) (l : Layout) (w new : Window) (left : Option (List ℕ)) (bytes : List ℕ) (run : Run)
    (before count : ℕ) (old now : T) (items : List Record) (end : FileNote)
    → w.stage ≡ stage.Records l → bytes ≡ take (w.most - w.place) (held_bytes w) → run.size ≤ length (held_bytes w)
    → held_bytes new ≡ drop run.size (held_bytes w) → new.place ≡ w.place + run.size → new.count ≡ w.count + run.records → new.most ≡ w.most
    → new.stage ≡ w.stage → run.records ≡ count
    → ((most place : ℕ) (behind : List ℕ) (items : List Record) (end : FileNote) → place + length bytes ≤ most
    → RecordsFrom l most (w.count + 1) place (bytes ++ behind) items end
    → HasBegun (BehindRun l most (w.count + 1) place (bytes ++ behind) run) takes before old now run.records items end)
    → StageGives w.stage w (prepend_known (held_bytes w) left) items end
    → HasBegun (λ rest note. StageGives new.stage new (prepend_known (held_bytes new) left) rest note) takes before old now count items end
held-begun takes l w new left bytes run before count old now items end at cut size held place counted most kept many told given =
    let a = within-of l w left bytes items end at cut given in
    let known = prepend_known (held_bytes w) left in
    let text = a.1 in
    let rest_known = ahead-let_go known left (held_bytes w) (held_bytes new) text run.size (Keeps-refl known) a.2 size held in
    let begun = told w.most w.place a.0 items end a.4 a.5 in
    subst (λ n. HasBegun (λ rest note. StageGives new.stage new (prepend_known (held_bytes new) left) rest note) takes before old now n items end) many
    (taken-gives (BehindRun l w.most (w.count + 1) w.place (bytes ++ a.0) run) _ takes before old now run.records items end
    (λ rest behind.
    let moved = from-same l w.most (w.count + 1 + run.records) (new.count + 1) (w.place + run.size) new.place
    (drop run.size (bytes ++ a.0)) (drop run.size text)
    rest end (omega (arith, counted)) (sym place) (ap (drop run.size) (sym a.3)) behind in
    let from = subst (λ m. RecordsFrom l m (new.count + 1) new.place (drop run.size text) rest end) (sym most) moved in
    gives-at (stage.Records l) new.stage new (prepend_known (held_bytes new) left) rest end (sym (kept ∙ at)) (drop run.size text, rest_known, from))
    begun)

-- and where it was stopped at one of them
pub held-stops : {T E : Type 0} (stops : T → T → E → List Record → Type 0) (l : Layout) (w : Window) (left : Option (List ℕ)) (bytes : List ℕ)
    (before : ℕ) (old now : T) (stop : E) (items : List Record) (end : FileNote)
    → w.stage ≡ stage.Records l → bytes ≡ take (w.most - w.place) (held_bytes w)
    → ((most place : ℕ) (behind : List ℕ) (items : List Record) (end : FileNote) → place + length bytes ≤ most
    → RecordsFrom l most (w.count + 1) place (bytes ++ behind) items end → stops old now stop (map (raised before) items))
    → StageGives w.stage w (prepend_known (held_bytes w) left) items end → stops old now stop (map (raised before) items)
held-stops stops l w left bytes before old now stop items end at cut told given =
    let a = within-of l w left bytes items end at cut given in
    told w.most w.place a.0 items end a.4 a.5

within-more : {E : Type 0} (result : Result Run E) (few many : ℕ) → few ≤ many → IfOk result (λ run. run.size ≤ few) → IfOk result (λ run. run.size ≤ many)
within-more (Ok run) few many less within = omega (arith, less, within)
within-more (Err e) few many less within = tt

-- what takes records from the front of some bytes takes them from all of these
pub run-of-front : {T E : Type 0} (takes : T → T → List Record → Type 0) (stops : T → T → E → List Record → Type 0) (has_room : ℕ → ℕ → T → Type 0)
    (layout : Layout) (bytes : List ℕ) (k before number : ℕ) (old new : T) (result : Result Run E)
    → TakesRun takes stops has_room layout (take k bytes) before number old new result
    → TakesRun takes stops has_room layout bytes before number old new result
run-of-front takes stops has_room layout bytes k before number old new result t =
    let short : length (take k bytes) ≤ length bytes = omega (arith, length-take k bytes) in
    record {
      told = λ most place behind items end m from.
          let e : take k bytes ++ (drop k bytes ++ behind) ≡ bytes ++ behind =
          sym (append_assoc (take k bytes) (drop k bytes) behind) ∙ ap (λ l. l ++ behind) (take-append-drop k bytes) in
          subst (λ l. MatchResult result
          (λ run. HasBegun (BehindRun layout most number place l run) takes before old new run.records items end)
          (λ stop. stops old new stop (map (raised before) items))) e
          (t.told most place (drop k bytes ++ behind) items end (omega (arith, m, short))
          (subst (λ l. RecordsFrom layout most number place l items end) (sym e) from));
      fed = t.fed;
      stopped = t.stopped;
      within = within-more result _ _ short t.within;
      few = t.few;
      room = t.room;
    }
