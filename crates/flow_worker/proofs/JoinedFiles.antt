-- What one message more makes of files that are joined, and what the end of the next file does.
use Rattle.std.proofs.Common.{◌≡◌, ◌≤◌, ◌<◌, ◌+◌, ◌*◌, ◌^◌, ℕ, zero, suc, Bool, true, false, if◌then◌else◌, leb, leb-false, leb-true, min, ◌||◌, List, [], ◌∷◌}
use Rattle.std.proofs.Common.{◌++◌, length, map, get_or, set, Some, None, refl, sym, ap, ap₂, ◌∙◌, subst, inl, inr, append_assoc, append-nil, length-set, arith}
use Rattle.std.specs.Prelude.{◌⊎◌, Option, Result, Ok, Err, IfOk, is_some}
use Rattle.std.proofs.lemmas.Bool.{and_from, and_parts, both_ways, cases_eq, false≢true}
use Rattle.std.proofs.lemmas.List.{map-append}
use Rattle.std.proofs.lemmas.List.Concat.{flat_map-append}
use Rattle.std.proofs.lemmas.List.Elements.{filter_map-append}
use Rattle.std.proofs.lemmas.List.Sums.{sum_by-append, sum_by-cons}
use Rattle.timing_base.specs.Keys.{key_of, keys_of_file, keys_of_files}
use Rattle.timing_base.specs.declared.capture.FileNote.{FileNote}
use Rattle.timing_base.specs.declared.key.FlowKey.{FlowKey}
use Rattle.timing_base.specs.declared.packet.FlowPacket.{FlowPacket}
use Rattle.timing_base.specs.declared.row.Row.{Row}
use Rattle.ruled_intake.specs.Lanes.{IsWithin, count_of, packets}
use Rattle.ruled_intake.specs.Messages.{Batch, FileEnd}
use Rattle.ruled_intake.specs.Packets.{Packet}
use Rattle.ruled_intake.specs.declared.message.Message.{Message}
use Rattle.flow_worker.specs.Judging.{AreFed, EachFrom, Feeds, HaveRoom, batched, with_packets}
use Rattle.flow_worker.specs.Messages.{batch, ending, file_packets, has_end, media_packet, media_packets, records_told}
use Rattle.flow_worker.specs.Opening.{Setting}
use Rattle.flow_worker.specs.Posting.{has_ends, joined_packets, own_keys, raised_packet, taken_packets, taken_row, told_by}
use Rattle.flow_worker.specs.Standing.{HasEnded, IsFew, IsFirstEnd, IsWaiting, JoinedIsAt, JoinedStandsFor, of_first}
use Rattle.flow_worker.specs.declared.joined_files.Joined.{Joined}
use Rattle.flow_worker.specs.declared.joined_files.Waiting.{Waiting}
use Rattle.flow_worker.proofs.ApartFiles.{has_end-batch, has_end-here, has_end-other}
use Rattle.flow_worker.proofs.Each.{each-at, each-set, each-weaker}
use Rattle.flow_worker.proofs.Fed.{fed-same}
use Rattle.flow_worker.proofs.Few.{files_total, joined_packets-few, room-from, total-few, total-more}
use Rattle.flow_worker.proofs.Posted.{own_rows}
use Rattle.flow_worker.proofs.Rows.{has_ends-at}
use Rattle.flow_worker.proofs.Taking.{file_packets-batch, file_packets-ended, file_packets-ending, file_packets-other, has_end-append, joined_packets-ended}
use Rattle.flow_worker.proofs.Taking.{joined_packets-more, records_told-ended, records_told-ending, told_by-ended, told_by-more}

-- once its end was taken, a file has ended
has_end-ended : (f : ℕ) (taken more : List Message) → has_end f taken ≡ true → has_end f (taken ++ more) ≡ has_end f taken
has_end-ended f taken more e = has_end-append f taken more ∙ ap (λ (b : Bool). b || has_end f more) e ∙ sym e

-- and so have all, once they have
has_ends-more : (n : ℕ) (taken more : List Message) → has_ends n taken ≡ true → has_ends n (taken ++ more) ≡ true
has_ends-more zero taken more e = refl
has_ends-more (suc n) taken more e =
    let t = and_parts (has_ends n taken) (has_end n taken) e in
    and_from (has_ends n (taken ++ more)) (has_end n (taken ++ more)) (has_ends-more n taken more t.0) (has_end-ended n taken more t.1 ∙ t.1)

min_next : (n files : ℕ) → n < files → min (n + 1) files ≡ n + 1
min_next n files h = omega (arith, h)

min_last : (n files : ℕ) → files ≤ n + 1 → min (n + 1) files ≡ files
min_last n files h = omega (arith, h)

first_end-kept : (taken more : List Message) (f : ℕ) (end : Option FileEnd) → has_end f (taken ++ more) ≡ has_end f taken → IsFirstEnd taken f end
    → IsFirstEnd (taken ++ more) f end
first_end-kept taken more f None same h = same ∙ h
first_end-kept taken more f (Some end) same h = (same ∙ h.0, h.1 ∙ sym (records_told-ended f taken more h.0))

waiting-kept : (next : ℕ) (taken more : List Message) (f : ℕ) (w : Waiting) → has_end f (taken ++ more) ≡ has_end f taken
    → (next < f → file_packets f (taken ++ more) ≡ file_packets f taken)
    → IsWaiting next taken f w → IsWaiting next (taken ++ more) f w
waiting-kept next taken more f w end packets h = record {
  end = first_end-kept taken more f w.end end h.end;
  waits = λ later. h.waits later ∙ sym (packets later);
}

-- what came of the file at a place
pub waiting-at : (s : Setting) (files worker : ℕ) (taken : List Message) (joined : Joined) (g : ℕ) (d : Waiting) → g < length joined.files.items
    → JoinedIsAt s files worker taken joined → IsWaiting joined.next taken g (get_or joined.files.items g d)
waiting-at s files worker taken joined g d within h =
    let z : 0 + g ≡ g = omega arith in
    subst (λ (f : ℕ). IsWaiting joined.next taken f (get_or joined.files.items g d)) z
    (each-at (IsWaiting joined.next taken) 0 joined.files.items g d within h.each)

-- the first end of the next file, by what is seen of it
pub next-end : (s : Setting) (files worker : ℕ) (taken : List Message) (joined : Joined) (seen : Waiting) → joined.next < length joined.files.items
    → seen ≡ get_or joined.files.items joined.next seen → JoinedIsAt s files worker taken joined → IsFirstEnd taken joined.next seen.end
next-end s files worker taken joined seen within same h =
    subst (λ (w : Waiting). IsFirstEnd taken joined.next w.end) (sym same) (waiting-at s files worker taken joined joined.next seen within h).end

-- a file without an end
pub no_end : (taken : List Message) (f : ℕ) (end : Option FileEnd) → end ≡ None → IsFirstEnd taken f end → has_end f taken ≡ false
no_end taken f end e h = subst (IsFirstEnd taken f) e h

-- and one with
pub one_end : (taken : List Message) (f : ℕ) (end : Option FileEnd) (it : FileEnd) → end ≡ Some it → IsFirstEnd taken f end → (has_end f taken ≡ true)
    × (it.records ≡ records_told f taken)
one_end taken f end it e h = subst (IsFirstEnd taken f) e h

-- so told by a test
pub tested_end : (taken : List Message) (f : ℕ) (end : Option FileEnd) → is_some end ≡ true → IsFirstEnd taken f end → has_end f taken ≡ true
tested_end taken f None e h = absurd (false≢true e)
tested_end taken f (Some it) e h = h.0

pub tested_none : (end : Option FileEnd) → is_some end ≡ false → end ≡ None
tested_none None e = refl
tested_none (Some it) e = absurd (false≢true (sym e))

-- the files that are fed have the same packets, if the next one has
first-kept : (n files : ℕ) (taken more : List Message) (key : FlowKey) → has_ends n taken ≡ true → n ≤ files
    → (n < files → file_packets n (taken ++ more) ≡ file_packets n taken)
    → of_first (min (n + 1) files) taken key ≡ of_first (min (n + 1) files) (taken ++ more) key
first-kept n files taken more key done few same =
    elim (cases_eq n files) [
      | inl all ↦
          let m : min (n + 1) files ≡ n = min_last n files (omega (arith, all)) ∙ sym all in
          ap (λ (x : ℕ). of_first x taken key) m ∙ sym (joined_packets-ended key.media n taken more done) ∙ ap (λ (x : ℕ). of_first x (taken ++ more) key)
          (sym m)
      | inr some ↦
          let below : n < files = omega (arith, few, some) in
          let m : min (n + 1) files ≡ n + 1 = min_next n files below in
          let z : 0 + n ≡ n = omega arith in
          let packets : file_packets (0 + n) taken ≡ file_packets (0 + n) (taken ++ more) =
          ap (λ (x : ℕ). file_packets x taken) z ∙ sym (same below) ∙ ap (λ (x : ℕ). file_packets x (taken ++ more)) (sym z) in
          let told : told_by 0 n taken ≡ told_by 0 n (taken ++ more) = sym (told_by-ended n taken more done) in
          ap (λ (x : ℕ). of_first x taken key) m ∙ joined_packets-more key.media 0 0 n taken
          ∙ ap₂ (λ (k l : List FlowPacket). k ++ l) (sym (joined_packets-ended key.media n taken more done))
          (ap₂ (λ (x : ℕ) (ps : List Packet). map (raised_packet (0 + x)) (media_packets key.media ps)) told packets)
          ∙ sym (joined_packets-more key.media 0 0 n (taken ++ more)) ∙ ap (λ (x : ℕ). of_first x (taken ++ more) key) (sym m)
    ]

-- packets of the next file come behind
first-more : (n before : ℕ) (taken : List Message) (ps : List Packet) (key : FlowKey) → before ≡ told_by 0 n taken → ps ≡ file_packets n taken
    → with_packets before ps (of_first n taken) key ≡ of_first (n + 1) taken key
first-more n before taken ps key told packets =
    let z : 0 + n ≡ n = omega arith in
    let b : before ≡ 0 + told_by 0 n taken = omega (arith, told) in
    ap₂ (λ (x : ℕ) (l : List Packet). of_first n taken key ++ map (raised_packet x) (media_packets key.media l)) b
    (packets ∙ ap (λ (x : ℕ). file_packets x taken) (sym z))
    ∙ sym (joined_packets-more key.media 0 0 n taken)

-- a batch of the next file comes behind
first-batch : (n before : ℕ) (taken : List Message) (ps : List Packet) (key : FlowKey) → before ≡ told_by 0 n taken → has_ends n taken ≡ true → has_end n taken
    ≡ false
    → with_packets before ps (of_first (n + 1) taken) key ≡ of_first (n + 1) (taken ++ batch n ps ∷ []) key
first-batch n before taken ps key told done going =
    let m = batch n ps ∷ [] in
    let z : 0 + n ≡ n = omega arith in
    let b : before ≡ 0 + told_by 0 n taken = omega (arith, told) in
    let raise : List Packet → List FlowPacket = λ l. map (raised_packet before) (media_packets key.media l) in
    let was : of_first (n + 1) taken key ≡ of_first n taken key ++ raise (file_packets n taken) =
    joined_packets-more key.media 0 0 n taken
    ∙ ap₂ (λ (x : ℕ) (l : List Packet). of_first n taken key ++ map (raised_packet x) (media_packets key.media l)) (sym b)
    (ap (λ (x : ℕ). file_packets x taken) z) in
    let both : raise (file_packets n taken) ++ raise ps ≡ raise (file_packets n (taken ++ m)) =
    sym (map-append (raised_packet before) (media_packets key.media (file_packets n taken)) (media_packets key.media ps))
    ∙ ap (map (raised_packet before)) (sym (filter_map-append (media_packet key.media) (file_packets n taken) ps)) ∙ ap raise
    (sym (file_packets-batch n taken ps going)) in
    ap (λ (l : List FlowPacket). l ++ raise ps) was ∙ append_assoc (of_first n taken key) (raise (file_packets n taken)) (raise ps)
    ∙ ap (λ (l : List FlowPacket). of_first n taken key ++ l) both
    ∙ ap (λ (l : List FlowPacket). l ++ raise (file_packets n (taken ++ m))) (sym (joined_packets-ended key.media n taken m done))
    ∙ first-more n before (taken ++ m) (file_packets n (taken ++ m)) key (told ∙ sym (told_by-ended n taken m done)) refl

-- a message changes nothing but what is said
joined-step : (s : Setting) (files worker : ℕ) (taken : List Message) (m : Message) (old new : Joined) → new.next ≡ old.next → new.before ≡ old.before
    → length new.files.items ≡ length old.files.items → EachFrom (IsWaiting old.next (taken ++ m ∷ [])) 0 new.files.items
    → AreFed s worker 0 (of_first (min (old.next + 1) files) (taken ++ m ∷ [])) new.judges → JoinedIsAt s files worker taken old
    → JoinedIsAt s files worker (taken ++ m ∷ []) new
joined-step s files worker taken m old new next before count each fed h = record {
  one = h.one;
  few = h.few;
  count = count ∙ h.count;
  next = subst (λ (n : ℕ). n ≤ files) (sym next) h.next;
  done = ap (λ (n : ℕ). has_ends n (taken ++ m ∷ [])) next ∙ has_ends-more old.next taken (m ∷ []) h.done;
  before = before ∙ h.before ∙ sym (told_by-ended old.next taken (m ∷ []) h.done) ∙ ap (λ (n : ℕ). told_by 0 n (taken ++ m ∷ [])) (sym next);
  below = subst (λ (n : ℕ). new.before ≤ n * 2 ^ 37) (sym next) (subst (λ (n : ℕ). n ≤ old.next * 2 ^ 37) (sym before) h.below);
  each = subst (λ (n : ℕ). EachFrom (IsWaiting n (taken ++ m ∷ [])) 0 new.files.items) (sym next) each;
  fed = subst (λ (n : ℕ). AreFed s worker 0 (of_first (min (n + 1) files) (taken ++ m ∷ [])) new.judges) (sym next) fed;
}

fed-kept : (s : Setting) (files worker : ℕ) (taken : List Message) (m : Message) (joined : Joined)
    → (joined.next < files → file_packets joined.next (taken ++ m ∷ []) ≡ file_packets joined.next taken)
    → JoinedIsAt s files worker taken joined → AreFed s worker 0 (of_first (min (joined.next + 1) files) (taken ++ m ∷ [])) joined.judges
fed-kept s files worker taken m joined same h =
    fed-same s worker 0 (of_first (min (joined.next + 1) files) taken) (of_first (min (joined.next + 1) files) (taken ++ m ∷ [])) joined.judges
    (λ n. first-kept joined.next files taken (m ∷ []) (key_of 0 n) h.done h.next same) h.fed

-- a message that changes nothing for any file
joined-same : (s : Setting) (files worker : ℕ) (taken : List Message) (m : Message) (joined : Joined)
    → ((f : ℕ) → f < files → (has_end f (taken ++ m ∷ []) ≡ has_end f taken) × (file_packets f (taken ++ m ∷ []) ≡ file_packets f taken))
    → JoinedStandsFor s files worker taken joined → JoinedStandsFor s files worker (taken ++ m ∷ []) joined
joined-same s files worker taken m joined same h = record {
  at = joined-step s files worker taken m joined joined refl refl refl
      (each-weaker (IsWaiting joined.next taken) (IsWaiting joined.next (taken ++ m ∷ [])) 0 joined.files.items
      (λ f w low high is. let t = same f (omega (arith, high, h.at.count)) in waiting-kept joined.next taken (m ∷ []) f w t.0 (λ later. t.1) is) h.at.each)
      (fed-kept s files worker taken m joined (λ below. (same joined.next below).1) h.at) h.at;
  going = λ below. (same joined.next below).0 ∙ h.going below;
}

-- a batch of a file that isn't there, or has ended
pub joined-passed : (s : Setting) (files worker : ℕ) (taken : List Message) (g : ℕ) (ps : List Packet) (joined : Joined) → (files ≤ g)
    ⊎ (has_end g taken ≡ true)
    → JoinedStandsFor s files worker taken joined → JoinedStandsFor s files worker (taken ++ batch g ps ∷ []) joined
joined-passed s files worker taken g ps joined why h =
    joined-same s files worker taken (batch g ps) joined
    (λ f below. (
      has_end-batch f g ps taken,
      elim why [
        | inl beyond ↦ file_packets-other f g ps taken (λ e. absurd (omega (arith, beyond, below, e)))
        | inr ended ↦
            elim (cases_eq g f) [
              | inl same ↦ file_packets-ended f taken (batch g ps ∷ []) (ap (λ (x : ℕ). has_end x taken) (sym same) ∙ ended)
              | inr other ↦ file_packets-other f g ps taken other
            ]
      ],
    )) h

-- an end of such a file
pub joined-passed_end : (s : Setting) (files worker : ℕ) (taken : List Message) (g : ℕ) (o : FileNote) (k : ℕ) (joined : Joined) → (files ≤ g)
    ⊎ (has_end g taken ≡ true)
    → JoinedStandsFor s files worker taken joined → JoinedStandsFor s files worker (taken ++ ending g o k ∷ []) joined
joined-passed_end s files worker taken g o k joined why h =
    joined-same s files worker taken (ending g o k) joined
    (λ f below. (
      elim why [
        | inl beyond ↦ has_end-other f g o k taken (λ e. absurd (omega (arith, beyond, below, e)))
        | inr ended ↦
            elim (cases_eq g f) [
              | inl same ↦ has_end-ended f taken (ending g o k ∷ []) (ap (λ (x : ℕ). has_end x taken) (sym same) ∙ ended)
              | inr other ↦ has_end-other f g o k taken other
            ]
      ],
      file_packets-ending f g o k taken,
    )) h

-- a batch of the next file is fed
pub joined-fed : (s : Setting) (files worker : ℕ) (taken : List Message) (g : ℕ) (ps : List Packet) (old new : Joined) → g ≡ old.next → g
    < length old.files.items
    → new.next ≡ old.next → new.before ≡ old.before → new.files.items ≡ old.files.items → Feeds old.before ps old.judges new.judges
    → JoinedStandsFor s files worker taken old → JoinedStandsFor s files worker (taken ++ batch g ps ∷ []) new
joined-fed s files worker taken g ps old new here within next before same feeds h =
    let n = old.next in
    let below : n < files = omega (arith, here, within, h.at.count) in
    let m : min (n + 1) files ≡ n + 1 = min_next n files below in
    let fed : AreFed s worker 0 (of_first (min (n + 1) files) (taken ++ batch n ps ∷ [])) new.judges =
    fed-same s worker 0 (with_packets old.before ps (of_first (min (n + 1) files) taken)) (of_first (min (n + 1) files) (taken ++ batch n ps ∷ [])) new.judges
    (λ k. ap (λ (x : ℕ). with_packets old.before ps (of_first x taken) (key_of 0 k)) m ∙ first-batch n old.before taken ps (key_of 0 k) h.at.before h.at.done
    (h.going below)
    ∙ ap (λ (x : ℕ). of_first x (taken ++ batch n ps ∷ []) (key_of 0 k)) (sym m)) (feeds s worker 0 (of_first (min (n + 1) files) taken) h.at.fed) in
    let each : EachFrom (IsWaiting n (taken ++ batch n ps ∷ [])) 0 new.files.items =
    subst (EachFrom (IsWaiting n (taken ++ batch n ps ∷ [])) 0) (sym same)
    (each-weaker (IsWaiting n taken) (IsWaiting n (taken ++ batch n ps ∷ [])) 0 old.files.items
    (λ f w low high is. waiting-kept n taken (batch n ps ∷ []) f w (has_end-batch f n ps taken)
    (λ later. file_packets-other f n ps taken (λ e. absurd (omega (arith, later, e)))) is) h.at.each) in
    subst (λ (x : ℕ). JoinedStandsFor s files worker (taken ++ batch x ps ∷ []) new) (sym here) record {
      at = joined-step s files worker taken (batch n ps) old new next before (ap length same) each fed h.at;
      going = λ more. ap (λ (x : ℕ). has_end x (taken ++ batch n ps ∷ [])) next ∙ has_end-batch n n ps taken ∙ h.going below;
    }

-- where its judges take it
pub joined-fed_if : {X E : Type 0} (r : Result X E) (g : ℕ) (ps : List Packet) (old new : Joined) → g ≡ old.next → g < length old.files.items
    → new.next ≡ old.next → new.before ≡ old.before → new.files.items ≡ old.files.items → IfOk r (λ _. Feeds old.before ps old.judges new.judges)
    → IfOk r (λ _. (s : Setting) (files worker : ℕ) (taken : List Message) → JoinedStandsFor s files worker taken old
    → JoinedStandsFor s files worker (taken ++ batch g ps ∷ []) new)
joined-fed_if (Ok x) g ps old new here within next before same feeds = λ s files worker taken h. joined-fed s files worker taken g ps old new here within next
    before same feeds h
joined-fed_if (Err e) g ps old new here within next before same feeds = tt

-- there is room for it
pub joined-room : (s : Setting) (files worker : ℕ) (taken : List Message) (g : ℕ) (ps : List Packet) (joined : Joined) → g ≡ joined.next → g
    < length joined.files.items
    → IsFew taken (batch g ps) → JoinedStandsFor s files worker taken joined → HaveRoom (length ps) joined.judges
joined-room s files worker taken g ps joined here within few h =
    let n = joined.next in
    let below : n < files = omega (arith, here, within, h.at.count) in
    let all : packets (taken ++ batch g ps ∷ []) ≡ packets taken + packets (batch g ps ∷ []) = sum_by-append count_of taken (batch g ps ∷ []) in
    let one : packets (batch g ps ∷ []) ≡ length ps + packets [] = sum_by-cons count_of (batch g ps) [] in
    let none : packets [] ≡ 0 = refl in
    let total = total-few 0 (min (n + 1) files) taken in
    room-from s worker 0 (of_first (min (n + 1) files) taken) joined.judges (length ps) h.at.fed
    (λ k. let some = joined_packets-few k 0 0 (min (n + 1) files) taken in omega (arith, all, one, none, total, some, few.few_packets))

-- a batch of another file waits
pub joined-held : (s : Setting) (files worker : ℕ) (taken : List Message) (g : ℕ) (ps : List Packet) (it : Batch) (old new : Joined) (d w : Waiting)
    → (g ≡ old.next → ⊥) → g < length old.files.items
    → it.packets ≡ ps → (get_or old.files.items g d).end ≡ None → w.end ≡ (get_or old.files.items g d).end → w.batches.items
    ≡ (get_or old.files.items g d).batches.items ++ it ∷ []
    → new.next ≡ old.next → new.before ≡ old.before → new.judges ≡ old.judges → new.files.items ≡ set old.files.items g w
    → JoinedStandsFor s files worker taken old → JoinedStandsFor s files worker (taken ++ batch g ps ∷ []) new
joined-held s files worker taken g ps it old new d w other within packets none end pushed next before judges written h =
    let n = old.next in
    let more = batch g ps ∷ [] in
    let was = waiting-at s files worker taken old g d within h.at in
    let going = no_end taken g (get_or old.files.items g d).end none was.end in
    let z : 0 + g ≡ g = omega arith in
    let is : IsWaiting n (taken ++ more) g w = record {
      end = subst (IsFirstEnd (taken ++ more) g) (sym (end ∙ none)) (has_end-batch g g ps taken ∙ going);
      waits = λ later. ap batched pushed ∙ flat_map-append (λ (b : Batch). b.packets) (get_or old.files.items g d).batches.items (it ∷ [])
          ∙ ap₂ (λ (k l : List Packet). k ++ l) (was.waits later) (append-nil it.packets ∙ packets) ∙ sym (file_packets-batch g taken ps going);
    } in
    let each : EachFrom (IsWaiting n (taken ++ more)) 0 new.files.items =
    subst (EachFrom (IsWaiting n (taken ++ more)) 0) (sym written)
    (each-set (IsWaiting n taken) (IsWaiting n (taken ++ more)) 0 old.files.items g w
    (λ f x unlike high at. waiting-kept n taken more f x (has_end-batch f g ps taken) (λ later. file_packets-other f g ps taken (λ e. unlike (sym e ∙ sym z)))
    at)
    (subst (λ (f : ℕ). IsWaiting n (taken ++ more) f w) (sym z) is) h.at.each) in
    record {
      at = joined-step s files worker taken (batch g ps) old new next before (ap length written ∙ length-set old.files.items g w) each
          (subst (AreFed s worker 0 (of_first (min (n + 1) files) (taken ++ more))) (sym judges)
          (fed-kept s files worker taken (batch g ps) old (λ below. file_packets-other n g ps taken other) h.at)) h.at;
      going = λ below. ap (λ (x : ℕ). has_end x (taken ++ more)) next ∙ has_end-batch n g ps taken ∙ h.going (subst (λ (x : ℕ). x < files) next below);
    }

-- the first end of a file is noted
pub joined-ended : (s : Setting) (files worker : ℕ) (taken : List Message) (g : ℕ) (o : FileNote) (k : ℕ) (it : FileEnd) (old new : Joined) (d w : Waiting) → g
    < length old.files.items
    → it.records ≡ k → (get_or old.files.items g d).end ≡ None → w.end ≡ Some it → w.batches.items ≡ (get_or old.files.items g d).batches.items
    → new.next ≡ old.next → new.before ≡ old.before → new.judges ≡ old.judges → new.files.items ≡ set old.files.items g w
    → JoinedIsAt s files worker taken old → JoinedIsAt s files worker (taken ++ ending g o k ∷ []) new
joined-ended s files worker taken g o k it old new d w within records none end batches next before judges written h =
    let n = old.next in
    let more = ending g o k ∷ [] in
    let was = waiting-at s files worker taken old g d within h in
    let going = no_end taken g (get_or old.files.items g d).end none was.end in
    let z : 0 + g ≡ g = omega arith in
    let is : IsWaiting n (taken ++ more) g w = record {
      end = subst (IsFirstEnd (taken ++ more) g) (sym end) (has_end-here g o k taken, records ∙ sym (records_told-ending g o k taken going));
      waits = λ later. ap batched batches ∙ was.waits later ∙ sym (file_packets-ending g g o k taken);
    } in
    let each : EachFrom (IsWaiting n (taken ++ more)) 0 new.files.items =
    subst (EachFrom (IsWaiting n (taken ++ more)) 0) (sym written)
    (each-set (IsWaiting n taken) (IsWaiting n (taken ++ more)) 0 old.files.items g w
    (λ f x unlike high at. waiting-kept n taken more f x (has_end-other f g o k taken (λ e. unlike (sym e ∙ sym z)))
    (λ later. file_packets-ending f g o k taken) at)
    (subst (λ (f : ℕ). IsWaiting n (taken ++ more) f w) (sym z) is) h.each) in
    joined-step s files worker taken (ending g o k) old new next before (ap length written ∙ length-set old.files.items g w) each
    (subst (AreFed s worker 0 (of_first (min (n + 1) files) (taken ++ more))) (sym judges)
    (fed-kept s files worker taken (ending g o k) old (λ below. file_packets-ending n g o k taken) h)) h

later-waiting : (next : ℕ) (taken : List Message) (f : ℕ) (w : Waiting) → IsWaiting next taken f w → IsWaiting (next + 1) taken f w
later-waiting next taken f w h = record { end = h.end; waits = λ later. h.waits (omega (arith, later)) }

-- behind the next file, which has ended
joined-next : (s : Setting) (files worker : ℕ) (taken : List Message) (records : ℕ) (old new : Joined) → HasEnded files taken old.next records → new.next
    ≡ old.next + 1
    → new.before ≡ old.before + records → length new.files.items ≡ length old.files.items → EachFrom (IsWaiting (old.next + 1) taken) 0 new.files.items
    → AreFed s worker 0 (of_first (min (old.next + 1 + 1) files) taken) new.judges → JoinedIsAt s files worker taken old → JoinedIsAt s files worker taken new
joined-next s files worker taken records old new ended next before count each fed h =
    let n = old.next in
    let z : 0 + n ≡ n = omega arith in
    let s1 : n + 1 ≡ suc n = omega arith in
    let told : told_by 0 (n + 1) taken ≡ told_by 0 n taken + records_told (0 + n) taken = told_by-more 0 n taken in
    let own : records_told (0 + n) taken ≡ records = ap (λ (x : ℕ). records_told x taken) z ∙ sym ended.told in
    record {
      one = h.one;
      few = h.few;
      count = count ∙ h.count;
      next = subst (λ (x : ℕ). x ≤ files) (sym next) (omega (arith, ended.there));
      done = ap (λ (x : ℕ). has_ends x taken) (next ∙ s1) ∙ and_from (has_ends n taken) (has_end n taken) h.done ended.ended;
      before = omega (arith, before, h.before, told, own) ∙ ap (λ (x : ℕ). told_by 0 x taken) (sym next);
      below = subst (λ (x : ℕ). new.before ≤ x * 2 ^ 37) (sym next) (omega (arith, before, h.below, ended.few));
      each = subst (λ (x : ℕ). EachFrom (IsWaiting x taken) 0 new.files.items) (sym next) each;
      fed = subst (λ (x : ℕ). AreFed s worker 0 (of_first (min (x + 1) files) taken) new.judges) (sym next) fed;
    }

-- where that was the last one
pub joined-last : (s : Setting) (files worker : ℕ) (taken : List Message) (records : ℕ) (old new : Joined) → length old.files.items ≤ old.next + 1
    → HasEnded files taken old.next records
    → new.next ≡ old.next + 1 → new.before ≡ old.before + records → new.files.items ≡ old.files.items → new.judges ≡ old.judges
    → JoinedIsAt s files worker taken old → JoinedIsAt s files worker taken new
joined-last s files worker taken records old new last ended next before same judges h =
    let n = old.next in
    let all : min (n + 1) files ≡ files = min_last n files (omega (arith, last, h.count)) in
    let still : min (n + 1 + 1) files ≡ files = min_last (n + 1) files (omega (arith, last, h.count)) in
    joined-next s files worker taken records old new ended next before (ap length same)
    (subst (EachFrom (IsWaiting (n + 1) taken) 0) (sym same)
    (each-weaker (IsWaiting n taken) (IsWaiting (n + 1) taken) 0 old.files.items (λ f w low high is. later-waiting n taken f w is) h.each))
    (subst (AreFed s worker 0 (of_first (min (n + 1 + 1) files) taken)) (sym judges)
    (subst (λ (x : ℕ). AreFed s worker 0 (of_first x taken) old.judges) (all ∙ sym still) h.fed)) h

-- and where what waited of the one behind is fed
pub joined-on : (s : Setting) (files worker : ℕ) (taken : List Message) (records : ℕ) (old new : Joined) (d w : Waiting) → old.next + 1 < length old.files.items
    → HasEnded files taken old.next records
    → new.next ≡ old.next + 1 → new.before ≡ old.before + records → w.end ≡ (get_or old.files.items (old.next + 1) d).end → new.files.items
    ≡ set old.files.items (old.next + 1) w
    → Feeds (old.before + records) (batched (get_or old.files.items (old.next + 1) d).batches.items) old.judges new.judges
    → JoinedIsAt s files worker taken old → JoinedIsAt s files worker taken new
joined-on s files worker taken records old new d w within ended next before end written feeds h =
    let n = old.next in
    let was = waiting-at s files worker taken old (n + 1) d within h in
    let z : 0 + (n + 1) ≡ n + 1 = omega arith in
    let y : 0 + n ≡ n = omega arith in
    let is : IsWaiting (n + 1) taken (n + 1) w = record {
      end = subst (IsFirstEnd taken (n + 1)) (sym end) was.end;
      waits = λ later. absurd (omega (arith, later));
    } in
    let one : min (n + 1) files ≡ n + 1 = min_next n files (omega (arith, within, h.count)) in
    let two : min (n + 1 + 1) files ≡ n + 1 + 1 = min_next (n + 1) files (omega (arith, within, h.count)) in
    let told : told_by 0 (n + 1) taken ≡ told_by 0 n taken + records_told (0 + n) taken = told_by-more 0 n taken in
    let own : records_told (0 + n) taken ≡ records = ap (λ (x : ℕ). records_told x taken) y ∙ sym ended.told in
    let raised : old.before + records ≡ told_by 0 (n + 1) taken = omega (arith, h.before, told, own) in
    let ps = batched (get_or old.files.items (n + 1) d).batches.items in
    joined-next s files worker taken records old new ended next before (ap length written ∙ length-set old.files.items (n + 1) w)
    (subst (EachFrom (IsWaiting (n + 1) taken) 0) (sym written)
    (each-set (IsWaiting n taken) (IsWaiting (n + 1) taken) 0 old.files.items (n + 1) w (λ f x unlike high at. later-waiting n taken f x at)
    (subst (λ (f : ℕ). IsWaiting (n + 1) taken f w) (sym z) is) h.each))
    (fed-same s worker 0 (with_packets (old.before + records) ps (of_first (min (n + 1) files) taken)) (of_first (min (n + 1 + 1) files) taken) new.judges
    (λ k. ap (λ (x : ℕ). with_packets (old.before + records) ps (of_first x taken) (key_of 0 k)) one
    ∙ first-more (n + 1) (old.before + records) taken ps (key_of 0 k) raised (was.waits (omega arith)) ∙ ap (λ (x : ℕ). of_first x taken (key_of 0 k))
    (sym two))
    (feeds s worker 0 (of_first (min (n + 1) files) taken) h.fed)) h

-- where its judges take it
pub joined-on_if : {X E : Type 0} (r : Result X E) (records : ℕ) (old new : Joined) (d w : Waiting) → old.next + 1 < length old.files.items
    → new.next ≡ old.next + 1 → new.before ≡ old.before + records → w.end ≡ (get_or old.files.items (old.next + 1) d).end → new.files.items
    ≡ set old.files.items (old.next + 1) w
    → IfOk r (λ _. Feeds (old.before + records) (batched (get_or old.files.items (old.next + 1) d).batches.items) old.judges new.judges)
    → IfOk r (λ _. (s : Setting) (files worker : ℕ) (taken : List Message) → JoinedIsAt s files worker taken old → HasEnded files taken old.next records
    → JoinedIsAt s files worker taken new)
joined-on_if (Ok x) records old new d w within next before end written feeds = λ s files worker taken h ended. joined-on s files worker taken records old new d
    w within ended next before end written feeds h
joined-on_if (Err e) records old new d w within next before end written feeds = tt

-- there is room for it
pub waiting-room : (s : Setting) (files worker : ℕ) (taken : List Message) (joined : Joined) (d : Waiting) → joined.next + 1 < length joined.files.items
    → IsWithin (2 ^ 41) taken
    → JoinedIsAt s files worker taken joined → HaveRoom (length (batched (get_or joined.files.items (joined.next + 1) d).batches.items)) joined.judges
waiting-room s files worker taken joined d within few h =
    let n = joined.next in
    let was = waiting-at s files worker taken joined (n + 1) d within h in
    let z : 0 + (n + 1) ≡ n + 1 = omega arith in
    let one : min (n + 1) files ≡ n + 1 = min_next n files (omega (arith, within, h.count)) in
    let ps = batched (get_or joined.files.items (n + 1) d).batches.items in
    let own : length ps ≡ length (file_packets (0 + (n + 1)) taken) = ap length (was.waits (omega arith) ∙ ap (λ (x : ℕ). file_packets x taken) (sym z)) in
    let total = total-few 0 (n + 1 + 1) taken in
    let more = total-more 0 (n + 1) taken in
    room-from s worker 0 (of_first (min (n + 1) files) taken) joined.judges (length ps) h.fed
    (λ k.
    let some = joined_packets-few k 0 0 (min (n + 1) files) taken in
    let same : files_total 0 (min (n + 1) files) taken ≡ files_total 0 (n + 1) taken = ap (λ (x : ℕ). files_total 0 x taken) one in
    omega (arith, own, total, more, some, same, few.few_packets))

-- the records before stay within the limits
pub before-few : (s : Setting) (files worker : ℕ) (taken : List Message) (joined : Joined) (records : ℕ) → HasEnded files taken joined.next records
    → JoinedIsAt s files worker taken joined
    → joined.before + records ≤ 2 ^ 41
before-few s files worker taken joined records ended h = omega (arith, h.below, h.few, h.next, ended.there, ended.few)

-- so do those of the file that is fed
pub before-now : (s : Setting) (files worker : ℕ) (taken : List Message) (joined : Joined) → JoinedIsAt s files worker taken joined → joined.before ≤ 2 ^ 41
before-now s files worker taken joined h = omega (arith, h.below, h.few, h.next)

-- whether all have ended
pub joined-ends : (s : Setting) (files worker : ℕ) (taken : List Message) (joined : Joined) (b : Bool) → leb (length joined.files.items) joined.next ≡ b
    → JoinedStandsFor s files worker taken joined
    → b ≡ has_ends files taken
joined-ends s files worker taken joined true e h =
    let far = leb-true (length joined.files.items) joined.next e in
    let all : joined.next ≡ files = omega (arith, far, h.at.count, h.at.next) in
    sym (ap (λ (n : ℕ). has_ends n taken) (sym all) ∙ h.at.done)
joined-ends s files worker taken joined false e h =
    let near = leb-false (length joined.files.items) joined.next e in
    let below : joined.next < files = omega (arith, near, h.at.count) in
    elim (has_ends files taken) as (λ b. has_ends files taken ≡ b → false ≡ b) [
      | true ↦ λ t. absurd (both_ways (has_end joined.next taken) (h.going below) (has_ends-at files joined.next taken t below))
      | false ↦ λ t. refl
    ] refl

-- the judges of all files
pub joined-whole : (s : Setting) (files worker : ℕ) (taken : List Message) (joined : Joined) → JoinedStandsFor s files worker taken joined
    → has_ends files taken ≡ true
    → AreFed s worker 0 (taken_packets s files taken) joined.judges
joined-whole s files worker taken joined h ended =
    let all : joined.next ≡ files =
    elim (cases_eq joined.next files) [
      | inl same ↦ same
      | inr other ↦
          let below : joined.next < files = omega (arith, other, h.at.next) in
          absurd (both_ways (has_end joined.next taken) (h.going below) (has_ends-at files joined.next taken ended below))
    ] in
    let last : min (joined.next + 1) files ≡ files = min_last joined.next files (omega (arith, all)) in
    fed-same s worker 0 (of_first (min (joined.next + 1) files) taken) (taken_packets s files taken) joined.judges
    (λ n. ap (λ (x : ℕ). of_first x taken (key_of 0 n)) last
    ∙ sym (ap (λ (b : Bool). if b then joined_packets n 0 0 files taken else media_packets n (file_packets 0 taken)) h.at.one)) h.at.fed

-- their rows are those of the worker's flows
pub joined-rows : (s : Setting) (files worker : ℕ) (taken : List Message) (rows before : List Row) → s.joined ≡ true → before ≡ []
    → rows ≡ before ++ own_rows s worker (taken_packets s files taken) (keys_of_file 0 0 (length s.media)) → rows
    ≡ map (taken_row s files taken) (own_keys s files worker)
joined-rows s files worker taken rows before one none e =
    e ∙ ap (λ (l : List Row). l ++ own_rows s worker (taken_packets s files taken) (keys_of_file 0 0 (length s.media))) none
    ∙ ap (own_rows s worker (taken_packets s files taken)) (sym (append-nil (keys_of_file 0 0 (length s.media))))
    ∙ ap (λ (b : Bool). own_rows s worker (taken_packets s files taken) (keys_of_files 0 (if b then 1 else files) (length s.media))) (sym one)

none-joined : (m before file n : ℕ) → joined_packets m before file n [] ≡ []
none-joined m before file zero = refl
none-joined m before file (suc n) = none-joined m (before + 0) (file + 1) n

-- nothing was taken yet
pub joined-new : (s : Setting) (files worker : ℕ) (joined : Joined) → s.joined ≡ true → 1 ≤ files → files ≤ 16 → length joined.files.items ≡ files → joined.next
    ≡ 0 → joined.before ≡ 0
    → EachFrom (IsWaiting 0 []) 0 joined.files.items → AreFed s worker 0 (λ key. []) joined.judges → JoinedStandsFor s files worker [] joined
joined-new s files worker joined one some few count next before each fed = record {
  at = record {
    one = one;
    few = few;
    count = count;
    next = omega (arith, next);
    done = ap (λ (n : ℕ). has_ends n []) next;
    before = before ∙ ap (λ (n : ℕ). told_by 0 n []) (sym next);
    below = omega (arith, before);
    each = subst (λ (n : ℕ). EachFrom (IsWaiting n []) 0 joined.files.items) (sym next) each;
    fed = fed-same s worker 0 (λ key. []) (of_first (min (joined.next + 1) files) []) joined.judges (λ n. sym (none-joined n 0 0 (min (joined.next + 1) files)))
        fed;
  };
  going = λ below. refl;
}

-- where the files that have ended are gone through
pub joined-ended_if : {X E : Type 0} (r : Result X E) (m : Message) (old mid new : Joined)
    → ((s : Setting) (files worker : ℕ) (taken : List Message) → JoinedIsAt s files worker taken old → JoinedIsAt s files worker (taken ++ m ∷ []) mid)
    → IfOk r (λ _. (s : Setting) (files worker : ℕ) (taken : List Message) → JoinedIsAt s files worker taken mid → JoinedStandsFor s files worker taken new)
    → IfOk r (λ _. (s : Setting) (files worker : ℕ) (taken : List Message) → JoinedStandsFor s files worker taken old
    → JoinedStandsFor s files worker (taken ++ m ∷ []) new)
joined-ended_if (Ok x) m old mid new ended goes = λ s files worker taken h. goes s files worker (taken ++ m ∷ []) (ended s files worker taken h.at)
joined-ended_if (Err e) m old mid new ended goes = tt

-- a file of which nothing came
pub waiting-new : (f : ℕ) (w : Waiting) → w.end ≡ None → w.batches.items ≡ [] → IsWaiting 0 [] f w
waiting-new f w end none = record {
  end = subst (IsFirstEnd [] f) (sym end) refl;
  waits = λ later. ap batched none;
}
