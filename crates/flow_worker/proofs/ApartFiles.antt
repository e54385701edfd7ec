-- What one message more makes of files that are judged each for itself.
use Rattle.std.proofs.Common.{◌≡◌, ◌≤◌, ◌<◌, ◌+◌, ℕ, suc, Bool, true, false, if◌then◌else◌, ◌&&◌, ◌||◌, List, [], ◌∷◌, ◌++◌, length, map, get_or, set, refl}
use Rattle.std.proofs.Common.{sym, ap, ap₂, ◌∙◌, subst, inl, inr, eq-eqb, ne_eqb, append_assoc, append-nil, length-set, arith}
use Rattle.std.specs.Prelude.{◌⊎◌, Result, Ok, Err, IfOk, filter}
use Rattle.std.specs.List.{list_all}
use Rattle.std.proofs.lemmas.Bool.{cases_eq, or_right}
use Rattle.std.proofs.lemmas.List.{map-append}
use Rattle.std.proofs.lemmas.List.Elements.{filter-append, filter_map-append}
use Rattle.std.proofs.lemmas.List.Sums.{sum_by-append, sum_by-cons}
use Rattle.timing_base.specs.Keys.{key_of, keys_of_file, keys_of_files}
use Rattle.timing_base.specs.declared.capture.FileNote.{FileNote}
use Rattle.timing_base.specs.declared.key.FlowKey.{FlowKey}
use Rattle.timing_base.specs.declared.packet.FlowPacket.{FlowPacket}
use Rattle.timing_base.specs.declared.row.Row.{Row}
use Rattle.ruled_intake.specs.Lanes.{count_of, packets}
use Rattle.ruled_intake.specs.Packets.{Packet}
use Rattle.ruled_intake.specs.declared.message.Message.{Message}
use Rattle.flow_worker.specs.Judging.{AreFed, EachFrom, Feeds, HaveRoom, is_own, with_packets}
use Rattle.flow_worker.specs.Messages.{batch, ending, file_packets, has_end, media_packet, media_packets}
use Rattle.flow_worker.specs.Opening.{Setting}
use Rattle.flow_worker.specs.Posting.{has_ends, joined_packets, own_keys, raised_packet, row_over, taken_packets, taken_row}
use Rattle.flow_worker.specs.Standing.{ApartStandsFor, IsFew, IsFile}
use Rattle.flow_worker.specs.declared.apart_files.Apart.{Apart}
use Rattle.flow_worker.specs.declared.apart_files.OneFile.{OneFile}
use Rattle.flow_worker.proofs.Each.{each-at, each-set, each-weaker}
use Rattle.flow_worker.proofs.Fed.{fed-same}
use Rattle.flow_worker.proofs.Few.{file_packets-few, media_packets-few, room-from}
use Rattle.flow_worker.proofs.Posted.{own_rows}
use Rattle.flow_worker.proofs.Taking.{file_packets-batch, file_packets-ended, file_packets-ending, file_packets-other, has_end-append}

or_none : (b : Bool) → (b || false) ≡ b
or_none true = refl
or_none false = refl

-- a batch is no end
pub has_end-batch : (f g : ℕ) (ps : List Packet) (taken : List Message) → has_end f (taken ++ batch g ps ∷ []) ≡ has_end f taken
has_end-batch f g ps taken = has_end-append f taken (batch g ps ∷ []) ∙ or_none (has_end f taken)

-- nor is an end of another file
pub has_end-other : (f g : ℕ) (o : FileNote) (k : ℕ) (taken : List Message) → (g ≡ f → ⊥) → has_end f (taken ++ ending g o k ∷ []) ≡ has_end f taken
has_end-other f g o k taken n =
    has_end-append f taken (ending g o k ∷ []) ∙ ap (λ (b : Bool). has_end f taken || (b || false)) (ne_eqb g f n) ∙ or_none (has_end f taken)

-- the end of a file
pub has_end-here : (f : ℕ) (o : FileNote) (k : ℕ) (taken : List Message) → has_end f (taken ++ ending f o k ∷ []) ≡ true
has_end-here f o k taken =
    has_end-append f taken (ending f o k ∷ []) ∙ or_right (has_end f taken) (has_end f (ending f o k ∷ [])) (ap (λ (b : Bool). b || false) (eq-eqb f f refl))

-- the packets of a flow, where each file is judged for itself
taken_apart : (s : Setting) (files : ℕ) (taken : List Message) (key : FlowKey) → s.joined ≡ false → taken_packets s files taken key
    ≡ media_packets key.media (file_packets key.file taken)
taken_apart s files taken key e =
    ap (λ (b : Bool). if b then joined_packets key.media 0 0 files taken else media_packets key.media (file_packets key.file taken)) e

-- a message that changes nothing for a file
file-kept : (s : Setting) (files worker : ℕ) (taken : List Message) (m : Message) (f : ℕ) (one : OneFile) → s.joined ≡ false → has_end f (taken ++ m ∷ [])
    ≡ has_end f taken
    → file_packets f (taken ++ m ∷ []) ≡ file_packets f taken → IsFile s files worker taken f one → IsFile s files worker (taken ++ m ∷ []) f one
file-kept s files worker taken m f one alone end packets h = record {
  ended = h.ended ∙ sym end;
  fed = fed-same s worker f (taken_packets s files taken) (taken_packets s files (taken ++ m ∷ [])) one.judges
      (λ n. taken_apart s files taken (key_of f n) alone ∙ ap (media_packets n) (sym packets) ∙ sym (taken_apart s files (taken ++ m ∷ []) (key_of f n) alone))
      h.fed;
}

batch-kept : (s : Setting) (files worker : ℕ) (taken : List Message) (g : ℕ) (ps : List Packet) (f : ℕ) (one : OneFile) → s.joined ≡ false
    → (g ≡ f → ⊥) ⊎ (has_end f taken ≡ true) → IsFile s files worker taken f one → IsFile s files worker (taken ++ batch g ps ∷ []) f one
batch-kept s files worker taken g ps f one alone (inl other) h =
    file-kept s files worker taken (batch g ps) f one alone (has_end-batch f g ps taken) (file_packets-other f g ps taken other) h
batch-kept s files worker taken g ps f one alone (inr ended) h =
    file-kept s files worker taken (batch g ps) f one alone (has_end-batch f g ps taken) (file_packets-ended f taken (batch g ps ∷ []) ended) h

end-kept : (s : Setting) (files worker : ℕ) (taken : List Message) (g : ℕ) (o : FileNote) (k f : ℕ) (one : OneFile) → s.joined ≡ false → (g ≡ f → ⊥)
    → IsFile s files worker taken f one → IsFile s files worker (taken ++ ending g o k ∷ []) f one
end-kept s files worker taken g o k f one alone other h =
    file-kept s files worker taken (ending g o k) f one alone (has_end-other f g o k taken other) (file_packets-ending f g o k taken) h

-- a batch of a file that isn't there, or has ended, is passed over
pub apart-passed : (s : Setting) (files worker : ℕ) (taken : List Message) (g : ℕ) (ps : List Packet) (apart : Apart) → (files ≤ g) ⊎ (has_end g taken ≡ true)
    → ApartStandsFor s files worker taken apart → ApartStandsFor s files worker (taken ++ batch g ps ∷ []) apart
apart-passed s files worker taken g ps apart why h = record {
  alone = h.alone;
  count = h.count;
  each = each-weaker (IsFile s files worker taken) (IsFile s files worker (taken ++ batch g ps ∷ [])) 0 apart.files.items
      (λ f one low high is. batch-kept s files worker taken g ps f one h.alone
      (elim why [
        | inl beyond ↦ inl (λ e. absurd (omega (arith, beyond, e, high, h.count)))
        | inr ended ↦ elim (cases_eq g f) [ inl same ↦ inr (ap (λ (x : ℕ). has_end x taken) (sym same) ∙ ended) | inr other ↦ inl other ]
      ]) is) h.each;
}

-- whether the file at a place has ended
pub ended-at : (s : Setting) (files worker : ℕ) (taken : List Message) (apart : Apart) (g : ℕ) (d : OneFile) → g < length apart.files.items
    → ApartStandsFor s files worker taken apart → (get_or apart.files.items g d).ended ≡ has_end g taken
ended-at s files worker taken apart g d within h =
    let z : 0 + g ≡ g = omega arith in
    (each-at (IsFile s files worker taken) 0 apart.files.items g d within h.each).ended ∙ ap (λ (f : ℕ). has_end f taken) z

-- the judges of the file at a place
pub file-at : (s : Setting) (files worker : ℕ) (taken : List Message) (apart : Apart) (g : ℕ) (d : OneFile) → g < length apart.files.items
    → ApartStandsFor s files worker taken apart → IsFile s files worker taken g (get_or apart.files.items g d)
file-at s files worker taken apart g d within h =
    let z : 0 + g ≡ g = omega arith in
    subst (λ (f : ℕ). IsFile s files worker taken f (get_or apart.files.items g d)) z
    (each-at (IsFile s files worker taken) 0 apart.files.items g d within h.each)

map-raised_none : (xs : List FlowPacket) → map (raised_packet 0) xs ≡ xs
map-raised_none [] = refl
map-raised_none (x ∷ xs) =
    let z : 0 + x.rec ≡ x.rec = omega arith in
    ap₂ (λ (r : ℕ) (l : List FlowPacket). record { rec = r; at = x.at; rtp = x.rtp } ∷ l) z (map-raised_none xs)

-- the batch is fed to the judges of its file
pub apart-fed : (s : Setting) (files worker : ℕ) (taken : List Message) (g : ℕ) (ps : List Packet) (old new : Apart) (d one : OneFile) → g
    < length old.files.items
    → (get_or old.files.items g d).ended ≡ false → one.ended ≡ (get_or old.files.items g d).ended → new.files.items ≡ set old.files.items g one
    → Feeds 0 ps (get_or old.files.items g d).judges one.judges → ApartStandsFor s files worker taken old
    → ApartStandsFor s files worker (taken ++ batch g ps ∷ []) new
apart-fed s files worker taken g ps old new d one within going same written feeds h =
    let was = file-at s files worker taken old g d within h in
    let none : has_end g taken ≡ false = sym was.ended ∙ going in
    let z : 0 + g ≡ g = omega arith in
    let is : IsFile s files worker (taken ++ batch g ps ∷ []) g one = record {
      ended = same ∙ was.ended ∙ sym (has_end-batch g g ps taken);
      fed = fed-same s worker g (with_packets 0 ps (taken_packets s files taken)) (taken_packets s files (taken ++ batch g ps ∷ [])) one.judges
          (λ n. ap₂ (λ (k l : List FlowPacket). k ++ l) (taken_apart s files taken (key_of g n) h.alone) (map-raised_none (media_packets n ps))
          ∙ sym (filter_map-append (media_packet n) (file_packets g taken) ps) ∙ ap (media_packets n) (sym (file_packets-batch g taken ps none))
          ∙ sym (taken_apart s files (taken ++ batch g ps ∷ []) (key_of g n) h.alone)) (feeds s worker g (taken_packets s files taken) was.fed);
    } in
    record {
      alone = h.alone;
      count = ap length written ∙ length-set old.files.items g one ∙ h.count;
      each = subst (EachFrom (IsFile s files worker (taken ++ batch g ps ∷ [])) 0) (sym written)
          (each-set (IsFile s files worker taken) (IsFile s files worker (taken ++ batch g ps ∷ [])) 0 old.files.items g one
          (λ f x other high at. batch-kept s files worker taken g ps f x h.alone (inl (λ e. other (sym e ∙ sym z))) at)
          (subst (λ (f : ℕ). IsFile s files worker (taken ++ batch g ps ∷ []) f one) (sym z) is) h.each);
    }

-- there is room for it
pub apart-room : (s : Setting) (files worker : ℕ) (taken : List Message) (g : ℕ) (ps : List Packet) (apart : Apart) (d : OneFile) → g < length apart.files.items
    → IsFew taken (batch g ps) → ApartStandsFor s files worker taken apart → HaveRoom (length ps) (get_or apart.files.items g d).judges
apart-room s files worker taken g ps apart d within few h =
    let was = file-at s files worker taken apart g d within h in
    let all : packets (taken ++ batch g ps ∷ []) ≡ packets taken + packets (batch g ps ∷ []) = sum_by-append count_of taken (batch g ps ∷ []) in
    let one : packets (batch g ps ∷ []) ≡ length ps + packets [] = sum_by-cons count_of (batch g ps) [] in
    let none : packets [] ≡ 0 = refl in
    room-from s worker g (taken_packets s files taken) (get_or apart.files.items g d).judges (length ps) was.fed
    (λ n.
    let same : length (taken_packets s files taken (key_of g n)) ≡ length (media_packets n (file_packets g taken)) =
    ap length (taken_apart s files taken (key_of g n) h.alone) in
    let own = media_packets-few n (file_packets g taken) in
    let some = file_packets-few g taken in
    omega (arith, all, one, none, same, own, some, few.few_packets))

-- the end of a file that isn't there
pub apart-beyond : (s : Setting) (files worker : ℕ) (taken : List Message) (g : ℕ) (o : FileNote) (k : ℕ) (apart : Apart) → length apart.files.items ≤ g
    → ApartStandsFor s files worker taken apart → ApartStandsFor s files worker (taken ++ ending g o k ∷ []) apart
apart-beyond s files worker taken g o k apart beyond h = record {
  alone = h.alone;
  count = h.count;
  each = each-weaker (IsFile s files worker taken) (IsFile s files worker (taken ++ ending g o k ∷ [])) 0 apart.files.items
      (λ f one low high is. end-kept s files worker taken g o k f one h.alone (λ e. absurd (omega (arith, beyond, e, high))) is) h.each;
}

-- the end of one that is
pub apart-ended : (s : Setting) (files worker : ℕ) (taken : List Message) (g : ℕ) (o : FileNote) (k : ℕ) (old new : Apart) (d one : OneFile) → g
    < length old.files.items
    → one.ended ≡ true → one.judges ≡ (get_or old.files.items g d).judges → new.files.items ≡ set old.files.items g one
    → ApartStandsFor s files worker taken old → ApartStandsFor s files worker (taken ++ ending g o k ∷ []) new
apart-ended s files worker taken g o k old new d one within ended same written h =
    let was = file-at s files worker taken old g d within h in
    let z : 0 + g ≡ g = omega arith in
    let is : IsFile s files worker (taken ++ ending g o k ∷ []) g one = record {
      ended = ended ∙ sym (has_end-here g o k taken);
      fed = fed-same s worker g (taken_packets s files taken) (taken_packets s files (taken ++ ending g o k ∷ [])) one.judges
          (λ n. taken_apart s files taken (key_of g n) h.alone ∙ ap (media_packets n) (sym (file_packets-ending g g o k taken))
          ∙ sym (taken_apart s files (taken ++ ending g o k ∷ []) (key_of g n) h.alone))
          (subst (AreFed s worker g (taken_packets s files taken)) (sym same) was.fed);
    } in
    record {
      alone = h.alone;
      count = ap length written ∙ length-set old.files.items g one ∙ h.count;
      each = subst (EachFrom (IsFile s files worker (taken ++ ending g o k ∷ [])) 0) (sym written)
          (each-set (IsFile s files worker taken) (IsFile s files worker (taken ++ ending g o k ∷ [])) 0 old.files.items g one
          (λ f x other high at. end-kept s files worker taken g o k f x h.alone (λ e. other (sym e ∙ sym z)) at)
          (subst (λ (f : ℕ). IsFile s files worker (taken ++ ending g o k ∷ []) f one) (sym z) is) h.each);
    }

and_assoc : (a b c : Bool) → (a && (b && c)) ≡ ((a && b) && c)
and_assoc true b c = refl
and_assoc false b c = refl

ends-from : (s : Setting) (files worker : ℕ) (taken : List Message) (first : ℕ) (ones : List OneFile) → EachFrom (IsFile s files worker taken) first ones
    → (has_ends first taken && list_all (λ (one : OneFile). one.ended) ones) ≡ has_ends (first + length ones) taken
ends-from s files worker taken first [] h =
    let z : first ≡ first + 0 = omega arith in
    elim (has_ends first taken) as (λ b. (b && true) ≡ b) [ true ↦ refl | false ↦ refl ] ∙ ap (λ (n : ℕ). has_ends n taken) z
ends-from s files worker taken first (one ∷ ones) h =
    let z : first + 1 + length ones ≡ first + length (one ∷ ones) = omega arith in
    let s1 : first + 1 ≡ suc first = omega arith in
    let all : Bool = list_all (λ (one : OneFile). one.ended) ones in
    ap (λ (b : Bool). has_ends first taken && (b && all)) h.0.ended ∙ and_assoc (has_ends first taken) (has_end first taken) all
    ∙ ap (λ (n : ℕ). has_ends n taken && all) (sym s1) ∙ ends-from s files worker taken (first + 1) ones h.1 ∙ ap (λ (n : ℕ). has_ends n taken) z

-- all have ended
pub apart-ends : (s : Setting) (files worker : ℕ) (taken : List Message) (apart : Apart) → ApartStandsFor s files worker taken apart
    → list_all (λ (one : OneFile). one.ended) apart.files.items ≡ has_ends files taken
apart-ends s files worker taken apart h =
    let z : 0 + length apart.files.items ≡ files = omega (arith, h.count) in
    ends-from s files worker taken 0 apart.files.items h.each ∙ ap (λ (n : ℕ). has_ends n taken) z

-- with the rows of the files that are left, these are the rows of all files
pub record HasFileRows (s : Setting) (files worker : ℕ) (taken : List Message) (rows : List Row) (left : List OneFile) : Type 0 where
  pub number : ℕ
  pub each : EachFrom (IsFile s files worker taken) number left
  pub whole : rows ++ own_rows s worker (taken_packets s files taken) (keys_of_files number (length left) (length s.media))
      ≡ map (taken_row s files taken) (own_keys s files worker)

own_rows-append : (s : Setting) (worker : ℕ) (fed : FlowKey → List FlowPacket) (xs ys : List FlowKey) → own_rows s worker fed (xs ++ ys)
    ≡ own_rows s worker fed xs ++ own_rows s worker fed ys
own_rows-append s worker fed xs ys =
    ap (map (λ key. row_over s key (fed key))) (filter-append (is_own s worker) xs ys) ∙ map-append (λ key. row_over s key (fed key))
    (filter (is_own s worker) xs) (filter (is_own s worker) ys)

-- no row is posted yet
pub file_rows-first : (s : Setting) (files worker : ℕ) (taken : List Message) (apart : Apart) (rows : List Row) (left : List OneFile) → rows ≡ [] → left
    ≡ apart.files.items
    → ApartStandsFor s files worker taken apart → HasFileRows s files worker taken rows left
file_rows-first s files worker taken apart rows left none e h = record {
  number = 0;
  each = subst (EachFrom (IsFile s files worker taken) 0) (sym e) h.each;
  whole = ap₂ (λ (l : List Row) (n : ℕ). l ++ own_rows s worker (taken_packets s files taken) (keys_of_files 0 n (length s.media))) none (ap length e ∙ h.count)
      ∙ ap (λ (b : Bool). own_rows s worker (taken_packets s files taken) (keys_of_files 0 (if b then 1 else files) (length s.media))) (sym h.alone);
}

-- the rows of one file more
pub file_rows-more : (s : Setting) (files worker : ℕ) (taken : List Message) (rows more : List Row) (one : OneFile) (left later : List OneFile) → left ≡ one
    ∷ later
    → ((file : ℕ) (fed : FlowKey → List FlowPacket) → AreFed s worker file fed one.judges → more ≡ rows
    ++ own_rows s worker fed (keys_of_file file 0 (length s.media)))
    → HasFileRows s files worker taken rows left → HasFileRows s files worker taken more later
file_rows-more s files worker taken rows more one left later e gives h =
    let each = subst (EachFrom (IsFile s files worker taken) h.number) e h.each in
    let fed = taken_packets s files taken in
    let own : List Row = own_rows s worker fed (keys_of_file h.number 0 (length s.media)) in
    let rest : List Row = own_rows s worker fed (keys_of_files (h.number + 1) (length later) (length s.media)) in
    record {
      number = h.number + 1;
      each = each.1;
      whole = ap (λ (l : List Row). l ++ rest) (gives h.number fed each.0.fed) ∙ append_assoc rows own rest
          ∙ ap (λ (l : List Row). rows ++ l)
          (sym (own_rows-append s worker fed (keys_of_file h.number 0 (length s.media)) (keys_of_files (h.number + 1) (length later) (length s.media))))
          ∙ ap (λ (n : ℕ). rows ++ own_rows s worker fed (keys_of_files h.number n (length s.media))) (sym (ap length e)) ∙ h.whole;
    }

-- all rows
pub file_rows-all : (s : Setting) (files worker : ℕ) (taken : List Message) (rows : List Row) (left : List OneFile) → length left ≡ 0
    → HasFileRows s files worker taken rows left → rows ≡ map (taken_row s files taken) (own_keys s files worker)
file_rows-all s files worker taken rows left e h =
    sym (append-nil rows) ∙ ap (λ (n : ℕ). rows ++ own_rows s worker (taken_packets s files taken) (keys_of_files h.number n (length s.media))) (sym e) ∙
    h.whole

-- no file is there yet
pub file-new : (s : Setting) (files worker file : ℕ) (one : OneFile) → s.joined ≡ false → one.ended ≡ false → AreFed s worker file (λ key. []) one.judges
    → IsFile s files worker [] file one
file-new s files worker file one alone ended fed = record {
  ended = ended;
  fed = fed-same s worker file (λ key. []) (taken_packets s files []) one.judges (λ n. sym (taken_apart s files [] (key_of file n) alone)) fed;
}

-- where its judges take it
pub apart-fed_if : {X E : Type 0} (r : Result X E) (g : ℕ) (ps : List Packet) (old new : Apart) (d one : OneFile) → g < length old.files.items
    → (get_or old.files.items g d).ended ≡ false → one.ended ≡ (get_or old.files.items g d).ended → new.files.items ≡ set old.files.items g one
    → IfOk r (λ _. Feeds 0 ps (get_or old.files.items g d).judges one.judges)
    → IfOk r (λ _. (s : Setting) (files worker : ℕ) (taken : List Message) → ApartStandsFor s files worker taken old
    → ApartStandsFor s files worker (taken ++ batch g ps ∷ []) new)
apart-fed_if (Ok x) g ps old new d one within going same written feeds = λ s files worker taken h. apart-fed s files worker taken g ps old new d one within
    going same written feeds h
apart-fed_if (Err e) g ps old new d one within going same written feeds = tt
