-- A walk over the records of a capture.
use Rattle.std.specs.Prelude.{max, slice_index_or}
use Rattle.std.proofs.Common.{◌≡◌, ◌≤◌, ◌<◌, ◌+◌, ◌-◌, ◌*◌, ◌/◌, ◌%◌, ℕ, List, [], ◌∷◌, ◌++◌, length, take, drop, refl, arith, ap, ◌∙◌, sym, subst}
use Rattle.std.proofs.Common.{append-nil, append_assoc, length-append, drop-drop}
use Rattle.std.proofs.lemmas.List.{drop_at, drop_more, map-append, take_at, take_more, take_rest}
use Rattle.std.proofs.lemmas.List.Elements.{All-cons, All-head, All-tail}
use Rattle.byteorder.specs.Endian.{little_number}
use Rattle.pcap_reader.specs.WrittenHeads.{record_head}
use Rattle.timing_base.specs.Captures.{IsStamp, Record}
use Rattle.timing_reach.specs.ShapedAgain.{CanBeHeld}
use Rattle.timing_reach.specs.shape.Keeping.{came_text, record_text, restamped, stamp_bytes}
use Rattle.timing_reach.specs.shape.Walking.{CanSkip, CanWalk, HasHead, HasHeld, IsBefore, PassesAll, PassesOne, held_back}
use Rattle.timing_reach.specs.declared.shape.walk.Walk.{Walk}
use Rattle.timing_reach.proofs.Keepings.{came-more}
use Rattle.timing_reach.proofs.Resent.{four-bytes}

-- what is still to come
rest-text : (walk : Walk) (done : List ℕ) (rest : List Record) → IsBefore walk done rest → drop walk.place walk.bytes.items ≡ came_text rest
rest-text walk done rest h = ap (drop walk.place) h.text ∙ drop_at done (came_text rest) walk.place (sym h.place)

rest-length : (walk : Walk) (done : List ℕ) (rest : List Record) → IsBefore walk done rest
    → length walk.bytes.items ≡ walk.place + length (came_text rest)
rest-length walk done rest h = omega (arith, ap length h.text, length-append done (came_text rest), h.place)

length-came : (r : Record) (rest : List Record) → length (came_text (r ∷ rest)) ≡ 16 + (length r.bytes + length (came_text rest))
length-came r rest = omega (arith, length-append r.bytes (came_text rest))

-- before a record it stands before the head of one
pub has-head : (walk : Walk) (done : List ℕ) (r : Record) (rest : List Record) → IsBefore walk done (r ∷ rest) → HasHead walk
has-head walk done r rest h = omega (arith, rest-length walk done (r ∷ rest) h, length-came r rest)

-- the stamp of a record is one that a capture can hold
pub stamp-held : (walk : Walk) (stamp : ℕ) (done : List ℕ) (r : Record) (rest : List Record) → IsBefore walk done (r ∷ rest) → stamp ≡ r.stamp → IsStamp stamp
stamp-held walk stamp done r rest h is = let held = All-head CanBeHeld r rest h.held in omega (arith, held.stamp, is)

-- what is read of the head of a record
pub stamp-read : (bytes : List ℕ) (walk : Walk) (seconds nanos : ℕ) (done : List ℕ) (r : Record) (rest : List Record) → bytes ≡ walk.bytes.items
    → seconds ≡ little_number 4 (take (length bytes - walk.place) (drop walk.place bytes))
    → nanos ≡ little_number 4 (take (length (take (length bytes - walk.place) (drop walk.place bytes)) - 4)
    (drop 4 (take (length bytes - walk.place) (drop walk.place bytes))))
    → IsBefore walk done (r ∷ rest) → seconds * 1000000000 + nanos ≡ r.stamp
stamp-read bytes walk seconds nanos done r rest e first second h =
    let head : take (length bytes - walk.place) (drop walk.place bytes) ≡ came_text (r ∷ rest) =
    take_rest bytes walk.place ∙ ap (drop walk.place) e ∙ rest-text walk done (r ∷ rest) h in
    let held = All-head CanBeHeld r rest h.held in
    let s : seconds ≡ r.stamp / 1000000000 =
    first ∙ ap (little_number 4) head ∙ four-bytes (r.stamp / 1000000000) (omega (arith, held.stamp)) in
    let n : nanos ≡ r.stamp % 1000000000 =
    second ∙ ap (λ l. little_number 4 (take (length l - 4) (drop 4 l))) head
    ∙ ap (little_number 4) (take_rest (came_text (r ∷ rest)) 4) ∙ four-bytes (r.stamp % 1000000000) (omega arith) in
    omega (arith, s, n)

pub captured-read : (bytes : List ℕ) (walk : Walk) (captured : ℕ) (done : List ℕ) (r : Record) (rest : List Record) → bytes ≡ walk.bytes.items
    → captured ≡ little_number 4 (take (length bytes - (walk.place + 8)) (drop (walk.place + 8) bytes))
    → IsBefore walk done (r ∷ rest) → captured ≡ length r.bytes
captured-read bytes walk captured done r rest e is h =
    let head : take (length bytes - (walk.place + 8)) (drop (walk.place + 8) bytes) ≡ drop 8 (came_text (r ∷ rest)) =
    take_rest bytes (walk.place + 8) ∙ sym (drop-drop 8 walk.place bytes) ∙ ap (λ l. drop 8 (drop walk.place l)) e
    ∙ ap (drop 8) (rest-text walk done (r ∷ rest) h) in
    let held = All-head CanBeHeld r rest h.held in
    is ∙ ap (little_number 4) head ∙ four-bytes (length r.bytes) (omega (arith, held.short))

-- a record gets another stamp
pub restamps : (walk new : Walk) (bytes : List ℕ) (at : ℕ) (done : List ℕ) (r : Record) (rest : List Record) → bytes ≡ walk.bytes.items
    → new.bytes.items ≡ take walk.place bytes ++ (stamp_bytes at ++ drop (walk.place + 8 - walk.place) (drop walk.place bytes)) → new.place ≡ walk.place
    → IsStamp at → IsBefore walk done (r ∷ rest) → IsBefore new done (restamped at r ∷ rest)
restamps walk new bytes at done r rest e is place stamp h =
    let front : take walk.place bytes ≡ done = ap (take walk.place) (e ∙ h.text) ∙ take_at done (came_text (r ∷ rest)) walk.place (sym h.place) in
    let eight : walk.place + 8 - walk.place ≡ 8 = omega arith in
    let back : drop walk.place bytes ≡ came_text (r ∷ rest) = ap (drop walk.place) e ∙ rest-text walk done (r ∷ rest) h in
    let held = All-head CanBeHeld r rest h.held in
    record {
      text = is ∙ ap (λ l. l ++ (stamp_bytes at ++ drop (walk.place + 8 - walk.place) (drop walk.place bytes))) front
          ∙ ap (λ k. done ++ (stamp_bytes at ++ drop k (drop walk.place bytes))) eight
          ∙ ap (λ l. done ++ (stamp_bytes at ++ drop 8 l)) back;
      place = place ∙ h.place;
      held = All-cons CanBeHeld (restamped at r) rest (record { stamp = stamp; short = held.short }) (All-tail CanBeHeld r rest h.held);
    }

-- it goes on behind a record
pub passes : (walk new : Walk) (done : List ℕ) (r : Record) (rest : List Record) → new.bytes.items ≡ walk.bytes.items
    → new.place ≡ walk.place + (16 + length r.bytes) → IsBefore walk done (r ∷ rest) → IsBefore new (done ++ record_text r) rest
passes walk new done r rest bytes place h = record {
  text = bytes ∙ h.text ∙ ap (λ l. done ++ l) (sym (append_assoc (record_head r.stamp (length r.bytes)) r.bytes (came_text rest)))
      ∙ sym (append_assoc done (record_text r) (came_text rest));
  place = omega (arith, place, h.place, length-append done (record_text r));
  held = All-tail CanBeHeld r rest h.held;
}

-- no record
abbrev no_record : Record
no_record = record { number = 0; stamp = 0; bytes = [] }

-- it is behind no record, and behind one more
pub passes-none : (walk : Walk) → PassesAll 0 walk walk
passes-none walk = λ done rest h few. subst (λ l. IsBefore walk l rest) (sym (append-nil done)) h

before-next : (old mid : Walk) (i : ℕ) (done : List ℕ) (rest : List Record) → PassesAll i old mid → i < length rest → IsBefore old done rest
    → IsBefore mid (done ++ came_text (take i rest)) (slice_index_or rest i no_record ∷ drop (i + 1) rest)
before-next old mid i done rest passed within h =
    subst (λ (l : List Record). IsBefore mid (done ++ came_text (take i rest)) l) (drop_more rest i no_record within)
    (passed done rest h (omega (arith, within)))

pub passes-more : (old mid new : Walk) (i : ℕ) → PassesAll i old mid → PassesOne mid new → PassesAll (i + 1) old new
passes-more old mid new i passed one = λ done rest h few.
    let r = slice_index_or rest i no_record in
    let within : i < length rest = omega (arith, few) in
    subst (λ l. IsBefore new l (drop (i + 1) rest))
    (append_assoc done (came_text (take i rest)) (record_text r)
    ∙ ap (λ l. done ++ l) (sym (came-more (take i rest) r) ∙ ap came_text (sym (take_more rest i no_record within))))
    (one (done ++ came_text (take i rest)) r (drop (i + 1) rest) (before-next old mid i done rest passed within h))

pub can-pass : (old mid : Walk) (i count : ℕ) → CanSkip count old → i < count → PassesAll i old mid → HasHead mid
can-pass old mid i count can within passed =
    has-head mid _ _ _ (before-next old mid i can.done can.rest passed (omega (arith, within, can.many)) can.before)

-- before the end of the capture it stands before a record
pub some-record : (walk : Walk) (done : List ℕ) (rest : List Record) → walk.place < length walk.bytes.items → IsBefore walk done rest
    → (r : Record) × (more : List Record) × (rest ≡ r ∷ more)
some-record walk done [] within h = absurd (omega (arith, within, rest-length walk done [] h))
some-record walk done (r ∷ more) within h = (r, more, refl)

pub can-walk : (walk : Walk) → walk.place < length walk.bytes.items → CanWalk walk → HasHead walk
can-walk walk within can =
    let some = some-record walk can.done can.rest within can.before in
    has-head walk can.done some.0 some.1 (subst (λ (l : List Record). IsBefore walk can.done l) some.2 can.before)

pub can-hold : (walk : Walk) (at least : ℕ) → walk.place < length walk.bytes.items
    → ((done : List ℕ) (r : Record) (rest : List Record) → IsBefore walk done (r ∷ rest) → at ≡ r.stamp) → IsStamp least → CanWalk walk
    → IsStamp (max at least)
can-hold walk at least within is stamp can =
    let some = some-record walk can.done can.rest within can.before in
    let before : IsBefore walk can.done (some.0 ∷ some.1) = subst (λ (l : List Record). IsBefore walk can.done l) some.2 can.before in
    let held = All-head CanBeHeld some.0 some.1 before.held in
    omega (arith, is can.done some.0 some.1 before, held.stamp, stamp)

-- a record more gets this stamp, and it goes on behind it
restamps-on : (walk mid new : Walk) (at : ℕ) (done : List ℕ) (rest : List Record) → walk.place < length walk.bytes.items
    → ((done : List ℕ) (r : Record) (rest : List Record) → IsBefore walk done (r ∷ rest) → IsBefore mid done (restamped at r ∷ rest)) → PassesOne mid new
    → IsBefore walk done rest
    → (r : Record) × (more : List Record) × (rest ≡ r ∷ more) × IsBefore walk done (r ∷ more)
    × IsBefore new (done ++ record_text (restamped at r)) more
restamps-on walk mid new at done rest within stamps one h =
    let some = some-record walk done rest within h in
    let before : IsBefore walk done (some.0 ∷ some.1) = subst (λ (l : List Record). IsBefore walk done l) some.2 h in
    (some.0, some.1, some.2, before, one done (restamped at some.0) some.1 (stamps done some.0 some.1 before))

pub walks-on : (walk mid new : Walk) (at : ℕ) → walk.place < length walk.bytes.items
    → ((done : List ℕ) (r : Record) (rest : List Record) → IsBefore walk done (r ∷ rest) → IsBefore mid done (restamped at r ∷ rest)) → PassesOne mid new
    → CanWalk walk → CanWalk new
walks-on walk mid new at within stamps one can =
    let on = restamps-on walk mid new at can.done can.rest within stamps one can.before in
    record { done = can.done ++ record_text (restamped at on.0); rest = on.1; before = on.4 }

pub holds-none : (least : ℕ) (walk : Walk) (done : List ℕ) (rest : List Record) → IsBefore walk done rest → HasHeld least walk done rest
holds-none least walk done rest h =
    record { front = []; back = rest; whole = refl; before = subst (λ l. IsBefore walk l rest) (sym (append-nil done)) h }

pub holds-more : (least : ℕ) (walk mid new : Walk) (stamp at : ℕ) (done : List ℕ) (rest : List Record) → walk.place < length walk.bytes.items
    → ((done : List ℕ) (r : Record) (rest : List Record) → IsBefore walk done (r ∷ rest) → stamp ≡ r.stamp) → at ≡ max stamp least
    → ((done : List ℕ) (r : Record) (rest : List Record) → IsBefore walk done (r ∷ rest) → IsBefore mid done (restamped at r ∷ rest)) → PassesOne mid new
    → HasHeld least walk done rest → HasHeld least new done rest
holds-more least walk mid new stamp at done rest within is e stamps one h =
    let before = done ++ came_text (held_back least h.front) in
    let on = restamps-on walk mid new at before h.back within stamps one h.before in
    let r = on.0 in
    let same : at ≡ max r.stamp least = e ∙ ap (λ x. max x least) (is before r on.1 on.3) in
    record {
      front = h.front ++ r ∷ [];
      back = on.1;
      whole = append_assoc h.front (r ∷ []) on.1 ∙ ap (λ (l : List Record). h.front ++ l) (sym on.2) ∙ h.whole;
      before = subst (λ l. IsBefore new l on.1)
          (ap (λ x. before ++ record_text (restamped x r)) same
          ∙ append_assoc done (came_text (held_back least h.front)) (record_text (restamped (max r.stamp least) r))
          ∙ ap (λ l. done ++ l) (sym (came-more (held_back least h.front) (restamped (max r.stamp least) r))
          ∙ ap came_text (sym (map-append (λ (x : Record). restamped (max x.stamp least) x) h.front (r ∷ [])))))
          on.4;
    }

-- at the end of the capture each has at least this stamp
no-more : (walk : Walk) (done : List ℕ) (rest : List Record) → length walk.bytes.items ≤ walk.place → IsBefore walk done rest → rest ≡ []
no-more walk done [] end h = refl
no-more walk done (r ∷ rest) end h = absurd (omega (arith, end, rest-length walk done (r ∷ rest) h, length-came r rest))

pub holds-all : (least : ℕ) (walk : Walk) (done : List ℕ) (rest : List Record) → length walk.bytes.items ≤ walk.place → HasHeld least walk done rest
    → walk.bytes.items ≡ done ++ came_text (held_back least rest)
holds-all least walk done rest end h =
    let before = done ++ came_text (held_back least h.front) in
    let none : h.back ≡ [] = no-more walk before h.back end h.before in
    let all : h.front ≡ rest = sym (append-nil h.front) ∙ ap (λ (l : List Record). h.front ++ l) (sym none) ∙ h.whole in
    h.before.text ∙ ap (λ (l : List Record). before ++ came_text l) none ∙ append-nil before
    ∙ ap (λ (l : List Record). done ++ came_text (held_back least l)) all
