-- Records that are taken one after the other.
use Rattle.std.proofs.Common.{◌≡◌, ◌≤◌, ◌+◌, ℕ, List, [], ◌∷◌, ◌++◌, length, Option, None, Some, refl, sym, ap, ◌∙◌, subst, append_assoc, append-nil}
use Rattle.std.proofs.Common.{length-append, arith}
use Rattle.std.specs.Prelude.{◌≢◌, map}
use Rattle.std.proofs.lemmas.List.{map-append}
use Rattle.timing_base.specs.Captures.{Record, raised}
use Rattle.timing_base.specs.declared.capture.FileNote.{FileNote}
use Rattle.timing_base.specs.declared.capture.FileNote.TheVariants.{Refused}
use Rattle.timing_base.specs.declared.capture.PcapFault.TheVariants as fault
use Rattle.pcap_reader.specs.Readers.{GivesNote}
use Rattle.pcap_reader.specs.Taken.{HasBegun, HasTaken, TakesFew, TakesNext}

-- no record is taken yet
pub taken-none : {T : Type 0} (gives : List Record → FileNote → Type 0) (takes : T → T → List Record → Type 0) (before : ℕ) (x : T) (count : ℕ)
    (items : List Record) (end : FileNote)
    → takes x x [] → count ≡ 0 → gives items end → HasBegun gives takes before x x count items end
taken-none gives takes before x count items end none zero given =
    record { taken = []; rest = items; whole = refl; given = given; count_is = sym zero; fed = none }

-- what is still to come, told otherwise
pub taken-gives : {T : Type 0} (gives next : List Record → FileNote → Type 0) (takes : T → T → List Record → Type 0) (before : ℕ) (old new : T)
    (count : ℕ) (items : List Record) (end : FileNote)
    → ((rest : List Record) → gives rest end → next rest end) → HasBegun gives takes before old new count items end
    → HasBegun next takes before old new count items end
taken-gives gives next takes before old new count items end same h =
    record { taken = h.taken; rest = h.rest; whole = h.whole; given = same h.rest h.given; count_is = h.count_is; fed = h.fed }

-- some records more are taken
pub taken-many : {T : Type 0} (gives next : List Record → FileNote → Type 0) (takes : T → T → List Record → Type 0) (before : ℕ) (old mid new : T)
    (count many counted : ℕ) (items : List Record) (end : FileNote)
    → ((a b : List Record) → takes old mid a → takes mid new b → takes old new (a ++ b))
    → counted ≡ count + many → HasBegun gives takes before old mid count items end
    → ((rest : List Record) → gives rest end → HasBegun next takes before mid new many rest end)
    → HasBegun next takes before old new counted items end
taken-many gives next takes before old mid new count many counted items end more sum h step =
    let t = step h.rest h.given in
    record {
      taken = h.taken ++ t.taken;
      rest = t.rest;
      whole = h.whole ∙ ap (λ l. h.taken ++ l) t.whole ∙ sym (append_assoc h.taken t.taken t.rest);
      given = t.given;
      count_is = length-append h.taken t.taken ∙ omega (arith, h.count_is, t.count_is, sum);
      fed = subst (takes old new) (sym (map-append (raised before) h.taken t.taken))
          (more (map (raised before) h.taken) (map (raised before) t.taken) h.fed t.fed);
    }

-- the next record was taken
pub taken-one : {T : Type 0} (gives : List Record → FileNote → Type 0) (takes : T → T → List Record → Type 0) (before : ℕ) (old new : T)
    (o : Option FileNote) (items : List Record) (end : FileNote)
    → o ≡ None → TakesNext gives takes before old new o items end → HasBegun gives takes before old new 1 items end
taken-one gives takes before old new o items end e step =
    let t = subst (λ (x : Option FileNote). TakesNext gives takes before old new x items end) e step in
    record { taken = t.0 ∷ []; rest = t.1; whole = t.2; given = t.3; count_is = refl; fed = t.4 }

-- there is no record more, so all were taken, or a read failed
pub taken-all : {T : Type 0} (gives next : List Record → FileNote → Type 0) (takes : T → T → List Record → Type 0) (before : ℕ) (old mid new : T)
    (count many : ℕ) (o : Option FileNote) (note : FileNote) (items : List Record) (end : FileNote)
    → new ≡ mid → o ≡ Some note → many ≡ count → HasBegun gives takes before old mid count items end
    → ((rest : List Record) → gives rest end → TakesNext next takes before mid new o rest end)
    → HasTaken takes before old new note many items end
taken-all gives next takes before old mid new count many o note items end kept e same h step = record {
  taken = h.taken;
  rest = h.rest;
  whole = h.whole;
  ends = subst (λ (x : Option FileNote). TakesNext next takes before mid new x h.rest end) e (step h.rest h.given);
  count_is = h.count_is ∙ sym same;
  fed = subst (λ x. takes old x (map (raised before) h.taken)) (sym kept) h.fed;
}

-- a note that is no failed read is how the records end
given-note : (told : FileNote) (items : List Record) (note : FileNote) → told ≢ Refused fault.ReadFault → GivesNote told items note
    → (items ≡ []) × (note ≡ told)
given-note (Refused fault.ReadFault) items note own p = absurd (own refl)
given-note told items note own p = p

-- all were taken, where no read failed
pub taken-whole : {T : Type 0} (takes : T → T → List Record → Type 0) (before : ℕ) (old new : T) (note : FileNote) (count : ℕ)
    (items : List Record) (end : FileNote) → note ≢ Refused fault.ReadFault → HasTaken takes before old new note count items end
    → (note ≡ end) × (count ≡ length items) × takes old new (map (raised before) items)
taken-whole takes before old new note count items end own h =
    let none = given-note note h.rest end own h.ends in
    let whole : h.taken ≡ items = sym (append-nil h.taken) ∙ ap (λ l. h.taken ++ l) (sym none.0) ∙ sym h.whole in (
      sym none.1,
      sym h.count_is ∙ ap length whole,
      subst (λ (l : List Record). takes old new (map (raised before) l)) whole h.fed,
    )

-- it stops at the next record
pub taken-stops : {T E : Type 0} (gives : List Record → FileNote → Type 0) (takes : T → T → List Record → Type 0)
    (stops : T → T → E → List Record → Type 0) (before : ℕ) (old mid new : T) (count : ℕ) (stop : E)
    (items : List Record) (end : FileNote)
    → ((a b : List Record) → takes old mid a → stops mid new stop b → stops old new stop (a ++ b))
    → HasBegun gives takes before old mid count items end
    → ((rest : List Record) → gives rest end → stops mid new stop (map (raised before) rest))
    → stops old new stop (map (raised before) items)
taken-stops gives takes stops before old mid new count stop items end ends h step =
    let e : map (raised before) items ≡ map (raised before) h.taken ++ map (raised before) h.rest
    = ap (map (raised before)) h.whole ∙ map-append (raised before) h.taken h.rest in
    subst (stops old new stop) (sym e) (ends (map (raised before) h.taken) (map (raised before) h.rest) h.fed (step h.rest h.given))

-- it stops at the first of these records
pub stops-first : {T E : Type 0} (stops : T → T → E → List Record → Type 0) (before : ℕ) (old new : T) (stop : E)
    (first item : Record) (later items : List Record) → items ≡ item ∷ later → first ≡ raised before item
    → ((b : List Record) → stops old new stop (first ∷ []) → stops old new stop ((first ∷ []) ++ b))
    → stops old new stop (first ∷ []) → stops old new stop (map (raised before) items)
stops-first stops before old new stop first item later items e same halts h =
    subst (λ (l : List Record). stops old new stop (map (raised before) l)) (sym e)
    (subst (λ (r : Record). stops old new stop (r ∷ map (raised before) later)) same (halts (map (raised before) later) h))

-- a record's number is raised
pub same-record : (before number count stamp : ℕ) (bytes frame : List ℕ) → number ≡ count → frame ≡ bytes
    → record { number = before + number; stamp = stamp; bytes = frame } ≡ raised before (record { number = count; stamp = stamp; bytes = bytes })
same-record before number count stamp bytes frame e same = cc

-- room, its numbers reckoned otherwise
pub room-same : {T : Type 0} (room : ℕ → ℕ → T → Type 0) (number other count many : ℕ) (x : T)
    → number ≡ other → count ≡ many → room number count x → room other many x
room-same room number other count many x e same h = subst (λ n. room n many x) e (subst (λ c. room number c x) same h)

-- no record
pub few-none : {T : Type 0} (takes : T → T → List Record → Type 0) (x : T) → takes x x [] → TakesFew takes 0 x x
few-none takes x none = record { items = []; few = omega arith; taken = none }

-- the same, with a greater limit
pub few-within : {T : Type 0} (takes : T → T → List Record → Type 0) (most more : ℕ) (old new : T) → most ≤ more → TakesFew takes most old new
    → TakesFew takes more old new
few-within takes most more old new h few = record { items = few.items; few = omega (arith, h, few.few); taken = few.taken }

-- some records, and then others
pub few-more : {T : Type 0} (takes : T → T → List Record → Type 0) (count next : ℕ) (old mid new : T)
    → ((a b : List Record) → takes old mid a → takes mid new b → takes old new (a ++ b))
    → TakesFew takes count old mid → TakesFew takes next mid new → TakesFew takes (count + next) old new
few-more takes count next old mid new more a b = record {
  items = a.items ++ b.items;
  few = omega (arith, length-append a.items b.items, a.few, b.few);
  taken = more a.items b.items a.taken b.taken;
}
