-- The answer on a flow that is kept, and that is judged in one run of whole frames.
use Rattle.std.specs.Prelude.{slice_index, Result, Ok, Err}
use Rattle.std.proofs.Common.{◌≡◌, ◌≤◌, ◌<◌, ◌+◌, ◌-◌, ℕ, Bool, true, false, List, [], ◌∷◌, ◌++◌, length, take, drop, All, refl, arith, ap, ◌∙◌, sym}
use Rattle.std.proofs.Common.{subst, inl, inr}
use Rattle.std.proofs.Common.{append_assoc, length-append}
use Rattle.std.specs.Global.{Global}
use Rattle.std.specs.declared.vec.Vec.{Vec}
use Rattle.std.proofs.lemmas.Nat.{mul-le}
use Rattle.std.proofs.lemmas.List.{drop-map, length-drop, length-map, length-take-le, take-append-drop, take-map}
use Rattle.std.proofs.lemmas.List.Elements.{All-drop, All-get_or, All-map, All-same, All-take, All-weaker}
use Rattle.timing_base.specs.Shifts.{Shift, shifted}
use Rattle.pcap_reader.specs.WrittenHeads.{file_head}
use Rattle.timing_base.specs.Captures.{IsStamp, Record}
use Rattle.timing_base.specs.Grouped.{IsGrouped}
use Rattle.timing_base.specs.Judged.{JudgedRun}
use Rattle.timing_base.specs.Media.{Media}
use Rattle.timing_base.specs.Verdicts.{Judged}
use Rattle.timing_base.specs.declared.media.Kind.{Kind}
use Rattle.timing_report.specs.declared.status.Status.TheVariants as status
use Rattle.flow_shaper.specs.declared.departure.Late.{Late}
use Rattle.timing_steps.specs.Answers.{Answer}
use Rattle.timing_reach.specs.ShapedAgain.{CanBeHeld}
use Rattle.timing_reach.specs.Shapes.{HasShape, IsLate, IsList, LeaveInTime, end_of, flow_records, not_shaped, shaped_capture}
use Rattle.timing_reach.specs.shape.Keeping.{AreKept, came_text, stamps_of}
use Rattle.timing_reach.specs.shape.Leaving.{HasLet, IsFit, Part}
use Rattle.timing_reach.specs.shape.Readings.{IsKept}
use Rattle.timing_reach.specs.shape.Shaping.{CanShape, Departs, DepartsSo, IsRunOf, IsShapeOf, ListsSo, in_tai}
use Rattle.timing_reach.specs.shape.Walking.{CanSkip, HoldsAll, IsBefore, PassesAll}
use Rattle.timing_reach.specs.declared.shape.kept.Kept.TheVariants.{Capture, Stamps}
use Rattle.timing_reach.specs.declared.shape.leaver.Leaver.{Leaver}
use Rattle.timing_reach.specs.declared.shape.walk.Walk.{Walk}
use Rattle.timing_reach.proofs.Copies.{capture-head, capture-tail}
use Rattle.timing_reach.proofs.Shapings.{next-one, skips-more, shifted-at}

-- the packets of a part that is judged so
abbrev pub part_of : Media → Kind → (shift : Shift) (first : ℕ) → Judged → Part
part_of m kind shift first j = record { media = m; n = j.n; kind = kind; shift = shift; origin = shifted shift first }

-- some packet is judged
pub some-packet : (shift : Shift) (j : Judged) (records : List Record) (run : JudgedRun) → IsRunOf shift j records run → 1 ≤ j.packets
some-packet shift j records run h =
    omega (arith, h.count, h.grouped.whole, mul-le 1 1 run.n run.groups h.grouped.some h.grouped.some_groups)

-- they can be shaped from the first one on
run-fit : (shift : Shift) (first : ℕ) (run : JudgedRun) → IsGrouped run → (0 < length run.stamps → slice_index run.stamps 0 ≡ shifted shift first)
    → IsFit (shifted shift first) run.stamps
run-fit shift first run g opens = record { ordered = λ j i order low. g.rising j i 0 order low; first = opens }

-- of what is kept for a list or for a capture
kept-stamps : (list : Bool) (stamps : Vec ℕ Global) (records : List Record) → AreKept list (Stamps stamps) records
    → (list ≡ true) × (stamps.items ≡ stamps_of records)
kept-stamps true stamps records h = (refl, h)
kept-stamps false stamps records h = absurd h

kept-capture : (list : Bool) (bytes : Vec ℕ Global) (records : List Record) → AreKept list (Capture bytes) records
    → (list ≡ false) × (bytes.items ≡ file_head ++ came_text records)
kept-capture true bytes records h = absurd h
kept-capture false bytes records h = (refl, h)

-- the stamps of a list
pub list-within : (m : Media) (shift : Shift) (j : Judged) (stamps : Vec ℕ Global) → CanShape m shift j (Stamps stamps)
    → j.head + j.packets ≤ length stamps.items
list-within m shift j stamps can =
    let records = flow_records m can.items in
    let is = kept-stamps can.list stamps records can.kept.kept in
    omega (arith, can.run_is.within, ap length is.1, length-map records (λ (r : Record). r.stamp))

-- the stamps of its judged packets
abbrev pub judged_part : Judged → List ℕ → List ℕ
judged_part j stamps = take (j.head + j.packets - j.head) (drop j.head stamps)

pub part-same : (j : Judged) (head packets : ℕ) (part stamps : List ℕ) → head ≡ j.head → packets ≡ j.packets → part ≡ stamps
    → take (head + packets - head) (drop head part) ≡ judged_part j stamps
part-same j head packets part stamps first count all =
    ap (λ l. take (head + packets - head) (drop head l)) all ∙ ap (λ k. take (k + packets - k) (drop k stamps)) first
    ∙ ap (λ k. take (j.head + k - j.head) (drop j.head stamps)) count

pub part-held : (m : Media) (shift : Shift) (j : Judged) (stamps : Vec ℕ Global) → CanShape m shift j (Stamps stamps) → All IsStamp (judged_part j stamps.items)
part-held m shift j stamps can =
    let records = flow_records m can.items in
    let is = kept-stamps can.list stamps records can.kept.kept in
    All-take IsStamp (j.head + j.packets - j.head) (drop j.head stamps.items)
    (All-drop IsStamp j.head stamps.items
    (All-same IsStamp stamps.items (stamps_of records) is.1
    (All-map IsStamp (λ (r : Record). r.stamp) records
    (All-weaker CanBeHeld (λ (r : Record). IsStamp r.stamp) (λ r h. h.stamp) records can.kept.held))))

part-is : (shift : Shift) (j : Judged) (records : List Record) (run : JudgedRun) (stamps : List ℕ) → stamps ≡ stamps_of records → IsRunOf shift j records run
    → in_tai shift (judged_part j stamps) ≡ run.stamps
part-is shift j records run stamps e h =
    let count : j.head + j.packets - j.head ≡ j.packets = omega arith in
    let stamp = λ (r : Record). r.stamp in
    ap (λ k. in_tai shift (take k (drop j.head stamps))) count
    ∙ ap (in_tai shift) (ap (λ l. take j.packets (drop j.head l)) e ∙ ap (take j.packets) (drop-map stamp j.head records)
    ∙ take-map stamp j.packets (drop j.head records))
    ∙ h.stamps

pub part-length : (m : Media) (shift : Shift) (j : Judged) (stamps : Vec ℕ Global) → CanShape m shift j (Stamps stamps)
    → length (judged_part j stamps.items) ≡ j.packets
part-length m shift j stamps can =
    let within = list-within m shift j stamps can in
    let rest : length (drop j.head stamps.items) ≡ length stamps.items - j.head = length-drop j.head stamps.items in
    length-take-le (j.head + j.packets - j.head) (drop j.head stamps.items) (omega (arith, rest, within)) ∙ omega arith

pub first-held : (m : Media) (shift : Shift) (j : Judged) (stamps : Vec ℕ Global) → CanShape m shift j (Stamps stamps)
    → IsStamp (slice_index (judged_part j stamps.items) 0)
first-held m shift j stamps can =
    let some = some-packet shift j (flow_records m can.items) can.run can.run_is in
    All-get_or IsStamp (judged_part j stamps.items) 0 0 (omega (arith, some, part-length m shift j stamps can)) (part-held m shift j stamps can)

-- the answer with a list
listed-shape : (m : Media) (kind : Kind) (shift : Shift) (first : ℕ) (j : Judged) (items : List Record) (run : JudgedRun) (answer : Answer) → j.n ≡ run.n
    → ListsSo (part_of m kind shift first j) run.stamps answer → HasShape true shift kind m items run answer
listed-shape m kind shift first j items run answer group (inl all) = inl (record {
  departures = all.departures;
  leave = subst (λ n. LeaveInTime m n kind (end_of shift) run.stamps all.departures) group all.leave;
  text = all.text;
  prints = subst (λ n. IsList m n kind run.stamps all.departures all.text) group all.list;
  answer_is = all.answer_is;
})
listed-shape m kind shift first j items run answer group (inr late) = inr (record {
  packet = late.packet;
  late = subst (λ n. IsLate m n kind (end_of shift) run.stamps late.packet) group late.late;
  answer_is = late.answer_is;
})

pub list-shape : (m : Media) (kind : Kind) (shift : Shift) (first : ℕ) (j : Judged) (stamps : Vec ℕ Global) (answer : Answer)
    → first ≡ slice_index (judged_part j stamps.items) 0
    → (IsFit (shifted shift first) (in_tai shift (judged_part j stamps.items))
    → ListsSo (part_of m kind shift first j) (in_tai shift (judged_part j stamps.items)) answer)
    → IsShapeOf m kind shift j (Stamps stamps) answer
list-shape m kind shift first j stamps answer opens lists = λ list items run run_is kept.
    let is = kept-stamps list stamps (flow_records m items) kept.kept in
    let part = judged_part j stamps.items in
    let same : in_tai shift part ≡ run.stamps = part-is shift j (flow_records m items) run stamps.items is.1 run_is in
    let fit = run-fit shift first run run_is.grouped
    (λ some. ap (λ l. slice_index l 0) (sym same)
    ∙ sym (shifted-at shift part 0 (omega (arith, some, ap length same, length-map part (shifted shift))))
    ∙ ap (shifted shift) (sym opens)) in
    let said = lists (subst (IsFit (shifted shift first)) (sym same) fit) in
    subst (λ b. HasShape b shift kind m items run answer) (sym is.0)
    (listed-shape m kind shift first j items run answer run_is.group
    (subst (λ l. ListsSo (part_of m kind shift first j) l answer) same said))

-- a walk that stands before the judged packets of a capture
pub record IsAtRun (shift : Shift) (j : Judged) (walk : Walk) (records : List Record) (run : JudgedRun) : Type 0 where
  pub size : length (take j.head records) ≡ j.head
  pub before : IsBefore walk (shaped_capture shift (length (take j.head records)) [] (take j.head records)) (drop j.head records)
  pub many : j.packets ≤ length (drop j.head records)
  pub stamps : run.stamps ≡ in_tai shift (stamps_of (take j.packets (drop j.head records)))

at-run : (shift : Shift) (j : Judged) (begun walk : Walk) (records : List Record) (run : JudgedRun) → IsBefore begun file_head records
    → PassesAll j.head begun walk → IsRunOf shift j records run → IsAtRun shift j walk records run
at-run shift j begun walk records run start passed h =
    let size : length (take j.head records) ≡ j.head = length-take-le j.head records (omega (arith, h.within)) in
    record {
      size = size;
      before = subst (λ l. IsBefore walk l (drop j.head records))
          (sym (capture-head shift (length (take j.head records)) (take j.head records) (omega arith)))
          (passed file_head records start (omega (arith, h.within)));
      many = omega (arith, h.within, length-drop j.head records);
      stamps = sym h.stamps;
    }

-- the records of a capture, from its start
pub kept-before : (m : Media) (list : Bool) (bytes : Vec ℕ Global) (items : List Record) (begun : Walk)
    → ((records : List Record) → bytes.items ≡ file_head ++ came_text records → All CanBeHeld records → IsBefore begun file_head records)
    → IsKept m list (Capture bytes) items → IsBefore begun file_head (flow_records m items)
kept-before m list bytes items begun new kept =
    new (flow_records m items) (kept-capture list bytes (flow_records m items) kept.kept).1 kept.held

pub can-depart : (m : Media) (shift : Shift) (j : Judged) (bytes : Vec ℕ Global) (begun walk : Walk)
    → ((records : List Record) → bytes.items ≡ file_head ++ came_text records → All CanBeHeld records → IsBefore begun file_head records)
    → PassesAll j.head begun walk → CanShape m shift j (Capture bytes) → CanSkip j.packets walk
can-depart m shift j bytes begun walk new passed can =
    let records = flow_records m can.items in
    let at = at-run shift j begun walk records can.run (kept-before m can.list bytes can.items begun new can.kept) passed can.run_is in
    record { done = _; rest = drop j.head records; before = at.before; many = at.many }

pub first-head : (m : Media) (shift : Shift) (j : Judged) (bytes : Vec ℕ Global) (begun walk : Walk)
    → ((records : List Record) → bytes.items ≡ file_head ++ came_text records → All CanBeHeld records → IsBefore begun file_head records)
    → PassesAll j.head begun walk → CanShape m shift j (Capture bytes)
    → (done : List ℕ) × (r : Record) × (rest : List Record) × IsBefore walk done (r ∷ rest)
first-head m shift j bytes begun walk new passed can =
    let records = flow_records m can.items in
    let skip = can-depart m shift j bytes begun walk new passed can in
    let some = some-packet shift j records can.run can.run_is in
    let first = skips-more walk skip.done skip.rest 0 (omega (arith, some, skip.many)) in
    (skip.done, first.0, first.1, subst (λ (l : List Record). IsBefore walk skip.done l) first.2 skip.before)

-- whatever flow is kept, what became of its judged packets
captured-run : (m : Media) (kind : Kind) (shift : Shift) (first : ℕ) (j : Judged) (bytes : Vec ℕ Global) (begun walk gone : Walk) (leaver : Leaver)
    (result : Result ℕ Late)
    → ((records : List Record) → bytes.items ≡ file_head ++ came_text records → All CanBeHeld records → IsBefore begun file_head records)
    → PassesAll j.head begun walk
    → ((done : List ℕ) (r : Record) (rest : List Record) → IsBefore walk done (r ∷ rest) → first ≡ r.stamp)
    → HasLet (part_of m kind shift first j) leaver [] [] → Departs j.packets leaver walk gone result
    → (list : Bool) (items : List Record) (run : JudgedRun) → IsRunOf shift j (flow_records m items) run → IsKept m list (Capture bytes) items
    → DepartsSo (part_of m kind shift first j) gone (take j.head (flow_records m items)) (drop j.head (flow_records m items)) run.stamps j.packets result
captured-run m kind shift first j bytes begun walk gone leaver result new passed is given departs = λ list items run run_is kept.
    let w = part_of m kind shift first j in
    let records = flow_records m items in
    let at = at-run shift j begun walk records run (kept-before m list bytes items begun new kept) passed run_is in
    let known =
    next-one w walk first (shaped_capture shift (length (take j.head records)) [] (take j.head records)) (drop j.head records) run.stamps j.packets 0
    (omega (arith, some-packet shift j records run run_is)) at.many at.stamps is at.before in
    let fit = run-fit shift first run run_is.grouped (λ some. sym known.came) in
    departs w (take j.head records) (drop j.head records) run.stamps given at.before at.many at.stamps fit

-- the answer with a capture
pub capture-shape : (m : Media) (kind : Kind) (shift : Shift) (first : ℕ) (j : Judged) (bytes : Vec ℕ Global) (begun walk gone end : Walk) (leaver : Leaver)
    (left : ℕ) (answer : Answer)
    → ((records : List Record) → bytes.items ≡ file_head ++ came_text records → All CanBeHeld records → IsBefore begun file_head records)
    → PassesAll j.head begun walk
    → ((done : List ℕ) (r : Record) (rest : List Record) → IsBefore walk done (r ∷ rest) → first ≡ r.stamp)
    → HasLet (part_of m kind shift first j) leaver [] [] → Departs j.packets leaver walk gone (Ok left) → HoldsAll left gone end
    → answer ≡ record { text = end.bytes.items; status = status.Pass } → IsShapeOf m kind shift j (Capture bytes) answer
capture-shape m kind shift first j bytes begun walk gone end leaver left answer new passed is given departs holds e = λ list items run run_is kept.
    let records = flow_records m items in
    let head = take j.head records in
    let rest = drop j.head records in
    let said = captured-run m kind shift first j bytes begun walk gone leaver (Ok left) new passed is given departs list items run run_is kept in
    let ds = said.0 in
    let front = head ++ take j.packets rest in
    let size : length head ≡ j.head = length-take-le j.head records (omega (arith, run_is.within)) in
    let many : length (take j.packets rest) ≡ j.packets =
    length-take-le j.packets rest (omega (arith, run_is.within, length-drop j.head records)) in
    let behind : length head + length ds ≤ length front =
    omega (arith, length-append head (take j.packets rest), many, said.1.shaped.plan.each, run_is.count) in
    let text : end.bytes.items ≡ shaped_capture shift run.head ds records =
    holds (shaped_capture shift (length head) ds front) (drop j.packets rest) said.3
    ∙ capture-tail shift (length head) left ds front (drop j.packets rest) said.2 behind
    ∙ ap (shaped_capture shift (length head) ds) (append_assoc head (take j.packets rest) (drop j.packets rest)
    ∙ ap (λ (l : List Record). head ++ l) (take-append-drop j.packets rest) ∙ take-append-drop j.head records)
    ∙ ap (λ k. shaped_capture shift k ds records) (size ∙ run_is.head) in
    subst (λ b. HasShape b shift kind m items run answer) (sym (kept-capture list bytes records kept.kept).0)
    (inl (record {
      departures = ds;
      leave = subst (λ n. LeaveInTime m n kind (end_of shift) run.stamps ds) run_is.group said.1;
      text = end.bytes.items;
      prints = text;
      answer_is = e;
    }))

pub capture-late : (m : Media) (kind : Kind) (shift : Shift) (first : ℕ) (j : Judged) (bytes : Vec ℕ Global) (begun walk gone : Walk) (leaver : Leaver)
    (late : Late) (answer : Answer)
    → ((records : List Record) → bytes.items ≡ file_head ++ came_text records → All CanBeHeld records → IsBefore begun file_head records)
    → PassesAll j.head begun walk
    → ((done : List ℕ) (r : Record) (rest : List Record) → IsBefore walk done (r ∷ rest) → first ≡ r.stamp)
    → HasLet (part_of m kind shift first j) leaver [] [] → Departs j.packets leaver walk gone (Err late)
    → answer ≡ not_shaped late.packet → IsShapeOf m kind shift j (Capture bytes) answer
capture-late m kind shift first j bytes begun walk gone leaver late answer new passed is given departs e = λ list items run run_is kept.
    let said = captured-run m kind shift first j bytes begun walk gone leaver (Err late) new passed is given departs list items run run_is kept in
    inr (record {
      packet = late.packet;
      late = subst (λ n. IsLate m n kind (end_of shift) run.stamps late.packet) run_is.group said;
      answer_is = e;
    })
