-- The judged packets of a kept flow leave, and what is printed of them is made.
use Rattle.std.specs.Prelude.{cond, max, nat_lt, slice_index, slice_index_or, string_bytes, Ok, Err}
use Rattle.std.proofs.Common.{◌≡◌, ◌≤◌, ◌<◌, ◌+◌, ◌-◌, ℕ, Bool, true, false, List, [], ◌∷◌, ◌++◌, length, take, drop, refl, arith, ap, ◌∙◌, sym}
use Rattle.std.proofs.Common.{subst, inl, inr}
use Rattle.std.proofs.Common.{append_assoc, length-append}
use Rattle.std.specs.List.{count_by}
use Rattle.std.proofs.lemmas.List.{drop_more, get_or-map, get_or-take, length-map, length-take-le, take_all, take_more}
use Rattle.timing_base.specs.Shifts.{Shift, shifted, unshifted}
use Rattle.flow_shaper.specs.Bounds.{BoundAt}
use Rattle.flow_shaper.specs.declared.departure.Departure.{Departure}
use Rattle.flow_shaper.specs.declared.departure.Late.{Late}
use Rattle.timing_base.specs.Captures.{Record}
use Rattle.timing_report.specs.declared.status.Status.TheVariants as status
use Rattle.timing_steps.specs.Answers.{Answer}
use Rattle.timing_reach.specs.Shapes.{IsLate, IsList, delays, delays_line, end_of, greatest, not_shaped}
use Rattle.timing_reach.specs.Shapes.{packet_line, packet_lines, shaped_capture}
use Rattle.timing_reach.specs.shape.Keeping.{record_text, restamped, stamps_of}
use Rattle.timing_reach.specs.shape.Leaving.{HasLet, IsFit, Leaves, Part}
use Rattle.timing_reach.specs.shape.Shaping.{DepartsSo, HasLeft, HasListed, IsListed, ListsSo, in_tai}
use Rattle.timing_reach.specs.shape.Walking.{CanSkip, IsBefore, PassesOne}
use Rattle.timing_reach.specs.declared.shape.delays.Delays.{Delays}
use Rattle.timing_reach.specs.declared.shape.leaver.Leaver.{Leaver}
use Rattle.timing_reach.specs.declared.shape.walk.Walk.{Walk}
use Rattle.timing_reach.proofs.Copies.{capture-judged, last-more}
use Rattle.timing_reach.proofs.Leavings.{let-in-time, next-late, next-leaves}
use Rattle.timing_reach.proofs.Listings.{bounds-more, count-more, delays-more, greatest-more, length-delays, lines-more}

-- so many left
let-count : (w : Part) (l : Leaver) (stamps departures : List ℕ) → HasLet w l stamps departures → length departures ≡ length stamps
let-count w l stamps departures h = h.stands.shaped.plan.each

pub at-most-one : (b : Bool) → cond b 1 0 ≤ 1
at-most-one true = omega arith
at-most-one false = omega arith

-- a packet more is listed
listed-more : (w : Part) (stamps departures : List ℕ) (old new : Delays) (packet at delay : ℕ) (d : Departure) → length departures ≡ length stamps
    → packet ≡ length stamps → delay ≡ d.at - at
    → BoundAt w.media w.n w.kind (stamps ++ at ∷ []) (departures ++ d.at ∷ []) (length stamps) d.bound
    → string_bytes new.lines ≡ string_bytes old.lines ++ packet_line packet delay d.bound
    → new.delayed ≡ old.delayed + cond (nat_lt 0 delay) 1 0 → new.greatest ≡ max old.greatest delay
    → IsListed w stamps departures old → IsListed w (stamps ++ at ∷ []) (departures ++ d.at ∷ []) new
listed-more w stamps departures old new packet at delay d same number late bound lines delayed most h =
    let ds = delays stamps departures in
    let size : length ds ≡ length stamps = length-delays stamps departures same in
    let more : delays (stamps ++ at ∷ []) (departures ++ d.at ∷ []) ≡ ds ++ delay ∷ [] =
    delays-more stamps departures at d.at same ∙ ap (λ x. ds ++ x ∷ []) (sym late) in
    let place : packet ≡ 0 + length ds = omega (arith, number, size) in
    record {
      bounds = h.bounds ++ d.bound ∷ [];
      are = bounds-more w.media w.n w.kind stamps departures h.bounds at d.at d.bound same bound h.are;
      lines = lines
          ∙ ap (λ l. l ++ packet_line packet delay d.bound) h.lines
          ∙ ap (λ k. packet_lines 0 ds h.bounds ++ packet_line k delay d.bound) place
          ∙ sym (lines-more 0 ds h.bounds delay d.bound (h.are.each ∙ sym size))
          ∙ ap (λ l. packet_lines 0 l (h.bounds ++ d.bound ∷ [])) (sym more);
      delayed = delayed ∙ ap (λ k. k + cond (nat_lt 0 delay) 1 0) h.delayed ∙ sym (count-more ds delay) ∙ ap (count_by (nat_lt 0)) (sym more);
      most = most ∙ ap (λ k. max k delay) h.most ∙ sym (greatest-more ds delay) ∙ ap greatest (sym more);
    }

-- the stamp of packet i after the shift
pub shifted-at : (shift : Shift) (stamps : List ℕ) (i : ℕ) → i < length stamps → shifted shift (slice_index stamps i) ≡ slice_index (in_tai shift stamps) i
shifted-at shift stamps i within = sym (get_or-map (shifted shift) stamps i 0 0 within)

pub listed-next : (w : Part) (old new : Leaver) (before after : Delays) (stamps : List ℕ) (i at delay : ℕ) (d : Departure) → i < length stamps
    → at ≡ slice_index stamps i → new.shift ≡ old.shift → delay ≡ d.at - shifted new.shift at
    → ((w : Part) (stamps departures : List ℕ) → HasLet w old stamps departures → Leaves w new stamps departures (shifted w.shift at) (Ok d))
    → string_bytes after.lines ≡ string_bytes before.lines ++ packet_line i delay d.bound
    → after.delayed ≡ before.delayed + cond (nat_lt 0 delay) 1 0 → after.greatest ≡ max before.greatest delay
    → IsFit w.origin (in_tai w.shift stamps) → HasListed w old before (in_tai w.shift stamps) i → HasListed w new after (in_tai w.shift stamps) (i + 1)
listed-next w old new before after stamps i at delay d within is same late leaves lines delayed most fit h =
    let all = in_tai w.shift stamps in
    let long : length all ≡ length stamps = length-map stamps (shifted w.shift) in
    let came : shifted w.shift at ≡ slice_index all i = ap (shifted w.shift) is ∙ shifted-at w.shift stamps i within in
    let next = next-leaves w old new all h.departures i (shifted w.shift at) d (omega (arith, within, long)) came fit
    (leaves w (take i all) h.departures h.left) in
    let size : length (take i all) ≡ i = length-take-le i all (omega (arith, within, long)) in
    let more : take (i + 1) all ≡ take i all ++ shifted w.shift at ∷ [] =
    take_more all i 0 (omega (arith, within, long)) ∙ ap (λ x. take i all ++ x ∷ []) (sym came) in
    record {
      departures = h.departures ++ d.at ∷ [];
      left = next.1;
      listed = subst (λ l. IsListed w l (h.departures ++ d.at ∷ []) after) (sym more)
          (listed-more w (take i all) h.departures before after i (shifted w.shift at) delay d (let-count w old (take i all) h.departures h.left) (sym size)
          (late ∙ ap (λ (x : Shift). d.at - shifted x at) (same ∙ h.left.shift)) next.0 lines delayed most h.listed);
    }

-- a packet is late
pub lists-late : (w : Part) (old new : Leaver) (before : Delays) (stamps : List ℕ) (i at : ℕ) (late : Late) (answer : Answer) → i < length stamps
    → at ≡ slice_index stamps i → answer ≡ not_shaped late.packet
    → ((w : Part) (stamps departures : List ℕ) → HasLet w old stamps departures → Leaves w new stamps departures (shifted w.shift at) (Err late))
    → IsFit w.origin (in_tai w.shift stamps) → HasListed w old before (in_tai w.shift stamps) i → ListsSo w (in_tai w.shift stamps) answer
lists-late w old new before stamps i at late answer within is e leaves fit h =
    let all = in_tai w.shift stamps in
    let long : length all ≡ length stamps = length-map stamps (shifted w.shift) in
    let came : shifted w.shift at ≡ slice_index all i = ap (shifted w.shift) is ∙ shifted-at w.shift stamps i within in
    inr (record {
      packet = late.packet;
      late = next-late w old new all h.departures i (shifted w.shift at) late (omega (arith, within, long)) came fit
          (leaves w (take i all) h.departures h.left);
      answer_is = e;
    })

-- all are listed
listed-text : (w : Part) (stamps departures : List ℕ) (packets : ℕ) (d : Delays) → length departures ≡ length stamps → length stamps ≡ packets
    → IsListed w stamps departures d
    → IsList w.media w.n w.kind stamps departures (string_bytes d.lines ++ delays_line d.delayed packets d.greatest)
listed-text w stamps departures packets d each size h =
    let ds = delays stamps departures in
    let count : packets ≡ length ds = omega (arith, size, length-delays stamps departures each) in
    record {
      bounds = h.bounds;
      are = h.are;
      text_is = ap (λ l. l ++ delays_line d.delayed packets d.greatest) h.lines
          ∙ ap (λ k. packet_lines 0 ds h.bounds ++ delays_line k packets d.greatest) h.delayed
          ∙ ap (λ k. packet_lines 0 ds h.bounds ++ delays_line (count_by (nat_lt 0) ds) k d.greatest) count
          ∙ ap (λ k. packet_lines 0 ds h.bounds ++ delays_line (count_by (nat_lt 0) ds) (length ds) k) h.most;
    }

pub lists-all : (w : Part) (l : Leaver) (d : Delays) (stamps : List ℕ) (answer : Answer)
    → answer ≡ record { text = string_bytes d.lines ++ delays_line d.delayed (length stamps) d.greatest; status = status.Pass }
    → HasListed w l d (in_tai w.shift stamps) (length stamps) → ListsSo w (in_tai w.shift stamps) answer
lists-all w l d stamps answer is h =
    let all = in_tai w.shift stamps in
    let long : length all ≡ length stamps = length-map stamps (shifted w.shift) in
    let whole : take (length stamps) all ≡ all = take_all (length stamps) all (omega (arith, long)) in
    let left : HasLet w l all h.departures = subst (λ x. HasLet w l x h.departures) whole h.left in
    let listed : IsListed w all h.departures d = subst (λ x. IsListed w x h.departures d) whole h.listed in
    inl (record {
      departures = h.departures;
      leave = let-in-time w l all h.departures left;
      text = string_bytes d.lines ++ delays_line d.delayed (length stamps) d.greatest;
      list = listed-text w all h.departures (length stamps) d (let-count w l all h.departures left) long listed;
      answer_is = is;
    })

-- no record
abbrev no_record : Record
no_record = record { number = 0; stamp = 0; bytes = [] }

-- the judged packets, by their records
judged-at : (shift : Shift) (count i : ℕ) (records : List Record) → i < count → count ≤ length records
    → slice_index (in_tai shift (stamps_of (take count records))) i ≡ shifted shift (slice_index_or records i no_record).stamp
judged-at shift count i records low few =
    let part = take count records in
    let size : length part ≡ count = length-take-le count records few in
    let long : length (stamps_of part) ≡ count = length-map part (λ (r : Record). r.stamp) ∙ size in
    get_or-map (shifted shift) (stamps_of part) i 0 0 (omega (arith, low, long))
    ∙ ap (shifted shift) (get_or-map (λ (r : Record). r.stamp) part i no_record 0 (omega (arith, low, size)))
    ∙ ap (λ (r : Record). shifted shift r.stamp) (get_or-take count records i no_record low)

judged-count : (shift : Shift) (count : ℕ) (records : List Record) → count ≤ length records → length (in_tai shift (stamps_of (take count records))) ≡ count
judged-count shift count records few =
    length-map (stamps_of (take count records)) (shifted shift) ∙ length-map (take count records) (λ (r : Record). r.stamp)
    ∙ length-take-le count records few

-- what is known of the next packet
pub record IsNext (w : Part) (walk : Walk) (stamp : ℕ) (done : List ℕ) (records : List Record) (stamps : List ℕ) (i : ℕ) : Type 0 where
  pub within : i < length stamps
  pub came : shifted w.shift stamp ≡ slice_index stamps i
  pub before : IsBefore walk done (slice_index_or records i no_record ∷ drop (i + 1) records)

pub next-one : (w : Part) (walk : Walk) (stamp : ℕ) (done : List ℕ) (records : List Record) (stamps : List ℕ) (count i : ℕ) → i < count → count ≤ length records
    → stamps ≡ in_tai w.shift (stamps_of (take count records))
    → ((done : List ℕ) (r : Record) (rest : List Record) → IsBefore walk done (r ∷ rest) → stamp ≡ r.stamp)
    → IsBefore walk done (drop i records) → IsNext w walk stamp done records stamps i
next-one w walk stamp done records stamps count i low few are is h =
    let r = slice_index_or records i no_record in
    let before : IsBefore walk done (r ∷ drop (i + 1) records) =
    subst (λ (l : List Record). IsBefore walk done l) (drop_more records i no_record (omega (arith, low, few))) h in
    record {
      within = omega (arith, low, ap length are, judged-count w.shift count records few);
      came = ap (shifted w.shift) (is done r (drop (i + 1) records) before) ∙ sym (judged-at w.shift count i records low few)
          ∙ ap (λ l. slice_index l i) (sym are);
      before = before;
    }

-- a judged packet more leaves
pub left-next : (w : Part) (old new : Leaver) (walk mid next : Walk) (before stamp left : ℕ) (head records : List Record) (stamps : List ℕ) (count i : ℕ)
    (d : Departure) → i < count → count ≤ length records → stamps ≡ in_tai w.shift (stamps_of (take count records)) → IsFit w.origin stamps
    → ((done : List ℕ) (r : Record) (rest : List Record) → IsBefore walk done (r ∷ rest) → stamp ≡ r.stamp)
    → ((w : Part) (stamps departures : List ℕ) → HasLet w old stamps departures → Leaves w new stamps departures (shifted w.shift stamp) (Ok d))
    → new.shift ≡ old.shift → left ≡ unshifted new.shift d.at
    → ((done : List ℕ) (r : Record) (rest : List Record) → IsBefore walk done (r ∷ rest) → IsBefore mid done (restamped left r ∷ rest))
    → PassesOne mid next → HasLeft w old walk before head records stamps i → HasLeft w new next left head records stamps (i + 1)
left-next w old new walk mid next before stamp left head records stamps count i d low few are fit is leaves same at stamped one h =
    let r = slice_index_or records i no_record in
    let ds = h.departures in
    let more = ds ++ d.at ∷ [] in
    let front = head ++ take i records in
    let done = shaped_capture w.shift (length head) ds front in
    let known = next-one w walk stamp done records stamps count i low few are is h.before in
    let gone = next-leaves w old new stamps ds i (shifted w.shift stamp) d known.within known.came fit (leaves w (take i stamps) ds h.let_go) in
    let within : i < length records = omega (arith, low, few) in
    let size : length (take i records) ≡ i = length-take-le i records (omega (arith, within)) in
    let seen : length (take i stamps) ≡ i = length-take-le i stamps (omega (arith, known.within)) in
    let place : length front ≡ length head + length ds =
    omega (arith, length-append head (take i records), size, seen, let-count w old (take i stamps) ds h.let_go) in
    let here : left ≡ unshifted w.shift d.at = at ∙ ap (λ (x : Shift). unshifted x d.at) (same ∙ h.let_go.shift) in
    let text : done ++ record_text (restamped left r) ≡ shaped_capture w.shift (length head) more (head ++ take (i + 1) records) =
    ap (λ x. done ++ record_text (restamped x r)) here ∙ sym (capture-judged w.shift (length head) ds d.at front r place)
    ∙ ap (shaped_capture w.shift (length head) more) (append_assoc head (take i records) (r ∷ [])
    ∙ ap (λ (l : List Record). head ++ l) (sym (take_more records i no_record within))) in
    record {
      departures = more;
      let_go = gone.1;
      last = here ∙ sym (last-more w.shift ds d.at);
      before = subst (λ l. IsBefore next l (drop (i + 1) records)) text
          (one done (restamped left r) (drop (i + 1) records) (stamped done r (drop (i + 1) records) known.before));
    }

-- one is late
pub departs-late : (w : Part) (old new : Leaver) (walk : Walk) (before stamp : ℕ) (head records : List Record) (stamps : List ℕ) (count i : ℕ) (late : Late)
    → i < count → count ≤ length records → stamps ≡ in_tai w.shift (stamps_of (take count records)) → IsFit w.origin stamps
    → ((done : List ℕ) (r : Record) (rest : List Record) → IsBefore walk done (r ∷ rest) → stamp ≡ r.stamp)
    → ((w : Part) (stamps departures : List ℕ) → HasLet w old stamps departures → Leaves w new stamps departures (shifted w.shift stamp) (Err late))
    → HasLeft w old walk before head records stamps i → IsLate w.media w.n w.kind (end_of w.shift) stamps late.packet
departs-late w old new walk before stamp head records stamps count i late low few are fit is leaves h =
    let known =
    next-one w walk stamp (shaped_capture w.shift (length head) h.departures (head ++ take i records)) records stamps count i low few are is h.before in
    next-late w old new stamps h.departures i (shifted w.shift stamp) late known.within known.came fit (leaves w (take i stamps) h.departures h.let_go)

-- all left
pub departs-all : (w : Part) (l : Leaver) (walk : Walk) (left : ℕ) (head records : List Record) (stamps : List ℕ) (count : ℕ) → count ≤ length records
    → stamps ≡ in_tai w.shift (stamps_of (take count records)) → HasLeft w l walk left head records stamps count
    → DepartsSo w walk head records stamps count (Ok left)
departs-all w l walk left head records stamps count few are h =
    let whole : take count stamps ≡ stamps = take_all count stamps (omega (arith, ap length are, judged-count w.shift count records few)) in
    let gone : HasLet w l stamps h.departures = subst (λ x. HasLet w l x h.departures) whole h.let_go in
    (h.departures, let-in-time w l stamps h.departures gone, h.last, h.before)

-- it can go on
pub skips-more : (walk : Walk) (done : List ℕ) (rest : List Record) (n : ℕ) → n + 1 ≤ length rest → (r : Record) × (more : List Record) × (rest ≡ r ∷ more)
skips-more walk done [] n few = absurd (omega (arith, few))
skips-more walk done (r ∷ more) n few = (r, more, refl)

pub skip-record : (walk : Walk) (count i : ℕ) → i < count → CanSkip (count - i) walk
    → (done : List ℕ) × (r : Record) × (rest : List Record) × (count - (i + 1) ≤ length rest) × IsBefore walk done (r ∷ rest)
skip-record walk count i low can =
    let few : count - (i + 1) + 1 ≤ length can.rest = omega (arith, low, can.many) in
    let some = skips-more walk can.done can.rest (count - (i + 1)) few in (
      can.done,
      some.0,
      some.1,
      omega (arith, few, ap length some.2),
      subst (λ (l : List Record). IsBefore walk can.done l) some.2 can.before,
    )

pub skip-on : (walk mid next : Walk) (at count i : ℕ) → i < count → CanSkip (count - i) walk
    → ((done : List ℕ) (r : Record) (rest : List Record) → IsBefore walk done (r ∷ rest) → IsBefore mid done (restamped at r ∷ rest)) → PassesOne mid next
    → CanSkip (count - (i + 1)) next
skip-on walk mid next at count i low can stamped one =
    let some = skip-record walk count i low can in
    record {
      done = some.0 ++ record_text (restamped at some.1);
      rest = some.2;
      before = one some.0 (restamped at some.1) some.2 (stamped some.0 some.1 some.2 some.4);
      many = some.3;
    }
