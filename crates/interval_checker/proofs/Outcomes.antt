-- The answer on a run, and on the runs of a flow.
use Rattle.std.proofs.Common.{◌≡◌, ◌≢◌, ◌≤◌, ◌<◌, ◌+◌, ◌-◌, ◌↔◌, ℕ, zero, suc, Bool, true, false, List, [], ◌∷◌, length, map, min, drop}
use Rattle.std.proofs.Common.{take, refl, ap, sym, ◌∙◌, subst, arith, inl, inr, append-nil, length-append}
use Rattle.std.specs.Prelude.{IsSome, IsTrue, MatchOption, Option, Some, None, Result, Ok, Err, slice_index, slice_range, nat_lt, ◌==◌, if◌then◌else◌}
use Rattle.std.proofs.lemmas.Bool.{cases_lt}
use Rattle.std.proofs.lemmas.Bool.Decides.{nat_tests}
use Rattle.std.proofs.lemmas.List.{get_or-drop, get_or-map, get_or-take, length-take, length-drop, length-map}
use Rattle.timing_base.specs.Shifts.{Shift, shifted}
use Rattle.timing_base.specs.Flows.{cuts, first_fault, last_place, markers, group_len, no_packet, packet}
use Rattle.timing_base.specs.Judged.{FlowRun, JudgedRun, RunOutcome, absent, head_len, in_one_run, in_runs, judged_as_numbered, judged_run, judged_runs}
use Rattle.timing_base.specs.Judged.{no_whole_frame}
use Rattle.timing_base.specs.Judged.{refused_or, run_outcome, runs, runs_between, stamp_of as stamp_of_packet, whole_frames}
use Rattle.timing_base.specs.Media.{Media}
use Rattle.timing_base.specs.declared.fail.FailProof.{FailProof}
use Rattle.timing_base.specs.declared.media.Kind.{Kind}
use Rattle.timing_base.specs.declared.packet.FlowPacket.{FlowPacket}
use Rattle.timing_base.specs.declared.row.Unjudged.{Unjudged}
use Rattle.timing_base.specs.declared.row.Unjudged.TheVariants.{Absent, NoWholeFrame}
use Rattle.sender_params.specs.Keeps.{Confirms}
use Rattle.interval_checker.specs.Asking.{AreKept, EndsAs, EndsAt, IsRunKept, ending_of}
use Rattle.interval_checker.specs.Checked.{Says, SaysAt, SaysJudged, SaysOutcome}
use Rattle.interval_checker.specs.Markers.{AreMarked, AreMarks}
use Rattle.interval_checker.specs.Samples.{AreSampled, IsSample}
use Rattle.interval_checker.specs.Walks.{Keeps, StandsFor, stamp_behind}
use Rattle.interval_checker.specs.declared.asked.Asked.{Asked}
use Rattle.interval_checker.specs.declared.claim.Claim.{Claim}
use Rattle.interval_checker.specs.declared.ending.Ending.{Ending}
use Rattle.interval_checker.specs.declared.ending.Ending.TheVariants as ending
use Rattle.interval_checker.specs.declared.ending.Frames.{Frames}
use Rattle.interval_checker.specs.declared.marks.Marks.{Marks}
use Rattle.interval_checker.specs.declared.sample.Sample.{Sample}
use Rattle.interval_checker.specs.declared.walk.Walk.{Walk}
use Rattle.interval_checker.proofs.Asks.{at-before, at-last, ended-at, none-some}
use Rattle.interval_checker.proofs.Walking.{done-long, with-open}

outcome-few : (packets : List FlowPacket) (shift : Shift) (from to : ℕ) → length (markers packets from to) < 2
    → run_outcome packets shift from to ≡ no_whole_frame (head_len (markers packets from to) from to)
outcome-few packets shift from to few =
    let e : nat_lt (length (markers packets from to)) 2 ≡ true = grind (arith, nat_tests) in
    ap (λ b. if b then no_whole_frame (head_len (markers packets from to) from to) else whole_frames (judged_run packets shift from to)) e

outcome-many : (packets : List FlowPacket) (shift : Shift) (from to : ℕ) → 2 ≤ length (markers packets from to)
    → run_outcome packets shift from to ≡ whole_frames (judged_run packets shift from to)
outcome-many packets shift from to two =
    let e : nat_lt (length (markers packets from to)) 2 ≡ false = grind (arith, nat_tests) in
    ap (λ b. if b then no_whole_frame (head_len (markers packets from to) from to) else whole_frames (judged_run packets shift from to)) e

head-one : (marks : List ℕ) (from to : ℕ) → length marks ≡ 1 → head_len marks from to ≡ slice_index marks 0 + 1 - from
head-one marks from to one =
    let e : (length marks == 0) ≡ false = grind (arith, nat_tests) in
    ap (λ b. if b then to - from else slice_index marks 0 + 1 - from) e

are-marks : (xs : List ℕ) (marks : Option Marks) (m : Marks) → marks ≡ Some m → AreMarked xs marks → AreMarks xs m
are-marks xs marks m e h = subst (AreMarked xs) e h

differ-size : (s : Option ℕ) (n : ℕ) → s ≡ None → s ≡ Some n → ⊥
differ-size s n e f = cc

alone-of : (xs : List ℕ) (m : Marks) → AreMarks xs m → m.size ≡ None → length xs ≡ 1
alone-of xs m are e = elim (cases_lt 1 (length xs)) as (λ _. length xs ≡ 1) [
  | inl many ↦ absurd (differ-size m.size (group_len xs) e (are.more (omega (arith, many))))
  | inr few ↦ omega (arith, few, are.some)
]

many-of : (xs : List ℕ) (m : Marks) (size : ℕ) → AreMarks xs m → m.size ≡ Some size → 2 ≤ length xs
many-of xs m size are e = elim (cases_lt 1 (length xs)) as (λ _. 2 ≤ length xs) [
  | inl many ↦ many
  | inr few ↦ absurd (differ-size m.size size (are.alone (omega (arith, few, are.some))) e)
]

-- a run without a marker
pub ends-none : (pt : ℕ) (shift : Shift) (packets : List FlowPacket) (i : ℕ) (places : List ℕ) (w : Walk) (head : ℕ) → Keeps pt shift packets i places w
    → w.marks ≡ None
    → head ≡ w.fed - w.start
    → EndsAs w.asked w.cuts shift (run_outcome packets shift (last_place (0 ∷ places)) i) (ending.NoWholeFrame head)
ends-none pt shift packets i places w head k e is =
    let from = last_place (0 ∷ places) in
    let xs = markers packets from i in
    let none : xs ≡ [] = subst (AreMarked xs) e k.marks in
    let few : length xs ≡ 0 = ap length none in
    let test : (length xs == 0) ≡ true = grind (arith, nat_tests) in
    let same : head ≡ head_len xs from i =
    is ∙ (ap (λ s. w.fed - s) k.start ∙ (ap (λ n. n - from) k.fed
    ∙ sym (ap (λ b. if b then i - from else slice_index xs 0 + 1 - from) test))) in
    subst (λ o. EndsAs w.asked w.cuts shift o (ending.NoWholeFrame head)) (sym (outcome-few packets shift from i (omega (arith, few))))
    (ap (λ (h : ℕ). ending.NoWholeFrame h) same)

-- a run of one marker
pub ends-one : (pt : ℕ) (shift : Shift) (packets : List FlowPacket) (i : ℕ) (places : List ℕ) (w : Walk) (m : Marks) (head : ℕ)
    → Keeps pt shift packets i places w
    → w.marks ≡ Some m → m.size ≡ None
    → head ≡ m.first + 1 - w.start
    → EndsAs w.asked w.cuts shift (run_outcome packets shift (last_place (0 ∷ places)) i) (ending.NoWholeFrame head)
ends-one pt shift packets i places w m head k e size is =
    let from = last_place (0 ∷ places) in
    let xs = markers packets from i in
    let are = are-marks xs w.marks m e k.marks in
    let one : length xs ≡ 1 = alone-of xs m are size in
    let same : head ≡ head_len xs from i = is ∙ (ap (λ s. m.first + 1 - s) k.start ∙ (ap (λ x. x + 1 - from) are.first ∙ sym (head-one xs from i one))) in
    subst (λ o. EndsAs w.asked w.cuts shift o (ending.NoWholeFrame head)) (sym (outcome-few packets shift from i (omega (arith, one))))
    (ap (λ (h : ℕ). ending.NoWholeFrame h) same)

-- the stamps of judged packets, one by one
stamps-at : (packets : List FlowPacket) (shift : Shift) (first last k : ℕ) → first ≤ last → last < length packets → k < last - first
    → slice_index (map (stamp_of_packet shift) (slice_range packets (first + 1) (last + 1))) k ≡ shifted shift (packet packets (first + 1 + k)).at
stamps-at packets shift first last k order within low =
    let rest = drop (first + 1) packets in
    let size : length rest ≡ length packets - (first + 1) = length-drop (first + 1) packets in
    let part = take ((last + 1) - (first + 1)) rest in
    let long : length part ≡ min ((last + 1) - (first + 1)) (length rest) = length-take ((last + 1) - (first + 1)) rest in
    let there : k < length part = omega (arith, long, size, order, within, low) in
    get_or-map (stamp_of_packet shift) part k no_packet 0 there
    ∙ ap (stamp_of_packet shift) (get_or-take ((last + 1) - (first + 1)) rest k no_packet (omega (arith, low)) ∙ get_or-drop (first + 1) packets k no_packet)

length-stamps : (packets : List FlowPacket) (shift : Shift) (first last : ℕ) → first ≤ last → last < length packets
    → length (map (stamp_of_packet shift) (slice_range packets (first + 1) (last + 1))) ≡ last - first
length-stamps packets shift first last order within =
    let rest = drop (first + 1) packets in
    let size : length rest ≡ length packets - (first + 1) = length-drop (first + 1) packets in
    let part = take ((last + 1) - (first + 1)) rest in
    let long : length part ≡ min ((last + 1) - (first + 1)) (length rest) = length-take ((last + 1) - (first + 1)) rest in
    length-map part (stamp_of_packet shift) ∙ omega (arith, long, size, order, within)

kept-fewer : (a : Asked) (run few many : ℕ) (stamps : ℕ → ℕ) → few ≤ many → AreKept a run stamps many → AreKept a run stamps few
kept-fewer a run few many stamps h kept place low there = kept place (omega (arith, low, h)) there

says-judged : (m : Media) (kind : Kind) (f : FailProof) (j : JudgedRun) (b : Bool) → (IsTrue b ↔ Confirms m j.n j.stamps kind f)
    → SaysJudged m kind f j (Ok b)
says-judged m kind f j true h = h.0 refl
says-judged m kind f j false h = λ c. differ (h.1 c)
  where
    differ : (false ≡ true) → ⊥
    differ e = cc

size-is : (s : Option ℕ) (n k : ℕ) → s ≡ Some n → s ≡ Some k → n ≡ k
size-is s n k e f = cc

-- a run of two markers and more
pub ends-some : (pt : ℕ) (shift : Shift) (packets : List FlowPacket) (i : ℕ) (places : List ℕ) (w : Walk) (m : Marks) (size : ℕ) (frames : Frames)
    → Keeps pt shift packets i places w → w.marks ≡ Some m → m.size ≡ Some size → frames.size ≡ size → frames.count ≡ m.last - m.first
    → EndsAs w.asked w.cuts shift (run_outcome packets shift (last_place (0 ∷ places)) i) (ending.WholeFrames frames)
ends-some pt shift packets i places w m size frames k e is sized counted =
    let from = last_place (0 ∷ places) in
    let xs = markers packets from i in
    let are = are-marks xs w.marks m e k.marks in
    let two : 2 ≤ length xs = many-of xs m size are is in
    let stamps : List ℕ = map (stamp_of_packet shift) (slice_range packets (m.first + 1) (m.last + 1)) in
    let later : m.last < i = omega (arith, k.sized.later two, are.last) in
    let within : m.last < length packets = omega (arith, later, k.within) in
    let long : length stamps ≡ m.last - m.first = length-stamps packets shift m.first m.last m.order within in
    let kept : IsRunKept w.asked w.cuts shift stamps = record {
      raw = stamp_behind packets m.first;
      after = λ x l. stamps-at packets shift m.first m.last x m.order within (omega (arith, l, long));
      rising = λ j l order low. k.rising (m.first + 1 + j) (m.first + 1 + l) (omega (arith, order)) (omega (arith, low, long, later));
      kept = kept-fewer w.asked w.cuts (length stamps) (i - (m.first + 1)) (stamp_behind packets m.first) (omega (arith, long, later)) (k.kept m e);
    } in
    let same_size : frames.size ≡ group_len xs = sized ∙ size-is m.size size (group_len xs) is (are.more two) in
    let same_stamps : stamps ≡ (judged_run packets shift from i).stamps =
    ap (λ a. map (stamp_of_packet shift) (slice_range packets (a + 1) (m.last + 1))) are.first
    ∙ ap (λ z. map (stamp_of_packet shift) (slice_range packets (slice_index xs 0 + 1) (z + 1))) are.last in
    let here : IsRunKept w.asked w.cuts shift (judged_run packets shift from i).stamps =
    subst (IsRunKept w.asked w.cuts shift) same_stamps kept in
    let count : frames.count ≡ length (judged_run packets shift from i).stamps = counted ∙ (sym long ∙ ap length same_stamps) in
    subst (λ o. EndsAs w.asked w.cuts shift o (ending.WholeFrames frames)) (sym (outcome-many packets shift from i two)) ((same_size, count), here)

-- the stamps that a fail needs are those of its run
pub sampled-of : (a : Asked) (run : ℕ) (shift : Shift) (f : FailProof) (stamps : List ℕ) (s : Sample) → IsRunKept a run shift stamps
    → ((raw : ℕ → ℕ) (count : ℕ) → AreKept a run raw count → ((k : ℕ) → k < count → raw 0 ≤ raw k) → IsSample f raw count s)
    → AreSampled f shift stamps s
sampled-of a run shift f stamps s kept is = record {
  raw = kept.raw;
  after = kept.after;
  rising = λ j k order low. omega (arith, kept.after j (omega (arith, order, low)), kept.after k low, kept.rising j k order low);
  sample = is kept.raw (length stamps) kept.kept (λ k low. kept.rising 0 k (omega arith) low);
}

-- a run without a whole frame
pub says-head : (m : Media) (kind : Kind) (f : FailProof) (a : Asked) (run : ℕ) (shift : Shift) (head : ℕ) (o : RunOutcome)
    → EndsAs a run shift o (ending.NoWholeFrame head)
    → SaysOutcome m kind f o (Err (NoWholeFrame head))
says-head m kind f a run shift head (no_whole_frame other) h = ap (λ (n : ℕ). let r : Result Bool Unjudged = Err (NoWholeFrame n) in r) (head-of head other h)
  where
    head-of : (x y : ℕ) → ending.NoWholeFrame x ≡ ending.NoWholeFrame y → x ≡ y
    head-of x y e = cc
says-head m kind f a run shift head (whole_frames j) h = absurd h.0

-- and one with whole frames
pub says-frames : (m : Media) (kind : Kind) (f : FailProof) (a : Asked) (run : ℕ) (shift : Shift) (frames : Frames) (s : Sample) (b : Bool) (o : RunOutcome)
    → EndsAs a run shift o (ending.WholeFrames frames)
    → ((raw : ℕ → ℕ) (count : ℕ) → AreKept a run raw count → ((k : ℕ) → k < count → raw 0 ≤ raw k) → IsSample f raw count s)
    → ((stamps : List ℕ) → length stamps ≡ frames.count → AreSampled f shift stamps s → IsTrue b ↔ Confirms m frames.size stamps kind f)
    → SaysOutcome m kind f o (Ok b)
says-frames m kind f a run shift frames s b (no_whole_frame head) h sample confirms = cc
says-frames m kind f a run shift frames s b (whole_frames j) h sample confirms =
    says-judged m kind f j b (subst (λ n. IsTrue b ↔ Confirms m n j.stamps kind f) h.0.0
    (confirms j.stamps (sym h.0.1) (sampled-of a run shift f j.stamps s h.1 sample)))

-- the answer on a run, by how it ends
pub says-at : (m : Media) (kind : Kind) (f : FailProof) (a : Asked) (run : ℕ) (shift : Shift) (behind : ℕ) (os : List RunOutcome) (e : Ending) (answer :
    Result Bool Unjudged)
    → EndsAt a run shift os behind e
    → ((o : RunOutcome) → EndsAs a run shift o e → SaysOutcome m kind f o answer) → SaysAt m kind f os behind answer
says-at m kind f a run shift behind [] e answer h says = absurd h
says-at m kind f a run shift zero (o ∷ os) e answer h says = says o h
says-at m kind f a run shift (suc behind) (o ∷ os) e answer h says = says-at m kind f a run shift behind os e answer h says

-- a run that isn't there
pub says-beyond : (m : Media) (kind : Kind) (f : FailProof) (run : ℕ) (os : List RunOutcome) → length os ≤ run → SaysAt m kind f os run (Ok false)
says-beyond m kind f run [] low = refl
says-beyond m kind f zero (o ∷ os) low = absurd (omega (arith, low))
says-beyond m kind f (suc run) (o ∷ os) low = says-beyond m kind f run os (omega (arith, low))

long-open : (pt : ℕ) (shift : Shift) (packets : List FlowPacket) (i : ℕ) (places : List ℕ) (w : Walk) → Keeps pt shift packets i places w
    → length (map (λ (r : FlowRun). r.outcome) (runs_between packets shift i 0 places)) ≡ w.cuts + 1
long-open pt shift packets i places w k =
    let outs = map (λ (r : FlowRun). r.outcome) k.done in
    let o = run_outcome packets shift (last_place (0 ∷ places)) i in
    ap length (with-open pt shift packets i places w k) ∙ (length-append outs (o ∷ []) ∙ ap (λ n. n + 1) (done-long pt shift packets i places w k))

-- the open run
pub at-open : (pt : ℕ) (shift : Shift) (packets : List FlowPacket) (i : ℕ) (places : List ℕ) (w : Walk) (run : ℕ) (e : Ending)
    → Keeps pt shift packets i places w
    → run ≡ w.cuts
    → EndsAs w.asked w.cuts shift (run_outcome packets shift (last_place (0 ∷ places)) i) e
    → EndsAt w.asked run shift (map (λ (r : FlowRun). r.outcome) (runs_between packets shift i 0 places)) run e
at-open pt shift packets i places w run e k here ends =
    let outs = map (λ (r : FlowRun). r.outcome) k.done in
    let o = run_outcome packets shift (last_place (0 ∷ places)) i in
    subst (λ os. EndsAt w.asked run shift os run e) (sym (with-open pt shift packets i places w k))
    (at-last w.asked shift run run outs o e (done-long pt shift packets i places w k ∙ sym here)
    (subst (λ r. EndsAs w.asked r shift o e) (sym here) ends))

-- a run that is over
pub at-done : (pt : ℕ) (shift : Shift) (packets : List FlowPacket) (i : ℕ) (places : List ℕ) (w : Walk) (run : ℕ) (result : Option Ending)
    → Keeps pt shift packets i places w → run < w.cuts
    → result ≡ ending_of w.asked run → IsSome (ending_of w.asked run)
    → MatchOption result (length (map (λ (r : FlowRun). r.outcome) (runs_between packets shift i 0 places)) ≤ run)
    (EndsAt w.asked run shift (map (λ (r : FlowRun). r.outcome) (runs_between packets shift i 0 places)) run)
at-done pt shift packets i places w run None k low e some = absurd (none-some (ending_of w.asked run) (sym e) some)
at-done pt shift packets i places w run (Some x) k low e some =
    let outs = map (λ (r : FlowRun). r.outcome) k.done in
    let o = run_outcome packets shift (last_place (0 ∷ places)) i in
    let long = done-long pt shift packets i places w k in
    subst (λ os. EndsAt w.asked run shift os run x) (sym (with-open pt shift packets i places w k))
    (at-before w.asked shift run run outs o x (ended-at w.asked shift 0 run run outs x (omega arith) (omega (arith, long, low)) (sym e) k.ended))

-- a run that is not there
pub at-beyond : (pt : ℕ) (shift : Shift) (packets : List FlowPacket) (i : ℕ) (places : List ℕ) (w : Walk) (run : ℕ) → Keeps pt shift packets i places w
    → w.cuts < run
    → length (map (λ (r : FlowRun). r.outcome) (runs_between packets shift i 0 places)) ≤ run
at-beyond pt shift packets i places w run k high = omega (arith, long-open pt shift packets i places w k, high)

whole-keeps : (pt : ℕ) (shift : Shift) (packets : List FlowPacket) (w : Walk) → StandsFor pt shift w packets
    → Keeps pt shift packets (length packets) (cuts packets (length packets)) w
whole-keeps pt shift packets w s =
    subst (λ xs. Keeps pt shift xs (length packets) (cuts xs (length packets)) w) (append-nil packets) (s.ahead [])

-- no packet came
pub finish-absent : (claim : Claim) (packets : List FlowPacket) (w : Walk) → StandsFor claim.media.pt claim.shift w packets → w.fed ≡ 0
    → Says claim.media claim.kind claim.proof claim.run (judged_as_numbered packets claim.media.pt claim.shift) (Err Absent)
finish-absent claim packets w s e =
    let k = whole-keeps claim.media.pt claim.shift packets w s in
    let none : length packets ≡ 0 = sym k.fed ∙ e in
    let test : (length packets == 0) ≡ true = grind (arith, nat_tests) in
    subst (λ v. Says claim.media claim.kind claim.proof claim.run v (Err Absent))
    (sym (ap (λ b. if b then absent else refused_or packets (first_fault packets claim.media.pt) (judged_runs packets claim.shift)) test)) refl

no_cut : (packets : List FlowPacket) (shift : Shift) (xs : List ℕ) → length xs ≡ 0
    → map (λ (r : FlowRun). r.outcome) (runs_between packets shift (length packets) 0 xs) ≡ run_outcome packets shift 0 (length packets) ∷ []
no_cut packets shift [] e = refl
no_cut packets shift (x ∷ xs) e = absurd (omega (arith, e))

zero_of : (n : ℕ) → (n == 0) ≡ true → n ≡ 0
zero_of n e = grind (arith, nat_tests)

by_cuts : (claim : Claim) (packets : List FlowPacket) (a : Result Bool Unjudged) (b : Bool) → (length (cuts packets (length packets)) == 0) ≡ b
    → SaysAt claim.media claim.kind claim.proof (map (λ (r : FlowRun). r.outcome) (runs packets claim.shift)) claim.run a
    → Says claim.media claim.kind claim.proof claim.run (if b then in_one_run (run_outcome packets claim.shift 0 (length packets))
    else in_runs (runs packets claim.shift)) a
by_cuts claim packets a true e h =
    subst (λ outs. SaysAt claim.media claim.kind claim.proof outs claim.run a) (no_cut packets claim.shift (cuts packets (length packets)) (zero_of _ e)) h
by_cuts claim packets a false e h = h

-- the flow ends here
pub finish-says : (claim : Claim) (packets : List FlowPacket) (w : Walk) (a : Result Bool Unjudged) → StandsFor claim.media.pt claim.shift w packets → w.fed ≢ 0
    → ((all : List FlowPacket) (i : ℕ) (places : List ℕ) → Keeps claim.media.pt claim.shift all i places w
    → SaysAt claim.media claim.kind claim.proof (map (λ (r : FlowRun). r.outcome) (runs_between all claim.shift i 0 places)) claim.run a)
    → Says claim.media claim.kind claim.proof claim.run (judged_as_numbered packets claim.media.pt claim.shift) a
finish-says claim packets w a s ne here =
    let k = whole-keeps claim.media.pt claim.shift packets w s in
    let some : length packets ≢ 0 = λ e. ne (k.fed ∙ e) in
    let test : (length packets == 0) ≡ false = grind (arith, nat_tests) in
    let sound : first_fault packets claim.media.pt ≡ None = k.sound in
    let verdict : judged_as_numbered packets claim.media.pt claim.shift ≡ judged_runs packets claim.shift =
    ap (λ b. if b then absent else refused_or packets (first_fault packets claim.media.pt) (judged_runs packets claim.shift)) test
    ∙ ap (λ f. refused_or packets f (judged_runs packets claim.shift)) sound in
    subst (λ v. Says claim.media claim.kind claim.proof claim.run v a) (sym verdict)
    (by_cuts claim packets a (length (cuts packets (length packets)) == 0) refl (here packets (length packets) (cuts packets (length packets)) k))
