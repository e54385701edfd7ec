-- A run without a complete frame or field: whether a packet comes a second or more after the last one that was told of.
use Rattle.std.specs.Prelude.{nat_le, nat_lt, not, min, ◌&&◌, ◌||◌, ◌==◌, if◌then◌else◌}
use Rattle.std.proofs.Common.{◌≡◌, ◌<◌, ◌≤◌, ◌-◌, ◌+◌, ◌^◌, ℕ, suc, Bool, true, false, List, [], length, Some, None, inl, inr}
use Rattle.std.proofs.Common.{◌∙◌, ap, ap₂, sym, refl, arith}
use Rattle.std.proofs.lemmas.Bool.{cases_lt, eq-eqb, le-ltb, lt-ltb}
use Rattle.std.proofs.lemmas.Bool.Decides.{nat_tests}
use Rattle.timing_base.specs.Flows.{markers, packet}
use Rattle.timing_base.specs.Judged.{RunOutcome, head_len, judged_run, no_whole_frame, run_outcome, whole_frames}
use Rattle.timing_base.specs.Shifts.{Shift}
use Rattle.timing_base.specs.declared.packet.FlowPacket.{FlowPacket}
use Rattle.run_meter.specs.Runs.{OpenPart}
use Rattle.fail_interval.specs.Parts.{open_by}
use Rattle.fail_interval.specs.declared.current.RunSoFar.{RunSoFar}
use Rattle.flow_watch.specs.Lines.{waiting_line}
use Rattle.flow_watch.specs.declared.form.LineForm.{LineForm}
use Rattle.timing_watch.specs.Watched.{Watching, is_due, is_second_later, last_told, waiting_at, waiting_text}
use Rattle.timing_watch.specs.making.Steps.{is_quiet}
use Rattle.timing_watch.proofs.Fronts.{last_told-le}

-- ---- whether the run has a complete frame or field

few-many : (k : ℕ) → nat_lt k 2 ≡ true → nat_le 2 k ≡ false
few-many k e = grind (arith, nat_tests)

many-few : (k : ℕ) → nat_lt k 2 ≡ false → nat_le 2 k ≡ true
many-few k e = grind (arith, nat_tests)

none-few : (number : ℕ) (first : FlowPacket) (judged : List FlowPacket) (few : Bool) (without with_one : RunOutcome) (part : OpenPart)
    → open_by number first judged with_one ≡ Some part → open_by number first judged (if few then without else with_one) ≡ None → few ≡ true
none-few number first judged true without with_one part some e = refl
none-few number first judged false without with_one part some e = cc

some-many : (number : ℕ) (first : FlowPacket) (judged : List FlowPacket) (few : Bool) (without with_one : RunOutcome) (part : OpenPart)
    → open_by number first judged without ≡ None → open_by number first judged (if few then without else with_one) ≡ Some part → few ≡ false
some-many number first judged true without with_one part none e = cc
some-many number first judged false without with_one part none e = refl

-- it has none
pub waits : (number : ℕ) (first : FlowPacket) (judged packets : List FlowPacket) (shift : Shift) (from to : ℕ)
    → open_by number first judged (run_outcome packets shift from to) ≡ None → nat_le 2 (length (markers packets from to)) ≡ false
waits number first judged packets shift from to e =
    few-many (length (markers packets from to))
    (none-few number first judged (nat_lt (length (markers packets from to)) 2) (no_whole_frame (head_len (markers packets from to) from to))
    (whole_frames (judged_run packets shift from to)) _ refl e)

-- it has one
pub has-one : (number : ℕ) (first : FlowPacket) (judged packets : List FlowPacket) (shift : Shift) (from to : ℕ) (part : OpenPart)
    → open_by number first judged (run_outcome packets shift from to) ≡ Some part → nat_le 2 (length (markers packets from to)) ≡ true
has-one number first judged packets shift from to part e =
    many-few (length (markers packets from to))
    (some-many number first judged (nat_lt (length (markers packets from to)) 2) (no_whole_frame (head_len (markers packets from to) from to))
    (whole_frames (judged_run packets shift from to)) part refl e)

-- fewer than two markers
pub below-two : (k : ℕ) → k < 2 → nat_le 2 k ≡ false
below-two k few = few-many k (lt-ltb k 2 few)

-- ---- a second

-- the instant of a packet is a second or more after another, or before that
second-is : (since at : ℕ) → at < 2 ^ 64 - 1 → nat_lt at (min (since + 10 ^ 9) (2 ^ 64 - 1)) ≡ not (nat_le (since + 10 ^ 9) at)
second-is since at low =
    elim (cases_lt at (since + 10 ^ 9)) as (λ _. nat_lt at (min (since + 10 ^ 9) (2 ^ 64 - 1)) ≡ not (nat_le (since + 10 ^ 9) at)) [
      | inl before ↦
          let less : at < min (since + 10 ^ 9) (2 ^ 64 - 1) = omega (arith, before, low) in
          lt-ltb at (min (since + 10 ^ 9) (2 ^ 64 - 1)) less ∙ sym (ap not (later-no (since + 10 ^ 9) at before))
      | inr after ↦
          let more : min (since + 10 ^ 9) (2 ^ 64 - 1) ≤ at = omega (arith, after) in
          le-ltb at (min (since + 10 ^ 9) (2 ^ 64 - 1)) more ∙ sym (ap not (later-yes (since + 10 ^ 9) at after))
    ]
  where
    later-no : (a b : ℕ) → b < a → nat_le a b ≡ false
    later-no a b less = grind (arith, nat_tests)

    later-yes : (a b : ℕ) → a ≤ b → nat_le a b ≡ true
    later-yes a b le = grind (arith, nat_tests)

-- ---- packet n of a run that begins with packet `from`, before it

-- the last packet that was told of, with packet n
pub told-next : (packets : List FlowPacket) (from n : ℕ) → from < n
    → last_told packets from (n - from)
    ≡ (if is_second_later packets (last_told packets from (n - (from + 1))) n then n else last_told packets from (n - (from + 1)))
told-next packets from n some =
    let k = n - (from + 1) in
    let more : n - from ≡ suc k = omega (arith, some) in
    let here : from + suc k ≡ n = omega (arith, some) in
    ap (last_told packets from) more
    ∙ ap (λ j. if is_second_later packets (last_told packets from k) j then j else last_told packets from k) here

due-case : (later : Bool) (t n : ℕ) → t < n → ((if later then n else t) == n) ≡ later
due-case true t n low = eq-eqb n n refl
due-case false t n low = grind (arith, nat_tests)

-- packet n is told of if it comes so late
pub due-is : (packets : List FlowPacket) (from n : ℕ) → from < n → is_due packets from n ≡ is_second_later packets (last_told packets from (n - (from + 1))) n
due-is packets from n some =
    let last = last_told packets from (n - (from + 1)) in
    let most = last_told-le packets from (n - (from + 1)) in
    ap₂ (λ a t. a && (t == n)) (lt-ltb from n some) (told-next packets from n some)
    ∙ due-case (is_second_later packets last n) last n (omega (arith, most, some))

-- the first packet of a run isn't
pub first-due : (packets : List FlowPacket) (i : ℕ) → is_due packets i i ≡ false
first-due packets i = ap (λ a. a && (last_told packets i (i - i) == i)) (le-ltb i i (omega arith))

-- ---- what a packet adds that continues such a run

line-case : (later : Bool) (a b : List ℕ) → a ≡ b → (if not later then [] else a) ≡ (if later then b else [])
line-case true a b same = same
line-case false a b same = refl

quiet-case : (whole before later : Bool) → whole ≡ false → before ≡ not later → (whole || before) ≡ not later
quiet-case true before later none is = cc
quiet-case false before later none is = is

module _ (w : Watching) (packets : List FlowPacket) (from n since at : ℕ) (run : RunSoFar) (form : LineForm) (count : ℕ) (some : from < n)
    (since_is : since ≡ (packet packets (last_told packets from (n - (from + 1)))).at) (at_is : (packet packets n).at ≡ at) (low : at < 2 ^ 64 - 1)
    (whole : run.whole ≡ false)
  where
    pub quiet-is : is_quiet run since at ≡ not (is_second_later packets (last_told packets from (n - (from + 1))) n)
    quiet-is =
        quiet-case run.whole (nat_lt at (min (since + 10 ^ 9) (2 ^ 64 - 1))) (is_second_later packets (last_told packets from (n - (from + 1))) n) whole
        (second-is since at low ∙ ap₂ (λ s a. not (nat_le (s + 10 ^ 9) a)) since_is (sym at_is))

    pub waiting-is : form ≡ w.form → run.rec ≡ (packet packets from).rec → count ≡ n + 1
        → (if is_quiet run since at then [] else waiting_line form (record { packets = count - from; rec = run.rec })) ≡ waiting_text w packets from n
    waiting-is form_is rec_is count_is =
        let late = is_second_later packets (last_told packets from (n - (from + 1))) n in
        let many : count - from ≡ n - from + 1 = omega (arith, count_is, some) in
        let same : waiting_line form (record { packets = count - from; rec = run.rec }) ≡ waiting_line w.form (waiting_at packets from n) =
        ap (λ (f : LineForm). waiting_line f (record { packets = count - from; rec = run.rec })) form_is
        ∙ ap₂ (λ k r. waiting_line w.form (record { packets = k; rec = r })) many rec_is in
        ap (λ b. if b then [] else waiting_line form (record { packets = count - from; rec = run.rec })) quiet-is
        ∙ line-case late _ _ same
        ∙ ap (λ b. if b then waiting_line w.form (waiting_at packets from n) else []) (sym (due-is packets from n some))

    -- the instant of the last packet that was told of, with packet n
    pub since-next : (if is_quiet run since at then since else at) ≡ (packet packets (last_told packets from ((n + 1) - (from + 1)))).at
    since-next =
        let late = is_second_later packets (last_told packets from (n - (from + 1))) n in
        let back : n - from ≡ (n + 1) - (from + 1) = omega arith in
        ap (λ b. if b then since else at) quiet-is
        ∙ since-case late
        ∙ ap (λ k. (packet packets k).at) (sym (told-next packets from n some))
        ∙ ap (λ k. (packet packets (last_told packets from k)).at) back
      where
        since-case : (b : Bool) → (if not b then since else at) ≡ (packet packets (if b then n else last_told packets from (n - (from + 1)))).at
        since-case true = sym at_is
        since-case false = since_is
