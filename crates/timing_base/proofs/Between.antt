-- Runs between cuts, and that their groups are of one size.
use Rattle.std.proofs.Common.{◌≡◌, ◌≤◌, ◌+◌, ◌-◌, ℕ, zero, suc, Bool, true, false, List, [], ◌∷◌, ◌++◌, length, Some, None, refl, arith, ap, ◌∙◌, sym, subst}
use Rattle.std.proofs.Common.{add-one, inl, inr}
use Rattle.std.proofs.Common.{get_or, drop}
use Rattle.std.specs.Prelude.{◌==◌, cond, All, slice_index, slice_range}
use Rattle.std.proofs.lemmas.Grind.{common_steps}
use Rattle.std.proofs.lemmas.Bool.Decides.{leb_tells}
use Rattle.std.proofs.lemmas.List.Elements.{All-take, All-drop}
use Rattle.timing_base.specs.Judged.{FlowRun, runs_between, run_at, refusal, judged_as_numbered, refused_or, judged_runs, FlowVerdict, absent}
use Rattle.timing_base.specs.declared.packet.FlowPacket.{FlowPacket}
use Rattle.timing_base.specs.Shifts.{Shift}
use Rattle.timing_base.specs.Flows.{FirstFault}
use Rattle.timing_base.specs.Flows.{is_cut, packet, places, fault, first_fault, cuts, markers, last_place}
use Rattle.timing_base.specs.Grouped.{IsSized, EachSized}
use Rattle.timing_base.proofs.Places.{places-here, places-other, places-none, cuts-here, cuts-other, run_start-cut, run_start-other}
use Rattle.timing_base.proofs.FirstFaults.{no_fault-at, first_fault-is}
use Rattle.timing_base.proofs.Sizes.{sized-nil, sized-enter, sized-next}

-- one cut more ends the last run, and begins another
pub runs_between-push : (packets : List FlowPacket) (shift : Shift) (to from cut : ℕ) (before : List ℕ)
    → runs_between packets shift to from (before ++ cut ∷ []) ≡ runs_between packets shift cut from before ++ run_at packets shift cut to ∷ []
runs_between-push packets shift to from cut [] = refl
runs_between-push packets shift to from cut (b ∷ before) = ap (λ rest. run_at packets shift from b ∷ rest) (runs_between-push packets shift to b cut before)

-- where there is no fault, the groups of each run are of one size
pub each_sized : (packets : List FlowPacket) (pt : ℕ) → first_fault packets pt ≡ None → EachSized packets
each_sized packets pt e zero h = sized-nil 0
each_sized packets pt e (suc i) h =
    let here : fault packets pt i ≡ None = no_fault-at packets pt (length packets) i e (omega arith) in
    let next = sized-next packets pt i here (sized-enter packets i _ refl (each_sized packets pt e i (omega arith))) in
    rw add-one at next

from-case : (test : ℕ → Bool) (from n : ℕ) (b : Bool) → test n ≡ b → (1 ≤ length (places test from n) → from ≤ slice_index (places test from n) 0) → from ≤ n
    → 1 ≤ length (places test from (n + 1)) → from ≤ slice_index (places test from (n + 1)) 0
from-case test from n true e h l some = rw (places-here test from n l e) (push-case (places test from n) h l)
  where
    push-case : (xs : List ℕ) → (1 ≤ length xs → from ≤ slice_index xs 0) → from ≤ n → from ≤ slice_index (xs ++ n ∷ []) 0
    push-case [] h l = l
    push-case (x ∷ xs) h l = h (omega arith)
from-case test from n false e h l some =
    let same = places-other test from n e in
    let s : 1 ≤ length (places test from n) = subst (λ xs. 1 ≤ length xs) same some in
    subst (λ xs. from ≤ slice_index xs 0) (sym same) (h s)

-- places stand at or after the one that they are counted from
pub places-from : (test : ℕ → Bool) (from n : ℕ) → 1 ≤ length (places test from n) → from ≤ slice_index (places test from n) 0
places-from test from zero some = absurd (omega arith)
places-from test from (suc n) some =
    elim (leb_tells from n) as (λ _. from ≤ slice_index (places test from (suc n)) 0) [
      | inl l ↦ (rw add-one at (from-case test from n (test n) refl (places-from test from n) l.1)) some
      | inr l ↦ absurd (let none : places test from (suc n) ≡ [] = places-none test from (suc n) (omega (arith, l.1)) in let z : length
          (places test from (suc n)) ≡ 0 = ap length none in omega arith)
    ]

-- what holds of each packet holds in a part
pub all_range : (P : FlowPacket → Type 0) (packets : List FlowPacket) (a b : ℕ) → All P packets → All P (slice_range packets a b)
all_range P packets a b all = All-take P (b - a) (drop a packets) (All-drop P a packets all)

-- at a cut the run before it is done
pub runs-cut : (packets : List FlowPacket) (shift : Shift) (i from : ℕ) (done new : List FlowRun) (run : FlowRun) → is_cut packets i ≡ true → new ≡ done ++ run ∷ []
    → run ≡ run_at packets shift from i
    → ((to : ℕ) → runs_between packets shift to 0 (cuts packets i) ≡ done ++ run_at packets shift from to ∷ [])
    → (to : ℕ) → runs_between packets shift to 0 (cuts packets (i + 1)) ≡ new ++ run_at packets shift i to ∷ []
runs-cut packets shift i from done new run e n r before to =
    ap (runs_between packets shift to 0) (cuts-here packets i e)
    ∙ (runs_between-push packets shift to 0 i (cuts packets i)
    ∙ ap (λ rest. rest ++ run_at packets shift i to ∷ []) (before i ∙ (ap (λ (x : FlowRun). done ++ x ∷ []) (sym r) ∙ sym n)))

-- where no cut stands the run goes on
pub runs-other : (packets : List FlowPacket) (shift : Shift) (i from : ℕ) (done : List FlowRun) → is_cut packets i ≡ false
    → ((to : ℕ) → runs_between packets shift to 0 (cuts packets i) ≡ done ++ run_at packets shift from to ∷ [])
    → (to : ℕ) → runs_between packets shift to 0 (cuts packets (i + 1)) ≡ done ++ run_at packets shift from to ∷ []
runs-other packets shift i from done e before to = ap (runs_between packets shift to 0) (cuts-other packets i e) ∙ before to

-- a cut starts a run, and other packets go on
pub start-cut : (packets : List FlowPacket) (i : ℕ) → is_cut packets i ≡ true → i ≡ last_place (0 ∷ cuts packets (i + 1))
start-cut packets i e = sym (run_start-cut packets i e)

pub start-other : (packets : List FlowPacket) (i : ℕ) → is_cut packets i ≡ false → last_place (0 ∷ cuts packets i) ≡ last_place (0 ∷ cuts packets (i + 1))
start-other packets i e = sym (run_start-other packets i e)

-- the verdict on a flow with a fault
pub judged-refused : (packets : List FlowPacket) (pt : ℕ) (shift : Shift) (x : FirstFault) (d : FlowPacket) (r : FlowVerdict) → (length packets == 0) ≡ false
    → first_fault packets pt ≡ Some x
    → r ≡ refusal (get_or packets x.index d).rec x.fault → r ≡ judged_as_numbered packets pt shift
judged-refused packets pt shift x d r some e is =
    let first = first_fault-is packets pt x e in
    let same : get_or packets x.index d ≡ packet packets x.index = grind (arith, common_steps, first.within) in
    is ∙ (ap (λ (p : FlowPacket). refusal p.rec x.fault) same
    ∙ (sym (ap (λ f. refused_or packets f (judged_runs packets shift)) e)
    ∙ ap (λ b. cond b absent (refused_or packets (first_fault packets pt) (judged_runs packets shift))) (sym some)))

no_cut-start : (xs : List ℕ) → length xs ≡ 0 → last_place (0 ∷ xs) ≡ 0
no_cut-start [] e = refl
no_cut-start (x ∷ xs) e = absurd (omega arith)

-- a flow with no cut is one run, whose groups are of one size
pub one_sized : (packets : List FlowPacket) (pt : ℕ) → first_fault packets pt ≡ None → length (cuts packets (length packets)) ≡ 0
    → IsSized (length packets) (markers packets 0 (length packets))
one_sized packets pt e none =
    let at : last_place (0 ∷ cuts packets (length packets)) ≡ 0 = no_cut-start (cuts packets (length packets)) none in
    subst (λ from. IsSized (length packets) (markers packets from (length packets))) at (each_sized packets pt e (length packets) (omega arith))
