-- Places of cuts and markers, one packet on.
use Rattle.std.proofs.Common.{◌≡◌, ◌≤◌, ◌+◌, ℕ, zero, suc, Bool, true, false, List, [], ◌∷◌, ◌++◌, refl, arith, ap, ◌∙◌, add-one}
use Rattle.std.specs.Prelude.{nat_le}
use Rattle.std.proofs.lemmas.Grind.{common_steps}
use Rattle.timing_base.specs.declared.packet.FlowPacket.{FlowPacket}
use Rattle.timing_base.specs.Flows.{places, last_place, is_cut, cuts, markers, markers_before, run_start, has_marker}

-- the place at the end is the last
pub last_place-push : (xs : List ℕ) (x : ℕ) → last_place (xs ++ x ∷ []) ≡ x
last_place-push xs x = grind (arith, common_steps)

-- a place at which the test holds is put at the end
pub places-here : (test : ℕ → Bool) (from n : ℕ) → from ≤ n → test n ≡ true → places test from (n + 1) ≡ places test from n ++ n ∷ []
places-here test from n h t = rw add-one (let e : nat_le from n ≡ true = grind arith in rw (e, t) refl)

-- any other place is passed over
pub places-other : (test : ℕ → Bool) (from n : ℕ) → test n ≡ false → places test from (n + 1) ≡ places test from n
places-other test from n t = rw add-one (grind (arith, common_steps, t))

-- no place stands below the first
pub places-none : (test : ℕ → Bool) (from n : ℕ) → n ≤ from → places test from n ≡ []
places-none test from zero h = refl
places-none test from (suc n) h =
    let e : nat_le from n ≡ false = grind arith in
    let r : places test from n ≡ [] = places-none test from n (omega arith) in
    rw (e, r) refl

last-case : (test : ℕ → Bool) (n : ℕ) (b : Bool) → test n ≡ b → last_place (0 ∷ places test 0 n) ≤ n → last_place (0 ∷ places test 0 (n + 1)) ≤ n + 1
last-case test n true e h = rw (places-here test 0 n (omega arith) e) (rw (last_place-push (0 ∷ places test 0 n) n) (omega arith))
last-case test n false e h = rw (places-other test 0 n e) (omega (arith, h))

-- the last of 0 and places below n is at most n
pub last_place-le : (test : ℕ → Bool) (n : ℕ) → last_place (0 ∷ places test 0 n) ≤ n
last_place-le test zero = omega arith
last_place-le test (suc n) = let h = last-case test n (test n) refl (last_place-le test n) in rw add-one at h

-- no cut here: the run goes on
pub run_start-other : (packets : List FlowPacket) (i : ℕ) → is_cut packets i ≡ false → run_start packets i ≡ last_place (0 ∷ cuts packets i)
run_start-other packets i e = ap (λ xs. last_place (0 ∷ xs)) (places-other (is_cut packets) 0 i e)

-- a cut here: the run starts here
pub run_start-cut : (packets : List FlowPacket) (i : ℕ) → is_cut packets i ≡ true → run_start packets i ≡ i
run_start-cut packets i e = ap (λ xs. last_place (0 ∷ xs)) (places-here (is_cut packets) 0 i (omega arith) e) ∙ last_place-push (0 ∷ cuts packets i) i

start-case : (packets : List FlowPacket) (i : ℕ) (b : Bool) → is_cut packets i ≡ b → run_start packets i ≤ i
start-case packets i true e = rw (run_start-cut packets i e) (omega arith)
start-case packets i false e = rw (run_start-other packets i e) (last_place-le (is_cut packets) i)

-- no run starts after its packets
pub run_start-le : (packets : List FlowPacket) (i : ℕ) → run_start packets i ≤ i
run_start-le packets i = start-case packets i (is_cut packets i) refl

-- the markers of a run, with that of packet i
pub markers-here : (packets : List FlowPacket) (i : ℕ) → has_marker packets i ≡ true
    → markers packets (run_start packets i) (i + 1) ≡ markers_before packets i ++ i ∷ []
markers-here packets i e = places-here (has_marker packets) (run_start packets i) i (run_start-le packets i) e

-- the markers of a run, where packet i has none
pub markers-other : (packets : List FlowPacket) (i : ℕ) → has_marker packets i ≡ false
    → markers packets (run_start packets i) (i + 1) ≡ markers_before packets i
markers-other packets i e = places-other (has_marker packets) (run_start packets i) i e

-- the cuts, with that at packet i
pub cuts-here : (packets : List FlowPacket) (i : ℕ) → is_cut packets i ≡ true → cuts packets (i + 1) ≡ cuts packets i ++ i ∷ []
cuts-here packets i e = places-here (is_cut packets) 0 i (omega arith) e

-- the cuts, where none is at packet i
pub cuts-other : (packets : List FlowPacket) (i : ℕ) → is_cut packets i ≡ false → cuts packets (i + 1) ≡ cuts packets i
cuts-other packets i e = places-other (is_cut packets) 0 i e
