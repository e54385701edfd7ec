-- While no packet has a fault, each stands in a group of the right size.
use Rattle.std.proofs.Common.{◌≡◌, ◌≤◌, ◌+◌, ◌-◌, ℕ, zero, suc, List, [], ◌∷◌, ◌++◌, length, Option, Some, None, refl, ap, ◌∙◌, sym, arith, add-one, inl, inr}
use Rattle.std.specs.Prelude.{slice_index}
use Rattle.std.proofs.lemmas.Bool.{cases_lt}
use Rattle.timing_base.specs.Flows.{FirstFault, cuts, earlier_or, fault, first_fault_below, group_len, last_place, markers, markers_before, place_in_group}
use Rattle.timing_base.specs.Flows.{run_start}
use Rattle.timing_base.specs.Grouped.{IsSized}
use Rattle.timing_base.specs.declared.packet.FlowPacket.{FlowPacket}
use Rattle.timing_base.specs.declared.packet.PacketFault.{PacketFault}
use Rattle.timing_base.proofs.FirstFaults.{no_fault-at}
use Rattle.timing_base.proofs.Places.{markers-here}
use Rattle.timing_base.proofs.Sizes.{short_here, sized-enter, sized-next, sized-nil, small_here, whole_here}
use Rattle.frame_group.specs.Sizes.{GroupsAreSized, IsOfSize}

none-before : (first : Option FirstFault) (n : ℕ) (here : Option PacketFault) → earlier_or first n here ≡ None → first ≡ None
none-before None n here e = refl
none-before (Some x) n here e = cc

-- the groups of a run are of one size up to packet i, where no packet before it has a fault
sized-below : (packets : List FlowPacket) (pt i : ℕ) → first_fault_below packets pt i ≡ None → IsSized i (markers packets (last_place (0 ∷ cuts packets i)) i)
sized-below packets pt zero e = sized-nil 0
sized-below packets pt (suc i) e =
    let here : fault packets pt i ≡ None = no_fault-at packets pt (suc i) i e (omega arith) in
    let before : first_fault_below packets pt i ≡ None = none-before (first_fault_below packets pt i) i (fault packets pt i) e in
    let next = sized-next packets pt i here (sized-enter packets i _ refl (sized-below packets pt i before)) in
    rw add-one at next

-- in the run of packet i itself
sized-at : (packets : List FlowPacket) (pt i : ℕ) → first_fault_below packets pt i ≡ None → IsSized i (markers_before packets i)
sized-at packets pt i e = sized-enter packets i _ refl (sized-below packets pt i e)

first-len : (marks : List ℕ) (i : ℕ) → length marks ≡ 1 → group_len (marks ++ i ∷ []) ≡ i - last_place marks
first-len [] i e = absurd (omega arith)
first-len (m ∷ []) i e = refl
first-len (m ∷ n ∷ rest) i e = absurd (omega arith)

last-one : (marks : List ℕ) → length marks ≡ 1 → last_place marks ≡ slice_index marks 0
last-one marks e = ap (λ n. slice_index marks (n - 1)) e

-- packet i stands in a group
of-size : (packets : List FlowPacket) (pt i : ℕ) → fault packets pt i ≡ None → IsSized i (markers_before packets i) → 1 ≤ length (markers_before packets i)
    → IsOfSize packets i (markers_before packets i) (place_in_group (markers_before packets i) i)
of-size packets pt i e s some = record {
  small = elim (cases_lt 1 (length (markers_before packets i))) as (λ _. place_in_group (markers_before packets i) i ≤ 262144) [
    | inl two ↦ omega (arith, s.few two, short_here packets pt i e s two, s.later two)
    | inr one ↦
        let only : length (markers_before packets i) ≡ 1 = omega (arith, one, some) in
        omega (arith, small_here packets pt i e s only, last-one (markers_before packets i) only, s.begun some)
  ];
  within = λ two. omega (arith, short_here packets pt i e s two, s.later two);
  whole = λ two marked. omega (arith, whole_here packets pt i e s marked two, s.later two);
  first = λ only marked.
      let here : group_len (markers packets (run_start packets i) (i + 1)) ≡ i - last_place (markers_before packets i) =
      ap group_len (markers-here packets i marked) ∙ first-len (markers_before packets i) i only in
      omega (arith, here, last-one (markers_before packets i) only, s.begun some);
}

-- the law
pub place-sized : GroupsAreSized
place-sized packets pt i e some =
    let here : fault packets pt i ≡ None = no_fault-at packets pt (i + 1) i e (omega arith) in
    let next : i + 1 ≡ suc i = omega arith in
    let last : first_fault_below packets pt (suc i) ≡ None = ap (first_fault_below packets pt) (sym next) ∙ e in
    let before : first_fault_below packets pt i ≡ None = none-before (first_fault_below packets pt i) i (fault packets pt i) last in
    of-size packets pt i here (sized-at packets pt i before) some
