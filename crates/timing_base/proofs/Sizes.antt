-- The sizes of groups where no packet has a fault.
use Rattle.std.proofs.Common.{◌≡◌, ◌≢◌, ◌≤◌, ◌<◌, ◌+◌, ◌-◌, ◌*◌, ℕ, suc, Bool, true, false, List, [], ◌∷◌, ◌++◌, length, Option, Some, None, refl, arith, ap}
use Rattle.std.proofs.Common.{◌∙◌, sym, subst, ◌&&◌, ◌||◌}
use Rattle.std.specs.Prelude.{nat_le, nat_lt, slice_index, ◌==◌}
use Rattle.std.proofs.lemmas.Grind.{common_steps}
use Rattle.std.proofs.lemmas.Bool.Decides.{nat_tests}
use Rattle.timing_base.specs.declared.packet.FlowPacket.{FlowPacket}
use Rattle.timing_base.specs.declared.packet.PacketFault.{PacketFault}
use Rattle.timing_base.specs.Flows.{last_place, is_cut, cuts, markers, markers_before, run_start, has_marker, group_len, place_in_group, fault, fault_if}
use Rattle.timing_base.specs.Flows.{first_of, is_other_size, is_too_large, size_fault, order_fault, sender_fault}
use Rattle.timing_base.specs.Grouped.{IsSized}
use Rattle.timing_base.proofs.Places.{last_place-push, run_start-other, run_start-cut, markers-here, markers-other, places-none}

-- a run that starts here has no group yet
pub sized-nil : (i : ℕ) → IsSized i []
sized-nil i = record {
  first = λ h. absurd (omega arith);
  begun = λ h. absurd (omega arith);
  some = λ h. absurd (omega arith);
  few = λ h. absurd (omega arith);
  whole = λ h. absurd (omega arith);
  later = λ h. absurd (omega arith);
  next = λ h. absurd (omega arith);
}

-- packet i has no marker
pub sized-stay : (i : ℕ) (marks : List ℕ) → IsSized i marks → (length marks ≡ 1 → i ≤ slice_index marks 0 + 262144)
    → (2 ≤ length marks → i ≤ last_place marks + group_len marks)
    → IsSized (i + 1) marks
sized-stay i marks s small short = record {
  first = λ h. omega (arith, small h);
  begun = λ h. omega (arith, s.begun h);
  some = s.some;
  few = s.few;
  whole = s.whole;
  later = λ h. omega (arith, s.later h);
  next = λ h. omega (arith, short h);
}

one_more : (g k : ℕ) → g * suc k + g ≡ g * suc (suc k)
one_more g k = grind arith

-- packet i has the marker
pub sized-push : (i : ℕ) (marks : List ℕ) → IsSized i marks → (length marks ≡ 1 → i ≤ slice_index marks 0 + 262144)
    → (2 ≤ length marks → i ≡ last_place marks + group_len marks)
    → IsSized (i + 1) (marks ++ i ∷ [])
sized-push i [] s small whole = record {
  first = λ h. omega arith;
  begun = λ h. omega arith;
  some = λ h. absurd (omega arith);
  few = λ h. absurd (omega arith);
  whole = λ h. absurd (omega arith);
  later = λ h. absurd (omega arith);
  next = λ h. absurd (omega arith);
}
sized-push i (m ∷ []) s small whole =
    let begun : m < i = s.begun (omega arith) in
    let fits : i ≤ m + 262144 = small refl in
    record {
      first = λ h. absurd (omega arith);
      begun = λ h. omega arith;
      some = λ h. begun;
      few = λ h. fits;
      whole = λ h. omega arith;
      later = λ h. omega arith;
      next = λ h. omega arith;
    }
sized-push i (m ∷ n ∷ rest) s small whole =
    let two : 2 ≤ length (m ∷ n ∷ rest) = omega arith in
    let some : m < n = s.some two in
    let few : n ≤ m + 262144 = s.few two in
    let last : last_place (m ∷ n ∷ (rest ++ i ∷ [])) ≡ i = last_place-push (m ∷ n ∷ rest) i in
    let here : i ≡ last_place (m ∷ n ∷ rest) + (n - m) = whole two in
    let less : suc (suc (length rest)) - 1 ≡ suc (length rest) = omega arith in
    let was : last_place (m ∷ n ∷ rest) ≡ m + (n - m) * suc (length rest) = s.whole two ∙ ap (λ k. m + (n - m) * k) less in
    let long : length (rest ++ i ∷ []) ≡ suc (length rest) = grind (arith, common_steps) in
    let more : (n - m) * suc (length rest) + (n - m) ≡ (n - m) * suc (suc (length rest)) = one_more (n - m) (length rest) in
    let sum : last_place (m ∷ n ∷ rest) + (n - m) ≡ m + (n - m) * suc (suc (length rest)) = omega (arith, was, more) in
    let full : suc (suc (length (rest ++ i ∷ []))) - 1 ≡ suc (suc (length rest)) = omega (arith, long) in
    record {
      first = λ h. absurd (omega (arith, long));
      begun = λ h. omega (arith, s.begun (omega arith));
      some = λ h. some;
      few = λ h. few;
      whole = λ h. last ∙ (here ∙ (sum ∙ ap (λ k. m + (n - m) * k) (sym full)));
      later = λ h. omega (arith, last);
      next = λ h. omega (arith, last);
    }

-- no fault in a chain
pub first-none : (a b : Option PacketFault) → first_of a b ≡ None → (a ≡ None) × (b ≡ None)
first-none None b e = (refl, e)
first-none (Some x) b e = cc

-- no fault by a condition
pub if-none : (b : Bool) (f : PacketFault) → fault_if b f ≡ None → b ≡ false
if-none true f e = cc
if-none false f e = refl

-- a packet with no fault is in a group of its size
pub none-sizes : (packets : List FlowPacket) (pt i : ℕ) → fault packets pt i ≡ None
    → (is_other_size packets i ≡ false) × (is_too_large 262144 packets i ≡ false)
none-sizes packets pt i e =
    let sizes = (first-none (order_fault 1024 packets i) (size_fault 262144 packets i) (first-none (sender_fault packets pt i) _ e).1).1 in
    let both = first-none _ _ sizes in
    (if-none _ _ both.0, if-none _ _ both.1)

not_other : (n got want : ℕ) (marker : Bool) → (nat_le 2 n && ((marker && nat_lt got want) || (got == want + 1))) ≡ false → 2 ≤ n
    → (got ≢ want + 1) × (marker ≡ true → want ≤ got)
not_other n got want marker e h = (λ s. grind (arith, nat_tests), λ m. grind (arith, nat_tests))

not_large : (n place : ℕ) → ((n == 1) && (place == 262145)) ≡ false → n ≡ 1 → place ≢ 262145
not_large n place e h s = grind (arith, nat_tests)

-- where packet i has no fault, its group is no larger than it may be
pub small_here : (packets : List FlowPacket) (pt i : ℕ) → fault packets pt i ≡ None → IsSized i (markers_before packets i)
    → length (markers_before packets i) ≡ 1 → i ≤ slice_index (markers_before packets i) 0 + 262144
small_here packets pt i e s one =
    let place : place_in_group (markers_before packets i) i ≢ 262145 = not_large _ _ (none-sizes packets pt i e).1 one in
    let last : last_place (markers_before packets i) ≡ slice_index (markers_before packets i) 0 =
    ap (λ n. slice_index (markers_before packets i) (n - 1)) one in
    let most = s.first one in
    omega (arith, place, last, most)

-- where packet i has no fault, its group has no packet too many
pub short_here : (packets : List FlowPacket) (pt i : ℕ) → fault packets pt i ≡ None → IsSized i (markers_before packets i)
    → 2 ≤ length (markers_before packets i)
    → i ≤ last_place (markers_before packets i) + group_len (markers_before packets i)
short_here packets pt i e s two =
    let other = not_other (length (markers_before packets i)) (place_in_group (markers_before packets i) i)
    (group_len (markers_before packets i)) _ (none-sizes packets pt i e).0 two in
    let next = s.next two in
    let later = s.later two in
    let differs : place_in_group (markers_before packets i) i ≢ group_len (markers_before packets i) + 1 = other.0 in
    omega (arith, differs, next, later)

-- where packet i has no fault, a group that ends with it has its size
pub whole_here : (packets : List FlowPacket) (pt i : ℕ) → fault packets pt i ≡ None → IsSized i (markers_before packets i) → has_marker packets i ≡ true
    → 2 ≤ length (markers_before packets i)
    → i ≡ last_place (markers_before packets i) + group_len (markers_before packets i)
whole_here packets pt i e s marked two =
    let other = not_other (length (markers_before packets i)) (place_in_group (markers_before packets i) i)
    (group_len (markers_before packets i)) _ (none-sizes packets pt i e).0 two in
    let most = short_here packets pt i e s two in
    let later = s.later two in
    let least : group_len (markers_before packets i) ≤ place_in_group (markers_before packets i) i = other.1 marked in
    omega (arith, least, most, later)

next-case : (packets : List FlowPacket) (pt i : ℕ) (b : Bool) → has_marker packets i ≡ b → fault packets pt i ≡ None → IsSized i (markers_before packets i)
    → IsSized (i + 1) (markers packets (run_start packets i) (i + 1))
next-case packets pt i true m e s =
    subst (IsSized (i + 1)) (sym (markers-here packets i m)) (sized-push i _ s (small_here packets pt i e s) (whole_here packets pt i e s m))
next-case packets pt i false m e s =
    subst (IsSized (i + 1)) (sym (markers-other packets i m)) (sized-stay i _ s (small_here packets pt i e s) (short_here packets pt i e s))

-- after a packet with no fault
pub sized-next : (packets : List FlowPacket) (pt i : ℕ) → fault packets pt i ≡ None → IsSized i (markers_before packets i)
    → IsSized (i + 1) (markers packets (run_start packets i) (i + 1))
sized-next packets pt i e s = next-case packets pt i (has_marker packets i) refl e s

enter-case : (packets : List FlowPacket) (i start : ℕ) (b : Bool) → is_cut packets i ≡ b → start ≡ last_place (0 ∷ cuts packets i)
    → IsSized i (markers packets start i) → IsSized i (markers_before packets i)
enter-case packets i start true e at s =
    subst (IsSized i) (sym (places-none (has_marker packets) (run_start packets i) i (let r = run_start-cut packets i e in omega arith))) (sized-nil i)
enter-case packets i start false e at s = subst (λ k. IsSized i (markers packets k i)) (at ∙ sym (run_start-other packets i e)) s

-- in the run of packet i itself
pub sized-enter : (packets : List FlowPacket) (i start : ℕ) → start ≡ last_place (0 ∷ cuts packets i) → IsSized i (markers packets start i)
    → IsSized i (markers_before packets i)
sized-enter packets i start at s = enter-case packets i start (is_cut packets i) refl at s
