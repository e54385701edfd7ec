-- The packet that a judge expects next.
use Rattle.std.proofs.Common.{◌≡◌, ◌<◌, ◌+◌, ◌-◌, ◌%◌, ◌^◌, ℕ, Bool, true, false, List, [], length, Some, None, Option, ap, sym, ◌∙◌, refl, subst, append-nil}
use Rattle.std.proofs.Common.{arith}
use Rattle.std.specs.Prelude.{is_some, ◌||◌, ◌==◌, if◌then◌else◌, option_map}
use Rattle.std.proofs.lemmas.Bool.Decides.{nat_tests}
use Rattle.timing_base.specs.Numbered.{numbered}
use Rattle.timing_base.specs.Shifts.{FlowOptions, Shift}
use Rattle.timing_base.specs.Flows.{FirstFault, first_fault, first_fault_below, has_marker, next_number, rtp}
use Rattle.timing_base.specs.Media.{Media}
use Rattle.timing_base.specs.declared.key.FlowKey.{FlowKey}
use Rattle.timing_base.specs.declared.packet.FlowPacket.{FlowPacket}
use Rattle.timing_base.specs.declared.packet.Rtp.{Rtp}
use Rattle.frame_group.specs.Expected.{after, expected_after, expected_by_options, going_on, is_nothing_expected, with_number}
use Rattle.frame_group.proofs.Expecting.{expected-is}
use Rattle.timing_base.proofs.Numberings.{length-numbered}
use Rattle.fail_interval.specs.Counting.{Counts, own_of}
use Rattle.fail_interval.specs.Flowing.{flow_expects}
use Rattle.fail_interval.specs.Goings.{GoesAsExpected}
use Rattle.fail_interval.specs.Stands.{StandsFor, expected_of}
use Rattle.fail_interval.specs.States.{IsAt, state_expects}
use Rattle.fail_interval.specs.declared.counting.Counting.{Counting}
use Rattle.fail_interval.specs.declared.flow.Flow.{Flow}
use Rattle.fail_interval.specs.declared.judge.FlowJudge.{FlowJudge}
use Rattle.fail_interval.specs.declared.judge.State.{State}
use Rattle.fail_interval.specs.declared.judge.State.TheVariants.{Going, Refused, Spent}
use Rattle.fail_interval.proofs.Numbered.{going-alike, lowered-going}

fault-there : (packets : List FlowPacket) (pt n : ℕ) (a : Bool) (first : Option FirstFault) (f : FirstFault) → first ≡ Some f
    → None ≡ (if a || is_some first then None else Some (going_on packets pt n))
fault-there packets pt n true first f e = refl
fault-there packets pt n false first f e = rw e refl

expected-refused : (packets : List FlowPacket) (pt : ℕ) (f : FirstFault) → first_fault packets pt ≡ Some f → None ≡ expected_after packets pt
expected-refused packets pt f e =
    fault-there packets pt (length packets) ((length packets == 0) || has_marker packets (length packets - 1)) (first_fault packets pt) f e

expected-state : {M : Type 0} (m : Media) (shift : Shift) (packets : List FlowPacket) (state : State M) → IsAt m shift packets state
    → state_expects state ≡ expected_after packets m.pt
expected-state m shift packets (Going flow) at =
    expected-is flow.grouper flow.media.pt packets at.2.grouper ∙ ap (λ (k : Media). expected_after packets k.pt) at.0
expected-state m shift packets (Refused rec fault) at =
    expected-refused packets m.pt _
    (subst (λ (l : List FlowPacket). first_fault_below l m.pt (length packets) ≡ Some record { index = at.index; fault = fault })
    (append-nil packets) (at.first []))
expected-state m shift packets Spent at = absurd at

not-zero : (n : ℕ) → (n == 0) ≡ false → 0 < n
not-zero n e = grind (arith, nat_tests)

something-case : (none marker : Bool) (first : Option FirstFault) → (none || marker || is_some first) ≡ false → (none ≡ false) × (first ≡ None)
something-case false false None e = (refl, refl)
something-case false false (Some first) e = cc
something-case false true first e = cc
something-case true marker first e = cc

-- where a packet is expected, there are packets, and none has a fault
something : (packets : List FlowPacket) (pt : ℕ) → is_nothing_expected packets pt ≡ false → (0 < length packets) × (first_fault packets pt ≡ None)
something packets pt e =
    let both = something-case (length packets == 0) (has_marker packets (length packets - 1)) (first_fault packets pt) e in
    (not-zero (length packets) both.0, both.1)

expects-case : (nothing : Bool) (p q : Rtp) → (if nothing then None else Some p) ≡ Some q → nothing ≡ false
expects-case true p q e = cc
expects-case false p q e = refl

pub is-something : (options : FlowOptions) (packets : List FlowPacket) (pt : ℕ)
    → expected_after (numbered options.seq16 packets) pt ≡ Some (going_on (numbered options.seq16 packets) pt (length (numbered options.seq16 packets)))
    → (0 < length packets) × (first_fault (numbered options.seq16 packets) pt ≡ None)
is-something options packets pt e =
    let both = something (numbered options.seq16 packets) pt (expects-case _ _ _ e) in
    (omega (arith, both.0, length-numbered options.seq16 packets), both.1)

-- and it is expected in the bytes too
pub expects-by : (options : FlowOptions) (packets : List FlowPacket) (pt : ℕ)
    → expected_after (numbered options.seq16 packets) pt ≡ Some (going_on (numbered options.seq16 packets) pt (length (numbered options.seq16 packets)))
    → expected_by_options options packets pt ≡ Some (going_on packets pt (length packets))
expects-by options packets pt e =
    ap (λ b. if b then None else Some (going_on packets pt (length packets))) (expects-case (is_nothing_expected (numbered options.seq16 packets) pt) _ _ e)

-- the packet that goes on, as it stands in the bytes
own-going : (seq16 : Bool) (packets : List FlowPacket) (pt : ℕ) (counting : Counting) → Counts pt seq16 packets counting
    → first_fault (numbered seq16 packets) pt ≡ None
    → own_of counting (going_on (numbered seq16 packets) pt (length (numbered seq16 packets))) ≡ going_on packets pt (length packets)
own-going seq16 packets pt counting c none =
    let n = next_number (rtp (numbered seq16 packets) (length packets - 1)).number in
    ap (own_of counting) (going-alike seq16 packets pt)
    ∙ ap (λ k. with_number k (going_on packets pt (length packets)))
    (ap (λ raise. (n + 2 ^ 32 - raise) % 2 ^ 32) (c.raise_is none) ∙ lowered-going seq16 packets c.few)

own-case : (nothing : Bool) (counting : Counting) (p q : Rtp) → (nothing ≡ false → own_of counting p ≡ q)
    → option_map (own_of counting) (if nothing then None else Some p) ≡ (if nothing then None else Some q)
own-case true counting p q is = refl
own-case false counting p q is = ap (λ (r : Rtp). Some r) (is refl)

-- what a judge expects by what it keeps is what is expected after the packets that it was fed
pub expected-stands : {M : Type 0} (m : Media) (key : FlowKey) (options : FlowOptions) (judge : FlowJudge M) (packets : List FlowPacket)
    → StandsFor m key options judge packets
    → expected_of judge ≡ expected_by_options options packets m.pt
expected-stands m key options judge packets s =
    let all = numbered options.seq16 packets in
    ap (option_map (own_of judge.counting)) (expected-state m options.shift all judge.state s.state)
    ∙ own-case (is_nothing_expected all m.pt) judge.counting _ _ (λ e. own-going options.seq16 packets m.pt judge.counting s.counts (something all m.pt e).1)

-- nothing is expected of a flow with a fault
pub expected-none : {M : Type 0} (state : State M) → ((flow : Flow M) → state ≡ Going flow → ⊥) → None ≡ state_expects state
expected-none (Going flow) not = absurd (not flow refl)
expected-none (Refused rec fault) not = refl
expected-none Spent not = refl

-- the packet that goes on in a flow without one
expected-going : {M : Type 0} (state : State M) (flow : Flow M) (expected : Option Rtp) → state ≡ Going flow → expected ≡ flow_expects flow
    → expected ≡ state_expects state
expected-going state flow expected e is = is ∙ sym (ap state_expects e)

-- after it the next one
pub expected-next : {M : Type 0} (at : ℕ) (old new : State M) → GoesAsExpected old new at → state_expects new ≡ after (state_expects old)
expected-next at old new went =
    ap state_expects went.becomes ∙ went.goes.next ∙ sym (ap (λ (s : State _). after (state_expects s)) went.is)

after-number : (number raise : ℕ) → raise < 2 ^ 32 → (next_number number + 2 ^ 32 - raise) % 2 ^ 32 ≡ next_number ((number + 2 ^ 32 - raise) % 2 ^ 32)
after-number number raise few = omega (arith, few)

own-after : (counting : Counting) (o : Option Rtp) → option_map (own_of counting) (after o) ≡ after (option_map (own_of counting) o)
own-after counting None = refl
own-after counting (Some p) = ap (λ n. Some (with_number n p)) (after-number p.number counting.raise counting.few)

-- in the bytes too
pub own-next : {M : Type 0} (at : ℕ) (counting : Counting) (old new : State M) → GoesAsExpected old new at
    → option_map (own_of counting) (state_expects new) ≡ after (option_map (own_of counting) (state_expects old))
own-next at counting old new went = ap (option_map (own_of counting)) (expected-next at old new went) ∙ own-after counting (state_expects old)

-- what a judge returns of a flow that goes on
pub some-expected : {M : Type 0} (judge : FlowJudge M) (flow : Flow M) (expected : Option Rtp) (p own : Rtp)
    → judge.state ≡ Going flow → expected ≡ flow_expects flow → expected ≡ Some p → own ≡ own_of judge.counting p
    → Some own ≡ expected_of judge
some-expected judge flow expected p own e is some own_is =
    ap (λ (r : Rtp). Some r) own_is ∙ ap (option_map (own_of judge.counting)) (sym some ∙ expected-going judge.state flow expected e is)

-- and of one that doesn't
pub nothing-expected : {M : Type 0} (judge : FlowJudge M) → ((flow : Flow M) → judge.state ≡ Going flow → ⊥) → None ≡ expected_of judge
nothing-expected judge not = ap (option_map (own_of judge.counting)) (expected-none judge.state not)
