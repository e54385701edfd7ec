-- The change of a judge's state and of its numbering by a packet.
use Rattle.std.specs.Prelude.{◌≡◌, ◌<◌, ◌+◌, ◌^◌, ℕ, true, false, List, [], ◌∷◌, ◌++◌, None, IsErr, IsOk, Ok, OnErr}
use Rattle.std.specs.Prelude.{OnOk, Result}
use Rattle.frame_group.specs.Expected.{last_number_of, raise_of, with_number}
use Rattle.timing_base.specs.Flows.{first_fault}
use Rattle.timing_base.specs.Media.{Media}
use Rattle.timing_base.specs.Numbered.{counted}
use Rattle.timing_base.specs.Shifts.{Shift}
use Rattle.timing_base.specs.declared.packet.FlowPacket.{FlowPacket}
use Rattle.timing_base.specs.declared.packet.PacketFault.{PacketFault}
use Rattle.timing_base.specs.declared.packet.Rtp.{Rtp}
use Rattle.fail_interval.specs.Flowing.{Took, TookExpected}
use Rattle.fail_interval.specs.States.{IsAt, IsKnown, StandsFor}
use Rattle.fail_interval.specs.declared.counting.Counting.{Counting}
use Rattle.fail_interval.specs.declared.flow.Flow.{Flow}
use Rattle.fail_interval.specs.declared.judge.State.{State}
use Rattle.fail_interval.specs.declared.judge.State.TheVariants.{Going, Refused, Spent}

-- a flow without a fault made this step
pub record GoesBy {M : Type 0} (step : Flow M → Flow M → Type 0) (old new : State M) : Type 0 where
  pub flow : Flow M
  pub later : Flow M
  pub is : old ≡ Going flow
  pub becomes : new ≡ Going later
  pub media : later.media ≡ flow.media
  pub shift : later.shift ≡ flow.shift
  pub goes : step flow later

-- a flow without a fault took this packet
abbrev pub GoesOn : {M : Type 0} → (old new : State M) → (rec at : ℕ) → Rtp → Type 0
GoesOn old new rec at rtp = GoesBy (λ flow later. Took flow later (record { rec = rec; at = at; rtp = Ok rtp })) old new

-- a flow without a fault took the expected packet
abbrev pub GoesAsExpected : {M : Type 0} → (old new : State M) → (at : ℕ) → Type 0
GoesAsExpected old new at = GoesBy (λ flow later. TookExpected flow later at) old new

-- a packet with this fault came; the state keeps the first fault and its packet record
pub record Refuses {M T E : Type 0} (old new : State M) (rec : ℕ) (fault : PacketFault)
    (result : Result T E) : Type 0 where
  pub going : (flow : Flow M) → old ≡ Going flow → IsOk result × (new ≡ Refused rec fault)
  pub refused : (first : ℕ) (earlier : PacketFault) → old ≡ Refused first earlier
      → IsOk result × (new ≡ Refused first earlier)
  pub spent : old ≡ Spent → IsErr result × (new ≡ Spent)

-- a call took this packet, with its judged number, after `fed` ones; if memory runs out, the state is `Spent`; a first
-- fault stays the first
pub record StateTakes {M T E : Type 0} (fed : ℕ) (old new : State M) (next : FlowPacket) (result : Result T E) : Type 0
  where
    pub stands : (m : Media) (shift : Shift) (packets : List FlowPacket) → StandsFor m shift fed packets old
        → OnOk result (StandsFor m shift (fed + 1) (packets ++ next ∷ []) new)
    pub known : ∥ IsKnown fed old ∥₁ → ∥ IsKnown (fed + 1) new ∥₁
    pub refused : (rec : ℕ) (fault : PacketFault) → old ≡ Refused rec fault → IsOk result × (new ≡ Refused rec fault)
    pub spends : OnErr result (new ≡ Spent)
    pub stays : old ≡ Spent → IsErr result

-- the numbering went on with packet p, which is packet q with its judged number; the state is that before the packet
pub record CountsOn {M : Type 0} (old new : Counting) (state : State M) (p q : Rtp) : Type 0 where
  pub seq16 : new.seq16 ≡ old.seq16
  pub plain : old.seq16 ≡ false → (q ≡ p) × (new.raise ≡ old.raise)
  pub counts : old.seq16 ≡ true → (m : Media) (shift : Shift) (packets : List FlowPacket) → IsAt m shift packets state
      → first_fault packets m.pt ≡ None → q ≡ with_number (counted (last_number_of packets) p.number) p
  pub raise : old.seq16 ≡ true → new.raise ≡ raise_of q.number p.number
  pub few : old.seq16 ≡ true → p.number < 2 ^ 32
