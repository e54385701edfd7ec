-- Clauses of the crate's private functions: the effect of one record on one flow, and on the flows in turn.
use Rattle.std.specs.Prelude.{◌≡◌, ◌+◌, ℕ, zero, suc, List, [], ◌∷◌, Option}
use Rattle.timing_base.specs.Captures.{Record}
use Rattle.timing_base.specs.Media.{Media}
use Rattle.timing_base.specs.declared.packet.Rtp.{Rtp}
use Rattle.flow_demux.specs.Awaits.{AwaitsExpected}
use Rattle.flow_demux.specs.Takings.{TakesFlow}
use Rattle.flow_demux.specs.declared.media_flow.MediaFlow.{MediaFlow}

-- a flow took a record; there is then room for one packet less
pub record StepsOn {F : Type 0} (takes : Media → F → F → List Record → Type 0) (room : (count : ℕ) → F → Type 0)
    (expects : F → Option Rtp) (r : Record) (old new : MediaFlow F) : Type 0 where
  pub taken : TakesFlow takes old new (r ∷ [])
  pub leaves : (count : ℕ) → room (count + 1) old.taker → room count new.taker
  pub awaited : AwaitsExpected expects new

-- the first n items made such a step, and the others are unchanged
abbrev pub StepUpTo : {X : Type 0} → (Step : X → X → Type 0) → ℕ → (olds news : List X) → Type 0
StepUpTo Step zero olds news = news ≡ olds
StepUpTo Step (suc i) [] news = news ≡ []
StepUpTo Step (suc i) (o ∷ os) [] = ⊥
StepUpTo Step (suc i) (o ∷ os) (n ∷ ns) = Step o n × StepUpTo Step i os ns
