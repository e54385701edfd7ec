-- The state of a `RowsMeter` after the packets of a run, and the text for the packets that it kept. m is the video, n
-- the packets per frame or field, and `shift` that of the capture timestamps.
use Rattle.std.specs.Prelude.{◌≡◌, ℕ, ⊤, Bool, List, [], ◌∷◌, ◌++◌}
use Rattle.timing_base.specs.Shifts.{Shift}
use Rattle.timing_base.specs.Media.{Media}
use Rattle.timing_base.specs.declared.packet.FlowPacket.{FlowPacket}
use Rattle.run_meter.specs.Runs.{RunOf}
use Rattle.flow_measure.specs.rows.Rows.{Adds, AreRows}
use Rattle.flow_measure.specs.rows.making.Stands.{IsKept, StandsFor as MakerStandsFor}
use Rattle.flow_measure.specs.declared.rows.maker.Kept.{Kept}
use Rattle.flow_measure.specs.declared.rows.maker.RowMaker.{RowMaker}
use Rattle.flow_measure.specs.declared.rows.meter.RowsMeter.{RowsMeter}

-- the kept values of these packets, in order, after others
abbrev pub AreKept : Media → (shift : Shift) (n : ℕ) → (before packets : List FlowPacket) → List Kept → Type 0
AreKept m shift n before [] [] = ⊤
AreKept m shift n before [] (one ∷ kept) = ⊥
AreKept m shift n before (p ∷ packets) [] = ⊥
AreKept m shift n before (p ∷ packets) (one ∷ kept) =
    IsKept m shift n before p one × AreKept m shift n (before ++ p ∷ []) packets kept

-- for this run of the video, the meter was fed exactly the packets `fed`, of which `committed` were committed
pub record StandsFor (x : RowsMeter) (m : Media) (shift : Shift) (r : RunOf) (fed committed : List FlowPacket)
    : Type 0 where
  pub maker_is : MakerStandsFor m shift r.number r.n x.maker committed
  pub rest : List FlowPacket
  pub whole : fed ≡ committed ++ rest
  pub kept_are : AreKept m shift r.n committed rest x.kept.items

-- a packet was fed to the maker, and its text was appended
pub record PutsRow (frames : Bool) (m : Media) (n : ℕ) (old new : RowMaker) (kept : Kept) (before after : List ℕ)
    : Type 0 where
  pub here : List ℕ
  pub text_is : after ≡ before ++ here
  pub adds : (shift : Shift) (run : ℕ) (packets : List FlowPacket) (p : FlowPacket) → IsKept m shift n packets p kept
      → MakerStandsFor m shift run n old packets → Adds frames m shift run n packets p here
  pub stands : (shift : Shift) (run : ℕ) (packets : List FlowPacket) (p : FlowPacket) → IsKept m shift n packets p kept
      → MakerStandsFor m shift run n old packets → MakerStandsFor m shift run n new (packets ++ p ∷ [])

-- these packets were fed to the maker, in order, and their text was appended
pub record PutsRows (frames : Bool) (m : Media) (n : ℕ) (old new : RowMaker) (kept : List Kept)
    (before after : List ℕ) : Type 0 where
  pub here : List ℕ
  pub text_is : after ≡ before ++ here
  pub are : (shift : Shift) (run : ℕ) (packets more : List FlowPacket) → AreKept m shift n packets more kept
      → MakerStandsFor m shift run n old packets → AreRows frames m shift run n packets more here
  pub stands : (shift : Shift) (run : ℕ) (packets more : List FlowPacket) → AreKept m shift n packets more kept
      → MakerStandsFor m shift run n old packets → MakerStandsFor m shift run n new (packets ++ more)
