use Rattle.std.proofs.Common.{◌≡◌, ◌<◌, ℕ, zero, suc, List, [], ◌∷◌, ◌++◌, refl, sym, subst, arith}
use Rattle.std.specs.Prelude.{slice_index_or}
use Rattle.ruled_intake.specs.Lanes.{LaneId, Sender}
use Rattle.flow_worker.specs.Intakes.{HaveSentNothing}
use Rattle.call_tests.proofs.parts.intakes.two_lanes.Goals as goal

two-each : (a b : LaneId) (p q : Sender) → HaveSentNothing 0 (a ∷ []) (p ∷ []) → HaveSentNothing 0 (b ∷ []) (q ∷ []) → (w : ℕ) (d : Sender) (l : LaneId) → w < 2
    → slice_index_or (p ∷ q ∷ []) w d ≡ record { lane = slice_index_or (a ∷ b ∷ []) w l; from = 0; sent = [] }
two-each a b p q h g zero d l below = h.each 0 d l (omega arith)
two-each a b p q h g (suc zero) d l below = g.each 0 d l (omega arith)
two-each a b p q h g (suc (suc w)) d l below = absurd (omega (arith, below))

-- the passes of a file for two lanes
two-passes : (a b : LaneId) (ps qs : List Sender) → HaveSentNothing 0 (a ∷ []) ps → HaveSentNothing 0 (b ∷ []) qs → HaveSentNothing 0 (a ∷ b ∷ []) (ps ++ qs)
two-passes a b [] qs h g = absurd (omega (arith, h.count))
two-passes a b (p ∷ []) [] h g = absurd (omega (arith, g.count))
two-passes a b (p ∷ []) (q ∷ []) h g = record { count = refl; each = two-each a b p q h g }
two-passes a b (p ∷ []) (q ∷ r ∷ qs) h g = absurd (omega (arith, g.count))
two-passes a b (p ∷ o ∷ ps) qs h g = absurd (omega (arith, h.count))

pub taken_in-done-requires-clause-passes : goal.taken_in-done-requires-clause-passes
taken_in-done-requires-clause-passes g c =
    let all : c.append.new.self.items ≡ c.in_ok-first.passes.items ++ c.in_ok-second.more.items = c.in_ok-append.ensures.items in
    subst (HaveSentNothing 0 (c.in_ok-first.first ∷ c.in_ok-second.second ∷ [])) (sym all)
    (two-passes c.in_ok-first.first c.in_ok-second.second c.in_ok-first.passes.items c.in_ok-second.more.items c.in_ok-first.ensures.passes
    c.in_ok-second.ensures.passes)
