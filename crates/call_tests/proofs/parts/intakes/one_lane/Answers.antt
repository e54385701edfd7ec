use Rattle.std.proofs.Common.{◌≡◌, ◌<◌, ℕ, List, [], ◌∷◌, length, sym, ap, ◌∙◌, arith}
use Rattle.std.specs.Prelude.{slice_index_or, Result, Ok, Err, IfOk}
use Rattle.ruled_intake.specs.Lanes.{AreSenders, LaneId, Sender, sent_of}
use Rattle.flow_worker.specs.Intakes.{HaveSentNothing}
use Rattle.flow_worker.proofs.Passes.{sender-is, sent_of-at}
use Rattle.call_tests.proofs.parts.intakes.one_lane.Goals as goal

-- the one sender of a lane, as the pass of file 0
one-sender : (lane : LaneId) (ps : List Sender) → AreSenders lane ps → length ps ≡ 1 → ((f : ℕ) → sent_of ps f ≡ []) → HaveSentNothing 0 (lane ∷ []) ps
one-sender lane ps senders one none = record {
  count = one;
  each = λ w d l below.
      let first : w ≡ 0 = omega (arith, below) in
      let within : w < length ps = omega (arith, first, one) in
      let is = senders w d within in
      sender-is (slice_index_or ps w d) (slice_index_or (lane ∷ []) w l) 0 [] (is.lane_is ∙ ap (λ (v : ℕ). slice_index_or (lane ∷ []) v l) (sym first))
      (is.from_is ∙ first)
      (sym (sent_of-at ps w d within) ∙ none w);
}

if_ok-then : {A E : Type 0} (r : Result A E) (P Q : A → Type 0) → ((x : A) → P x → Q x) → IfOk r P → IfOk r Q
if_ok-then (Ok x) P Q f h = f x h
if_ok-then (Err e) P Q f h = tt

pub returns-clause-passes : goal.returns-clause-passes
returns-clause-passes c =
    if_ok-then c.new.result _ _ (λ made h. one-sender made.0 made.1.items h.0 h.1 h.2) c.new.ensures.senders
