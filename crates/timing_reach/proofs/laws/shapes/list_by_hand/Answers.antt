use Rattle.std.proofs.Common.{◌≡◌, ◌<◌, ◌++◌, ℕ, true, List, [], ◌∷◌, length, refl, ap, ◌∙◌, arith, inl}
use Rattle.std.specs.Prelude.{codes, slice_index, slice_index_or, nat_lt}
use Rattle.std.specs.List.{count_by}
use Rattle.flow_shaper.proofs.ByHand.{five}
use Rattle.flow_shaper.specs.Bounds.{BoundAt}
use Rattle.flow_shaper.specs.Plan.{Shaped}
use Rattle.flow_shaper.specs.Worked.{burst_shaped}
use Rattle.flow_shaper.specs.declared.departure.Bound.{Bound}
use Rattle.flow_shaper.specs.declared.departure.Bound.TheVariants.{Arrival, Bucket}
use Rattle.sender_params.specs.Worked.{at_once, hd_50}
use Rattle.timing_base.specs.Captures.{Record}
use Rattle.timing_base.specs.Shifts.{no_shift}
use Rattle.timing_base.specs.declared.media.Kind.TheVariants.{N}
use Rattle.timing_report.proofs.Numerals.{numerals}
use Rattle.timing_report.specs.declared.status.Status.TheVariants as status
use Rattle.timing_reach.specs.Shapes.{AreBounds, HasShape, delays, delays_line, end_of, greatest, packet_lines}
use Rattle.timing_reach.specs.WorkedShapes.{run_of_stamps}
use Rattle.timing_reach.proofs.OneShape.{shape-once}
use Rattle.timing_reach.proofs.laws.shapes.list_by_hand.Goals as goal

bounds : List Bound
bounds = Arrival ∷ Arrival ∷ Arrival ∷ Arrival ∷ Bucket 0 ∷ []

are : BoundAt hd_50 20 N (at_once 5) burst_shaped 4 (Bucket 0) → AreBounds hd_50 20 N (at_once 5) burst_shaped bounds
unfolding bounds
are last = record { each = refl; bound = five (λ i. BoundAt hd_50 20 N (at_once 5) burst_shaped i (slice_index_or bounds i Arrival)) refl refl refl refl last }

abbrev text : List ℕ
text = packet_lines 0 (delays (at_once 5) burst_shaped) bounds
    ++ delays_line (count_by (nat_lt 0) (delays (at_once 5) burst_shaped)) (length (delays (at_once 5) burst_shaped))
    (greatest (delays (at_once 5) burst_shaped))

lines : text ≡ codes "packet 4 delayed 909091 ns by bucket from 0\n" ++ codes "delayed 1 of 5, greatest 909091 ns\n"
unfolding bounds numerals
lines = refl

has : (items : List Record) → Shaped hd_50 20 N (at_once 5) burst_shaped → BoundAt hd_50 20 N (at_once 5) burst_shaped 4 (Bucket 0)
    → HasShape true no_shift N hd_50 items (run_of_stamps (at_once 5)) (record { text = text; status = status.Pass })
has items shaped last = inl (record {
  departures = burst_shaped;
  leave = record {
    shaped = shaped;
    in_time = five (λ i. slice_index burst_shaped i < end_of no_shift) (omega arith) (omega arith) (omega arith) (omega arith)
        (omega arith);
  };
  text = text;
  prints = record { bounds = bounds; are = are last; text_is = refl };
  answer_is = refl;
})

pub returns : goal.returns
returns c = λ items answer h.
    shape-once true no_shift N hd_50 items (run_of_stamps (at_once 5)) answer (record { text = text; status = status.Pass }) h
    (has items c.burst_by_hand.ensures.shaped c.burst_by_hand.ensures.bound)
    ∙ ap (λ (t : List ℕ). record { text = t; status = status.Pass }) lines
