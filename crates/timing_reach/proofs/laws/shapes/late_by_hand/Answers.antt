use Rattle.std.proofs.Common.{◌≡◌, ◌≤◌, ◌<◌, ℕ, zero, suc, List, refl, ◌∙◌, arith, inr}
use Rattle.std.specs.Prelude.{codes, slice_index}
use Rattle.flow_shaper.specs.Plan.{IsPlan, Models, models_of}
use Rattle.sender_params.specs.Worked.{hd_50}
use Rattle.timing_base.specs.Shifts.{no_shift}
use Rattle.timing_base.specs.declared.media.Kind.TheVariants.{N}
use Rattle.timing_report.proofs.Numerals.{numerals}
use Rattle.timing_report.specs.declared.status.Status.TheVariants as status
use Rattle.timing_reach.specs.Shapes.{IsLate, LeaveInTime, end_of, not_shaped}
use Rattle.timing_reach.specs.WorkedShapes.{last_nanosecond, run_of_stamps}
use Rattle.timing_reach.proofs.OneShape.{shape-once}
use Rattle.timing_reach.proofs.laws.shapes.late_by_hand.Goals as goal

abbrev at : ℕ
at = 4294967295999999999

abbrev w : Models
w = models_of hd_50 20 N at

-- each comes then
each : (i : ℕ) → i < 4 → slice_index (last_nanosecond 4) i ≡ at
each zero few = refl
each (suc zero) few = refl
each (suc (suc zero)) few = refl
each (suc (suc (suc zero))) few = refl
each (suc (suc (suc (suc i)))) few = absurd (omega (arith, few))

-- four may leave when they come
plan : IsPlan w (last_nanosecond 4) (last_nanosecond 4)
plan = record {
  each = refl;
  after = λ i few. omega arith;
  ordered = λ j i order few. omega (arith, each j (omega (arith, order, few)), each i few);
  bucket = λ j i order few. omega (arith, few);
  buffer = λ i few. omega (arith, few);
}

leave : LeaveInTime hd_50 20 N (end_of no_shift) (last_nanosecond 4) (last_nanosecond 4)
leave = record {
  shaped = record { plan = plan; least = λ others p i few. p.after i few };
  in_time = λ i few. omega (arith, each i few);
}

-- the fifth leaves a tick after the first
later : (others : List ℕ) → IsPlan w (last_nanosecond 5) others → end_of no_shift ≤ slice_index others 4
later others p =
    omega (
      arith,
      p.after 0 (omega arith),
      p.after 4 (omega arith),
      p.ordered 0 4 (omega arith) (omega (arith, p.each)),
      p.bucket 0 4 (omega arith) (omega (arith, p.each)),
    )

late : IsLate hd_50 20 N (end_of no_shift) (last_nanosecond 5) 4
late = record { within = omega arith; departures = last_nanosecond 4; before = leave; late = later }

lines : not_shaped 4 ≡ record { text = codes "not shaped: packet 4\n"; status = status.NotAllJudged }
unfolding numerals
lines = refl

pub returns : goal.returns
returns c = λ list items answer h.
    shape-once list no_shift N hd_50 items (run_of_stamps (last_nanosecond 5)) answer (not_shaped 4) h
    (inr (record { packet = 4; late = late; answer_is = refl }))
    ∙ lines
