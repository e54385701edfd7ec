-- The times between packets, with one packet more.
use Rattle.std.proofs.Common.{◌≡◌, ◌≤◌, ◌<◌, ◌+◌, ◌-◌, ℕ, pos, min, max, refl, ap, ◌∙◌, sym, subst, arith}
use Rattle.std.proofs.lemmas.Int.{clamps, ints}
use Rattle.flow_measure.specs.Fed.{MeasuresGaps, gap_summary}
use Rattle.flow_measure.specs.Gaps.{gap_after}
use Rattle.flow_measure.specs.Stands.{Classifies}
use Rattle.flow_measure.specs.Summary.{IsSummary}
use Rattle.flow_measure.specs.declared.gaps.GapMeter.{GapMeter}
use Rattle.flow_measure.proofs.Summarized.{IsSummary-more, IsSummary-one}

-- the time to the packet that comes now
pub gap-here : (stamp : ℕ → ℕ) (b : GapMeter) (at k : ℕ) → b.seen ≡ k + 1 → stamp b.seen ≡ at → MeasuresGaps b stamp → gap_after stamp k ≡ at - b.end
gap-here stamp b at k is here h =
    let next : stamp (k + 1) ≡ at = ap stamp (sym is) ∙ here in
    let last : b.end ≡ stamp k = h.end_is (omega (arith, is)) ∙ ap stamp (omega (arith, is)) in
    omega (arith, next, last)

-- it comes no earlier than the one before
pub end-late : (stamp : ℕ → ℕ) (b : GapMeter) (at : ℕ) → 0 < b.seen → ((i : ℕ) → i < b.seen → stamp i ≤ at) → MeasuresGaps b stamp → b.end ≤ at
end-late stamp b at some before h = omega (arith, h.end_is some, before (b.seen - 1) (omega (arith, some)))

-- the second packet
pub second : (stamp : ℕ → ℕ) (b c : GapMeter) (at gap : ℕ)
    → b.seen ≡ 1 → c.seen ≡ 2 → c.begin ≡ b.begin → c.end ≡ at → gap ≡ at - b.end
    → c.first ≡ gap → c.last ≡ gap → c.least ≡ gap → c.greatest ≡ gap
    → stamp b.seen ≡ at → b.end ≤ at
    → Classifies c.classes (gap_after stamp)
    → MeasuresGaps b stamp
    → MeasuresGaps c stamp
second stamp b c at gap one two begin end gap_is first last least greatest here late classes h =
    let time : gap_after stamp 0 ≡ gap = gap-here stamp b at 0 one here h ∙ sym gap_is in
    let start : b.begin ≡ b.end = h.begin_is (omega (arith, one)) ∙ sym (h.end_is (omega (arith, one)) ∙ ap stamp (omega (arith, one))) in
    let count : 1 ≡ c.seen - 1 = omega (arith, two) in
    record {
      begin_is = λ some. begin ∙ h.begin_is (omega (arith, one));
      end_is = λ some. end ∙ sym here ∙ ap stamp (omega (arith, one, two));
      ordered = omega (arith, begin, end, start, late);
      summary = λ some. subst (λ k. IsSummary (λ i. pos (gap_after stamp i)) k (gap_summary c)) count
          (IsSummary-one (λ i. pos (gap_after stamp i)) (gap_summary c) (omega (arith, ints, least, time)) (omega (arith, ints, greatest, time))
          (omega (arith, ints, begin, end, start, gap_is, time)) (omega (arith, ints, first, time)) (omega (arith, ints, last, time)));
      classes_are = classes;
    }

-- a later one
pub later : (stamp : ℕ → ℕ) (b c : GapMeter) (at gap : ℕ)
    → 2 ≤ b.seen → c.seen ≡ b.seen + 1 → c.begin ≡ b.begin → c.end ≡ at → gap ≡ at - b.end
    → c.first ≡ b.first → c.last ≡ gap → c.least ≡ min b.least gap → c.greatest ≡ max b.greatest gap
    → stamp b.seen ≡ at → b.end ≤ at
    → Classifies c.classes (gap_after stamp)
    → MeasuresGaps b stamp
    → MeasuresGaps c stamp
later stamp b c at gap some next begin end gap_is first last least greatest here late classes h =
    let k = b.seen - 1 in
    let times = λ (i : ℕ). pos (gap_after stamp i) in
    let time : gap_after stamp k ≡ gap = gap-here stamp b at k (omega (arith, some)) here h ∙ sym gap_is in
    let count : k + 1 ≡ c.seen - 1 = omega (arith, next, some) in
    record {
      begin_is = λ _. begin ∙ h.begin_is (omega (arith, some));
      end_is = λ _. end ∙ sym here ∙ ap stamp (omega (arith, next));
      ordered = omega (arith, begin, end, h.ordered, late);
      summary = λ _. subst (λ j. IsSummary times j (gap_summary c)) count
          (IsSummary-more times k (gap_summary b) (gap_summary c) (h.summary (omega (arith, some))) (omega (arith, ints, clamps, least, time))
          (omega (arith, ints, clamps, greatest, time)) (omega (arith, ints, begin, end, h.ordered, late, gap_is, time)) (omega (arith, ints, first))
          (omega (arith, ints, last, time)));
      classes_are = classes;
    }
