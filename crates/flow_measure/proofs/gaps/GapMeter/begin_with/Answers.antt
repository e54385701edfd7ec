use Rattle.std.proofs.Common.{◌≡◌, ◌<◌, ◌-◌, ap, ◌∙◌, sym, refl, arith}
use Rattle.flow_measure.specs.Gaps.{gap_after}
use Rattle.flow_measure.proofs.Gapped.{end-late, gap-here, second}
use Rattle.flow_measure.proofs.gaps.GapMeter.begin_with.Goals as goal

pub returns-then-self-eq0-clause-stands : goal.returns-then-self-eq0-clause-stands
returns-then-self-eq0-clause-stands c = λ stamp h here before.
    let zero : c.args.self.now.seen ≡ 0 = omega (arith, c.if-self-eq0.true) in
    let first : c.args.at ≡ stamp 0 = sym (ap stamp (sym zero) ∙ here) in
    record {
      begin_is = λ _. first;
      end_is = λ _. first;
      ordered = omega arith;
      summary = λ two. absurd (omega (arith, two));
      classes_are = h.classes_are;
    }

pub returns-clause-stands : goal.returns-clause-stands
returns-clause-stands c = λ stamp h here before.
    let s = c.args.self.now in
    let one : s.seen ≡ 1 = omega (arith, c.requires.few, c.if-self-eq0.false) in
    let gap : c.saturating_sub-gap.result ≡ c.args.at - s.end = omega (arith, c.saturating_sub-gap.ensures) in
    let none : s.classes.seen ≡ 0 = omega (arith, s.classes_are, one) in
    let time : gap_after stamp s.classes.seen ≡ c.saturating_sub-gap.result =
    ap (gap_after stamp) none ∙ gap-here stamp s c.args.at 0 one here h ∙ sym gap in
    second stamp s _ c.args.at c.saturating_sub-gap.result one refl refl refl gap refl refl refl refl here
    (end-late stamp s c.args.at (omega (arith, one)) before h) (c.feed.ensures.stands (gap_after stamp) h.classes_are time) h
