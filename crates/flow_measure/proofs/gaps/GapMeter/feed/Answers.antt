use Rattle.std.proofs.Common.{◌≡◌, ◌<◌, ◌≤◌, ◌-◌, min, max, ap, ◌∙◌, sym, refl, arith}
use Rattle.flow_measure.specs.Gaps.{gap_after}
use Rattle.flow_measure.proofs.Gapped.{end-late, gap-here, later}
use Rattle.flow_measure.proofs.gaps.GapMeter.feed.Goals as goal

pub returns-clause-stands : goal.returns-clause-stands
returns-clause-stands c = λ stamp h here before.
    let s = c.args.self.now in
    let some : 2 ≤ s.seen = omega (arith, c.if-self-lt2.false) in
    let gap : c.saturating_sub-gap.result ≡ c.args.at - s.end = omega (arith, c.saturating_sub-gap.ensures) in
    let least : c.min-self.result ≡ min s.least c.saturating_sub-gap.result = omega (arith, c.min-self.ensures) in
    let greatest : c.max-self.result ≡ max s.greatest c.saturating_sub-gap.result = omega (arith, c.max-self.ensures) in
    let time : gap_after stamp s.classes.seen ≡ c.saturating_sub-gap.result =
    gap-here stamp s c.args.at s.classes.seen (omega (arith, s.classes_are, some)) here h ∙ sym gap in
    later stamp s _ c.args.at c.saturating_sub-gap.result some refl refl refl gap refl refl least greatest here
    (end-late stamp s c.args.at (omega (arith, some)) before h) (c.feed.ensures.stands (gap_after stamp) h.classes_are time) h
