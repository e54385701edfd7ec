use Rattle.std.proofs.Common.{length, ◌∙◌, sym, arith}
use Rattle.flow_page.proofs.lemmas.drawing.Around.{all-taken, most-taken, region-same}
use Rattle.flow_page.proofs.drawing.region.RegionMeter.feed.Goals as goal

pub returns-then-takes_next : goal.returns-then-takes_next
returns-then-takes_next c = λ m n kind stamps at few h is.
    let s = c.args.self.now in
    let low = c.takes_next.ensures.room c.if-takes_next.true in
    let goes = sym (c.takes_next.ensures.opens low) ∙ c.if-takes_next.true in
    c.take.ensures m n kind stamps at (all-taken s.first (length stamps) s.taken h.taken_is goes) goes h is

pub returns-else-takes_next : goal.returns-else-takes_next
returns-else-takes_next c = λ m n kind stamps at few h is.
    let s = c.args.self.now in
    let most = most-taken s.first (length stamps) s.taken h.taken_is in
    let goes = sym (c.takes_next.ensures.opens (omega (arith, most, few))) ∙ c.if-takes_next.false in
    region-same m n kind s stamps at goes h
