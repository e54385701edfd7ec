use Rattle.std.proofs.Common.{◌≡◌, ◌≤◌, ◌++◌, ◌∷◌, [], length, ap, ◌∙◌, sym, subst}
use Rattle.run_meter.specs.Runs.{part_of}
use Rattle.flow_measure.proofs.Judging.{stamps-long}
use Rattle.flow_page.specs.drawing.Told.{Draws}
use Rattle.flow_page.specs.drawing.drawing.Longest.{is_shorter}
use Rattle.flow_page.proofs.lemmas.drawing.Longest.{longest-kept, longest-new}
use Rattle.flow_page.proofs.drawing.meter.DrawingMeterRunMeter.close.Goals as goal

pub returns-then-not-is_shorter : goal.returns-then-not-is_shorter
returns-then-not-is_shorter c = λ past shift r over fed committed size judged h tells.
    let m = c.args._params.now.media in
    let out = c.args.out.now in
    let part = part_of r c.args.judged.now committed in
    let count : length committed ≡ c.args.self.committed.packets.seen = sym (h.committed_are.packets_draw.seen_is ∙ stamps-long shift committed) in
    longest-kept m shift over part out.drawn (ap (is_shorter out.drawn) count ∙ sym c.is_shorter.ensures ∙ c.if-not-is_shorter.true) tells

pub returns : goal.returns
returns c = λ past shift r over fed committed size judged h tells.
    let params = c.args._params.now in
    let m = params.media in
    let out = c.args.out.now in
    let part = part_of r c.args.judged.now committed in
    let count : length committed ≡ c.args.self.committed.packets.seen = sym (h.committed_are.packets_draw.seen_is ∙ stamps-long shift committed) in
    let some : 1 ≤ r.n = subst (λ n. 1 ≤ n) (sym size) params.n_some in
    subst (Draws m shift (over ++ part ∷ [])) (sym c.put.ensures)
    (longest-new m shift over part out.drawn c.in_ok-drawn.drawn (ap (is_shorter out.drawn) count ∙ sym c.is_shorter.ensures ∙ c.if-not-is_shorter.false) tells
    (c.in_ok-drawn.ensures m shift r fed committed params.media_is some judged h))
