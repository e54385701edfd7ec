use Rattle.std.proofs.Common.{rules, ℕ, [], subst}
use Rattle.timing_top.specs.Found.{FindsNext}
use Rattle.timing_top.proofs.Takings.{finds-next, rows-of_session}
use Rattle.timing_top.proofs.captures.judge_next.Goals as goal

pub returns-clause-told : goal.returns-clause-told
returns-clause-told g c = λ text whole.
    subst (λ (file : ℕ). FindsNext text c.args.media.now c.args.options file c.args.found.now.notes.items c.push.new.self.items c.args.found.now.rows.items
    c.finish.new.rows.items) (search rules)
    (finds-next text c.args.media.now c.args.options c.len-number.result c.in-Ok.bank c.take_source.new.taker c.in_ok-taken.taken _ _ _ _
    (c.in_ok-taken.ensures.told text whole) c.in-Ok.ensures.stands c.in_ok-push.ensures.items (λ items stands. c.in_ok-finish.ensures.rows _ _ _ items stands))

pub returns-clause-of_session : goal.returns-clause-of_session
returns-clause-of_session g c = λ h.
    let fed = c.in_ok-taken.ensures.fed in
    rows-of_session c.args.options c.len-number.result c.args.media.now fed.items _ _
    (c.in_ok-finish.ensures.rows _ _ _ fed.items (fed.taken _ _ _ [] c.in-Ok.ensures.stands)) h
