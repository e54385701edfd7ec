use Rattle.std.proofs.Common.{ap, sym, ◌∙◌, subst, refl, rules}
use Rattle.std.specs.Prelude.{◌≡◌, ◌++◌, string_bytes}
use Rattle.timing_base.specs.Keys.{key_of}
use Rattle.timing_watch.specs.Watched.{IsLeftEnd}
use Rattle.timing_watch.specs.making.Flows.{past_of}
use Rattle.timing_watch.proofs.Ends.{flow-left}
use Rattle.timing_watch.proofs.flow.WatchFlow.finish.Goals as goal

pub returns-clause-row : goal.returns-clause-row
returns-clause-row c w m options packets h = c.in_ok-row.ensures.row m (key_of 0 w.form.media) options packets h.fed.judge_is

pub returns-clause-text : goal.returns-clause-text
returns-clause-text c w m options packets h none =
    let lines = c.in_ok-row.lines in
    let tells = c.in_ok-row.ensures.tells refl (past_of w h.gone) m (key_of 0 w.form.media) options packets h.fed in
    let all : string_bytes c.push_str.new.self ≡ string_bytes c.args.self.text ++ string_bytes lines.text = search rules in
    subst (IsLeftEnd w m options packets) (sym (all ∙ ap (λ s. s ++ string_bytes lines.text) none)) (flow-left w m options c.args.self packets lines h tells)
