use Rattle.std.proofs.Common.{ℕ, ap, ◌∙◌}
use Rattle.std.specs.Prelude.{string_bytes}
use Rattle.timing_base.specs.Media.{Media}
use Rattle.flow_page.specs.Timings.{least_step, wanted_text}
use Rattle.flow_page.proofs.Texts.{added_ok}
use Rattle.flow_page.proofs.timings.add_steps_wanted.Goals as goal

pub returns : goal.returns
returns c =
    let m = c.args.media.now in
    added_ok c.write_wanted.result (string_bytes c.args.text.now) _ _ _ c.write_wanted.ensures
    (ap (λ (x : Media). wanted_text x.p x.q c.least_step-least.result c.most_step-most.result) c.media.view_is
    ∙ ap (λ (n : ℕ). wanted_text m.p m.q n c.most_step-most.result) c.least_step-least.ensures
    ∙ ap (λ (n : ℕ). wanted_text m.p m.q (least_step m) n) c.most_step-most.ensures)
