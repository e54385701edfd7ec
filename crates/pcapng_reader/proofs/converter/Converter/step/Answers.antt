use Rattle.std.proofs.Common.{refl, ◌∙◌, ◌++◌, length, take, ap, arith}
use Rattle.pcapng_reader.specs.Texts.{section_of, ahead, whole}
use Rattle.pcapng_reader.specs.Windows.{kept_bytes, held_bytes}
use Rattle.pcapng_reader.specs.Stages.{is_due}
use Rattle.pcapng_reader.proofs.Texts.{text-at_over}
use Rattle.pcapng_reader.proofs.Steps.{steps-after, text-forgot}
use Rattle.pcapng_reader.proofs.converter.Converter.step.Goals as goal

pub returns-in-Options : goal.returns-in-Options
returns-in-Options c =
    let w = c.args.self.now in
    let f = c.forget.new.self in
    steps-after w _ c.options.new.self c.options.result c.options.ensures
    (λ left.
    text-forgot w.stage (section_of w) (kept_bytes w.window) (kept_bytes f) (held_bytes w.window) (held_bytes f) (take w.budget left) (held_bytes f ++ left)
    (whole w left)
    c.in-Options.body c.in-Options.found c.in-Options.is c.forget.ensures.held)
    (omega (arith, ap length c.forget.ensures.kept, ap length c.forget.ensures.held)) refl

pub returns-in-Over : goal.returns-in-Over
returns-in-Over c =
    let w = c.args.self.now in
    record {
      text = λ left. refl;
      tells = λ left. text-at_over w.stage (section_of w) (kept_bytes w.window) (ahead w left) (whole w left) c.in-Over.is ∙ c.requires
          (ap is_due c.in-Over.is);
      budget = refl;
    }
