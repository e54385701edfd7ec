use Rattle.std.proofs.Common.{◌∙◌, ap, sym}
use Rattle.pcapng_reader.specs.Texts.{section_of, ahead, whole}
use Rattle.pcapng_reader.specs.Windows.{kept_bytes}
use Rattle.pcapng_reader.specs.Classic.{blocks, go_on}
use Rattle.pcapng_reader.specs.Converting.{content_given}
use Rattle.pcapng_reader.proofs.Texts.{text-block}
use Rattle.pcapng_reader.proofs.converter.Converter.finish.Goals as goal

pub returns-in-Record-clause-text : goal.returns-in-Record-clause-text
returns-in-Record-clause-text c =
    let w = c.args.self.now in
    λ left.
    text-block (section_of w) (kept_bytes w.window) (ahead w left) (whole w left)
    ∙ ap (λ x. go_on (λ next. blocks next (ahead w left)) (content_given x c.args.order (kept_bytes w.window) (section_of w))) (sym c.in-Record.is)
