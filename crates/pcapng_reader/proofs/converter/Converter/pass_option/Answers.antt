use Rattle.std.proofs.Common.{refl, ◌++◌, take}
use Rattle.pcapng_reader.specs.Texts.{section_of}
use Rattle.pcapng_reader.specs.Windows.{kept_bytes, held_bytes}
use Rattle.pcapng_reader.proofs.Steps.{text-option_passed}
use Rattle.pcapng_reader.proofs.converter.Converter.pass_option.Goals as goal

pub returns-clause-text : goal.returns-clause-text
returns-clause-text c =
    let w = c.args.self.now in
    let g = held_bytes c.pass.new.self in
    λ left.
    text-option_passed _ (section_of w) (kept_bytes c.pass.new.self) (held_bytes w.window) g (take w.budget left) (g ++ left) c.args.count _ c.args.found refl
    c.pass.ensures.held c.requires.held
