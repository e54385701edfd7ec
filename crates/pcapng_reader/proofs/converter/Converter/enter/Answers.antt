use Rattle.std.proofs.Common.{refl, ◌++◌, take}
use Rattle.pcapng_reader.specs.Texts.{section_of}
use Rattle.pcapng_reader.specs.Windows.{kept_bytes, held_bytes}
use Rattle.pcapng_reader.proofs.Steps.{text-passed}
use Rattle.pcapng_reader.proofs.converter.Converter.enter.Goals as goal

pub returns-clause-text : goal.returns-clause-text
returns-clause-text c =
    let w = c.args.self.now in
    let h = held_bytes w.window in
    let g = held_bytes c.pass.new.self in
    λ left.
    text-passed _ (section_of w) (kept_bytes w.window) (kept_bytes c.pass.new.self) h g (take w.budget left) (g ++ left) c.args.count _ c.args.content refl
    c.pass.ensures.kept c.pass.ensures.held c.requires.held
