use Rattle.pcapng_reader.specs.Texts.{section_of, ahead, whole}
use Rattle.pcapng_reader.specs.Windows.{kept_bytes}
use Rattle.pcapng_reader.proofs.Texts.{text-passing}
use Rattle.pcapng_reader.proofs.converter.Converter.settle.Goals as goal

pub returns-clause-text : goal.returns-clause-text
returns-clause-text c =
    let w = c.args.self.now in
    λ left. text-passing (section_of w) (kept_bytes w.window) (ahead w left) (whole w left) c.args.body c.args.content
