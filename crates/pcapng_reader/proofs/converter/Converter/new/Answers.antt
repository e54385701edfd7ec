use Rattle.pcapng_reader.specs.Windows.{kept_bytes, held_bytes}
use Rattle.pcapng_reader.proofs.Texts.{text-new}
use Rattle.pcapng_reader.proofs.converter.Converter.new.Goals as goal

pub returns : goal.returns
returns c = λ left. text-new _ (kept_bytes c.in_ok-window.window) (held_bytes c.in_ok-window.window) left c.in_ok-window.ensures.held
