use Rattle.std.proofs.Common.{rules, sym, ap, ◌∙◌}
use Rattle.timing_base.specs.declared.capture.FileNote.TheVariants.{Refused}
use Rattle.pcap_reader.specs.Header.{header}
use Rattle.pcap_reader.specs.Windows.{held_bytes}
use Rattle.pcap_reader.proofs.Texts.{header-read, ahead-let_go}
use Rattle.pcap_reader.proofs.Reading.{unless_read_fault}
use Rattle.pcap_reader.proofs.reader.PcapReader.read_header.Goals as goal

pub returns-in-Ok-clause-header : goal.returns-in-Ok-clause-header
returns-in-Ok-clause-header g c = λ text e.
    header-read _ _ (held_bytes c.hold.new.self.window) text c.in_ok-hold.ensures.bytes e (c.in_ok-hold.ensures.enough (search rules))
    ∙ ap header (sym c.peek.ensures)
    ∙ sym c.read_header.ensures ∙ c.in-Ok.is

pub returns-in-Ok-clause-rest : goal.returns-in-Ok-clause-rest
returns-in-Ok-clause-rest g c = λ text e.
    ahead-let_go _ _ (held_bytes c.hold.new.self.window) _ text 24 c.in_ok-hold.ensures.bytes e (c.in_ok-hold.ensures.enough (search rules))
    c.pass_header.ensures.held

pub returns-in-Err-clause-header : goal.returns-in-Err-clause-header
returns-in-Err-clause-header g c = λ text e.
    unless_read_fault (Refused c.in-Err.fault) _ (header-read _ _ (held_bytes c.hold.new.self.window) text c.in_ok-hold.ensures.bytes e
    (c.in_ok-hold.ensures.enough (search rules))
    ∙ ap header (sym c.peek.ensures) ∙ sym c.read_header.ensures ∙ c.in-Err.is)
