use Rattle.pcap_reader.specs.Header.{header}
use Rattle.pcap_reader.proofs.Notes.{header-own, own_by}
use Rattle.pcap_reader.proofs.laws.ends_by_itself.Goals as goal

pub returns : goal.returns
returns c = λ text most items note p. own_by (header text) most text items note (header-own text) p
