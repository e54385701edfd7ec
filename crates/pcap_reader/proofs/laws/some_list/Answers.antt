use Rattle.pcap_reader.specs.Header.{header}
use Rattle.pcap_reader.proofs.Lists.{some_by}
use Rattle.pcap_reader.proofs.laws.some_list.Goals as goal

pub returns : goal.returns
returns c = λ text most. some_by (header text) most text
