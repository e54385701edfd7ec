use Rattle.pcap_reader.specs.Header.{header}
use Rattle.pcap_reader.proofs.Lists.{only_by}
use Rattle.pcap_reader.proofs.laws.only_list.Goals as goal

pub returns-clause-items : goal.returns-clause-items
returns-clause-items c = λ text most xs ys d e p q. (only_by (header text) most text xs ys d e p q).0

pub returns-clause-note : goal.returns-clause-note
returns-clause-note c = λ text most xs ys d e p q. (only_by (header text) most text xs ys d e p q).1
