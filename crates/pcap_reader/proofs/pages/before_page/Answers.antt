use Rattle.std.proofs.Common.{arith}
use Rattle.pcap_reader.proofs.Ends.{ends-next, ends-same}
use Rattle.pcap_reader.proofs.pages.before_page.Goals as goal

pub returns-then-part-le-FIRST-clause-ends : goal.returns-then-part-le-FIRST-clause-ends
returns-then-part-le-FIRST-clause-ends c = ends-same c.args.held (omega arith)

pub returns-else-part-le-FIRST-clause-ends : goal.returns-else-part-le-FIRST-clause-ends
returns-else-part-le-FIRST-clause-ends c = ends-next c.args.held (omega arith)
