use Rattle.std.proofs.Common.{arith}
use Rattle.pcap_reader.proofs.Buffers.{held-after_skip}
use Rattle.pcap_reader.proofs.window.Window.pass_records.Goals as goal

pub returns-clause-held : goal.returns-clause-held
returns-clause-held c = held-after_skip c.args.self.now.filled c.args.self.now.start c.args.size c.args.self.now.buf.items (grind arith)
