use Rattle.std.proofs.Common.{arith, ◌+◌}
use Rattle.pcap_reader.proofs.Buffers.{held-after_skip, behind-after_record}
use Rattle.pcap_reader.proofs.window.Window.pass_record.Goals as goal

pub returns-clause-held : goal.returns-clause-held
returns-clause-held c = held-after_skip c.args.self.now.filled c.args.self.now.start (16 + c.args.captured) c.args.self.now.buf.items (grind arith)

pub returns-clause-behind : goal.returns-clause-behind
returns-clause-behind c = behind-after_record c.args.self.now.filled c.args.self.now.start c.args.captured c.args.self.now.buf.items (grind arith)
