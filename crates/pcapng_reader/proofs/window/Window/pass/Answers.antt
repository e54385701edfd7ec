use Rattle.std.proofs.Common.{arith}
use Rattle.pcapng_reader.proofs.Buffers.{range-skip}
use Rattle.pcapng_reader.proofs.window.Window.pass.Goals as goal

pub returns-clause-held : goal.returns-clause-held
returns-clause-held c = range-skip c.args.self.now.filled c.args.self.now.start c.args.count c.args.self.now.buf.items (grind arith)
