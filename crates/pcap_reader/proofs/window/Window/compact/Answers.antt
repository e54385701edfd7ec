use Rattle.std.proofs.Common.{rules, arith}
use Rattle.pcap_reader.proofs.Buffers.{held-moved}
use Rattle.pcap_reader.proofs.window.Window.compact.Goals as goal

pub returns-clause-bytes : goal.returns-clause-bytes
returns-clause-bytes c =
    let w = c.args.self.now in
    held-moved w.filled w.start _ w.buf.items _ w.ordered (search rules) (omega arith) c.copy_within.ensures.items
