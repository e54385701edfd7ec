use Rattle.std.proofs.Common.{arith}
use Rattle.pcapng_reader.proofs.Steps.{pours-puts}
use Rattle.pcapng_reader.proofs.converter.Converter.fill.Goals as goal

pub put_whole-requires-clause-given : goal.put_whole-requires-clause-given
put_whole-requires-clause-given c = c.pour-end.ensures.given (omega arith)

pub put_whole-requires-clause-room : goal.put_whole-requires-clause-room
put_whole-requires-clause-room c = c.pour-end.ensures.fills.most

pub returns-then-end-out : goal.returns-then-end-out
returns-then-end-out c =
    pours-puts c.args.at c.pour-end.result _ c.args.out.now c.pour-end.new.out _ c.args.self.now c.pour-end.new.self c.put_whole.new.self c.pour-end.ensures
    c.put_whole.ensures (omega arith)
