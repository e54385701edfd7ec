use Rattle.pcapng_reader.proofs.Steps.{puts-none}
use Rattle.pcapng_reader.proofs.converter.Converter.put_whole.Goals as goal

pub returns-in_default : goal.returns-in_default
returns-in_default c = puts-none c.args.at c.args.out.now c.args.self.now c.requires.room
