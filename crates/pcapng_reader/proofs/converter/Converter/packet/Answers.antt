use Rattle.std.proofs.Common.{refl, ◌≤◌, arith}
use Rattle.pcapng_reader.specs.Windows.{held_bytes}
use Rattle.pcapng_reader.specs.declared.block.Kind.TheVariants as kind
use Rattle.pcapng_reader.specs.declared.packet.Fate.TheVariants as fate
use Rattle.pcapng_reader.specs.Described.{list_of}
use Rattle.pcapng_reader.specs.Classic.{broken, late}
use Rattle.pcapng_reader.proofs.Blocks.{total-least}
use Rattle.pcapng_reader.proofs.Steps.{block-waits, fate-is, steps-refused}
use Rattle.pcapng_reader.proofs.converter.Converter.packet.Goals as goal

pub returns-then-len-lt28 : goal.returns-then-len-lt28
returns-then-len-lt28 c =
    let w = c.args.self.now in
    let least : 32 ≤ c.args.total = total-least kind.Packet c.args.total c.requires.block.total_is in
    block-waits w c.wait.new.self c.wait.result c.args.order kind.Packet c.args.total c.wait.ensures c.requires.block (omega arith) (omega arith)

pub returns-in-Broken : goal.returns-in-Broken
returns-in-Broken c =
    let w = c.args.self.now in
    steps-refused w c.enter.new.self c.args.order c.args.total fate.Broken broken c.requires.block (omega arith)
    (fate-is (list_of w.interfaces) c.args.order c.args.total _ _ _ fate.Broken _ _ (held_bytes w.window) c.get-found.ensures c.read_u32-number.ensures
    c.peek.ensures c.fate_of.ensures.fate c.peek-2.ensures c.in-Broken.is)
    (λ block. refl) c.enter.ensures.text c.enter.ensures.work c.enter.ensures.budget

pub returns-in-Late : goal.returns-in-Late
returns-in-Late c =
    let w = c.args.self.now in
    steps-refused w c.enter-in-Late.new.self c.args.order c.args.total fate.Late late c.requires.block (omega arith)
    (fate-is (list_of w.interfaces) c.args.order c.args.total _ _ _ fate.Late _ _ (held_bytes w.window) c.get-found.ensures c.read_u32-number.ensures
    c.peek.ensures c.fate_of.ensures.fate c.peek-2.ensures c.in-Late.is)
    (λ block. refl) c.enter-in-Late.ensures.text c.enter-in-Late.ensures.work c.enter-in-Late.ensures.budget
