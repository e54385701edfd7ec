use Rattle.std.proofs.Common.{rules, arith, ◌∙◌, ◌++◌, ◌+◌, ◌-◌, ap, take, drop, length, length-drop}
use Rattle.std.proofs.lemmas.List.{length-take-le}
use Rattle.pcapng_reader.specs.Windows.{held_bytes}
use Rattle.pcapng_reader.proofs.Buffers.{data-seen, pieces-put, range-skip}
use Rattle.pcapng_reader.proofs.window.Window.give_record.Goals as goal

pub returns-clause-given : goal.returns-clause-given
returns-clause-given c =
    let h = held_bytes c.args.self.now in
    let n = c.args.captured in
    let seen = c.peek.result.now in
    let same = data-seen n seen h c.peek.ensures in
    let long = length-take-le n (drop 28 h) (omega (arith, length-drop 28 h)) in
    pieces-put c.args.at 16 n c.args.out.now c.put_at.new.buf c.put_at-2.new.buf c.args.head.now (take ((28 + n) - 28) (drop 28 seen)) _ (search rules)
    (ap length same ∙ long) (omega arith) c.put_at.ensures.value c.put_at-2.ensures.value
    ∙ ap (λ x. take c.args.at c.args.out.now ++ (c.args.head.now ++ x)) same

pub returns-clause-held : goal.returns-clause-held
returns-clause-held c = range-skip c.args.self.now.filled c.args.self.now.start c.args.total c.args.self.now.buf.items (grind arith)
