use Rattle.std.proofs.Common.{rules, arith, ◌∙◌, ap, drop, take, ◌+◌, ◌-◌, ◌++◌, length}
use Rattle.std.proofs.lemmas.List.{with_items_is, places}
use Rattle.pcapng_reader.proofs.Buffers.{kept-record, held-record}
use Rattle.pcapng_reader.proofs.window.Window.keep_record.Goals as goal

pub returns-clause-kept : goal.returns-clause-kept
returns-clause-kept c =
    let w = c.args.self.now in
    let head = c.args.head.now in
    kept-record w.start w.filled c.args.captured w.buf.items _ head (grind arith) (search rules) (search rules)
    (with_items_is w.buf c.put_at.new.buf (search (rules, places)) ∙ c.put_at.ensures.value
    ∙ ap (λ xs. take ((w.start + 28) - 16) xs ++ (head ++ drop (((w.start + 28) - 16) + length head) xs)) c.deref_mut.ensures.value)

pub returns-clause-held : goal.returns-clause-held
returns-clause-held c =
    let w = c.args.self.now in
    let head = c.args.head.now in
    held-record w.start w.filled c.args.captured w.buf.items _ head (grind arith) (search rules) (search rules)
    (with_items_is w.buf c.put_at.new.buf (search (rules, places)) ∙ c.put_at.ensures.value
    ∙ ap (λ xs. take ((w.start + 28) - 16) xs ++ (head ++ drop (((w.start + 28) - 16) + length head) xs)) c.deref_mut.ensures.value)
