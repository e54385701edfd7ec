use Rattle.std.proofs.Common.{rules, arith, ◌-◌, ◌∙◌, ap, drop, take, ◌+◌, ◌++◌}
use Rattle.std.proofs.lemmas.List.{with_items_is, places}
use Rattle.std.specs.Vec.{with_items}
use Rattle.pcapng_reader.proofs.Buffers.{held-moved, kept-moved, range}
use Rattle.pcapng_reader.proofs.window.Window.compact.Goals as goal

pub returns-clause-kept : goal.returns-clause-kept
returns-clause-kept c =
    let w = c.args.self.now in
    let once = with_items_is w.buf c.shift.new.buf (search (rules, places)) in
    let twice = with_items_is (with_items w.buf c.shift.new.buf) c.shift-2.new.buf (search (rules, places)) in
    kept-moved w.kept w.kept_end w.start w.filled c.min-start.result w.buf.items c.deref_mut-2.result.now _ _ w.kept_first w.apart w.ordered
    (search rules) (omega arith) (omega arith)
    (c.deref_mut-2.ensures.value ∙ once ∙ c.shift.ensures ∙ ap (λ xs. take 0 xs ++ (range w.kept w.kept_end xs ++ drop (0 + (w.kept_end - w.kept)) xs))
    c.deref_mut.ensures.value)
    (twice ∙ c.shift-2.ensures)

pub returns-clause-held : goal.returns-clause-held
returns-clause-held c =
    let w = c.args.self.now in
    let once = with_items_is w.buf c.shift.new.buf (search (rules, places)) in
    let twice = with_items_is (with_items w.buf c.shift.new.buf) c.shift-2.new.buf (search (rules, places)) in
    held-moved w.kept w.kept_end w.start w.filled c.min-start.result w.buf.items c.deref_mut-2.result.now _ w.kept_first w.apart w.ordered
    (search rules) (omega arith)
    (c.deref_mut-2.ensures.value ∙ once ∙ c.shift.ensures ∙ ap (λ xs. take 0 xs ++ (range w.kept w.kept_end xs ++ drop (0 + (w.kept_end - w.kept)) xs))
    c.deref_mut.ensures.value)
    (twice ∙ c.shift-2.ensures)
