use Rattle.std.proofs.Common.{rules, arith, ◌∙◌, ap, drop, take, ◌++◌}
use Rattle.std.proofs.lemmas.List.{with_items_is, places}
use Rattle.pcapng_reader.specs.Windows.{held_bytes}
use Rattle.pcapng_reader.proofs.Buffers.{range-front, held-read, length-part}
use Rattle.pcapng_reader.proofs.window.Window.read.Goals as goal

pub returns-in-Ok-clause-kept : goal.returns-in-Ok-clause-kept
returns-in-Ok-clause-kept g c =
    let w = c.make_room.new.self in
    let is = with_items_is w.buf c.read_at.new.buf (search (rules, places)) in
    range-front w.filled w.kept w.kept_end w.buf.items _
    (ap (take w.filled) is ∙ c.in-Ok.ensures.before ∙ ap (take w.filled) c.deref_mut.ensures.value) (grind arith) ∙ c.make_room.ensures.kept

pub returns-in-Ok-clause-got : goal.returns-in-Ok-clause-got
returns-in-Ok-clause-got g c =
    let w = c.make_room.new.self in
    let n = c.in-Ok.got in
    let is = with_items_is w.buf c.read_at.new.buf (search (rules, places)) in
    let front = ap (take w.filled) is ∙ c.in-Ok.ensures.before ∙ ap (take w.filled) c.deref_mut.ensures.value in
    let long = length-part w.filled n c.read_at.new.buf (grind arith) in
    let held = held-read w.start w.filled n w.buf.items _ front w.ordered (grind arith) ∙ ap (λ ys. held_bytes w ++ take n (drop w.filled ys)) is ∙ ap
    (λ l. l ++ take n (drop w.filled c.read_at.new.buf)) c.make_room.ensures.held in
    (take n (drop w.filled c.read_at.new.buf), long, search rules, search rules, held)

pub returns-in-Err-clause-kept : goal.returns-in-Err-clause-kept
returns-in-Err-clause-kept g c =
    let w = c.make_room.new.self in
    let is = with_items_is w.buf c.read_at.new.buf (search (rules, places)) in
    range-front w.filled w.kept w.kept_end w.buf.items _
    (ap (take w.filled) is ∙ c.in-Err.ensures.before ∙ ap (take w.filled) c.deref_mut.ensures.value) (grind arith) ∙ c.make_room.ensures.kept

pub returns-in-Err-clause-failed : goal.returns-in-Err-clause-failed
returns-in-Err-clause-failed g c =
    let w = c.make_room.new.self in
    let is = with_items_is w.buf c.read_at.new.buf (search (rules, places)) in (
      range-front w.filled w.start w.filled w.buf.items _
          (ap (take w.filled) is ∙ c.in-Err.ensures.before ∙ ap (take w.filled) c.deref_mut.ensures.value) (grind arith) ∙ c.make_room.ensures.held,
      c.in-Err.ensures.failed,
    )
