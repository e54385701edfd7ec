use Rattle.std.proofs.Common.{rules}
use Rattle.std.proofs.lemmas.List.{with_items_is, places}
use Rattle.pcap_reader.proofs.Buffers.{ahead-read, ahead-failed, Keeps-held}
use Rattle.pcap_reader.proofs.window.Window.read_more.Goals as goal

pub returns-in_err-got-clause-bytes : goal.returns-in_err-got-clause-bytes
returns-in_err-got-clause-bytes g c =
    let w = c.reach.new.self in
    Keeps-held _ _ _ _ _ c.reach.ensures.bytes
    (ahead-failed _ _ w.filled w.start w.buf.items c.deref_mut.result.now _ _ c.deref_mut.ensures.value (with_items_is w.buf _ (search (rules, places)))
    w.ordered (search rules) c.in_err-got.ensures.bytes)

pub returns-clause-bytes : goal.returns-clause-bytes
returns-clause-bytes g c =
    let w = c.reach.new.self in
    Keeps-held _ _ _ _ _ c.reach.ensures.bytes
    (ahead-read _ _ w.filled w.start c.in_ok-got.got w.buf.items c.deref_mut.result.now c.read.new.buf _ _ c.deref_mut.ensures.value
    (with_items_is w.buf _ (search (rules, places))) w.ordered (search rules) (search rules) c.in_ok-got.ensures.bytes.0)
