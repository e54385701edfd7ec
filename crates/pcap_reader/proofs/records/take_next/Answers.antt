use Rattle.std.proofs.Common.{◌≡◌, ◌+◌, [], ◌∷◌, arith}
use Rattle.std.proofs.lemmas.Result.{err_from_is_err_and}
use Rattle.timing_base.specs.Captures.{Record}
use Rattle.pcap_reader.specs.Readers.{frame_count}
use Rattle.pcap_reader.proofs.TakenRecords.{same-record, stops-first}
use Rattle.pcap_reader.proofs.records.take_next.Goals as goal

pub returns-in_err-take-in-Ok-clause-told : goal.returns-in_err-take-in-Ok-clause-told
returns-in_err-take-in-Ok-clause-told g c = λ items end given.
    let found = c.in-Ok.ensures.finds.gives items end given in
    let number : c.args.number ≡ frame_count c.find.new.self = omega (arith, c.in-Ok.ensures.finds.counts.3, c.requires.number) in
    let first : Record = record { number = c.args.before + c.args.number; stamp = c.in-Ok.head.at; bytes = c.frame.result.now } in
    let same = same-record c.args.before c.args.number (frame_count c.find.new.self) c.in-Ok.head.at _ c.frame.result.now number c.frame.ensures in
    let halts = g.met.T.Taker.halts c.args.taker.now c.take.new.self c.in_err-take-in-Ok.field-0.0 (first ∷ []) in
    let p = err_from_is_err_and c.from_residual.result c.from_residual.ensures.1 in
    rw (p.1, p.2)
    (stops-first g.T.Taker.stops c.args.before c.args.taker.now c.take.new.self c.in_err-take-in-Ok.field-0.0 first _ found.0 items found.1 same halts
    c.in_err-take-in-Ok.ensures.stops)

pub returns-in_err-take-in-Ok-clause-stopped : goal.returns-in_err-take-in-Ok-clause-stopped
returns-in_err-take-in-Ok-clause-stopped g c =
    let first : Record = record { number = c.args.before + c.args.number; stamp = c.in-Ok.head.at; bytes = c.frame.result.now } in
    let p = err_from_is_err_and c.from_residual.result c.from_residual.ensures.1 in
    rw (p.1, p.2) (record { items = first ∷ []; stopped = c.in_err-take-in-Ok.ensures.stops })
