use Rattle.std.proofs.Common.{◌≡◌, ◌∙◌, ◌+◌, ◌^◌, Ok, ap, arith, refl, subst, sym}
use Rattle.pcap_reader.specs.Readers.{WillGive, answer_note}
use Rattle.pcap_reader.specs.declared.reader.Step.TheVariants.{Frame}
use Rattle.timing_steps.specs.Ran.{output_of}
use Rattle.timing_steps.proofs.Printing.{any-err, copying-broken, copying-none, copying-poured, copying-stopped, copying-taken, counted}
use Rattle.timing_steps.proofs.Printing.{front-more}
use Rattle.timing_steps.proofs.stream.print_records.Goals as goal

pub loop-at-init : goal.loop-at-init
loop-at-init g c = record {
  copying = copying-none g.P.Printer.goes_on g.P.Printer.holds g.P.Printer.text g.met.P.Printer.none g.met.P.Printer.more (WillGive g.S.Source.left)
      (output_of g.K.Sink c.args.out.now c.args.out.now) c.args.before c.args.reader.now c.args.printer.now refl;
  fresh = c.requires.fresh;
  number_is = sym c.requires.first;
  most = refl;
  within = omega (arith, c.requires.first);
  room = λ count has. g.met.P.Printer.less count _ c.args.printer.now (omega arith) has;
  later_out = omega arith;
  name = refl;
  later = omega arith;
}

pub take-requires-clause-room : goal.take-requires-clause-room
take-requires-clause-room g c =
    let inv = c.loop-at.invariant in
    let s = c.next.follows.holds-at-none in
    let n = counted _ _ c.in-Ok-Frame.at c.in-Ok-Frame.bytes c.next.result (c.in-Ok-Frame.is ∙ ap Ok c.in-Ok-Frame.field-0-is) s.counts in
    inv.room 1 (g.met.P.Printer.less _ (2 ^ 36 + 1) c.args.printer.now (omega (arith, n, s.few, s.same_most, inv.most, c.requires.most)) c.requires.room)

pub returns-in_err-take-in-Ok-Frame-clause-stopped : goal.returns-in_err-take-in-Ok-Frame-clause-stopped
returns-in_err-take-in-Ok-Frame-clause-stopped g c =
    any-err c.from_residual.result _
    (copying-stopped g.P.Printer.goes_on g.P.Printer.holds g.P.Printer.text g.met.P.Printer.none g.met.P.Printer.more (WillGive g.S.Source.left) (output_of
    g.K.Sink c.args.out.now c.loop-at.out) c.args.before c.loop-at.records c.args.reader.now
    c.loop-at.reader c.args.printer.now c.loop-at.printer c.loop-at.invariant.copying)

pub loop-at-preserved : goal.loop-at-preserved
loop-at-preserved g c =
    let inv = c.loop-at.invariant in
    let s = c.next.follows.holds-at-none in
    let new = c.next.follows.lender-at-none in
    let at = c.in-Ok-Frame.at in
    let bytes = c.in-Ok-Frame.bytes in
    let is : c.next.result ≡ Ok (Frame at bytes) = c.in-Ok-Frame.is ∙ ap Ok c.in-Ok-Frame.field-0-is in
    let n = counted _ _ at bytes c.next.result is s.counts in
    let o = output_of g.K.Sink c.args.out.now c.loop-at.out in
    let poured = c.in_ok-print.ensures.goes_on in
    record {
      copying = copying-poured g.P.Printer.goes_on g.P.Printer.holds g.P.Printer.text g.met.P.Printer.none g.met.P.Printer.more (WillGive g.S.Source.left) o
          (g.K.Sink.written c.print.new.out) (g.K.Sink.faults c.print.new.out) c.args.before _
          c.args.reader.now new c.args.printer.now c.take.new.self _ poured.0
          (copying-taken g.P.Printer.goes_on g.P.Printer.holds g.P.Printer.text g.met.P.Printer.none g.met.P.Printer.more g.S.Source.left g.S.Source.name
          g.S.Source.faults o c.args.before c.loop-at.records c.args.reader.now c.loop-at.reader new
          c.args.printer.now c.loop-at.printer c.take.new.self at bytes c.next.result is s inv.number_is c.in_ok-take-in-Ok-Frame.ensures.goes_on inv.copying)
          poured.1 poured.2;
      fresh = s.tells ∙ ap answer_note is;
      number_is = omega (arith, n, inv.number_is);
      most = s.same_most ∙ inv.most;
      within = s.few;
      room = λ count has.
          c.print.ensures.room count
          (c.in_ok-take-in-Ok-Frame.ensures.room count (inv.room (count + 1) (subst (λ k. g.P.Printer.room k c.args.printer.now) (omega (arith, n)) has)));
      later_out = omega (arith, inv.later_out, c.print.ensures.later);
      name = s.same_name ∙ inv.name;
      later = omega (arith, inv.later, s.later);
    }

pub returns-in_err-print-clause-stopped : goal.returns-in_err-print-clause-stopped
returns-in_err-print-clause-stopped g c =
    let inv = c.loop-at.invariant in
    let frame = c.in-Ok-Frame in
    let o = output_of g.K.Sink c.args.out.now c.loop-at.out in
    let follows = c.next.follows in
    any-err c.from_residual-in_err-print.result _
    (copying-broken g.P.Printer.goes_on g.P.Printer.holds g.P.Printer.text g.met.P.Printer.none g.met.P.Printer.more (WillGive g.S.Source.left) o
    (g.K.Sink.written c.print.new.out) (g.K.Sink.faults c.print.new.out) c.args.before _ c.args.reader.now
    follows.lender-at-none c.args.printer.now c.take.new.self
    (copying-taken g.P.Printer.goes_on g.P.Printer.holds g.P.Printer.text g.met.P.Printer.none g.met.P.Printer.more g.S.Source.left g.S.Source.name
    g.S.Source.faults o c.args.before c.loop-at.records c.args.reader.now c.loop-at.reader
    follows.lender-at-none c.args.printer.now c.loop-at.printer c.take.new.self frame.at frame.bytes c.next.result (frame.is ∙ ap Ok frame.field-0-is)
    follows.holds-at-none inv.number_is c.in_ok-take-in-Ok-Frame.ensures.goes_on inv.copying)
    c.in_err-print.ensures.failed.2 c.in_err-print.ensures.failed.3)

pub returns-in_err-take-in-Ok-Frame-clause-front : goal.returns-in_err-take-in-Ok-Frame-clause-front
returns-in_err-take-in-Ok-Frame-clause-front g c =
    let copies = c.loop-at.invariant.copying.copies in any-err c.from_residual.result _ (copies.written, copies.appended)

pub returns-in_err-print-clause-front : goal.returns-in_err-print-clause-front
returns-in_err-print-clause-front g c =
    let copies = c.loop-at.invariant.copying.copies in
    any-err c.from_residual-in_err-print.result _
    (front-more (g.K.Sink.written c.args.out.now) (g.K.Sink.written c.loop-at.out) (g.K.Sink.written c.print.new.out) copies.written _ copies.appended
    c.in_err-print.ensures.failed.3)

pub returns-in-Ok-End-clause-room : goal.returns-in-Ok-End-clause-room
returns-in-Ok-End-clause-room g c = λ count has.
    let inv = c.loop-at.invariant in inv.room count (subst (λ k. g.P.Printer.room (k + count) c.args.printer.now) inv.number_is has)

pub returns-in-Ok-Cut-clause-room : goal.returns-in-Ok-Cut-clause-room
returns-in-Ok-Cut-clause-room g c = λ count has.
    let inv = c.loop-at.invariant in inv.room count (subst (λ k. g.P.Printer.room (k + count) c.args.printer.now) inv.number_is has)

pub returns-in-Err-clause-room : goal.returns-in-Err-clause-room
returns-in-Err-clause-room g c = λ count has.
    let inv = c.loop-at.invariant in inv.room count (subst (λ k. g.P.Printer.room (k + count) c.args.printer.now) inv.number_is has)
