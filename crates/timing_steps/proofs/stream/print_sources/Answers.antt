use Rattle.std.proofs.Common.{◌≡◌, ◌+◌, [], ℕ, List, ap, arith, length, refl, rules, subst}
use Rattle.std.specs.Prelude.{IfErr, IfOk}
use Rattle.pcapng_reader.specs.Classic.{classic_texts}
use Rattle.pcapng_reader.specs.Sources.{faults_of, left_of, name_of}
use Rattle.timing_steps.specs.Ran.{Appended, output_of}
use Rattle.timing_steps.proofs.Readings.{fresh-tail, if_ok-at, none-left}
use Rattle.timing_steps.proofs.Seeing.{stays-then}
use Rattle.timing_steps.specs.Printings.{CopiesSome}
use Rattle.timing_steps.proofs.Printing.{any-err, copies-none}
use Rattle.timing_steps.proofs.Printed.{front-then, if_ok-some, sources-next, sources-past, sources-start, sources-stopped, sources-whole}
use Rattle.timing_steps.proofs.stream.print_sources.Goals as goal

pub loop-source-init : goal.loop-source-init
loop-source-init g c =
    let source = g.H.Source.Source in
    let shelf = g.H.Shelf in
    record {
      copying = λ names fetched.
          sources-start g.P.Printer.goes_on g.P.Printer.holds g.P.Printer.text g.met.P.Printer.none g.met.P.Printer.more (name_of source.name) (left_of
          source.left) (faults_of source.faults) (classic_texts (shelf.text c.args.shelf.now))
          (shelf.faults c.args.shelf.now) names c.args.sources.items c.into_iter-source-iterator.result.rest.items
          (output_of g.K.Sink c.args.out.now c.args.out.now) c.args.printer.now _ c.into_iter-source-iterator.ensures.into_iter_gives.0 (search rules) refl refl
          fetched;
      fresh = search rules;
      count = search rules;
      before = search rules;
      room = c.requires.room;
      some = (
        [],
        copies-none g.P.Printer.goes_on g.P.Printer.holds g.P.Printer.text g.met.P.Printer.none g.met.P.Printer.more (output_of g.K.Sink
            c.args.out.now c.args.out.now) c.args.printer.now refl,
      );
      front = tt;
      later = omega arith;
      stays = search rules;
    }

pub print_next-outcome-requires-clause-few : goal.print_next-outcome-requires-clause-few
print_next-outcome-requires-clause-few g c =
    let count : length c.loop-source.done.notes.items + length c.loop-source.source-iterator.rest.items ≡ length c.args.sources.items =
    if_ok-at _ _ _ c.in-Ok.is c.loop-source.invariant.count in
    omega (arith, count, ap length c.in-Some.ensures.steps.0, c.requires.few)

pub loop-source-preserved-in-Ok : goal.loop-source-preserved-in-Ok
loop-source-preserved-in-Ok g c =
    let source = g.H.Source.Source in
    let shelf = g.H.Shelf in
    let sink = g.K.Sink in
    let inv = c.loop-source.invariant in
    let copied = c.print_next-outcome in
    let was : CopiesSome g.P.Printer.goes_on (output_of sink c.args.out.now c.loop-source.out) c.args.printer.now c.loop-source.printer = if_ok-at _ _ _
    c.in-Ok.is inv.some in
    record {
      copying = λ names fetched.
          sources-next g.P.Printer.goes_on g.P.Printer.holds g.P.Printer.text g.met.P.Printer.none g.met.P.Printer.more (name_of source.name) (left_of
          source.left) (faults_of source.faults) (classic_texts (shelf.text c.args.shelf.now))
          (shelf.faults c.args.shelf.now) (shelf.faults c.loop-source.shelf) (shelf.faults copied.new.shelf) names c.in-Some.source
          c.loop-source.source-iterator.rest.items c.next.new.self.rest.items (sink.written c.args.out.now) (sink.written c.loop-source.out)
          (sink.written copied.new.out) (sink.faults c.args.out.now) (sink.faults c.loop-source.out) (sink.faults copied.new.out) c.args.printer.now
          c.loop-source.printer copied.new.printer c.loop-source.done copied.new.done c.loop-source.outcome copied.result c.in-Some.ensures.steps.0
          c.in-Ok.is inv.stays.later inv.later copied.ensures.told copied.ensures.count copied.ensures.stopped copied.ensures.cause
          (inv.copying names fetched);
      fresh = fresh-tail (λ s. faults_of source.faults s ≡ 0) _ c.in-Some.source _ c.in-Some.ensures.steps.0 inv.fresh;
      count = search rules;
      before = copied.ensures.few;
      room = copied.ensures.room;
      some = if_ok-some g.P.Printer.goes_on g.P.Printer.holds g.P.Printer.text g.met.P.Printer.none g.met.P.Printer.more (sink.written c.args.out.now)
          (sink.written c.loop-source.out) (sink.written copied.new.out) (sink.faults c.args.out.now)
          (sink.faults c.loop-source.out) (sink.faults copied.new.out) c.args.printer.now c.loop-source.printer copied.new.printer copied.result was
          copied.ensures.some;
      front = front-then g.P.Printer.goes_on g.P.Printer.holds g.P.Printer.text g.met.P.Printer.none g.met.P.Printer.more (sink.written c.args.out.now)
          (sink.written c.loop-source.out) (sink.written copied.new.out) (sink.faults c.args.out.now)
          (sink.faults c.loop-source.out) (sink.faults copied.new.out) c.args.printer.now c.loop-source.printer copied.result was copied.ensures.front;
      later = omega (arith, inv.later, copied.ensures.later);
      stays = stays-then shelf.text shelf.lacks shelf.faults _ _ _ inv.stays copied.ensures.stays;
    }

pub loop-source-preserved : goal.loop-source-preserved
loop-source-preserved g c =
    let source = g.H.Source.Source in
    let shelf = g.H.Shelf in
    let sink = g.K.Sink in
    let inv = c.loop-source.invariant in
    let given = c.give_back in
    let front : (front : List ℕ) × Appended (output_of sink c.args.out.now c.loop-source.out) front =
    subst (λ r. IfErr r (λ _. (front : List ℕ) × Appended (output_of sink c.args.out.now c.loop-source.out) front)) c.in-Err.is inv.front in
    record {
      copying = λ names fetched.
          sources-past g.P.Printer.goes_on g.P.Printer.holds g.P.Printer.text g.met.P.Printer.none g.met.P.Printer.more (name_of source.name) (left_of
          source.left) (faults_of source.faults) (classic_texts (shelf.text c.args.shelf.now))
          (shelf.faults c.args.shelf.now) (shelf.faults c.loop-source.shelf) (shelf.faults given.new.shelf) names
          c.loop-source.source-iterator.rest.items c.next.new.self.rest.items (sink.written c.args.out.now) (sink.written c.loop-source.out)
          (sink.faults c.args.out.now) (sink.faults c.loop-source.out) c.args.printer.now c.loop-source.printer c.loop-source.done c.loop-source.outcome
          c.in-Err.failure c.in-Err.is given.ensures.stays.later (inv.copying names fetched);
      fresh = fresh-tail (λ s. faults_of source.faults s ≡ 0) _ c.in-Some.source _ c.in-Some.ensures.steps.0 inv.fresh;
      count = tt;
      before = tt;
      room = tt;
      some = tt;
      front = front;
      later = inv.later;
      stays = stays-then shelf.text shelf.lacks shelf.faults _ _ _ inv.stays given.ensures.stays;
    }

pub returns-clause-told : goal.returns-clause-told
returns-clause-told g c = λ names texts fetched told.
    let source = g.H.Source.Source in
    let shelf = g.H.Shelf in
    sources-whole g.P.Printer.goes_on g.P.Printer.holds g.P.Printer.text g.met.P.Printer.none g.met.P.Printer.more (name_of source.name) (left_of source.left)
    (faults_of source.faults) (classic_texts (shelf.text c.args.shelf.now))
    (shelf.faults c.args.shelf.now) (shelf.faults c.loop-source.shelf) names texts c.loop-source.source-iterator.rest.items
    (output_of g.K.Sink c.args.out.now c.loop-source.out) c.args.printer.now c.loop-source.printer c.loop-source.done c.loop-source.outcome (search rules)
    (none-left c.loop-source.source-iterator.rest.items (search rules)) (c.loop-source.invariant.copying names fetched) told

pub returns-clause-some : goal.returns-clause-some
returns-clause-some g c =
    let o = output_of g.K.Sink c.args.out.now c.loop-source.out in
    let some : IfOk c.loop-source.outcome (λ _. CopiesSome g.P.Printer.goes_on o c.args.printer.now c.loop-source.printer) = c.loop-source.invariant.some in
    if_ok-at c.loop-source.outcome c.in_ok-outcome.field-0 (λ _. CopiesSome g.P.Printer.goes_on o c.args.printer.now c.loop-source.printer) (search rules) some

pub returns-in_err-outcome-clause-stopped : goal.returns-in_err-outcome-clause-stopped
returns-in_err-outcome-clause-stopped g c =
    let source = g.H.Source.Source in
    let shelf = g.H.Shelf in
    any-err c.from_residual.result _
    (λ names texts files notes fetched told records.
    sources-stopped g.P.Printer.goes_on g.P.Printer.holds g.P.Printer.text g.met.P.Printer.none g.met.P.Printer.more (name_of source.name) (left_of
    source.left) (faults_of source.faults) (classic_texts (shelf.text c.args.shelf.now))
    (shelf.faults c.args.shelf.now) (shelf.faults c.loop-source.shelf) names texts c.loop-source.source-iterator.rest.items
    (output_of g.K.Sink c.args.out.now c.loop-source.out) c.args.printer.now c.loop-source.printer c.loop-source.done c.loop-source.outcome
    files notes (search rules) (c.loop-source.invariant.copying names fetched) told records)
