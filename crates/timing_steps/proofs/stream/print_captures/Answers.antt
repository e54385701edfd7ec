use Rattle.std.proofs.Common.{◌≡◌, ℕ, List, ap, arith, refl}
use Rattle.std.specs.Option.{option_map}
use Rattle.pcapng_reader.specs.Classic.{classic, classic_texts}
use Rattle.pcapng_reader.specs.Sources.{faults_of, left_of, name_of}
use Rattle.timing_steps.specs.Ran.{output_of}
use Rattle.timing_steps.proofs.Following.{fetched-same, told-same}
use Rattle.timing_steps.proofs.Readings.{fetched-fresh, fetched-length, if_ok-map}
use Rattle.timing_steps.proofs.Printing.{stopped-none}
use Rattle.timing_steps.proofs.Printing.{any-err}
use Rattle.timing_steps.proofs.Printed.{failed-earlier, if_err-map}
use Rattle.timing_steps.proofs.stream.print_captures.Goals as goal

pub returns-in_err-sources-clause-stopped : goal.returns-in_err-sources-clause-stopped
returns-in_err-sources-clause-stopped g c =
    any-err c.from_residual.result _
    (λ texts files notes told records. stopped-none g.P.Printer.goes_on g.P.Printer.holds g.P.Printer.text g.met.P.Printer.none g.met.P.Printer.more
    (output_of g.K.Sink c.args.out.now c.args.out.now) c.args.printer.now _ refl)

pub print_sources-requires-clause-few : goal.print_sources-requires-clause-few
print_sources-requires-clause-few g c =
    let source = g.H.Source.Source in
    omega (
      arith,
      c.requires.few,
      fetched-length (name_of source.name) (left_of source.left) (faults_of source.faults) (classic_texts (g.H.Shelf.text c.args.shelf.now)) c.args.names.now
          c.in_ok-sources.sources.items c.in_ok-sources.ensures.fetched,
    )

pub print_sources-requires-clause-fresh : goal.print_sources-requires-clause-fresh
print_sources-requires-clause-fresh g c =
    let source = g.H.Source.Source in
    fetched-fresh (name_of source.name) (left_of source.left) (faults_of source.faults) (classic_texts (g.H.Shelf.text c.args.shelf.now)) c.args.names.now
    c.in_ok-sources.sources.items c.in_ok-sources.ensures.fetched

pub returns-clause-told : goal.returns-clause-told
returns-clause-told g c =
    let source = g.H.Source.Source in
    let old = classic_texts (g.H.Shelf.text c.args.shelf.now) in
    let mid = classic_texts (g.H.Shelf.text c.fetch_captures.new.shelf) in
    let later : (n : List ℕ) → mid n ≡ old n = λ n. ap (option_map classic) (c.fetch_captures.ensures.stays.texts n) in
    if_ok-map c.print_sources.result _ _
    (λ taken told texts read. told c.args.names.now texts
    (fetched-same (name_of source.name) (left_of source.left) (faults_of source.faults) old mid c.args.names.now c.in_ok-sources.sources.items later
    c.in_ok-sources.ensures.fetched)
    (told-same old mid c.args.names.now texts later read))
    c.print_sources.ensures.told

pub returns-clause-stopped : goal.returns-clause-stopped
returns-clause-stopped g c =
    let source = g.H.Source.Source in
    let old = classic_texts (g.H.Shelf.text c.args.shelf.now) in
    let mid = classic_texts (g.H.Shelf.text c.fetch_captures.new.shelf) in
    let later : (n : List ℕ) → mid n ≡ old n = λ n. ap (option_map classic) (c.fetch_captures.ensures.stays.texts n) in
    if_err-map c.print_sources.result _ _
    (λ e stopped texts files notes read records. stopped c.args.names.now texts files notes
    (fetched-same (name_of source.name) (left_of source.left) (faults_of source.faults) old mid c.args.names.now c.in_ok-sources.sources.items later
    c.in_ok-sources.ensures.fetched)
    (told-same old mid c.args.names.now texts later read) records)
    c.print_sources.ensures.stopped

pub returns-clause-cause : goal.returns-clause-cause
returns-clause-cause g c =
    let source = g.H.Source.Source in
    let old = classic_texts (g.H.Shelf.text c.args.shelf.now) in
    let mid = classic_texts (g.H.Shelf.text c.fetch_captures.new.shelf) in
    let later : (n : List ℕ) → mid n ≡ old n = λ n. ap (option_map classic) (c.fetch_captures.ensures.stays.texts n) in
    failed-earlier (output_of g.K.Sink c.args.out.now c.print_sources.new.out) (g.H.Shelf.faults c.args.shelf.now)
    (g.H.Shelf.faults c.fetch_captures.new.shelf) (g.H.Shelf.faults c.print_sources.new.shelf) c.args.names.now c.print_sources.result
    c.fetch_captures.ensures.stays.later
    (c.print_sources.ensures.cause c.args.names.now
    (fetched-same (name_of source.name) (left_of source.left) (faults_of source.faults) old mid c.args.names.now c.in_ok-sources.sources.items later
    c.in_ok-sources.ensures.fetched))
