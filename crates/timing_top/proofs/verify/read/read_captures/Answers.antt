use Rattle.std.proofs.Common.{arith}
use Rattle.timing_base.specs.Captures.{joined}
use Rattle.pcapng_reader.specs.Classic.{classic_texts}
use Rattle.pcapng_reader.specs.Sources.{faults_of, left_of, name_of}
use Rattle.interval_checker.specs.Readings.{AreSame, HaveRead}
use Rattle.timing_steps.proofs.Readings.{fetched-length, if_ok-at}
use Rattle.timing_top.proofs.lemmas.verify.Confirming.{read-cause, tell-texts}
use Rattle.timing_top.proofs.verify.read.read_captures.Goals as goal

pub read_sources-sources-requires-clause-few : goal.read_sources-sources-requires-clause-few
read_sources-sources-requires-clause-few g c =
    omega (
      arith,
      c.requires.few,
      fetched-length (name_of g.H.Source.Source.name) (left_of g.H.Source.Source.left) (faults_of g.H.Source.Source.faults)
          (classic_texts (g.H.Shelf.text c.args.shelf.now)) c.args.names.now c.in_ok-sources.sources.items c.in_ok-sources.ensures.fetched,
    )

pub returns-in-Ok-clause-told : goal.returns-in-Ok-clause-told
returns-in-Ok-clause-told g c = λ texts told files notes records.
    if_ok-at c.read_sources-sources.result.1 c.in-Ok.readings (λ read. HaveRead read.items (joined files)) c.in-Ok.is
    (c.read_sources-sources.ensures.told texts files notes
    (tell-texts (name_of g.H.Source.Source.name) (left_of g.H.Source.Source.left) (faults_of g.H.Source.Source.faults)
    (classic_texts (g.H.Shelf.text c.args.shelf.now)) c.args.names.now c.in_ok-sources.sources.items texts c.in_ok-sources.ensures.fetched told)
    records c.requires.none)

pub returns-in-Ok-clause-same : goal.returns-in-Ok-clause-same
returns-in-Ok-clause-same g c =
    if_ok-at c.read_sources-sources.result.1 c.in-Ok.readings (λ read. AreSame c.args.readings.items read.items) c.in-Ok.is
    c.read_sources-sources.ensures.same

pub returns-in-Err-clause-cause : goal.returns-in-Err-clause-cause
returns-in-Err-clause-cause g c =
    read-cause (name_of g.H.Source.Source.name) (left_of g.H.Source.Source.left) (faults_of g.H.Source.Source.faults)
    (classic_texts (g.H.Shelf.text c.args.shelf.now)) c.args.names.now c.in_ok-sources.sources.items c.read_sources-sources.result.0.items
    (g.H.Shelf.faults c.args.shelf.now) (g.H.Shelf.faults c.fetch_captures.new.shelf) (g.H.Shelf.faults c.give_back_all.new.shelf)
    c.read_sources-sources.result.1 c.in-Err.fault c.failure_of.result c.in-Err.is c.failure_of.ensures
    c.fetch_captures.ensures.stays.later c.in_ok-sources.ensures.fetched c.read_sources-sources.ensures.back c.read_sources-sources.ensures.cause
    c.give_back_all.ensures.raised
