use Rattle.std.proofs.Common.{◌≡◌, ◌∙◌, ℕ, List, ap, arith}
use Rattle.std.specs.Option.{option_map}
use Rattle.pcapng_reader.specs.Classic.{classic, classic_texts}
use Rattle.pcapng_reader.specs.Sources.{faults_of, left_of, name_of}
use Rattle.timing_steps.proofs.Following.{captures-earlier, fetched-same, told-same}
use Rattle.timing_steps.proofs.Readings.{fetched-fresh, fetched-length, if_ok-map}
use Rattle.timing_steps.proofs.captures.take_captures.Goals as goal

pub take_sources-requires-clause-few : goal.take_sources-requires-clause-few
take_sources-requires-clause-few g c =
    omega (
      arith,
      c.requires.few,
      fetched-length (name_of g.H.Source.Source.name) (left_of g.H.Source.Source.left) (faults_of g.H.Source.Source.faults)
          (classic_texts (g.H.Shelf.text c.args.shelf.now)) c.args.names.now c.in_ok-sources.sources.items c.in_ok-sources.ensures.fetched,
    )

pub take_sources-requires-clause-fresh : goal.take_sources-requires-clause-fresh
take_sources-requires-clause-fresh g c =
    fetched-fresh (name_of g.H.Source.Source.name) (left_of g.H.Source.Source.left) (faults_of g.H.Source.Source.faults)
    (classic_texts (g.H.Shelf.text c.args.shelf.now)) c.args.names.now c.in_ok-sources.sources.items c.in_ok-sources.ensures.fetched

pub returns-clause-told : goal.returns-clause-told
returns-clause-told g c =
    let old = classic_texts (g.H.Shelf.text c.args.shelf.now) in
    let mid = classic_texts (g.H.Shelf.text c.fetch_captures.new.shelf) in
    let later : (n : List ℕ) → mid n ≡ old n = λ n. ap (option_map classic) (c.fetch_captures.ensures.stays.texts n) in
    if_ok-map c.take_sources.result _ _
    (λ taken told texts read. told c.args.names.now texts
    (fetched-same (name_of g.H.Source.Source.name) (left_of g.H.Source.Source.left) (faults_of g.H.Source.Source.faults) old mid c.args.names.now
    c.in_ok-sources.sources.items later c.in_ok-sources.ensures.fetched)
    (told-same old mid c.args.names.now texts later read))
    c.take_sources.ensures.told

pub returns-clause-count : goal.returns-clause-count
returns-clause-count g c =
    let long = fetched-length (name_of g.H.Source.Source.name) (left_of g.H.Source.Source.left) (faults_of g.H.Source.Source.faults)
    (classic_texts (g.H.Shelf.text c.args.shelf.now)) c.args.names.now c.in_ok-sources.sources.items c.in_ok-sources.ensures.fetched in
    if_ok-map c.take_sources.result _ _ (λ taken count. count ∙ long) c.take_sources.ensures.count

pub returns-clause-cause : goal.returns-clause-cause
returns-clause-cause g c =
    let old = classic_texts (g.H.Shelf.text c.args.shelf.now) in
    let mid = classic_texts (g.H.Shelf.text c.fetch_captures.new.shelf) in
    let later : (n : List ℕ) → mid n ≡ old n = λ n. ap (option_map classic) (c.fetch_captures.ensures.stays.texts n) in
    captures-earlier (g.H.Shelf.faults c.args.shelf.now) (g.H.Shelf.faults c.fetch_captures.new.shelf) (g.H.Shelf.faults c.take_sources.new.shelf)
    c.args.names.now c.take_sources.result c.fetch_captures.ensures.stays.later
    (c.take_sources.ensures.cause c.args.names.now
    (fetched-same (name_of g.H.Source.Source.name) (left_of g.H.Source.Source.left) (faults_of g.H.Source.Source.faults) old mid c.args.names.now
    c.in_ok-sources.sources.items later c.in_ok-sources.ensures.fetched))
