use Rattle.std.proofs.Common.{rules, refl, ◌≡◌, subst, sym, List}
use Rattle.std.specs.Prelude.{All}
use Rattle.pcapng_reader.specs.Sources.{faults_of, left_of, name_of}
use Rattle.timing_steps.proofs.Readings.{fresh-tail, none-left, reading-all, reading-at, reading-next, reading-start, reading-stopped}
use Rattle.timing_reach.specs.skew.Comparing.{AreCompared}
use Rattle.timing_steps.proofs.Seeing.{stays-then}
use Rattle.timing_reach.proofs.Comparings.{compared-all, compared-next, compared-none}
use Rattle.timing_reach.proofs.skew.compare.read_each.Goals as goal

pub loop-source-init : goal.loop-source-init
loop-source-init g c = record {
  reading = λ texts names fetched.
      reading-start (name_of g.H.Source.Source.name) (left_of g.H.Source.Source.left)
      (faults_of g.H.Source.Source.faults) texts (g.H.Shelf.faults c.args.shelf.now) names c.args.sources.items
      c.into_iter-source-iterator.result.rest.items _ _ c.into_iter-source-iterator.ensures.into_iter_gives.0 (search rules)
      (compared-none c.args.first.now c.args.second.now c.len-count.result _ c.new.ensures.items (search rules) (search rules) (search rules)) fetched;
  fresh = subst (λ (l : List _). All (λ source. (faults_of g.H.Source.Source.faults) source ≡ 0) l)
      (sym c.into_iter-source-iterator.ensures.into_iter_gives.0) c.requires.fresh;
  count = search rules;
  given = search rules;
  stays = search rules;
}

pub loop-source-preserved-in-Ok : goal.loop-source-preserved-in-Ok
loop-source-preserved-in-Ok g c = record {
  reading = λ texts names fetched.
      reading-next (name_of g.H.Source.Source.name) (left_of g.H.Source.Source.left)
      (faults_of g.H.Source.Source.faults) texts (g.H.Shelf.faults c.args.shelf.now) (g.H.Shelf.faults c.loop-source.shelf)
      (g.H.Shelf.faults c.read_next-outcome.new.shelf)
      names c.in-Some.source c.next.new.self.rest.items c.read_next-outcome.result _ _
      (λ read. AreCompared read c.args.first.now c.args.second.now c.len-count.result c.loop-source.comparing)
      (λ read. AreCompared read c.args.first.now c.args.second.now c.len-count.result c.read_next-outcome.new.comparing)
      (reading-at _ _ _ _ _ _ names _ _ _ _ _ _ c.in-Some.ensures.steps.0 c.in-Ok.is (c.loop-source.invariant.reading texts names fetched))
      c.loop-source.invariant.stays.later
      (compared-next c.read_next-outcome.result (left_of g.H.Source.Source.left c.in-Some.source) c.args.first.now c.args.second.now c.len-count.result _ _
      (search rules) c.read_next-outcome.ensures.told)
      c.read_next-outcome.ensures.number c.read_next-outcome.ensures.cause;
  fresh = fresh-tail (λ source. (faults_of g.H.Source.Source.faults) source ≡ 0) _ c.in-Some.source _ c.in-Some.ensures.steps.0 c.loop-source.invariant.fresh;
  count = search rules;
  given = c.read_next-outcome.ensures.given;
  stays = stays-then g.H.Shelf.text g.H.Shelf.lacks g.H.Shelf.faults _ _ _ c.loop-source.invariant.stays c.read_next-outcome.ensures.stays;
}

pub loop-source-preserved : goal.loop-source-preserved
loop-source-preserved g c = record {
  reading = λ texts names fetched.
      reading-stopped (name_of g.H.Source.Source.name) (left_of g.H.Source.Source.left)
      (faults_of g.H.Source.Source.faults) texts (g.H.Shelf.faults c.args.shelf.now) (g.H.Shelf.faults c.loop-source.shelf)
      (g.H.Shelf.faults c.give_back.new.shelf)
      names c.in-Some.source c.next.new.self.rest.items _ _ c.in-Err.failure
      (reading-at _ _ _ _ _ _ names _ _ _ _ _ _ c.in-Some.ensures.steps.0 c.in-Err.is (c.loop-source.invariant.reading texts names fetched))
      c.give_back.ensures.stays.later;
  fresh = fresh-tail (λ source. (faults_of g.H.Source.Source.faults) source ≡ 0) _ c.in-Some.source _ c.in-Some.ensures.steps.0 c.loop-source.invariant.fresh;
  count = search rules;
  given = search rules;
  stays = stays-then g.H.Shelf.text g.H.Shelf.lacks g.H.Shelf.faults _ _ _ c.loop-source.invariant.stays c.give_back.ensures.stays;
}

pub returns-clause-told : goal.returns-clause-told
returns-clause-told g c = λ texts names read fetched told.
    compared-all read c.args.first.now c.args.second.now c.len-count.result c.loop-source.comparing _
    (reading-all (name_of g.H.Source.Source.name) (left_of g.H.Source.Source.left)
    (faults_of g.H.Source.Source.faults) texts (g.H.Shelf.faults c.args.shelf.now) (g.H.Shelf.faults c.loop-source.shelf) names read
    c.loop-source.source-iterator.rest.items _ (λ read. AreCompared read c.args.first.now c.args.second.now c.len-count.result c.loop-source.comparing)
    (reading-at _ _ _ _ _ _ names _ _ _ _ _ _ refl (search rules) (c.loop-source.invariant.reading texts names fetched)) (none-left _ (search rules)) told)
    (search rules) refl c.finish.ensures
