use Rattle.std.proofs.Common.{rules}
use Rattle.pcapng_reader.specs.Sources.{faults_of, name_of}
use Rattle.timing_steps.proofs.Fetches.{returning-all, returning-next, returning-start}
use Rattle.timing_steps.proofs.Seeing.{stays-then}
use Rattle.timing_steps.proofs.fetch.give_back_all.Goals as goal

pub loop-source-init : goal.loop-source-init
loop-source-init g c = record {
  returning = returning-start (name_of g.H.Source.Source.name) (faults_of g.H.Source.Source.faults) (g.H.Shelf.faults c.args.shelf.now) c.args.sources.items _
      c.into_iter-source-iterator.ensures.into_iter_gives.0;
  stays = search rules;
}

pub loop-source-preserved : goal.loop-source-preserved
loop-source-preserved g c = record {
  returning =
      returning-next (name_of g.H.Source.Source.name) (faults_of g.H.Source.Source.faults) (g.H.Shelf.faults c.args.shelf.now)
      (g.H.Shelf.faults c.loop-source.shelf) (g.H.Shelf.faults c.give_back.new.shelf) c.args.sources.items
      c.loop-source.source-iterator.rest.items c.next.new.self.rest.items c.in-Some.source c.in-Some.ensures.steps.0 c.loop-source.invariant.stays.later
      c.give_back.ensures.stays.later c.give_back.ensures.raised c.loop-source.invariant.returning;
  stays = stays-then g.H.Shelf.text g.H.Shelf.lacks g.H.Shelf.faults _ _ _ c.loop-source.invariant.stays c.give_back.ensures.stays;
}

pub returns-clause-raised : goal.returns-clause-raised
returns-clause-raised g c =
    returning-all (name_of g.H.Source.Source.name) (faults_of g.H.Source.Source.faults) (g.H.Shelf.faults c.args.shelf.now)
    (g.H.Shelf.faults c.loop-source.shelf) c.args.sources.items c.loop-source.source-iterator.rest.items (search rules) c.loop-source.invariant.returning
