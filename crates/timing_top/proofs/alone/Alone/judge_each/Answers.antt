use Rattle.std.proofs.Common.{rules, ◌≡◌, ◌+◌, ap, arith, length}
use Rattle.fail_interval.specs.Found.{AreFound}
use Rattle.fail_interval.specs.Rows.{rows_of_files}
use Rattle.pcapng_reader.specs.Sources.{faults_of, left_of}
use Rattle.timing_steps.proofs.Readings.{fresh-tail, if_ok-at, none-left}
use Rattle.timing_steps.proofs.Seeing.{stays-then}
use Rattle.timing_steps.proofs.Captured.{goes-first, goes-on, goes-past, goes-whole}
use Rattle.timing_top.proofs.Takings.{found-if_read, found-none}
use Rattle.timing_top.proofs.alone.Alone.judge_each.Goals as goal

pub loop-source-init : goal.loop-source-init
loop-source-init g c = record {
  reading = goes-first g.H.Shelf g.H.Source.Source c.args.shelf.now c.args.sources.items c.into_iter-source-iterator.result.rest.items _ _
      c.into_iter-source-iterator.ensures.into_iter_gives.0 (search rules)
      (found-none c.args.self.now.media.now c.args.self.now.options _ _ c.new.ensures.items c.new-2.ensures.items);
  fresh = search rules;
  count = search rules;
  of_session = search rules;
  stays = search rules;
}

pub judge_next-outcome-requires-clause-few : goal.judge_next-outcome-requires-clause-few
judge_next-outcome-requires-clause-few g c =
    let count : length c.loop-source.found.notes.items + length c.loop-source.source-iterator.rest.items ≡ length c.args.sources.items =
    if_ok-at _ _ _ c.in-Ok.is c.loop-source.invariant.count in
    omega (arith, count, ap length c.in-Some.ensures.steps.0, c.requires.ready.few)

pub loop-source-preserved-in-Ok : goal.loop-source-preserved-in-Ok
loop-source-preserved-in-Ok g c = record {
  reading = goes-on g.H.Shelf g.H.Source.Source c.args.shelf.now c.loop-source.shelf c.judge_next-outcome.new.shelf _ _ c.in-Some.source
      c.next.new.self.rest.items _ c.judge_next-outcome.result _ _
      (λ read. AreFound read (rows_of_files c.args.self.now.options 0 c.args.self.now.media.now) c.loop-source.found.notes.items c.loop-source.found.rows.items)
      (λ read. AreFound read (rows_of_files c.args.self.now.options 0 c.args.self.now.media.now) c.judge_next-outcome.new.found.notes.items
      c.judge_next-outcome.new.found.rows.items)
      c.in-Some.ensures.steps.0 c.in-Ok.is c.loop-source.invariant.stays.later
      (found-if_read c.judge_next-outcome.result ((left_of g.H.Source.Source.left) c.in-Some.source) c.args.self.now.media.now c.args.self.now.options _ _ _ _
      c.judge_next-outcome.ensures.told)
      c.judge_next-outcome.ensures.count c.judge_next-outcome.ensures.cause c.loop-source.invariant.reading;
  fresh = fresh-tail (λ source. (faults_of g.H.Source.Source.faults) source ≡ 0) _ c.in-Some.source _ c.in-Some.ensures.steps.0 c.loop-source.invariant.fresh;
  count = search rules;
  of_session = search rules;
  stays = stays-then g.H.Shelf.text g.H.Shelf.lacks g.H.Shelf.faults _ _ _ c.loop-source.invariant.stays c.judge_next-outcome.ensures.stays;
}

pub loop-source-preserved : goal.loop-source-preserved
loop-source-preserved g c = record {
  reading = goes-past g.H.Shelf g.H.Source.Source c.args.shelf.now c.loop-source.shelf c.give_back.new.shelf _ _ c.in-Some.source c.next.new.self.rest.items _
      c.in-Err.failure _ _ c.in-Some.ensures.steps.0 c.in-Err.is c.give_back.ensures.stays.later c.loop-source.invariant.reading;
  fresh = fresh-tail (λ source. (faults_of g.H.Source.Source.faults) source ≡ 0) _ c.in-Some.source _ c.in-Some.ensures.steps.0 c.loop-source.invariant.fresh;
  count = search rules;
  of_session = search rules;
  stays = stays-then g.H.Shelf.text g.H.Shelf.lacks g.H.Shelf.faults _ _ _ c.loop-source.invariant.stays c.give_back.ensures.stays;
}

pub returns-clause-judged : goal.returns-clause-judged
returns-clause-judged g c = record {
  told = λ names texts fetched told.
      goes-whole g.H.Shelf g.H.Source.Source c.args.shelf.now c.loop-source.shelf _ _ _ _
      (λ read. AreFound read (rows_of_files c.args.self.now.options 0 c.args.self.now.media.now) c.loop-source.found.notes.items c.loop-source.found.rows.items)
      names texts (search rules) (none-left c.loop-source.source-iterator.rest.items (search rules)) c.loop-source.invariant.reading fetched told;
  count = search rules;
  of_session = search rules;
  cause = λ names fetched. tt;
}
