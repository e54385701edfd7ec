use Rattle.std.proofs.Common.{rules, ◌≡◌, ◌+◌, ◌*◌, ◌^◌, ap, arith, length, subst, refl}
use Rattle.pcap_reader.specs.Taken.{TakesFew}
use Rattle.pcap_reader.proofs.TakenRecords.{few-none, few-within}
use Rattle.pcapng_reader.specs.Sources.{faults_of, left_of}
use Rattle.timing_steps.specs.Taken.{TakesTexts}
use Rattle.timing_steps.proofs.Readings.{fresh-tail, if_ok-at, none-left}
use Rattle.timing_steps.proofs.Seeing.{stays-then}
use Rattle.timing_steps.proofs.Captured.{goes-first, goes-on, goes-past, goes-whole}
use Rattle.timing_steps.proofs.Joinings.{fed-next, taken-if_read, taken-none}
use Rattle.timing_steps.proofs.captures.take_sources.Goals as goal

pub loop-source-init : goal.loop-source-init
loop-source-init g c = record {
  reading = goes-first g.H.Shelf g.H.Source.Source c.args.shelf.now c.args.sources.items c.into_iter-source-iterator.result.rest.items _ _
      c.into_iter-source-iterator.ensures.into_iter_gives.0 (search rules)
      (taken-none g.T.Taker.takes c.args.taker.now _ (search rules) refl (g.met.T.Taker.none c.args.taker.now));
  fresh = search rules;
  count = search rules;
  before = omega arith;
  room = subst (λ n. g.T.Taker.room n (2 ^ 40) c.args.taker.now) (omega arith) c.requires.room;
  few = few-within _ 0 _ _ _ (omega arith) (few-none _ _ (g.met.T.Taker.none c.args.taker.now));
  stays = search rules;
}

pub take_next-outcome-requires-clause-few : goal.take_next-outcome-requires-clause-few
take_next-outcome-requires-clause-few g c =
    let count : length c.loop-source.taken.notes.items + length c.loop-source.source-iterator.rest.items ≡ length c.args.sources.items =
    if_ok-at _ _ _ c.in-Ok.is c.loop-source.invariant.count in
    omega (arith, count, ap length c.in-Some.ensures.steps.0, c.requires.few)

pub loop-source-preserved-in-Ok : goal.loop-source-preserved-in-Ok
loop-source-preserved-in-Ok g c = record {
  reading = goes-on g.H.Shelf g.H.Source.Source c.args.shelf.now c.loop-source.shelf c.take_next-outcome.new.shelf _ _ c.in-Some.source
      c.next.new.self.rest.items _ c.take_next-outcome.result _ _
      (λ read. TakesTexts g.T.Taker.takes read c.args.taker.now c.loop-source.taker c.loop-source.taken)
      (λ read. TakesTexts g.T.Taker.takes read c.args.taker.now c.take_next-outcome.new.taker c.take_next-outcome.new.taken)
      c.in-Some.ensures.steps.0 c.in-Ok.is c.loop-source.invariant.stays.later
      (taken-if_read g.T.Taker.takes c.args.taker.now c.loop-source.taker c.take_next-outcome.new.taker
      (g.met.T.Taker.more c.args.taker.now c.loop-source.taker c.take_next-outcome.new.taker) c.take_next-outcome.result
      ((left_of g.H.Source.Source.left) c.in-Some.source) c.loop-source.taken c.take_next-outcome.new.taken c.take_next-outcome.ensures.told)
      c.take_next-outcome.ensures.count c.take_next-outcome.ensures.cause c.loop-source.invariant.reading;
  fresh = fresh-tail (λ source. (faults_of g.H.Source.Source.faults) source ≡ 0) _ c.in-Some.source _ c.in-Some.ensures.steps.0 c.loop-source.invariant.fresh;
  count = search rules;
  before = c.take_next-outcome.ensures.few;
  room = c.take_next-outcome.ensures.room;
  few =
      let was : TakesFew g.T.Taker.takes (length c.loop-source.taken.notes.items * 2 ^ 36) c.args.taker.now c.loop-source.taker =
      if_ok-at _ _ _ c.in-Ok.is c.loop-source.invariant.few in
      fed-next g.T.Taker.takes c.args.taker.now c.loop-source.taker c.take_next-outcome.new.taker
      (g.met.T.Taker.more c.args.taker.now c.loop-source.taker c.take_next-outcome.new.taker) c.take_next-outcome.result
      (length c.loop-source.taken.notes.items) (length c.take_next-outcome.new.taken.notes.items) was
      c.take_next-outcome.ensures.count c.take_next-outcome.ensures.fed;
  stays = stays-then g.H.Shelf.text g.H.Shelf.lacks g.H.Shelf.faults _ _ _ c.loop-source.invariant.stays c.take_next-outcome.ensures.stays;
}

pub loop-source-preserved : goal.loop-source-preserved
loop-source-preserved g c = record {
  reading = goes-past g.H.Shelf g.H.Source.Source c.args.shelf.now c.loop-source.shelf c.give_back.new.shelf _ _ c.in-Some.source c.next.new.self.rest.items _
      c.in-Err.failure _ _ c.in-Some.ensures.steps.0 c.in-Err.is c.give_back.ensures.stays.later c.loop-source.invariant.reading;
  fresh = fresh-tail (λ source. (faults_of g.H.Source.Source.faults) source ≡ 0) _ c.in-Some.source _ c.in-Some.ensures.steps.0 c.loop-source.invariant.fresh;
  count = search rules;
  before = search rules;
  room = search rules;
  few = search rules;
  stays = stays-then g.H.Shelf.text g.H.Shelf.lacks g.H.Shelf.faults _ _ _ c.loop-source.invariant.stays c.give_back.ensures.stays;
}

pub returns-clause-told : goal.returns-clause-told
returns-clause-told g c = λ names texts fetched told.
    goes-whole g.H.Shelf g.H.Source.Source c.args.shelf.now c.loop-source.shelf _ _ _ _
    (λ read. TakesTexts g.T.Taker.takes read c.args.taker.now c.loop-source.taker c.loop-source.taken)
    names texts (search rules) (none-left c.loop-source.source-iterator.rest.items (search rules)) c.loop-source.invariant.reading fetched told

pub returns-clause-fed : goal.returns-clause-fed
returns-clause-fed g c =
    let count : length c.loop-source.taken.notes.items + length c.loop-source.source-iterator.rest.items ≡ length c.args.sources.items =
    if_ok-at c.loop-source.outcome c.in_ok-outcome.field-0 _ (search rules) c.loop-source.invariant.count in
    few-within g.T.Taker.takes (length c.loop-source.taken.notes.items * 2 ^ 36) (2 ^ 40) _ _ (omega (arith, count, c.requires.few))
    (if_ok-at c.loop-source.outcome c.in_ok-outcome.field-0 _ (search rules) c.loop-source.invariant.few)
