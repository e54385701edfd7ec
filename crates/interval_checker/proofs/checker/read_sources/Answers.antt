use Rattle.std.proofs.Common.{◌≡◌, ◌<◌, List, length, refl, rules, arith}
use Rattle.interval_checker.specs.declared.reading.Reading.{Reading}
use Rattle.std.specs.Prelude.{Ok, vec_len}
use Rattle.timing_base.specs.Captures.{joined}
use Rattle.interval_checker.proofs.Goings.{back-same, before-few, before-next, cons-length, failed-all, failed-more, goes-all, goes-at, goes-none, hands-all}
use Rattle.interval_checker.proofs.Goings.{hands-more, hands-none, if-ok, none-left, pushed, pushed-length, room-if, room-next, same-next, same-none}
use Rattle.interval_checker.proofs.checker.read_sources.Goals as goal

pub returns-in-Err-clause-back : goal.returns-in-Err-clause-back
returns-in-Err-clause-back g c = back-same g.S.Source.name g.S.Source.faults c.args.sources.items

pub loop-source-init : goal.loop-source-init
loop-source-init g c =
    let same = c.into_iter-source-iterator.ensures.into_iter_gives.0 in
    let size : length c.into_iter-source-iterator.result.rest.items ≡ length c.args.sources.items = rw same in
    record {
      goes = λ texts files notes tell are none.
          goes-none g.S.Source.left c.args.sources.items c.into_iter-source-iterator.result.rest.items texts files notes c.args.readings.items same
          none tell are;
      hands = hands-none g.S.Source.name g.S.Source.faults c.args.sources.items c.in-Ok.back.items c.into_iter-source-iterator.result.rest.items
          c.in-Ok.ensures.items same;
      failed = tt;
      same = same-none c.args.readings.items;
      count = omega (arith, c.in-Ok.ensures.len, size);
      room = omega (arith, c.in-Ok.ensures.capacity, c.len.ensures, c.args.sources.ok.0);
      few = room-if c.args.readings.items _ _ (Ok 0) (omega (arith, c.in-Ok.ensures.len)) c.requires.room;
      before = omega arith;
    }

pub overflow_cast-number : goal.overflow_cast-number
overflow_cast-number g c = omega (arith, c.len-number.ensures, c.loop-source.invariant.count, c.requires.few)

pub read_source-source-requires-clause-before : goal.read_source-source-requires-clause-before
read_source-source-requires-clause-before g c =
    let more = cons-length c.loop-source.source-iterator.rest.items c.in-Some.source c.next.new.self.rest.items c.in-Some.ensures.steps.0 in
    before-few c.loop-source.outcome (vec_len c.loop-source.back) (omega (arith, more, c.loop-source.invariant.count, c.requires.few))
    c.loop-source.invariant.before

pub read_source-source-requires-clause-few : goal.read_source-source-requires-clause-few
read_source-source-requires-clause-few g c =
    let more = cons-length c.loop-source.source-iterator.rest.items c.in-Some.source c.next.new.self.rest.items c.in-Some.ensures.steps.0 in
    let low : vec_len c.loop-source.back < 16 = omega (arith, more, c.loop-source.invariant.count, c.requires.few) in
    room-if c.loop-source.checking.readings.items _ _ c.loop-source.outcome (omega (arith, low)) c.loop-source.invariant.few

pub loop-source-preserved : goal.loop-source-preserved
loop-source-preserved g c =
    let same = c.in-Some.ensures.steps.0 in
    let more = cons-length c.loop-source.source-iterator.rest.items c.in-Some.source c.next.new.self.rest.items same in
    let fits = c.push.ensures.succeeds (omega (arith, more, c.loop-source.invariant.count, c.loop-source.invariant.room)) in
    let there = pushed c.push.result c.loop-source.back.items c.push.new.self.items c.read_source-source.result.0 fits c.push.ensures.items in
    let size = pushed-length c.push.result (vec_len c.loop-source.back) (vec_len c.push.new.self) fits c.push.ensures.len in
    let place : c.len-number.result ≡ length c.loop-source.back.items = omega (arith, c.len-number.ensures, c.loop-source.back.ok.0) in
    let low : vec_len c.loop-source.back < 16 = omega (arith, more, c.loop-source.invariant.count, c.requires.few) in
    let old = c.loop-source.checking.readings.items in
    let new = c.read_source-source.new.checking.readings.items in
    record {
      goes = λ texts files notes tell are none.
          c.read_source-source.ensures.told c.next.new.self.rest.items (joined files)
          (goes-at g.S.Source.left _ _ (joined files) old c.loop-source.outcome same
          (c.loop-source.invariant.goes texts files notes tell are none));
      hands = hands-more g.S.Source.name g.S.Source.faults c.args.sources.items c.loop-source.back.items _ c.push.new.self.items c.next.new.self.rest.items
          c.in-Some.source c.read_source-source.result.0 same there
          c.read_source-source.ensures.name c.read_source-source.ensures.later c.loop-source.invariant.hands;
      failed = failed-more g.S.Source.name g.S.Source.faults c.args.sources.items c.loop-source.back.items _ c.push.new.self.items c.next.new.self.rest.items
          c.in-Some.source c.read_source-source.result.0
          c.len-number.result c.loop-source.outcome c.read_source-source.result.1 same there place c.read_source-source.ensures.failed
          c.read_source-source.ensures.kept
          c.loop-source.invariant.hands c.loop-source.invariant.failed;
      same = same-next c.args.readings.items old new c.loop-source.outcome c.read_source-source.result.1 c.read_source-source.ensures.same
          c.read_source-source.ensures.kept c.loop-source.invariant.same;
      count = omega (arith, size, more, c.loop-source.invariant.count);
      room = omega (arith, c.loop-source.invariant.room, c.push.ensures.capacity);
      few = room-next old new c.loop-source.outcome c.read_source-source.result.1 (vec_len c.loop-source.back) (vec_len c.push.new.self) low size
          c.read_source-source.ensures.room c.read_source-source.ensures.kept c.loop-source.invariant.few;
      before = before-next c.loop-source.outcome c.read_source-source.result.1 (vec_len c.loop-source.back)
          (vec_len c.push.new.self) size c.read_source-source.ensures.few c.read_source-source.ensures.kept
          c.loop-source.invariant.before;
    }

pub returns-in-Ok-outcome-clause-told : goal.returns-in-Ok-outcome-clause-told
returns-in-Ok-outcome-clause-told g c = λ texts files notes tell are none.
    goes-all g.S.Source.left c.loop-source.source-iterator.rest.items (joined files) c.loop-source.checking.readings.items _ c.loop-source.outcome
    c.in-Ok-outcome.is (none-left _ (search rules)) (c.loop-source.invariant.goes texts files notes tell are none)

pub returns-in-Ok-outcome-clause-same : goal.returns-in-Ok-outcome-clause-same
returns-in-Ok-outcome-clause-same g c = if-ok c.loop-source.outcome _ _ c.in-Ok-outcome.is c.loop-source.invariant.same

pub returns-in-Ok-outcome-clause-back : goal.returns-in-Ok-outcome-clause-back
returns-in-Ok-outcome-clause-back g c =
    hands-all g.S.Source.name g.S.Source.faults c.args.sources.items c.loop-source.back.items c.loop-source.source-iterator.rest.items
    (none-left _ (search rules)) c.loop-source.invariant.hands

pub returns-in-Err-outcome-clause-cause : goal.returns-in-Err-outcome-clause-cause
returns-in-Err-outcome-clause-cause g c =
    failed-all (List Reading) g.S.Source.faults c.args.sources.items c.loop-source.back.items c.loop-source.outcome c.in-Err-outcome.fault _ refl
    c.in-Err-outcome.is
    c.loop-source.invariant.failed

pub returns-in-Err-outcome-clause-back : goal.returns-in-Err-outcome-clause-back
returns-in-Err-outcome-clause-back g c =
    hands-all g.S.Source.name g.S.Source.faults c.args.sources.items c.loop-source.back.items c.loop-source.source-iterator.rest.items
    (none-left _ (search rules)) c.loop-source.invariant.hands
