use Rattle.std.proofs.Common.{◌+◌, ◌++◌, ◌∷◌, [], arith, refl, length-drop}
use Rattle.std.proofs.lemmas.Result.{err_from_is_err_and}
use Rattle.pcap_reader.proofs.Runs.{begun-next, from-same, same-frame, stops-next, whole-rest}
use Rattle.pcap_reader.proofs.TakenRecords.{few-more, few-none, room-same, taken-many, taken-none, taken-stops}
use Rattle.pcap_reader.proofs.run.take_laid_out.Goals as goal

pub loop-head-init : goal.loop-head-init
loop-head-init g c = record {
  told = λ most place behind items end m from.
      taken-none _ _ _ _ 0 items end (g.met.T.Taker.none c.args.taker.now) refl
      (from-same c.args.layout most c.args.number (c.args.number + 0) place (place + 0) (c.args.bytes.now ++ behind) _ items end
      (omega arith) (omega arith) refl from);
  fed = few-none _ _ (g.met.T.Taker.none c.args.taker.now);
  within = omega arith;
  few = omega arith;
  room = λ count r. room-same g.T.Taker.room _ _ _ _ _ (omega arith) (omega arith) r;
}

pub take-requires-clause-room : goal.take-requires-clause-room
take-requires-clause-room g c =
    let h = whole-rest c.args.layout c.loop-head.run.size c.args.bytes.now c.in-Some.head c.in-Some.ensures in
    let records = c.loop-head.run.records in
    c.loop-head.invariant.room 1
    (c.requires.room (records + 1) (omega (
      arith,
      h.within,
      c.loop-head.invariant.few,
      c.loop-head.invariant.within,
      length-drop c.loop-head.run.size c.args.bytes.now,
    )))

pub loop-head-preserved : goal.loop-head-preserved
loop-head-preserved g c =
    let more = g.met.T.Taker.more c.args.taker.now c.loop-head.taker c.take.new.self in
    let v = c.loop-head.invariant in
    let h = whole-rest c.args.layout c.loop-head.run.size c.args.bytes.now c.in-Some.head c.in-Some.ensures in
    let run = c.loop-head.run in
    let bytes = c.args.bytes.now in
    let long = length-drop run.size bytes in
    record {
      told = λ most place behind items end m from.
          taken-many _ _ _ _ _ _ _ run.records 1 _ items end more refl (v.told most place behind items end m from)
          (λ rest given. begun-next g.T.Taker.takes c.args.layout most c.args.number place bytes behind run c.in-Some.head _ c.args.before
          c.loop-head.taker c.take.new.self rest end
          v.within h m (same-frame run.size c.in-Some.head.captured bytes) given c.in_ok-take.ensures.takes);
      fed = few-more _ _ 1 _ _ _ more v.fed
          (record {
            items = record { number = c.args.before + c.args.number + run.records; stamp = c.in-Some.head.at; bytes = _ } ∷ [];
            few = omega arith;
            taken = c.in_ok-take.ensures.takes;
          });
      within = omega (arith, h.within, long, v.within);
      few = omega (arith, v.few);
      room = λ count r.
          let before = v.room (count + 1) (room-same g.T.Taker.room _ _ _ (run.records + (count + 1)) c.args.taker.now refl (omega arith) r) in
          room-same g.T.Taker.room _ _ count count c.take.new.self (omega arith) refl (c.in_ok-take.ensures.room count before);
    }

pub returns-in_err-take : goal.returns-in_err-take
returns-in_err-take g c =
    let v = c.loop-head.invariant in
    let h = whole-rest c.args.layout c.loop-head.run.size c.args.bytes.now c.in-Some.head c.in-Some.ensures in
    let run = c.loop-head.run in
    let bytes = c.args.bytes.now in
    let stop = c.in_err-take.field-0.0 in
    let ends = g.met.T.Taker.ends c.args.taker.now c.loop-head.taker c.take.new.self stop in
    let halts = g.met.T.Taker.halts c.loop-head.taker c.take.new.self stop in
    let p = err_from_is_err_and c.from_residual.result c.from_residual.ensures.1 in
    rw (p.1, p.2) (record {
      told = λ most place behind items end m from.
          taken-stops _ _ g.T.Taker.stops _ _ _ c.take.new.self _ stop items end ends (v.told most place behind items end m from)
          (λ rest given. stops-next g.T.Taker.stops c.args.layout most c.args.number place bytes behind run c.in-Some.head _ c.args.before
          c.loop-head.taker c.take.new.self stop rest end v.within h m (same-frame run.size c.in-Some.head.captured bytes) given (halts _)
          c.in_err-take.ensures.stops);
      fed = tt;
      stopped = record { items = v.fed.items ++ _; stopped = ends v.fed.items _ v.fed.taken c.in_err-take.ensures.stops };
      within = tt;
      few = tt;
      room = λ count. tt;
    })

pub returns : goal.returns
returns g c =
    let v = c.loop-head.invariant in
    record { told = v.told; fed = v.fed; stopped = tt; within = v.within; few = v.few; room = v.room }
