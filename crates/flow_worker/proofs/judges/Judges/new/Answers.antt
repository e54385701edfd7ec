use Rattle.std.proofs.Common.{length, rules, [], eqb, sym, ap}
use Rattle.timing_base.specs.Keys.{key_of}
use Rattle.flow_worker.specs.Judging.{IsPlace}
use Rattle.flow_worker.specs.Opening.{Setting}
use Rattle.flow_worker.proofs.Each.{each-push-at}
use Rattle.flow_worker.proofs.Fed.{place-new}
use Rattle.flow_worker.proofs.judges.Judges.new.Goals as goal

pub loop-number-preserved : goal.loop-number-preserved
loop-number-preserved c = record {
  count = search rules;
  each = λ joined dealt.
      let s : Setting = record {
        media = c.args.run.now.media.now;
        workers = length c.args.run.now.lanes.now;
        joined = joined;
        options = c.args.run.now.options;
      } in
      each-push-at (λ number. IsPlace s c.args.worker (key_of c.args.file number) []) c.loop-number.number c.loop-number.places.items c.push.new.self.items
      c.own_judge.result c.loop-number.invariant.count
      c.in_ok-push.ensures.items (c.loop-number.invariant.each joined dealt)
      (place-new s c.args.worker c.args.file c.loop-number.number c.index-media-number.result c.own_judge.result _ c.loop-number-test.true
      (sym c.index-media-number.is) dealt
      (ap (λ r. eqb r c.args.worker) c.route.ensures.value) c.own_judge.ensures.judge c.own_judge.ensures.none);
}
