use Rattle.std.proofs.Common.{◌≡◌, ◌^◌, [], ap, arith, refl, subst, sym}
use Rattle.std.proofs.lemmas.List.Elements.{All-same}
use Rattle.timing_base.specs.Jobs.{CaptureJob}
use Rattle.timing_base.specs.Shifts.{FlowOptions}
use Rattle.timing_measure.specs.flows.Meters.{HasRoom}
use Rattle.timing_measure.specs.flows.Taken.{AreMetered, AreTakenIn, AreTakenOf}
use Rattle.timing_measure.specs.declared.flows.take.TakenFlows.{TakenFlows}
use Rattle.timing_measure.proofs.Taken.{flows-room, taken-in, taken-of}
use Rattle.timing_measure.proofs.flows.take.take_flows.Goals as goal

pub take_by-requires : goal.take_by-requires
take_by-requires g c = record {
  room = (
    record {
      ready = c.in_ok-new.ensures.ready;
      each = All-same (λ f. HasRoom (2 ^ 40) f.taker) c.in_ok-new.field-0.flows.items c.in_ok-flows.flows.items c.in_ok-new.ensures.flows
          (flows-room (2 ^ 40) (2 ^ 41) c.in_ok-flows.flows.items (omega arith) c.in_ok-flows.ensures.room);
    },
    c.requires.room,
  );
}

pub returns-clause-told : goal.returns-clause-told
returns-clause-told g c = λ texts whole.
    let meter = g.M.RunMeter in
    let options = c.job.inside.options in
    let same : options ≡ c.args.job.now.options = ap (λ (job : CaptureJob). job.options) c.job.view_is in
    let taken : TakenFlows _ _ _ = record { notes = c.in_ok-taken.taken.notes; flows = c.into_flows.result; beside = c.in_ok-taken.both.second } in
    subst (λ (x : FlowOptions). AreTakenIn meter.WANTS_LEVELS meter.stands meter.tells g.B.Taker.takes x c.args.first c.args.media.now texts c.args.beside
    taken)
    same
    (taken-in meter.WANTS_LEVELS meter.stands meter.tells g.B.Taker.takes options c.args.first c.args.media.now texts
    (record { first = c.in_ok-new.field-0; second = c.args.beside }) c.in_ok-taken.both c.in_ok-taken.taken taken
    (subst (AreMetered meter.WANTS_LEVELS meter.stands meter.tells options c.args.first c.args.media.now []) (sym c.in_ok-new.ensures.flows)
    c.in_ok-flows.ensures.stands)
    (c.in_ok-taken.ensures.told texts whole) refl c.into_flows.ensures refl)

pub returns-clause-some : goal.returns-clause-some
returns-clause-some g c =
    let meter = g.M.RunMeter in
    let options = c.job.inside.options in
    let same : options ≡ c.args.job.now.options = ap (λ (job : CaptureJob). job.options) c.job.view_is in
    let taken : TakenFlows _ _ _ = record { notes = c.in_ok-taken.taken.notes; flows = c.into_flows.result; beside = c.in_ok-taken.both.second } in
    subst (λ (x : FlowOptions). AreTakenOf meter.WANTS_LEVELS meter.stands meter.tells x c.args.first c.args.media.now taken) same
    (taken-of meter.WANTS_LEVELS meter.stands meter.tells g.B.Taker.takes options (2 ^ 40) c.args.first c.args.media.now
    (record { first = c.in_ok-new.field-0; second = c.args.beside }) c.in_ok-taken.both taken
    (subst (AreMetered meter.WANTS_LEVELS meter.stands meter.tells options c.args.first c.args.media.now []) (sym c.in_ok-new.ensures.flows)
    c.in_ok-flows.ensures.stands)
    c.in_ok-taken.ensures.fed c.into_flows.ensures)
