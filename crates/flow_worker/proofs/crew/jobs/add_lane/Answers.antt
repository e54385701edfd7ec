use Rattle.std.proofs.Common.{refl, map, Vec, Global}
use Rattle.ruled_intake.specs.declared.passes.SendPass.{SendPass}
use Rattle.flow_worker.proofs.lemmas.crew.Making.{made-next, on_ok}
use Rattle.flow_worker.proofs.crew.jobs.add_lane.Goals as goal

pub returns : goal.returns
returns c =
    let old = c.args.made.now in
    record {
      made =
          on_ok c.deal.result _ _
          (λ _ dealt. made-next c.args.files c.args.worker old.lanes.items _ old.workers.items _ (map (λ (v : Vec SendPass Global). v.items) old.columns.items)
          _
          c.in_ok-lane.lane c.in_ok-lane.passes.items (record { worker = c.args.worker; pass = c.in_ok-lane.pass }) c.requires.made
          c.in_ok-lane.ensures.senders.0 c.in_ok-lane.ensures.senders.1 c.in_ok-lane.ensures.senders.2 refl c.in_ok-lane.ensures.taker
          c.in_ok-push.ensures.items c.in_ok-push-2.ensures.items dealt)
          c.deal.ensures;
    }
