use Rattle.std.proofs.Common.{rules, ◌≡◌, [], true, length, refl}
use Rattle.flow_worker.specs.Opening.{Setting}
use Rattle.flow_worker.specs.Standing.{IsWaiting}
use Rattle.flow_worker.specs.declared.joined_files.Joined.{Joined}
use Rattle.flow_worker.proofs.Each.{each-push-at}
use Rattle.flow_worker.proofs.JoinedFiles.{joined-new, waiting-new}
use Rattle.flow_worker.proofs.joined_files.Joined.new.Goals as goal

pub loop-preserved : goal.loop-preserved
loop-preserved c = record {
  count = search rules;
  each = each-push-at (IsWaiting 0 []) c.loop.counter c.loop.all.items c.push.new.self.items _ c.loop.invariant.count c.in_ok-push.ensures.items
      c.loop.invariant.each
      (waiting-new c.loop.counter _ refl (search rules));
}

pub returns : goal.returns
returns c =
    let s : Setting = record { media = c.args.run.now.media.now; workers = length c.args.run.now.lanes.now; joined = true; options = c.args.run.now.options } in
    let joined : Joined = record { alloc = c.args.alloc; judges = c.in_ok-judges.judges; files = c.loop.all; next = 0; before = 0 } in
    let count : length c.loop.all.items ≡ c.args.run.now.files = search rules in
    record {
      stands = joined-new s c.args.run.now.files c.args.worker joined refl c.requires.limits.some_files c.requires.limits.few_files count refl refl
          c.loop.invariant.each (c.in_ok-judges.ensures.fed true refl);
    }
