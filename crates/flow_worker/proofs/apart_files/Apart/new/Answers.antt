use Rattle.std.proofs.Common.{length, rules, [], false, refl}
use Rattle.flow_worker.specs.Opening.{Setting}
use Rattle.flow_worker.specs.Standing.{IsFile}
use Rattle.flow_worker.specs.declared.apart_files.OneFile.{OneFile}
use Rattle.flow_worker.proofs.ApartFiles.{file-new}
use Rattle.flow_worker.proofs.Each.{each-push-at}
use Rattle.flow_worker.proofs.apart_files.Apart.new.Goals as goal

pub loop-file-preserved : goal.loop-file-preserved
loop-file-preserved c =
    let s : Setting = record {
      media = c.args.run.now.media.now;
      workers = length c.args.run.now.lanes.now;
      joined = false;
      options = c.args.run.now.options;
    } in
    let one : OneFile = record { judges = c.in_ok-judges.judges; ended = false } in
    record {
      count = search rules;
      each = each-push-at (IsFile s c.args.run.now.files c.args.worker []) c.loop-file.file c.loop-file.all.items c.push.new.self.items one
          c.loop-file.invariant.count c.in_ok-push.ensures.items c.loop-file.invariant.each
          (file-new s c.args.run.now.files c.args.worker c.loop-file.file one refl refl (c.in_ok-judges.ensures.fed false refl));
    }
