use Rattle.std.proofs.Common.{rules, ◌≡◌, ◌≤◌, ◌<◌, length, true, get_or, set, refl, ap, ◌∙◌}
use Rattle.flow_worker.specs.declared.apart_files.OneFile.{OneFile}
use Rattle.flow_worker.proofs.ApartFiles.{apart-beyond, apart-ended}
use Rattle.flow_worker.proofs.apart_files.Apart.end.Goals as goal

pub returns-then-file-len : goal.returns-then-file-len
returns-then-file-len c = record {
  stands = λ s files worker taken h.
      let end = c.args.end.now in
      let items = c.args.self.now.files.items in
      let was = c.index_mut.result.now in
      let one : OneFile = record { judges = was.judges; ended = true } in
      let same : c.end.inside.file ≡ end.file = search rules in
      let within : end.file < length items = search rules in
      let here : was ≡ get_or items end.file was = c.index_mut.ensures.value ∙ ap (λ n. get_or items n was) same in
      apart-ended s files worker taken end.file end.note end.records c.args.self.now _ was one within refl (ap (λ (x : OneFile). x.judges) here)
      (ap (λ n. set items n one) same) h;
}

pub returns-else-file-len : goal.returns-else-file-len
returns-else-file-len c = record {
  stands = λ s files worker taken h.
      let end = c.args.end.now in
      let beyond : length c.args.self.now.files.items ≤ end.file = search rules in
      apart-beyond s files worker taken end.file end.note end.records c.args.self.now beyond h;
}
