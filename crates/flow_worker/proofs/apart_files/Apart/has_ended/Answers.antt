use Rattle.std.proofs.Common.{rules, ◌≡◌, ◌∙◌}
use Rattle.std.specs.List.{list_all}
use Rattle.flow_worker.specs.declared.apart_files.OneFile.{OneFile}
use Rattle.flow_worker.proofs.ApartFiles.{apart-ends}
use Rattle.flow_worker.proofs.apart_files.Apart.has_ended.Goals as goal

pub returns : goal.returns
returns c = λ s files worker taken h.
    let all : c.all_ended.result ≡ list_all (λ (one : OneFile). one.ended) c.args.self.now.files.items = search rules in
    all ∙ apart-ends s files worker taken c.args.self.now h
