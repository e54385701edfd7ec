use Rattle.std.proofs.Common.{rules, ◌≡◌, length, leb, sym, ap}
use Rattle.flow_worker.proofs.JoinedFiles.{joined-ends}
use Rattle.flow_worker.proofs.joined_files.Joined.has_ended.Goals as goal

pub returns : goal.returns
returns c = λ s files worker taken h.
    let same : c.len.result ≡ length c.args.self.now.files.items = search rules in
    joined-ends s files worker taken c.args.self.now _ (ap (λ n. leb n c.args.self.now.next) (sym same)) h
