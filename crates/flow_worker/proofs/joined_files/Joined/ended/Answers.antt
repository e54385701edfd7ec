use Rattle.std.proofs.Common.{rules, ◌≡◌, ◌<◌, length, ◌∙◌, subst}
use Rattle.flow_worker.proofs.JoinedFiles.{next-end, no_end, one_end}
use Rattle.flow_worker.proofs.joined_files.Joined.ended.Goals as goal

pub returns-in-Some-clause-some : goal.returns-in-Some-clause-some
returns-in-Some-clause-some c = λ s files worker taken h.
    let joined = c.args.self.now in
    let within : joined.next < length joined.files.items = search rules in
    let first = next-end s files worker taken joined c.index.result.now within c.index.ensures h in
    let found = one_end taken joined.next c.index.result.now.end c.in-Some.end c.in-Some.is first in
    record {
      there = subst (λ l. joined.next < l) h.count within;
      ended = found.0;
      told = (let x : c.end.inside.records ≡ c.in-Some.end.records = search rules in x) ∙ found.1;
      few = search rules;
    }

pub returns-in-None-clause-none : goal.returns-in-None-clause-none
returns-in-None-clause-none c = λ s files worker taken h below.
    let joined = c.args.self.now in
    let within : joined.next < length joined.files.items = search rules in
    let first = next-end s files worker taken joined c.index.result.now within c.index.ensures h in
    no_end taken joined.next c.index.result.now.end c.in-None.is first
