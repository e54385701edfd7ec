use Rattle.std.proofs.Common.{rules, ◌≡◌, ◌≤◌, ◌<◌, ◌++◌, ◌∷◌, [], true, length, get_or, sym, ap, ◌∙◌, subst, inl, inr}
use Rattle.std.specs.Prelude.{is_some}
use Rattle.std.proofs.lemmas.List.{get_or_default}
use Rattle.flow_worker.specs.Messages.{ending}
use Rattle.flow_worker.specs.declared.joined_files.Waiting.{Waiting}
use Rattle.flow_worker.proofs.JoinedFiles.{joined-ended_if, joined-passed_end, tested_end, tested_none, waiting-at}
use Rattle.flow_worker.proofs.joined_files.Joined.end.Goals.{then-file-len-via-then-file-len, then-file-len-via-else-file-len+then-is_some}
use Rattle.flow_worker.proofs.joined_files.Joined.end.Goals as goal

pub returns-then-file-len : goal.returns-then-file-len
returns-then-file-len c = record {
  stands = λ s files worker taken h.
      let end = c.args.end in
      let joined = c.args.self.now in
      let items = joined.files.items in
      let same : c.end.inside.file ≡ end.file = search rules in
      joined-passed_end s files worker taken end.file end.note end.records joined
      (elim c.then-file-len.branch [
        | then-file-len-via-then-file-len w ↦
            let beyond : length items ≤ end.file = search rules in
            inl (subst (λ n. n ≤ end.file) h.at.count beyond)
        | then-file-len-via-else-file-len+then-is_some w ↦
            let within : end.file < length items = search rules in
            let was = w.index.result.now in
            let here : was.end ≡ (get_or items end.file was).end = ap (λ (x : Waiting). x.end) (w.index.ensures ∙ ap (λ n. get_or items n was) same) in
            let tested : is_some (get_or items end.file was).end ≡ true = ap is_some (sym here) ∙ sym w.is_some.ensures ∙ w.if-is_some.true in
            inr (tested_end taken end.file (get_or items end.file was).end tested (waiting-at s files worker taken joined end.file was within h.at).end)
      ]) h;
}

pub note_end-requires-clause-none : goal.note_end-requires-clause-none
note_end-requires-clause-none c = λ d.
    let items = c.args.self.now.files.items in
    let seen = c.index.result.now in
    let within : c.end.inside.file < length items = search rules in
    let same : get_or items c.end.inside.file d ≡ seen = get_or_default items c.end.inside.file d seen within ∙ sym c.index.ensures in
    tested_none (get_or items c.end.inside.file d).end (ap (λ (x : Waiting). is_some x.end) same ∙ sym c.is_some.ensures ∙ c.if-is_some.false)

pub returns : goal.returns
returns c =
    let end = c.args.end in
    record {
      stands = joined-ended_if c.advance.result (ending end.file end.note end.records) c.args.self.now c.note_end.new.self c.advance.new.self
          c.note_end.ensures c.advance.ensures.stands;
    }

pub advance-requires : goal.advance-requires
advance-requires c =
    let end = c.args.end in
    let few = c.requires.few in
    record {
      few = (
        few.0,
        few.1,
        few.2,
        few.3 ++ ending end.file end.note end.records ∷ [],
        c.note_end.ensures few.0 few.1 few.2 few.3 few.4.at,
        few.5,
      );
    }
