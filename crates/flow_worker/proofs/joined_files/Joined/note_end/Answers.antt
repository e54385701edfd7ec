use Rattle.std.proofs.Common.{◌≡◌, ◌<◌, Some, length, get_or, set, refl, sym, ap, ◌∙◌, subst}
use Rattle.flow_worker.specs.declared.joined_files.Waiting.{Waiting}
use Rattle.flow_worker.proofs.JoinedFiles.{joined-ended}
use Rattle.flow_worker.proofs.joined_files.Joined.note_end.Goals as goal

pub returns : goal.returns
returns c = λ s files worker taken h.
    let end = c.args.end in
    let items = c.args.self.now.files.items in
    let was = c.index_mut.result.now in
    let w : Waiting = record { batches = was.batches; end = Some end } in
    let file = c.requires.file in
    let here : was ≡ get_or items end.file was = c.index_mut.ensures.value ∙ ap (λ n. get_or items n was) file in
    joined-ended s files worker taken end.file end.note end.records end c.args.self.now _ was w (subst (λ n. n < length items) file c.requires.there) refl
    (ap (λ n. (get_or items n was).end) (sym file) ∙ c.requires.none was) refl (ap (λ (x : Waiting). x.batches.items) here) refl refl refl
    (ap (λ n. set items n w) file) h
