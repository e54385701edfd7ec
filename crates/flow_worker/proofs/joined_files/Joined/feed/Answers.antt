use Rattle.std.proofs.Common.{rules, ◌≡◌, ◌≤◌, ◌<◌, ◌++◌, ◌∷◌, [], List, None, true, length, get_or, set, refl, sym, ap, ◌∙◌, subst, inl, inr}
use Rattle.std.specs.Prelude.{IfOk, is_some}
use Rattle.std.proofs.lemmas.List.{get_or_default}
use Rattle.ruled_intake.specs.Packets.{Packet}
use Rattle.flow_worker.specs.Judging.{Feeds, HaveRoom}
use Rattle.flow_worker.specs.declared.joined_files.Joined.{Joined}
use Rattle.flow_worker.specs.declared.joined_files.Waiting.{Waiting}
use Rattle.flow_worker.proofs.JoinedFiles.{joined-fed_if, joined-held, joined-passed, joined-room, tested_end, tested_none, waiting-at}
use Rattle.flow_worker.proofs.joined_files.Joined.feed.Goals.{then-file-len-via-then-file-len, then-file-len-via-else-file-len+then-is_some}
use Rattle.flow_worker.proofs.joined_files.Joined.feed.Goals as goal

pub returns-then-file-len : goal.returns-then-file-len
returns-then-file-len c = record {
  stands = λ s files worker taken h.
      let batch = c.args.batch in
      let joined = c.args.self.now in
      let items = joined.files.items in
      let same : c.batch.inside.file ≡ batch.file = search rules in
      joined-passed s files worker taken batch.file batch.packets joined
      (elim c.then-file-len.branch [
        | then-file-len-via-then-file-len w ↦
            let beyond : length items ≤ batch.file = search rules in
            inl (subst (λ n. n ≤ batch.file) h.at.count beyond)
        | then-file-len-via-else-file-len+then-is_some w ↦
            let within : batch.file < length items = search rules in
            let was = w.index.result.now in
            let here : was.end ≡ (get_or items batch.file was).end = ap (λ (x : Waiting). x.end) (w.index.ensures ∙ ap (λ n. get_or items n was) same) in
            let tested : is_some (get_or items batch.file was).end ≡ true = ap is_some (sym here) ∙ sym w.is_some.ensures ∙ w.if-is_some.true in
            inr (tested_end taken batch.file (get_or items batch.file was).end tested (waiting-at s files worker taken joined batch.file was within h.at).end)
      ]) h;
}

pub take-requires-clause-room : goal.take-requires-clause-room
take-requires-clause-room c =
    let batch = c.args.batch in
    let few = c.requires.few in
    let here : batch.file ≡ c.args.self.now.next = search rules in
    let within : batch.file < length c.args.self.now.files.items = search rules in
    let packets : batch.packets ≡ c.as_slice.result.now = search rules in
    subst (λ (l : List Packet). HaveRoom (length l) c.args.self.now.judges) packets
    (joined-room few.0 few.1 few.2 few.3 batch.file batch.packets c.args.self.now here within few.5 few.4)

pub returns-then-file-self : goal.returns-then-file-self
returns-then-file-self c =
    let batch = c.args.batch in
    let joined = c.args.self.now in
    let here : batch.file ≡ joined.next = search rules in
    let within : batch.file < length joined.files.items = search rules in
    let packets : batch.packets ≡ c.as_slice.result.now = search rules in
    let new : Joined = record { alloc = joined.alloc; judges = c.take.new.self; files = joined.files; next = joined.next; before = joined.before } in
    record {
      stands = joined-fed_if c.take.result batch.file batch.packets joined new here within refl refl refl
          (subst (λ (l : List Packet). IfOk c.take.result (λ _. Feeds joined.before l joined.judges c.take.new.self)) (sym packets) c.take.ensures.feeds);
    }

pub returns : goal.returns
returns c = record {
  stands = λ s files worker taken h.
      let batch = c.args.batch in
      let joined = c.args.self.now in
      let items = joined.files.items in
      let was = c.index_mut.result.now in
      let seen = c.index.result.now in
      let w : Waiting = record { batches = c.push.new.self; end = was.end } in
      let same : c.batch.inside.file ≡ batch.file = search rules in
      let other : batch.file ≡ joined.next → ⊥ = λ e. c.if-file-self.false (same ∙ e) in
      let within : batch.file < length items = search rules in
      let here : was ≡ get_or items batch.file was = c.index_mut.ensures.value ∙ ap (λ n. get_or items n was) same in
      let first : seen ≡ get_or items batch.file was = c.index.ensures ∙ ap (λ n. get_or items n seen) same ∙ get_or_default items batch.file seen was within in
      let none : (get_or items batch.file was).end ≡ None =
      tested_none (get_or items batch.file was).end (ap (λ (x : Waiting). is_some x.end) (sym first) ∙ sym c.is_some.ensures ∙ c.if-is_some.false) in
      joined-held s files worker taken batch.file batch.packets batch joined _ was w other within refl none (ap (λ (x : Waiting). x.end) here)
      (subst (λ (x : Waiting). c.push.new.self.items ≡ x.batches.items ++ batch ∷ []) here c.in_ok-push.ensures.items) refl refl refl
      (ap (λ n. set items n w) same) h;
}
