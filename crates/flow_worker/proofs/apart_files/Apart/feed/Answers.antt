use Rattle.std.proofs.Common.{rules, ◌≡◌, ◌≤◌, ◌<◌, List, false, length, get_or, set, sym, ap, ◌∙◌, subst, inl, inr}
use Rattle.std.specs.Prelude.{IfOk}
use Rattle.std.specs.Vec.{with_item}
use Rattle.std.proofs.lemmas.List.{get_or_default}
use Rattle.ruled_intake.specs.Packets.{Packet}
use Rattle.flow_worker.specs.Judging.{Feeds, HaveRoom}
use Rattle.flow_worker.specs.declared.apart_files.OneFile.{OneFile}
use Rattle.flow_worker.proofs.ApartFiles.{apart-fed_if, apart-passed, apart-room, ended-at}
use Rattle.flow_worker.proofs.apart_files.Apart.feed.Goals.{then-file-len-via-then-file-len, then-file-len-via-else-file-len+then-index}
use Rattle.flow_worker.proofs.apart_files.Apart.feed.Goals as goal

pub returns-then-file-len : goal.returns-then-file-len
returns-then-file-len c = record {
  stands = λ s files worker taken h.
      let batch = c.args.batch.now in
      let items = c.args.self.now.files.items in
      let same : c.batch.inside.file ≡ batch.file = search rules in
      apart-passed s files worker taken batch.file batch.packets c.args.self.now
      (elim c.then-file-len.branch [
        | then-file-len-via-then-file-len w ↦
            let beyond : length items ≤ c.batch.inside.file = search rules in
            inl (subst (λ n. n ≤ batch.file) h.count (subst (λ n. length items ≤ n) same beyond))
        | then-file-len-via-else-file-len+then-index w ↦
            let within : batch.file < length items = search rules in
            let was = w.index.result.now in
            let here : was ≡ get_or items batch.file was = w.index.ensures ∙ ap (λ n. get_or items n was) same in
            inr (sym (ended-at s files worker taken c.args.self.now batch.file was within h) ∙ ap (λ (x : OneFile). x.ended) (sym here) ∙ w.if-index.true)
      ]) h;
}

pub take-requires-clause-room : goal.take-requires-clause-room
take-requires-clause-room c =
    let batch = c.args.batch.now in
    let items = c.args.self.now.files.items in
    let was = c.index_mut.result.now in
    let few = c.requires.few in
    let same : c.batch.inside.file ≡ batch.file = search rules in
    let packets : batch.packets ≡ c.as_slice.result.now = search rules in
    let within : batch.file < length items = search rules in
    let here : was ≡ get_or items batch.file was = c.index_mut.ensures.value ∙ ap (λ n. get_or items n was) same in
    subst (λ (l : List Packet). HaveRoom (length l) was.judges) packets
    (subst (λ (x : OneFile). HaveRoom (length batch.packets) x.judges) (sym here)
    (apart-room few.0 few.1 few.2 few.3 batch.file batch.packets c.args.self.now was within few.5 few.4))

pub returns : goal.returns
returns c =
    let batch = c.args.batch.now in
    let items = c.args.self.now.files.items in
    let was = c.index_mut.result.now in
    let one : OneFile = record { judges = c.take.new.self; ended = was.ended } in
    let same : c.batch.inside.file ≡ batch.file = search rules in
    let packets : batch.packets ≡ c.as_slice.result.now = search rules in
    let within : batch.file < length items = search rules in
    let here : was ≡ get_or items batch.file was = c.index_mut.ensures.value ∙ ap (λ n. get_or items n was) same in
    let seen = c.index.result.now in
    let first : seen ≡ get_or items batch.file was = c.index.ensures ∙ ap (λ n. get_or items n seen) same ∙ get_or_default items batch.file seen was within in
    let was_open : (get_or items batch.file was).ended ≡ false = ap (λ (x : OneFile). x.ended) (sym first) ∙ c.if-index.false in
    record {
      stands = apart-fed_if c.take.result batch.file batch.packets c.args.self.now record c.args.self.now
          { files = with_item c.args.self.now.files c.batch.inside.file one }
          was one within was_open
          (ap (λ (x : OneFile). x.ended) here) (ap (λ n. set items n one) same)
          (subst (λ (x : OneFile). IfOk c.take.result (λ _. Feeds 0 batch.packets x.judges c.take.new.self)) here
          (subst (λ (l : List Packet). IfOk c.take.result (λ _. Feeds 0 l was.judges c.take.new.self)) (sym packets) c.take.ensures.feeds));
    }
