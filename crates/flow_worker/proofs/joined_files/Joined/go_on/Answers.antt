use Rattle.std.proofs.Common.{rules, ◌≡◌, ◌≤◌, ◌<◌, ◌+◌, List, length, get_or, refl, sym, ap, ◌∙◌, subst}
use Rattle.std.specs.Prelude.{IfOk}
use Rattle.std.specs.Vec.{with_item}
use Rattle.ruled_intake.specs.Messages.{Batch}
use Rattle.flow_worker.specs.Judging.{Feeds, HaveRoom, batched}
use Rattle.flow_worker.specs.declared.joined_files.Joined.{Joined}
use Rattle.flow_worker.specs.declared.joined_files.Waiting.{Waiting}
use Rattle.flow_worker.proofs.JoinedFiles.{joined-last, joined-on_if, waiting-room}
use Rattle.flow_worker.proofs.joined_files.Joined.go_on.Goals as goal

pub returns-then-self-len-clause-stands : goal.returns-then-self-len-clause-stands
returns-then-self-len-clause-stands c = λ s files worker taken h ended.
    let joined = c.args.self.now in
    let last : length joined.files.items ≤ joined.next + 1 = search rules in
    joined-last s files worker taken c.args.records joined _ last ended refl refl refl refl h

pub take_batches-requires-clause-room : goal.take_batches-requires-clause-room
take_batches-requires-clause-room c =
    let joined = c.args.self.now in
    let items = joined.files.items in
    let was = c.index_mut.result.now in
    let few = c.requires.few in
    let within : joined.next + 1 < length items = search rules in
    let waited : c.replace-batches.result.items ≡ (get_or items (joined.next + 1) was).batches.items =
    ap (λ v. v.items) c.replace-batches.ensures.value ∙ ap (λ (w : Waiting). w.batches.items) c.index_mut.ensures.value in
    subst (λ (l : List Batch). HaveRoom (length (batched l)) joined.judges) (sym waited) (waiting-room few.0 few.1 few.2 few.3 joined was within few.5 few.4)

pub returns-clause-stands : goal.returns-clause-stands
returns-clause-stands c =
    let joined = c.args.self.now in
    let items = joined.files.items in
    let was = c.index_mut.result.now in
    let w : Waiting = record { batches = c.replace-batches.new.dest; end = was.end } in
    let within : joined.next + 1 < length items = search rules in
    let waited : c.replace-batches.result.items ≡ (get_or items (joined.next + 1) was).batches.items =
    ap (λ v. v.items) c.replace-batches.ensures.value ∙ ap (λ (w : Waiting). w.batches.items) c.index_mut.ensures.value in
    let new : Joined = record {
      alloc = joined.alloc;
      judges = c.take_batches.new.self;
      files = with_item joined.files (joined.next + 1) w;
      next = joined.next + 1;
      before = joined.before + c.args.records;
    } in
    joined-on_if c.take_batches.result c.args.records joined new was w within refl refl (ap (λ (w : Waiting). w.end) c.index_mut.ensures.value) refl
    (subst (λ (l : List Batch). IfOk c.take_batches.result (λ _. Feeds (joined.before + c.args.records) (batched l) joined.judges c.take_batches.new.self))
    waited c.take_batches.ensures.feeds)
