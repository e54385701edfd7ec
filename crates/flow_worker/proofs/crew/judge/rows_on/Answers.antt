use Rattle.std.proofs.Common.{◌∙◌, length, map, ap}
use Rattle.std.specs.Vec.Iter.{into_iter_items}
use Rattle.timing_base.specs.Keys.{keys_of}
use Rattle.flow_worker.proofs.lemmas.crew.Listing.{keys-are, keys-within, queued_by}
use Rattle.flow_worker.proofs.lemmas.crew.Making.{on_ok}
use Rattle.flow_worker.proofs.crew.judge.rows_on.Goals as goal

pub gather-requires-clause-keys : goal.gather-requires-clause-keys
gather-requires-clause-keys c =
    let run = c.args.run.now in
    let listed = keys-are run.joined run.files (length run.media.now) c.file_count.result c.deref.result.now c.file_count.ensures
    (c.deref.ensures.value ∙ c.in_ok-keys.ensures) in
    λ i d h. keys-within run.joined run.files (length run.media.now) c.deref.result.now c.requires.few_files listed i d h

pub gather-requires-clause-queued : goal.gather-requires-clause-queued
gather-requires-clause-queued c =
    let run = c.args.run.now in
    let listed = keys-are run.joined run.files (length run.media.now) c.file_count.result c.deref.result.now c.file_count.ensures
    (c.deref.ensures.value ∙ c.in_ok-keys.ensures) in (
      c.requires.row_for,
      queued_by into_iter_items c.args.book.now c.requires.row_for (length run.media.now) (length run.lanes.now)
          (keys_of run.joined run.files (length run.media.now)) c.deref.result.now
          c.args.posted.items c.in_ok-queues.queues.items c.in_ok-queues.ensures listed c.requires.posted_are,
    )

pub returns : goal.returns
returns c =
    let run = c.args.run.now in
    let listed = keys-are run.joined run.files (length run.media.now) c.file_count.result c.deref.result.now c.file_count.ensures
    (c.deref.ensures.value ∙ c.in_ok-keys.ensures) in
    on_ok c.gather.result _ _
    (λ _ gathered row_for posted.
    gathered row_for
    (queued_by into_iter_items c.args.book.now row_for (length run.media.now) (length run.lanes.now)
    (keys_of run.joined run.files (length run.media.now)) c.deref.result.now
    c.args.posted.items c.in_ok-queues.queues.items c.in_ok-queues.ensures listed posted)
    ∙ ap (map row_for) listed)
    c.gather.ensures
