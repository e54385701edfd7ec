use Rattle.std.proofs.Common.{◌≡◌, ◌+◌, ◌^◌, ap, sym, ◌∙◌, length, refl, Err, rules, arith}
use Rattle.flow_worker.specs.Sorting.{HasRoom}
use Rattle.flow_worker.proofs.Outgoing.{AreSame-then, match_err}
use Rattle.flow_worker.proofs.Sorting.{few-within}
use Rattle.flow_worker.proofs.Told.{begun-early, begun-late, sent-file, taken-cut, taken-left}
use Rattle.flow_worker.proofs.intakes.Sorter.send_file.Goals as goal

pub take_records-requires-clause-room : goal.take_records-requires-clause-room
take_records-requires-clause-room g c =
    let b = c.requires.begins in
    record {
      is = record { routing = b.routing; expected = c.requires.expected; lanes = b.lanes; are = b.are };
      before = 0;
      number_is = refl;
      limit = omega arith;
      few = b.few;
    }

pub finish-requires-clause-are : goal.finish-requires-clause-are
finish-requires-clause-are g c = (c.in_ok-taken.ensures.fed.taken.same c.requires.begins.are).are

pub finish-requires-clause-few : goal.finish-requires-clause-few
finish-requires-clause-few g c =
    let b = c.requires.begins in
    let count = c.in_ok-taken.taken.records in
    let first : HasRoom (0 + 1) (count + 0) c.args.self.now =
    record {
      is = record { routing = b.routing; expected = c.requires.expected; lanes = b.lanes; are = b.are };
      before = 0;
      number_is = refl;
      limit = omega (arith, c.in_ok-taken.ensures.few);
      few = b.few;
    } in
    let room = c.in_ok-taken.ensures.room 0 first in
    λ w below. few-within room.before (2 ^ 36) c.take_records.new.taker.outboxes w (omega (arith, room.limit)) (room.few w below)

pub returns-in_err-taken-clause-same : goal.returns-in_err-taken-clause-same
returns-in_err-taken-clause-same g c = c.in_err-taken.ensures.stopped.stopped.same c.requires.begins.are

pub returns-in_err-finish-clause-same : goal.returns-in_err-finish-clause-same
returns-in_err-finish-clause-same g c =
    AreSame-then c.args.self.now.outboxes c.take_records.new.taker.outboxes c.finish.new.self
    (c.in_ok-taken.ensures.fed.taken.same c.requires.begins.are) c.in_err-finish.ensures.same

pub returns-clause-same : goal.returns-clause-same
returns-clause-same g c =
    AreSame-then c.args.self.now.outboxes c.take_records.new.taker.outboxes c.finish.new.self
    (c.in_ok-taken.ensures.fed.taken.same c.requires.begins.are) c.in_ok-finish.ensures.same

pub returns-in_err-taken-clause-told : goal.returns-in_err-taken-clause-told
returns-in_err-taken-clause-told g c = λ items end given.
    let old = c.args.self.now in
    let mid = c.take_records.new.taker in
    let is : c.from_residual.result ≡ Err c.in_err-taken.field-0.0 = search rules in
    match_err c.from_residual.result c.in_err-taken.field-0.0 _ _ is
    (begun-early old.routing mid.outboxes items end (taken-left old mid items c.requires.begins.none (c.in_err-taken.ensures.told items end given)))

pub returns-in_err-finish-clause-told : goal.returns-in_err-finish-clause-told
returns-in_err-finish-clause-told g c = λ items end given.
    let old = c.args.self.now in
    let mid = c.take_records.new.taker in
    let taken = c.in_ok-taken.taken in
    let same = c.in_ok-taken.ensures.fed.taken.same c.requires.begins.are in
    let lanes : old.routing.lanes ≡ length mid.outboxes.lanes.now = c.requires.begins.lanes ∙ ap length (sym same.lanes) in
    let is : c.from_residual-in_err-finish.result ≡ Err c.in_err-finish.field-0.0 = search rules in
    match_err c.from_residual-in_err-finish.result c.in_err-finish.field-0.0 _ _ is
    (begun-late old.routing mid.outboxes c.finish.new.self taken.note taken.records items end lanes c.in_err-finish.ensures.same c.in_err-finish.ensures.err
    (taken-cut old mid taken.note taken.records items end c.requires.begins.none (c.in_ok-taken.ensures.told items end given)))

pub returns-clause-told : goal.returns-clause-told
returns-clause-told g c = λ items end given.
    let old = c.args.self.now in
    let mid = c.take_records.new.taker in
    let taken = c.in_ok-taken.taken in
    let same = c.in_ok-taken.ensures.fed.taken.same c.requires.begins.are in
    let lanes : old.routing.lanes ≡ length mid.outboxes.lanes.now = c.requires.begins.lanes ∙ ap length (sym same.lanes) in
    sent-file old.routing mid.outboxes c.finish.new.self taken.note taken.records items end lanes c.in_ok-finish.ensures.same c.in_ok-finish.ensures.ok
    (taken-cut old mid taken.note taken.records items end c.requires.begins.none (c.in_ok-taken.ensures.told items end given))
