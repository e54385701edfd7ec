use Rattle.std.proofs.Common.{◌≡◌, ◌+◌, ◌-◌, ◌^◌, ◌++◌, rules, arith, refl, subst, sym}
use Rattle.std.proofs.lemmas.Result.{err_from_is_err_and}
use Rattle.pcap_reader.specs.Readers.{frame_count}
use Rattle.pcap_reader.specs.Taken.{TakesFew}
use Rattle.pcap_reader.proofs.TakenRecords.{few-more, few-none, few-within, room-same, taken-all, taken-many, taken-none, taken-one, taken-stops}
use Rattle.pcap_reader.proofs.records.take_records.Goals as goal

pub loop-note-init : goal.loop-note-init
loop-note-init g c = record {
  told = λ items end given. taken-none _ _ _ _ _ items end (g.met.T.Taker.none c.args.taker.now) c.requires.first given;
  fed = few-within _ 0 _ _ _ (omega arith) (few-none _ _ (g.met.T.Taker.none c.args.taker.now));
  fresh = search rules;
  most = search rules;
  within = search rules;
  room = λ count r. room-same g.T.Taker.room _ _ _ _ _ (omega (arith, c.requires.first)) (omega (arith, c.requires.first)) r;
  name = search rules;
  later = search rules;
}

pub take_next-requires-clause-room : goal.take_next-requires-clause-room
take_next-requires-clause-room g c = λ few.
    let count = 2 ^ 36 - frame_count c.loop-note.reader in
    let taker = c.loop-note.taker in
    let all = room-same g.T.Taker.room _ _ _ (frame_count c.loop-note.reader + count) c.args.taker.now refl (omega (arith, few)) c.requires.room in
    let now = c.loop-note.invariant.room count all in
    g.met.T.Taker.less _ 1 count taker (omega (arith, few)) (room-same g.T.Taker.room _ _ _ count taker (omega arith) refl now)

pub take_held-requires-clause-room : goal.take_held-requires-clause-room
take_held-requires-clause-room g c = λ count few.
    let old = frame_count c.loop-note.reader in
    let one : frame_count c.take_next.new.reader ≡ old + 1 = search rules in
    let left = 2 ^ 36 - frame_count c.take_next.new.reader in
    let taker = c.take_next.new.taker in
    let all = room-same g.T.Taker.room _ _ _ (old + (left + 1)) c.args.taker.now refl (omega (arith, one, few)) c.requires.room in
    let before = c.loop-note.invariant.room (left + 1) all in
    let now = c.in_ok-note.ensures.room left c.in_default.is (room-same g.T.Taker.room _ _ _ (left + 1) c.loop-note.taker (omega arith) refl before) in
    g.met.T.Taker.less _ count left taker (omega (arith, few)) (room-same g.T.Taker.room _ _ _ left taker (omega (arith, one)) refl now)

pub loop-note-preserved : goal.loop-note-preserved
loop-note-preserved g c =
    let v = c.loop-note.invariant in
    let next = c.in_ok-note.ensures in
    let held = c.in_ok-take_held.ensures in
    let more = g.met.T.Taker.more c.args.taker.now c.loop-note.taker c.take_next.new.taker in
    let further = g.met.T.Taker.more c.args.taker.now c.take_next.new.taker c.take_held.new.taker in
    let old = frame_count c.loop-note.reader in
    let mid = frame_count c.take_next.new.reader in
    let new = frame_count c.take_held.new.reader in
    let one : mid ≡ old + 1 = search rules in
    record {
      told = λ items end given.
          taken-many _ _ _ _ _ _ _ mid (new - mid) new items end further (omega (arith, held.counts))
          (taken-many _ _ _ _ _ _ _ old 1 mid items end more one (v.told items end given)
          (λ rest given. taken-one _ _ _ _ _ _ rest end c.in_default.is (next.told rest end given)))
          (λ rest. held.told rest end);
      fed = few-within _ _ _ _ _ (omega (arith, one, held.counts)) (few-more _ _ (new - mid) _ _ _ further (few-more _ _ 1 _ _ _ more v.fed next.fed) held.fed);
      fresh = search rules;
      most = search rules;
      within = held.within;
      room = λ count r.
          let behind = new - mid + count in
          let all = room-same g.T.Taker.room _ _ _ (old + (behind + 1)) c.args.taker.now refl (omega (arith, one, held.counts)) r in
          let before = v.room (behind + 1) all in
          let first = next.room behind c.in_default.is (room-same g.T.Taker.room _ _ _ (behind + 1) c.loop-note.taker (omega arith) refl before) in
          let last = held.room count (room-same g.T.Taker.room _ _ _ behind c.take_next.new.taker (omega (arith, one)) refl first) in
          room-same g.T.Taker.room _ _ _ count c.take_held.new.taker (omega arith) refl last;
      name = search rules;
      later = search rules;
    }

pub returns-in-Some-clause-told : goal.returns-in-Some-clause-told
returns-in-Some-clause-told g c = λ items end given.
    let same : frame_count c.take_next.new.reader ≡ frame_count c.loop-note.reader = search rules in
    taken-all _ _ _ _ _ _ _ _ _ _ c.in-Some.note items end (c.in_ok-note.ensures.none c.in-Some.note c.in-Some.is) c.in-Some.is same
    (c.loop-note.invariant.told items end given)
    (λ rest. c.in_ok-note.ensures.told rest end)

pub returns-in-Some-clause-fed : goal.returns-in-Some-clause-fed
returns-in-Some-clause-fed g c =
    subst (λ x. TakesFew g.T.Taker.takes (2 ^ 36) c.args.taker.now x) (sym (c.in_ok-note.ensures.none c.in-Some.note c.in-Some.is))
    (few-within _ _ _ _ _ (omega (arith, c.loop-note.invariant.within, c.loop-note.invariant.most, c.requires.most)) c.loop-note.invariant.fed)

pub returns-in-Some-clause-room : goal.returns-in-Some-clause-room
returns-in-Some-clause-room g c = λ count r.
    let same : frame_count c.take_next.new.reader ≡ frame_count c.loop-note.reader = search rules in
    let now = c.loop-note.invariant.room count (room-same g.T.Taker.room _ _ _ (frame_count c.loop-note.reader + count) c.args.taker.now refl
    (omega (arith, same)) r) in
    subst (λ x. g.T.Taker.room (c.args.before + frame_count c.take_next.new.reader + 1) count x) (sym (c.in_ok-note.ensures.none c.in-Some.note c.in-Some.is))
    (room-same g.T.Taker.room _ _ count count c.loop-note.taker (omega (arith, same)) refl now)

pub returns-in_err-note-clause-told : goal.returns-in_err-note-clause-told
returns-in_err-note-clause-told g c = λ items end given.
    let ends = g.met.T.Taker.ends c.args.taker.now c.loop-note.taker c.take_next.new.taker c.in_err-note.field-0.0 in
    let p = err_from_is_err_and c.from_residual.result c.from_residual.ensures.1 in
    rw (p.1, p.2)
    (taken-stops _ _ g.T.Taker.stops _ _ _ c.take_next.new.taker _ c.in_err-note.field-0.0 items end ends (c.loop-note.invariant.told items end given)
    (λ rest. c.in_err-note.ensures.told rest end))

pub returns-in_err-note-clause-stopped : goal.returns-in_err-note-clause-stopped
returns-in_err-note-clause-stopped g c =
    let fed = c.loop-note.invariant.fed in
    let at = c.in_err-note.ensures.stopped in
    let ends = g.met.T.Taker.ends c.args.taker.now c.loop-note.taker c.take_next.new.taker c.in_err-note.field-0.0 in
    let p = err_from_is_err_and c.from_residual.result c.from_residual.ensures.1 in
    rw (p.1, p.2) (record { items = fed.items ++ at.items; stopped = ends fed.items at.items fed.taken at.stopped })

pub returns-in_err-take_held-clause-told : goal.returns-in_err-take_held-clause-told
returns-in_err-take_held-clause-told g c = λ items end given.
    let stop = c.in_err-take_held.field-0.0 in
    let more = g.met.T.Taker.more c.args.taker.now c.loop-note.taker c.take_next.new.taker in
    let ends = g.met.T.Taker.ends c.args.taker.now c.take_next.new.taker c.take_held.new.taker stop in
    let one : frame_count c.take_next.new.reader ≡ frame_count c.loop-note.reader + 1 = search rules in
    let p = err_from_is_err_and c.from_residual-in_err-take_held.result c.from_residual-in_err-take_held.ensures.1 in
    rw (p.1, p.2)
    (taken-stops _ _ g.T.Taker.stops _ _ _ c.take_held.new.taker _ stop items end ends
    (taken-many _ _ _ _ _ _ _ _ 1 _ items end more one (c.loop-note.invariant.told items end given)
    (λ rest given. taken-one _ _ _ _ _ _ rest end c.in_default.is (c.in_ok-note.ensures.told rest end given)))
    (λ rest. c.in_err-take_held.ensures.told rest end))

pub returns-in_err-take_held-clause-stopped : goal.returns-in_err-take_held-clause-stopped
returns-in_err-take_held-clause-stopped g c =
    let stop = c.in_err-take_held.field-0.0 in
    let before = few-more _ _ 1 _ _ _ (g.met.T.Taker.more c.args.taker.now c.loop-note.taker c.take_next.new.taker) c.loop-note.invariant.fed
    c.in_ok-note.ensures.fed in
    let at = c.in_err-take_held.ensures.stopped in
    let ends = g.met.T.Taker.ends c.args.taker.now c.take_next.new.taker c.take_held.new.taker stop in
    let p = err_from_is_err_and c.from_residual-in_err-take_held.result c.from_residual-in_err-take_held.ensures.1 in
    rw (p.1, p.2) (record { items = before.items ++ at.items; stopped = ends before.items at.items before.taken at.stopped })
