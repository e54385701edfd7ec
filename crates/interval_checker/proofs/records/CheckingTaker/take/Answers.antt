use Rattle.std.proofs.Common.{◌≡◌, ◌≤◌, ◌<◌, length, rules, sym, ◌∙◌, add-one}
use Rattle.timing_base.specs.Captures.{Record}
use Rattle.interval_checker.proofs.Takings.{read-nothing, read-whole, room-now, room-same, room-whole, takes-more}
use Rattle.interval_checker.proofs.records.CheckingTaker.take.Goals as goal

pub returns-in_default-clause-room : goal.returns-in_default-clause-room
returns-in_default-clause-room c = λ count room. room-same count c.args.self.now.readings.items room

pub returns-in_default-clause-takes : goal.returns-in_default-clause-takes
returns-in_default-clause-takes c =
    let r : Record = record { number = c.args.number; stamp = c.args.at; bytes = c.args.frame.now } in
    read-nothing r c.args.self.now.readings.items (sym c.datagram.ensures ∙ c.in_default.is)

pub loop-reading-init : goal.loop-reading-init
loop-reading-init c = c.deref_mut-reading-items.ensures.value

pub take-requires-clause-few : goal.take-requires-clause-few
take-requires-clause-few c =
    let within : c.loop-reading.reading-index < length c.args.self.now.readings.items = search rules in
    room-now _ c.loop-reading.reading-index c.args.self.now.readings.items c.loop-reading.reading-items _ within c.requires.room c.loop-reading.invariant

pub loop-reading-preserved : goal.loop-reading-preserved
loop-reading-preserved c =
    let within : c.loop-reading.reading-index < length c.args.self.now.readings.items = search rules in
    rw add-one (takes-more _ c.loop-reading.reading-index c.args.self.now.readings.items c.loop-reading.reading-items _ c.take.new.self within
    c.loop-reading.invariant
    record { reads = c.take.ensures.reads c.args.frame.now (sym c.datagram.ensures ∙ c.in-Some.is); few = c.take.ensures.few })

pub returns-clause-takes : goal.returns-clause-takes
returns-clause-takes c =
    let r : Record = record { number = c.args.number; stamp = c.args.at; bytes = c.args.frame.now } in
    let long : length c.loop-reading.reading-items ≡ c.args.self.now.readings.len = search rules in
    let all : length c.args.self.now.readings.items ≤ c.loop-reading.reading-index = search rules in
    read-whole r c.loop-reading.reading-index c.args.self.now.readings.items c.loop-reading.reading-items _ c.args.self.now.readings.len long all
    c.loop-reading.invariant

pub returns-clause-room : goal.returns-clause-room
returns-clause-room c = λ count room.
    let r : Record = record { number = c.args.number; stamp = c.args.at; bytes = c.args.frame.now } in
    let long : length c.loop-reading.reading-items ≡ c.args.self.now.readings.len = search rules in
    let all : length c.args.self.now.readings.items ≤ c.loop-reading.reading-index = search rules in
    room-whole r c.loop-reading.reading-index c.args.self.now.readings.items c.loop-reading.reading-items _ c.args.self.now.readings.len count long all
    c.loop-reading.invariant room
