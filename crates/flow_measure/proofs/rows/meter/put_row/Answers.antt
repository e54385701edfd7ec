use Rattle.std.proofs.Common.{◌++◌}
use Rattle.flow_measure.specs.rows.making.Meters.{PutsRow}
use Rattle.flow_measure.proofs.lemmas.rows.Rowing.{group-put, group-still, on-ok, packet-put, puts-nothing}
use Rattle.flow_measure.proofs.rows.meter.put_row.Goals as goal

pub returns-then-maker-eq-MOST-clause-puts : goal.returns-then-maker-eq-MOST-clause-puts
returns-then-maker-eq-MOST-clause-puts c =
    puts-nothing c.args.to.now.frames c.args.params.now.media c.args.params.now.n c.args.maker.now c.args.kept c.args.to.now.text.items
    c.if-maker-eq-MOST.true

pub returns-then-not-to-clause-puts : goal.returns-then-not-to-clause-puts
returns-then-not-to-clause-puts c =
    let to = c.args.to.now in
    let m = c.args.params.now.media in
    let n = c.args.params.now.n in
    let old = c.args.maker.now in
    let new = c.feed-group.new.self in
    let before = to.text.items in
    let after = c.extend_from_slice.new.self.items in
    let line = c.of_packet.result.now in
    on-ok c.extend_from_slice.result after (before ++ line) before (PutsRow to.frames m n old new c.args.kept before after)
    c.extend_from_slice.ensures.items
    (packet-put to.frames m n old new c.args.kept c.packet_row-row.result before after line c.if-not-to.true c.of_packet.ensures
    (λ shift run packets p is h. c.packet_row-row.ensures m shift run n packets p is h) c.feed-group.ensures.stands)

pub returns-in-Some-clause-puts : goal.returns-in-Some-clause-puts
returns-in-Some-clause-puts c =
    let to = c.args.to.now in
    let m = c.args.params.now.media in
    let n = c.args.params.now.n in
    let old = c.args.maker.now in
    let new = c.feed-group.new.self in
    let before = to.text.items in
    let after = c.extend_from_slice-in-Some.new.self.items in
    let line = c.of_group.result.now in
    on-ok c.extend_from_slice-in-Some.result after (before ++ line) before (PutsRow to.frames m n old new c.args.kept before after)
    c.extend_from_slice-in-Some.ensures.items
    (group-put to.frames m n old new c.args.kept c.in-Some.group before after line c.if-not-to.false c.of_group.ensures
    c.in-Some.ensures.row (λ shift run packets h. c.in-Some.ensures.ends m shift run n packets h) c.in-Some.ensures.stands)

pub returns-in-None-clause-puts : goal.returns-in-None-clause-puts
returns-in-None-clause-puts c =
    let to = c.args.to.now in
    let m = c.args.params.now.media in
    let n = c.args.params.now.n in
    group-still to.frames m n c.args.maker.now c.feed-group.new.self c.args.kept to.text.items c.if-not-to.false
    (λ shift run packets h. c.in-None.ensures.ends m shift run n packets h) c.in-None.ensures.stands
