use Rattle.std.proofs.Common.{rules, length, ◌∙◌}
use Rattle.std.proofs.lemmas.Result.{err_from_is_err_and}
use Rattle.timing_base.specs.declared.capture.FileNote.TheVariants.{End, Cut}
use Rattle.pcap_reader.proofs.Reading.{unless_read_fault, note_at-front_note, note_at-here, note_at-in_head, note_at-cut, reads_record, gives-frame, gives-note}
use Rattle.pcap_reader.proofs.reader.PcapReader.read_record.Goals as goal

pub returns-then-len-eq0-clause-gives : goal.returns-then-len-eq0-clause-gives
returns-then-len-eq0-clause-gives g c = λ text items end e told.
    let stops = note_at-here c.args.layout c.args.self.now.window c.hold.new.self.window _ _ text c.in_ok-hold.ensures.bytes e
    (c.in_ok-hold.ensures.end (search rules)) (search rules) in
    gives-note c.args.layout c.args.self.now.window text End items end stops told

pub returns-else-len-eq0-clause-gives : goal.returns-else-len-eq0-clause-gives
returns-else-len-eq0-clause-gives g c = λ text items end e told.
    let stops = note_at-in_head c.args.layout c.args.self.now.window c.hold.new.self.window _ _ text c.in_ok-hold.ensures.same c.in_ok-hold.ensures.bytes e
    (c.in_ok-hold.ensures.end (search rules)) (search rules) (c.in_ok-hold.ensures.few (search rules)) in
    gives-note c.args.layout c.args.self.now.window text (Cut c.hold.new.self.window.place) items end stops told

pub returns-in_err-head-clause-gives : goal.returns-in_err-head-clause-gives
returns-in_err-head-clause-gives g c = λ text items end e told.
    let p = err_from_is_err_and c.from_residual-in_err-head.result c.from_residual-in_err-head.ensures.1 in
    let stops = note_at-front_note c.args.layout c.args.self.now.window c.hold.new.self.window _ _ text c.in_ok-hold.ensures.same c.in_ok-hold.ensures.bytes e
    (c.in_ok-hold.ensures.enough (search rules)) in
    rw (p.1, p.2) (gives-note c.args.layout c.args.self.now.window text c.in_err-head.field-0.0 items end
    (unless_read_fault c.in_err-head.field-0.0 _ (stops ∙ c.in_err-head.ensures.faulty (length text))) told)

pub returns-then-not-branch-2-clause-gives : goal.returns-then-not-branch-2-clause-gives
returns-then-not-branch-2-clause-gives g c = λ text items end e told.
    let stops = note_at-cut c.args.layout c.args.self.now.window c.hold.new.self.window c.hold-2.new.self.window _ _ _ text c.in_ok-head.head.captured
    c.in_ok-hold.ensures.same c.in_ok-hold-2.ensures.same
    c.in_ok-hold.ensures.bytes c.in_ok-hold-2.ensures.bytes e (c.in_ok-hold.ensures.enough (search rules)) (c.in_ok-hold-2.ensures.end (search rules))
    (c.in_ok-hold-2.ensures.few (search rules))
    c.in_ok-head.ensures.cut in
    gives-note c.args.layout c.args.self.now.window text (Cut c.hold-2.new.self.window.place) items end stops told

pub returns-clause-gives : goal.returns-clause-gives
returns-clause-gives g c = λ text items end e told.
    let read = reads_record c.args.layout c.args.self.now.window c.hold.new.self.window c.hold-2.new.self.window c.pass_record.new.self _ _ _ text
    c.in_ok-head.head c.in_ok-hold.ensures.same c.in_ok-hold-2.ensures.same
    c.in_ok-hold.ensures.bytes c.in_ok-hold-2.ensures.bytes e (c.in_ok-hold.ensures.enough (search rules)) (c.in_ok-hold-2.ensures.enough (search rules))
    c.in_ok-head.ensures.head.stamp_is c.in_ok-head.ensures.head.captured_is c.in_ok-head.ensures.head.whole
    c.pass_record.ensures.held c.pass_record.ensures.behind c.pass_record.ensures.place c.pass_record.ensures.count in
    gives-frame c.args.layout c.args.self.now.window c.pass_record.new.self text _ c.in_ok-head.head items end read (search rules)
    (search rules) told (search rules)
