use Rattle.std.proofs.Common.{◌≡◌, ◌+◌, Some, subst}
use Rattle.timing_base.specs.declared.capture.FileNote.TheVariants as file_note
use Rattle.pcap_reader.specs.Records.{captured, fraction, note_by}
use Rattle.pcap_reader.proofs.window.Window.head.Goals as goal

pub returns-in-Err-clause-faulty : goal.returns-in-Err-clause-faulty
returns-in-Err-clause-faulty c = λ long.
    let w = c.args.self.now in
    let l = c.args.layout in
    subst (λ h. note_by l.fraction w.most (w.count + 1) w.place long (fraction l h) (captured l h) ≡ Some (file_note.Refused c.in-Err.fault)) c.peek.ensures
    (c.in-Err.ensures.faulty w.most w.place long)
