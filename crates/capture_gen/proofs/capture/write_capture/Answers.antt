use Rattle.std.proofs.Common.{refl, ap, ◌∙◌, subst}
use Rattle.timing_outside.specs.Written.{AppendsFront, PutsAll}
use Rattle.capture_gen.specs.Capture.{head_packet}
use Rattle.capture_gen.specs.Writing.{frames_bytes}
use Rattle.capture_gen.specs.Flaws.{flaw_of}
use Rattle.capture_gen.specs.Packets.{record_of}
use Rattle.capture_gen.proofs.Parts.{parts-capture, front_in_head, front_in_second, puts_third}
use Rattle.capture_gen.proofs.Puts.{puts_err}
use Rattle.capture_gen.proofs.capture.write_capture.Goals as goal

pub returns-in_err-put_all-clause-bytes : goal.returns-in_err-put_all-clause-bytes
returns-in_err-put_all-clause-bytes g c =
    let first = record_of (head_packet c.args.number) in
    let flaw = flaw_of c.args.flaw in
    let P = AppendsFront (g.K.Sink.written c.args.out.now) (g.K.Sink.written c.put_all.new.out) in
    let whole = parts-capture c.args.number c.args.frames c.args.flaw c.file_head.result first flaw c.file_head.ensures refl refl in
    puts_err _ _ c.from_residual.result _ c.from_residual.ensures.0
    (subst P whole (front_in_head _ _ _ first (frames_bytes c.args.number c.args.frames flaw) c.in_err-put_all.ensures.bytes))

pub returns-in_err-put_all-2-clause-bytes : goal.returns-in_err-put_all-2-clause-bytes
returns-in_err-put_all-2-clause-bytes g c =
    let first = c.record.ensures ∙ ap record_of c.head.ensures in
    let flaw = flaw_of c.args.flaw in
    let P = AppendsFront (g.K.Sink.written c.args.out.now) (g.K.Sink.written c.put_all-2.new.out) in
    let whole = parts-capture c.args.number c.args.frames c.args.flaw c.file_head.result c.record.result flaw c.file_head.ensures first refl in
    puts_err _ _ c.from_residual-in_err-put_all-2.result _ c.from_residual-in_err-put_all-2.ensures.0
    (subst P whole (front_in_second _ _ _ _ _ (frames_bytes c.args.number c.args.frames flaw) c.in_ok-put_all.ensures.bytes c.in_err-put_all-2.ensures.bytes))

pub returns-clause-bytes : goal.returns-clause-bytes
returns-clause-bytes g c =
    let first = c.record.ensures ∙ ap record_of c.head.ensures in
    let P = PutsAll (g.K.Sink.written c.args.out.now) (g.K.Sink.written c.put_frames.new.out) c.put_frames.result in
    let whole = parts-capture c.args.number c.args.frames c.args.flaw c.file_head.result c.record.result c.of.result c.file_head.ensures first c.of.ensures in
    subst P whole (puts_third _ _ _ _ _ _ _ _ c.in_ok-put_all.ensures.bytes c.in_ok-put_all-2.ensures.bytes c.put_frames.ensures.bytes)
