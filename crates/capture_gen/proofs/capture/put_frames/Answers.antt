use Rattle.std.proofs.Common.{arith, subst}
use Rattle.std.specs.Io.KnownBytes.{Appends}
use Rattle.capture_gen.specs.Writing.{bytes_of_frame}
use Rattle.capture_gen.proofs.Parts.{frames_bytes-all, front_of_frames}
use Rattle.capture_gen.proofs.Puts.{appends_more, puts_err}
use Rattle.capture_gen.proofs.capture.put_frames.Goals as goal

pub returns-in_err-put-clause-bytes : goal.returns-in_err-put-clause-bytes
returns-in_err-put-clause-bytes g c =
    puts_err _ _ c.from_residual.result _ c.from_residual.ensures.0
    (front_of_frames _ _ _ c.args.number c.args.frames c.args.flaw c.loop-index.index c.loop-index-test.true c.loop-index.invariant.bytes
    c.in_err-put.ensures.bytes)

pub loop-index-preserved : goal.loop-index-preserved
loop-index-preserved g c = record {
  bytes = appends_more _ _ _ (bytes_of_frame c.args.number c.args.frames c.args.flaw) c.loop-index.index c.loop-index.invariant.bytes c.in_ok-put.ensures.bytes;
  later = omega (arith, c.put.ensures.cause.later, c.loop-index.invariant.later);
}

pub returns-clause-bytes : goal.returns-clause-bytes
returns-clause-bytes g c =
    let P = Appends (g.K.Sink.written c.args.out.now) (g.K.Sink.written c.loop-index.out) in
    subst P (frames_bytes-all c.args.number c.args.frames c.args.flaw c.loop-index.index (omega arith)) c.loop-index.invariant.bytes
