use Rattle.std.proofs.Common.{arith, refl, sym, subst}
use Rattle.std.specs.Io.KnownBytes.{Appends}
use Rattle.capture_gen.specs.Writing.{place_bytes}
use Rattle.capture_gen.proofs.Parts.{frame_bytes-places, front_of_frame}
use Rattle.capture_gen.proofs.Puts.{appends_more, puts_err}
use Rattle.capture_gen.proofs.frame.Frame.put.Goals as goal

pub returns-in_err-put_place-clause-bytes : goal.returns-in_err-put_place-clause-bytes
returns-in_err-put_place-clause-bytes g c =
    puts_err _ _ c.from_residual.result _ c.from_residual.ensures.0
    (front_of_frame _ _ _ c.args.self.now c.loop-place.place 20 refl c.loop-place-test.true c.loop-place.invariant.bytes c.in_err-put_place.ensures.bytes)

pub loop-place-preserved : goal.loop-place-preserved
loop-place-preserved g c = record {
  bytes = appends_more _ _ _ (place_bytes c.args.self.now) c.loop-place.place c.loop-place.invariant.bytes c.in_ok-put_place.ensures.bytes;
  later = omega (arith, c.put_place.ensures.cause.later, c.loop-place.invariant.later);
}

pub returns-clause-bytes : goal.returns-clause-bytes
returns-clause-bytes g c =
    subst (Appends (g.K.Sink.written c.args.out.now) (g.K.Sink.written c.loop-place.out))
    (sym (frame_bytes-places c.args.self.now c.loop-place.place (omega arith))) c.loop-place.invariant.bytes
