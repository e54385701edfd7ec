use Rattle.std.proofs.Common.{◌≡◌, refl, inr, subst, sym, string_bytes, arith}
use Rattle.timing_top.specs.SelfTest.{HasLines}
use Rattle.timing_top.proofs.self_tests.answer_self_test.Goals as goal

pub returns : goal.returns
returns g c =
    let five : c.loop-flaw.flaw ≡ 5 = omega (arith, c.loop-flaw-test.false, c.loop-flaw.auto.flaw-end) in
    let lines : HasLines c.args.frames 5 (string_bytes c.loop-flaw.text) = subst (λ n. HasLines c.args.frames n (string_bytes c.loop-flaw.text)) five
    c.loop-flaw.invariant in
    inr (_, refl, record { lines = subst (λ v. HasLines c.args.frames 5 v.items) (sym c.into_bytes.ensures.value) lines; status_is = refl })
