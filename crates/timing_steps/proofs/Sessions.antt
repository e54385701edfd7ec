-- The session of a text of which only the front was read.
use Rattle.std.proofs.Common.{◌≡◌, ◌<◌, ℕ, List, length, take, Err, sym, ap, ◌∙◌, arith, inl, inr, true, take_all, if◌then◌else◌}
use Rattle.std.proofs.lemmas.List.{length-take-le}
use Rattle.std.proofs.lemmas.Bool.{cases_lt}
use Rattle.std.specs.Prelude.{nat_lt}
use Rattle.sdp_reader.specs.Lines.{lines}
use Rattle.sdp_reader.specs.Session.{answer, session}
use Rattle.sdp_reader.specs.declared.fault.SdpCause.TheVariants.{TooLarge}

-- above the limit, whatever it holds
session-large : (s : List ℕ) → 1048576 < length s → session s ≡ Err (record { line = 0; what = TooLarge })
session-large s h =
    let above : nat_lt 1048576 (length s) ≡ true = grind arith in
    ap (λ b. if b then Err (record { line = 0; what = TooLarge }) else answer (lines s)) above

-- one byte more than the limit tells it all
pub session-take : (s : List ℕ) → session (take 1048577 s) ≡ session s
session-take s = elim (cases_lt 1048577 (length s)) as (λ _. session (take 1048577 s) ≡ session s) [
  | inl long ↦
      let front : length (take 1048577 s) ≡ 1048577 = length-take-le 1048577 s (omega (arith, long)) in
      session-large (take 1048577 s) (omega (arith, front)) ∙ sym (session-large s (omega (arith, long)))
  | inr short ↦ ap session (take_all 1048577 s short)
]
