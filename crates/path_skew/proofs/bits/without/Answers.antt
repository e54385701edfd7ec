use Rattle.std.proofs.Common.{◌≡◌, ◌≢◌, ℕ, ◌*◌, ◌%◌, ◌<◌, ◌^◌, w32, sym, ◌∙◌, arith, inl, inr}
use Rattle.std.specs.Int.{bit_at, bit_not}
use Rattle.std.specs.Int.RustNames.{bit_and}
use Rattle.std.proofs.lemmas.Bool.{cases_lt}
use Rattle.std.proofs.lemmas.Nat.{and_le_l}
use Rattle.std.proofs.lemmas.Nat.Bits.{bit_at_above, bit_at_clear_same, bit_at_clear_other}
use Rattle.path_skew.proofs.bits.without.Goals as goal

-- no other bit is cleared, be it inside the number or above it
others : (bits place : ℕ) → bits < 2 ^ 32 → place < 32 → (i : ℕ) → i ≢ place
    → bit_at (bit_and bits (bit_not w32 (1 * 2 ^ place % 2 ^ 32))) i ≡ bit_at bits i
others bits place fits within i differs = elim (cases_lt i 32) as
    (λ _. bit_at (bit_and bits (bit_not w32 (1 * 2 ^ place % 2 ^ 32))) i ≡ bit_at bits i) [
      | inl inside ↦ bit_at_clear_other w32 bits place within i inside differs
      | inr above ↦
          bit_at_above (bit_and bits (bit_not w32 (1 * 2 ^ place % 2 ^ 32))) 32 i
          (omega (arith, fits, and_le_l bits (bit_not w32 (1 * 2 ^ place % 2 ^ 32)))) above ∙ sym (bit_at_above bits 32 i fits above)
    ]

-- the bit at the place is cleared
pub returns-clause-here : goal.returns-clause-here
returns-clause-here c = bit_at_clear_same w32 c.args.bits c.args.place c.requires

pub returns-clause-others : goal.returns-clause-others
returns-clause-others c = others c.args.bits c.args.place c.ranges.bits.fits c.requires
