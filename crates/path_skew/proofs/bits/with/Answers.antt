use Rattle.std.proofs.Common.{w32}
use Rattle.std.proofs.lemmas.Nat.Bits.{bit_at_set_same, bit_at_set_other}
use Rattle.path_skew.proofs.bits.with.Goals as goal

-- the bit at the place is set, and no other
pub returns-clause-here : goal.returns-clause-here
returns-clause-here c = bit_at_set_same w32 c.args.bits c.args.place c.requires

pub returns-clause-others : goal.returns-clause-others
returns-clause-others c = bit_at_set_other w32 c.args.bits c.args.place c.requires
