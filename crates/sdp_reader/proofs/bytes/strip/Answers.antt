use Rattle.std.proofs.Common.{arith, sym, ◌∙◌}
use Rattle.sdp_reader.proofs.Prefixes.{after_prefix-short}
use Rattle.sdp_reader.proofs.bytes.strip.Goals as goal

pub returns-in-empty : goal.returns-in-empty
returns-in-empty c = sym (after_prefix-short c.args.prefix.now c.loop-byte.rest.now c.loop-byte.byte-index (omega arith) (omega arith)) ∙ c.loop-byte.invariant
