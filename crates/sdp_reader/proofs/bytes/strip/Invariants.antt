use Rattle.std.proofs.Common.{◌≡◌, drop}
use Rattle.sdp_reader.specs.Bytes.{after_prefix}
use Rattle.sdp_reader.proofs.bytes.strip.Given as goal

abbrev pub invariant-loop-byte : goal.invariant-loop-byte
invariant-loop-byte l = after_prefix (drop l.byte-index l.prefix) l.rest ≡ after_prefix l.prefix l.text
