use Rattle.std.proofs.Common.{◌≡◌, ◌++◌, drop}
use Rattle.sdp_notes.specs.Near.{bare}
use Rattle.sdp_notes.proofs.near.bare.Given as goal

abbrev pub invariant-loop-byte : goal.invariant-loop-byte
invariant-loop-byte l = l.letters.items ++ bare (drop l.byte-index l.name) ≡ bare l.name
