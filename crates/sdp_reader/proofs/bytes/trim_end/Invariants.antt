use Rattle.std.proofs.Common.{◌≡◌, ◌≤◌, length, take}
use Rattle.sdp_reader.specs.Bytes.{trim_end}
use Rattle.sdp_reader.proofs.bytes.trim_end.Given as goal

abbrev pub invariant-loop-end : goal.invariant-loop-end
invariant-loop-end l = record {
  inside : l.end ≤ length l.text;
  same : trim_end (take l.end l.text) ≡ trim_end l.text;
}

abbrev pub decreases-loop-end : goal.decreases-loop-end
decreases-loop-end l = l.end
