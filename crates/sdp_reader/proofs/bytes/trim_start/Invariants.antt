use Rattle.std.proofs.Common.{◌≡◌, ◌≤◌, ◌-◌, length, drop}
use Rattle.sdp_reader.specs.Bytes.{trim_start}
use Rattle.sdp_reader.proofs.bytes.trim_start.Given as goal

abbrev pub invariant-loop-begin : goal.invariant-loop-begin
invariant-loop-begin l = record {
  inside : l.begin ≤ length l.text;
  same : trim_start (drop l.begin l.text) ≡ trim_start l.text;
}

abbrev pub decreases-loop-begin : goal.decreases-loop-begin
decreases-loop-begin l = length l.text - l.begin
