use Rattle.std.proofs.Common.{◌≡◌, ◌≤◌, ◌==◌, ◌+◌, ◌++◌, map, length}
use Rattle.std.specs.List.{slice_split}
use Rattle.sdp_reader.specs.Lines.{lines, numbered}
use Rattle.sdp_reader.specs.Plain.{plain}
use Rattle.sdp_reader.proofs.line.read_lines.Given as goal

-- the lines so far and those of the rest are those of the text
abbrev pub invariant-loop-piece : goal.invariant-loop-piece
invariant-loop-piece l = record {
  count : l.number + length l.rest ≤ 1048577;
  told : map plain l.lines.items ++ numbered l.number (slice_split (λ x. x == 10) l.rest) ≡ lines l.fn.bytes;
}

abbrev pub decreases-loop-piece : goal.decreases-loop-piece
decreases-loop-piece l = length l.rest
