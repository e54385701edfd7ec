use Rattle.std.proofs.Common.{◌≡◌, ◌≤◌, List, ℕ, ◌++◌, length, take}
use Rattle.pcapng_reader.specs.Texts.{text_of, work}
use Rattle.pcapng_reader.proofs.converter.Converter.give.Given as goal

abbrev pub invariant-loop-at : goal.invariant-loop-at
invariant-loop-at l = record {
  within : l.at ≤ length l.out;
  same_length : length l.out ≡ length l.fn.out;
  text : (left : List ℕ) → take l.at l.out ++ text_of l.self left ≡ text_of l.fn.self left;
  budget : l.self.budget ≡ l.fn.self.budget;
}

abbrev pub decreases-loop-at : goal.decreases-loop-at
decreases-loop-at l = work l.self
