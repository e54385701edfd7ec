use Rattle.std.proofs.Common.{◌-◌, ℕ, List, length}
use Rattle.ruled_intake.specs.declared.message.Message.{Message}
use Rattle.flow_worker.specs.Opening.{Setting}
use Rattle.flow_worker.specs.Standing.{JoinedIsAt}
use Rattle.flow_worker.proofs.joined_files.Joined.advance.Given as goal

abbrev pub invariant-loop-records : goal.invariant-loop-records
invariant-loop-records l =
    (s : Setting) (files worker : ℕ) (taken : List Message) → JoinedIsAt s files worker taken l.fn.self → JoinedIsAt s files worker taken l.self

abbrev pub decreases-loop-records : goal.decreases-loop-records
decreases-loop-records l = length l.self.files.items - l.self.next
