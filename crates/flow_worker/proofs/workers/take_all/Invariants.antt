use Rattle.std.proofs.Common.{◌≡◌, ℕ}
use Rattle.ruled_intake.specs.Lanes.{messages}
use Rattle.flow_worker.specs.Opening.{Setting}
use Rattle.flow_worker.specs.Standing.{StandsFor}
use Rattle.flow_worker.proofs.workers.take_all.Given as goal

abbrev pub invariant-loop : goal.invariant-loop
invariant-loop g l =
    (goal.iterator-loop g).can_next l.iterator' × (goal.iterator-loop g).is_finite l.iterator' × record {
      lane : l.pass.lane ≡ l.lane;
      senders : l.pass.senders ≡ l.fn.pass.senders;
      stands : (s : Setting) (files worker : ℕ) → StandsFor s files worker (messages l.fn.pass.taken) l.fn.judging
          → StandsFor s files worker (messages l.pass.taken) l.judging;
    }
