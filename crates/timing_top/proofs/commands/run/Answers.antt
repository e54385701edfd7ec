use Rattle.timing_top.proofs.Ending.{ends-memory, ends-usage}
use Rattle.timing_top.proofs.Serving.{lacks-memory, refuses-words}
use Rattle.timing_top.proofs.commands.run.Goals as goal

pub returns-in-Err-Usage-clause-ran : goal.returns-in-Err-Usage-clause-ran
returns-in-Err-Usage-clause-ran g c =
    refuses-words _ _ _ _ _ _ (c.in-Err-Usage.ensures.usage c.in-Err-Usage.field-0-is) c.silent.ensures c.conclude.ensures.printed c.conclude.ensures.told
    c.conclude.ensures.later_out c.conclude.ensures.later_err

pub returns-in-Err-OutOfMemory-clause-ran : goal.returns-in-Err-OutOfMemory-clause-ran
returns-in-Err-OutOfMemory-clause-ran g c =
    lacks-memory _ _ _ _ _ c.conclude-in-Err-OutOfMemory.ensures.printed c.conclude-in-Err-OutOfMemory.ensures.told
    c.conclude-in-Err-OutOfMemory.ensures.later_out c.conclude-in-Err-OutOfMemory.ensures.later_err

pub returns-in-Err-Usage-clause-ends : goal.returns-in-Err-Usage-clause-ends
returns-in-Err-Usage-clause-ends g c =
    ends-usage _ _ _ _ (c.in-Err-Usage.ensures.usage c.in-Err-Usage.field-0-is) c.silent.ensures c.conclude.ensures.printed

pub returns-in-Err-OutOfMemory-clause-ends : goal.returns-in-Err-OutOfMemory-clause-ends
returns-in-Err-OutOfMemory-clause-ends g c = ends-memory _ _ _ c.conclude-in-Err-OutOfMemory.ensures.printed
