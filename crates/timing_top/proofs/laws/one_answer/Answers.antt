use Rattle.timing_top.specs.Asked.{seen}
use Rattle.timing_steps.proofs.Onces.{are-there}
use Rattle.timing_top.proofs.Asking.{answer-failed, only-answer, some-answer}
use Rattle.timing_top.proofs.laws.one_answer.Goals as goal

pub returns-clause-some : goal.returns-clause-some
returns-clause-some c =
    λ asked texts lacking before now told there are bytes.
    some-answer asked (seen texts lacking before now) told (are-there lacking _ there) are bytes

pub returns-clause-once : goal.returns-clause-once
returns-clause-once c = λ asked texts lacking before now told a b are h k. only-answer asked (seen texts lacking before now) told a b are h k

pub returns-clause-failed : goal.returns-clause-failed
returns-clause-failed c = λ asked texts lacking before now told e are h. answer-failed asked (seen texts lacking before now) told e are h
