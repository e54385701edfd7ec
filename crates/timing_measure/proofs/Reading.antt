-- The captures of a job couldn't be read.
use Rattle.std.proofs.Common.{◌≡◌, ℕ, false, List, sym}
use Rattle.std.specs.Prelude.{IfErr, Result, Ok, Err, is_ok}
use Rattle.std.proofs.lemmas.Bool.{false≢true}
use Rattle.timing_base.specs.Media.{Media}
use Rattle.timing_report.specs.declared.status.Input.TheVariants as input
use Rattle.timing_steps.specs.Answers.{Answer, CaptureRose, Inputs, OnReadFault}
use Rattle.timing_steps.specs.Queries.{FollowsCaptures, Query}
use Rattle.timing_steps.specs.declared.failure.Failure.{Failure}
use Rattle.timing_steps.proofs.Capturing.{reads-all}

pub unread-follows : (query : Query) (media : List Media) (i : Inputs) (outcome : Result Answer Failure) → is_ok outcome ≡ false
    → IfErr outcome (λ e. OnReadFault e (λ x. (number : ℕ) × (x ≡ input.Capture number) × CaptureRose i.before i.now query.captures number))
    → FollowsCaptures query media i outcome
unread-follows query media i (Ok answer) failed cause = absurd (false≢true (sym failed))
unread-follows query media i (Err e) failed cause = reads-all query media i (Err e) tt tt cause
