use Rattle.std.proofs.Common.{◌∙◌, sym, ap}
use Rattle.sdp_reader.specs.Session.{session}
use Rattle.timing_steps.proofs.Sessions.{session-take}
use Rattle.timing_steps.proofs.fetch.fetch_session.Goals as goal

pub returns-in-Ok-read_sdp-clause-told : goal.returns-in-Ok-read_sdp-clause-told
returns-in-Ok-read_sdp-clause-told g c = λ s told.
    sym (ap session (c.deref.ensures.value ∙ c.in-Ok.ensures.text s told) ∙ session-take s) ∙ c.in-Ok-read_sdp.ensures.tells

pub returns-in-Err-Refused-clause-told : goal.returns-in-Err-Refused-clause-told
returns-in-Err-Refused-clause-told g c = λ s told.
    sym (ap session (c.deref.ensures.value ∙ c.in-Ok.ensures.text s told) ∙ session-take s) ∙ (rw c.in-Err-Refused.field-0-is at c.in-Err-Refused.ensures.tells)
