use Rattle.std.proofs.Common.{rules, ◌≡◌, ◌∙◌, ap, ℕ, List, [], ◌∷◌, Some, length}
use Rattle.timing_base.specs.Examples.{plain_media}
use Rattle.timing_outside.specs.SteadyShelves.{bytes_of}
use Rattle.pcapng_reader.specs.Classic.{classic, classic_texts}
use Rattle.std.specs.Option.{option_map}
use Rattle.capture_gen.specs.Capture.{capture}
use Rattle.capture_gen.specs.Sdp.{sdp_text}
use Rattle.timing_report.specs.declared.status.Input.{Input}
use Rattle.timing_report.specs.declared.status.Input.TheVariants.{Capture}
use Rattle.timing_steps.specs.Answers.{CaptureRose}
use Rattle.timing_steps.proofs.Following.{fetched-same}
use Rattle.timing_top.proofs.SelfTests.{found-made, has-line, never-rose, no-cause, one-found, session-is, steady_faults, steady_left, steady_name}
use Rattle.timing_top.proofs.self_tests.line_of.Goals as goal

pub returns-in-Err-clause-memory : goal.returns-in-Err-clause-memory
returns-in-Err-clause-memory g c =
    let fetched = fetched-same steady_name steady_left steady_faults
    (classic_texts (λ n. Some (bytes_of c.fetch_session.new.shelf n))) (classic_texts (λ n. Some (bytes_of c.fetch_captures.new.shelf n)))
    (c.from_text.result ∷ []) c.in_ok-sources.sources.items
    (λ n. ap (option_map classic) (c.fetch_captures.ensures.stays.texts n)) c.in_ok-sources.ensures.fetched in
    no-cause c.in-Err.failure (λ (i : Input). (number : ℕ) × (i ≡ Capture number) × CaptureRose (λ (n : List ℕ). 0) (λ (n : List ℕ). 0)
    (c.from_text.result ∷ []) number)
    (λ i h. never-rose h.2.rose) (c.in-Err.ensures.judged.cause (c.from_text.result ∷ []) fetched)

pub text_on-requires-clause-one_row : goal.text_on-requires-clause-one_row
text_on-requires-clause-one_row g c =
    let found = found-made c.args.frames c.args.flaw (bytes_of c.in_ok-shelf.shelf) (bytes_of c.fetch_session.new.shelf)
    (bytes_of c.fetch_captures.new.shelf) _ c.in_ok-sources.sources.items c.in-Ok.session c.as_slice-media.result.now _ _ c.in_ok-shelf.ensures.capture
    (search rules) c.fetch_session.ensures.stays.texts c.fetch_captures.ensures.stays.texts c.in_ok-sources.ensures.fetched
    (c.in_ok-session.ensures.told sdp_text (ap Some c.in_ok-shelf.ensures.sdp) ∙ c.in-Ok.is) (search rules) c.in-Ok-judge_made.ensures.judged.told in
    let one = one-found (capture c.args.frames c.args.frames c.args.flaw) plain_media _ _ found in
    ap length one.found_is

pub returns-clause-line : goal.returns-clause-line
returns-clause-line g c =
    let found = found-made c.args.frames c.args.flaw (bytes_of c.in_ok-shelf.shelf) (bytes_of c.fetch_session.new.shelf)
    (bytes_of c.fetch_captures.new.shelf) _ c.in_ok-sources.sources.items c.in-Ok.session c.as_slice-media.result.now _ _ c.in_ok-shelf.ensures.capture
    (search rules) c.fetch_session.ensures.stays.texts c.fetch_captures.ensures.stays.texts c.in_ok-sources.ensures.fetched
    (c.in_ok-session.ensures.told sdp_text (ap Some c.in_ok-shelf.ensures.sdp) ∙ c.in-Ok.is) (search rules) c.in-Ok-judge_made.ensures.judged.told in
    has-line c.args.frames c.args.flaw _ _ _ found
    (λ note row n r. c.in_ok-text_on.ensures plain_media note row
    (session-is c.in-Ok.session (c.in_ok-session.ensures.told sdp_text (ap Some c.in_ok-shelf.ensures.sdp) ∙ c.in-Ok.is)) n r)
