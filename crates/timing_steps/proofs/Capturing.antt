-- What the method `answer` of a command owes, from what was read.
use Rattle.std.proofs.Common.{◌≡◌, ◌<◌, ℕ, List, length, map, Option, Some, None, Ok, Err, inl, inr, refl, ap}
use Rattle.std.specs.Prelude.{IfErr, IfOk, Result, slice_get}
use Rattle.std.proofs.lemmas.Option.{slice_get_within}
use Rattle.timing_base.specs.Media.{Media}
use Rattle.pcapng_reader.specs.Classic.{classic, classic_texts}
use Rattle.timing_report.specs.declared.status.Input.{Input}
use Rattle.timing_report.specs.declared.status.Input.TheVariants as input
use Rattle.timing_steps.specs.Answers.{Answer, AreThere, AreTold, CaptureRose, Inputs, OnReadFault}
use Rattle.timing_steps.specs.Flows.{no_media, no_such_media}
use Rattle.timing_steps.specs.Queries.{FollowsCaptures, HasAnswer, Query}
use Rattle.timing_steps.specs.declared.failure.Failure.{Failure}
use Rattle.timing_steps.specs.declared.failure.Failure.TheVariants as failure
use Rattle.timing_steps.proofs.Classics.{told-classic}

-- an answer isn't none
pub some-none : (answer : Answer) → Some answer ≡ None → ⊥
some-none answer h = cc

-- the number of a media that the SDP has
pub media_within : (media : List Media) (number : ℕ) → no_media (slice_get media number) ≡ None → number < length media
media_within media number has = go (slice_get media number) refl has
  where
    go : (found : Option Media) → slice_get media number ≡ found → no_media found ≡ None → number < length media
    go None is none = absurd (some-none no_such_media none)
    go (Some m) is none = slice_get_within media number m is

-- captures that were read, or couldn't be
pub reads-all : (query : Query) (media : List Media) (i : Inputs) (outcome : Result Answer Failure) → IfOk outcome (λ _. AreThere i.lacks query.captures)
    → IfOk outcome (λ answer. (texts : List (List ℕ)) → AreTold (classic_texts i.texts) query.captures texts → HasAnswer query media texts answer)
    → IfErr outcome (λ e. OnReadFault e (λ x. (number : ℕ) × (x ≡ input.Capture number) × CaptureRose i.before i.now query.captures number))
    → FollowsCaptures query media i outcome
reads-all query media i (Ok answer) there told cause =
    inr (inr (there, λ texts t. (answer, refl, told (map classic texts) (told-classic i.texts query.captures texts t))))
reads-all query media i (Err (failure.ReadFault x)) there told cause =
    inr (inl (cause.0, ap (λ y. Err (failure.ReadFault y)) cause.1, cause.2))
reads-all query media i (Err failure.WriteFault) there told cause = absurd cause
reads-all query media i (Err failure.OutOfMemory) there told cause = inl refl

-- a step that reads nothing has no read fault
pub captures-cause : (outcome : Result Answer Failure) (P : Input → Type 0) → IfErr outcome (λ e. OnReadFault e (λ _. ⊥)) → IfErr outcome (λ e. OnReadFault e P)
captures-cause (Ok answer) P h = tt
captures-cause (Err (failure.ReadFault x)) P h = absurd h
captures-cause (Err failure.WriteFault) P h = absurd h
captures-cause (Err failure.OutOfMemory) P h = tt
