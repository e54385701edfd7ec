-- What a command on captures owes that prints while it reads, once they were read, or couldn't be.
use Rattle.std.proofs.Common.{◌≡◌, ◌++◌, [], ℕ, false, List, Ok, Err, inl, inr, refl, sym}
use Rattle.std.specs.Prelude.{◌⊎◌, IfErr, Result, is_ok, map}
use Rattle.std.proofs.lemmas.Bool.{false≢true}
use Rattle.timing_base.specs.Media.{Media}
use Rattle.pcapng_reader.specs.Classic.{classic, classic_texts}
use Rattle.timing_report.specs.declared.status.Input.TheVariants as input
use Rattle.timing_steps.specs.Answers.{Answer, AreThere, AreTold, CaptureRose, Inputs}
use Rattle.timing_steps.specs.Queries.{BeginsCaptures, FollowsCaptures, HasAnswer, IsFrontOf, Query}
use Rattle.timing_steps.specs.Ran.{Appended, Output}
use Rattle.timing_steps.specs.Streams.{HasBegun, HasRest, OnFailure, Rests}
use Rattle.timing_steps.specs.declared.failure.Failure.{Failure}
use Rattle.timing_steps.specs.declared.failure.Failure.TheVariants as failure
use Rattle.timing_steps.proofs.Capturing.{reads-all}
use Rattle.timing_steps.proofs.Classics.{told-classic}
use Rattle.timing_measure.proofs.lemmas.series.Capturing.{wrote-known}

-- the captures were read to their end
pub rests-whole : (query : Query) (media : List Media) (i : Inputs) (o : Output) (rest : Answer) → AreThere i.lacks query.captures
    → ((texts : List (List ℕ)) → AreTold (classic_texts i.texts) query.captures texts → HasRest o (HasAnswer query media texts) rest)
    → (written : List ℕ) × Appended o written
    → Rests o (FollowsCaptures query media i) (BeginsCaptures query media i) (Ok rest)
rests-whole query media i o rest there told some =
    let w =
    wrote-known (classic_texts i.texts) query.captures o
    (λ texts written. HasAnswer query media texts (record { text = written ++ rest.text; status = rest.status })) told some in
    (w.0, w.1, reads-all query media i (Ok (record { text = w.0 ++ rest.text; status = rest.status })) there w.2 tt)

-- why the captures couldn't be read to their end
unread-follows : (query : Query) (media : List Media) (i : Inputs) (o : Output) (e : Failure)
    → OnFailure o e (λ x. (number : ℕ) × (x ≡ input.Capture number) × CaptureRose i.before i.now query.captures number)
    → (e ≡ failure.WriteFault) ⊎ FollowsCaptures query media i (Err e)
unread-follows query media i o (failure.ReadFault x) cause = inr (reads-all query media i (Err (failure.ReadFault x)) tt tt cause)
unread-follows query media i o failure.WriteFault cause = inl refl
unread-follows query media i o failure.OutOfMemory cause = inr (inl refl)

-- they weren't, and a prefix was written
pub rests-part : (query : Query) (media : List Media) (i : Inputs) (o : Output) (rest : Result Answer Failure) → is_ok rest ≡ false
    → IfErr rest (λ e. OnFailure o e (λ x. (number : ℕ) × (x ≡ input.Capture number) × CaptureRose i.before i.now query.captures number))
    → ((texts : List (List ℕ)) → AreTold (classic_texts i.texts) query.captures texts
    → HasBegun o (λ front. (front ≡ []) ⊎ IsFrontOf (HasAnswer query media texts) front))
    → (front : List ℕ) × Appended o front
    → Rests o (FollowsCaptures query media i) (BeginsCaptures query media i) rest
rests-part query media i o (Ok rest) failed cause begun front = absurd (false≢true (sym failed))
rests-part query media i o (Err e) failed cause begun front =
    let w =
    wrote-known (classic_texts i.texts) query.captures o (λ texts front. (front ≡ []) ⊎ IsFrontOf (HasAnswer query media texts) front) begun front in (
      unread-follows query media i o e cause,
      (w.0, w.1, λ texts told. w.2 (map classic texts) (told-classic i.texts query.captures texts told)),
    )
