-- The steps by which inputs are read lead to one answer, or to a cause.
use Rattle.std.proofs.Common.{◌≡◌, ◌⊎◌, ℕ, Bool, true, false, List, [], ◌∷◌, Option, Some, None, refl, ap, ◌∙◌, sym, subst, inl, inr}
use Rattle.std.specs.Prelude.{All, IsTrue, Result, Ok, Err, map}
use Rattle.std.proofs.lemmas.List.Elements.{All-cons, All-head, All-nil, All-tail}
use Rattle.timing_base.specs.Captures.{Record}
use Rattle.timing_base.specs.Media.{IsMedia, Media}
use Rattle.timing_base.specs.declared.capture.FileNote.{FileNote}
use Rattle.pcap_reader.specs.Records.{AreRecords}
use Rattle.pcap_reader.proofs.Captures.{only-records, some-records}
use Rattle.pcapng_reader.specs.Classic.{classic}
use Rattle.sdp_reader.specs.Session.{session}
use Rattle.sdp_reader.proofs.Within.{session-within}
use Rattle.sdp_reader.specs.declared.fault.SdpFault.{SdpFault}
use Rattle.timing_report.specs.declared.status.Input.{Input}
use Rattle.timing_report.specs.declared.status.Input.TheVariants as input
use Rattle.timing_report.specs.declared.status.Status.TheVariants as status
use Rattle.timing_steps.specs.Answers.{Answer, AreThere, AreTold, CaptureRose, Gives, HasRisen, Inputs, OnSession, ReadsCaptures, ReadsSession, Yields}
use Rattle.timing_steps.specs.Answers.{silent}
use Rattle.timing_steps.specs.Queries.{AnswersCaptures, AnswersMedia, FollowsQuery, HasAnswer, OnEarly, Query, QueryInputRose, inputs_of}
use Rattle.timing_steps.specs.declared.failure.Failure.{Failure}
use Rattle.timing_steps.specs.declared.failure.Failure.TheVariants as failure

-- memory ran out, or the count of an input rose
abbrev pub Caused : Failure → (Input → Type 0) → Type 0
Caused e Rises = (e ≡ failure.OutOfMemory) ⊎ ((input : Input) × (e ≡ failure.ReadFault input) × Rises input)

pub same-ok : (a b : Answer) (r : Result Answer Failure) → r ≡ Ok a → r ≡ Ok b → a ≡ b
same-ok a b r h k = cc

pub same-err : (d e : Failure) (r : Result Answer Failure) → r ≡ Err d → r ≡ Err e → d ≡ e
same-err d e r h k = cc

pub ok-not-err : (a : Answer) (e : Failure) (r : Result Answer Failure) → r ≡ Ok a → r ≡ Err e → ⊥
ok-not-err a e r h k = cc

pub same-some : (s t : List ℕ) (o : Option (List ℕ)) → o ≡ Some s → o ≡ Some t → s ≡ t
same-some s t o h k = cc

-- names of which a test says that they aren't lacking
pub are-there : (lacking : List ℕ → Bool) (names : List (List ℕ)) → All (λ name. lacking name ≡ false) names → AreThere (λ name. IsTrue (lacking name)) names
are-there lacking [] h = All-nil (λ name. ¬ IsTrue (lacking name))
are-there lacking (n ∷ ns) h =
    All-cons (λ name. ¬ IsTrue (lacking name)) n ns (λ lacks. not-true (lacking n) (All-head (λ name. lacking name ≡ false) n ns h) lacks)
    (are-there lacking ns (All-tail (λ name. lacking name ≡ false) n ns h))
  where
    not-true : (b : Bool) → b ≡ false → IsTrue b → ⊥
    not-true b e h = let t : b ≡ true = h in cc

-- names are told once
pub told-once : (texts : List ℕ → Option (List ℕ)) (names a b : List (List ℕ)) → AreTold texts names a → AreTold texts names b → a ≡ b
told-once texts [] [] [] h k = refl
told-once texts [] (t ∷ ts) b h k = absurd h
told-once texts [] [] (t ∷ ts) h k = absurd k
told-once texts (n ∷ ns) [] b h k = absurd h
told-once texts (n ∷ ns) (t ∷ ts) [] h k = absurd k
told-once texts (n ∷ ns) (t ∷ ts) (u ∷ us) h k = ap (λ x. x ∷ ts) (same-some t u (texts n) h.0 k.0) ∙ ap (λ l. u ∷ l) (told-once texts ns ts us h.1 k.1)

-- an answer that is given
pub some-given : (Defined : Answer → Type 0) → (answer : Answer) × Defined answer → (answer : Answer) × Gives (Ok answer) Defined
some-given Defined h = (h.0, (h.0, refl, h.1))

pub only-given : (Defined : Answer → Type 0) (a b : Answer) → ((x y : Answer) → Defined x → Defined y → x ≡ y) → Gives (Ok a) Defined → Gives (Ok b) Defined → a
    ≡ b
only-given Defined a b once h k = same-ok a h.0 (Ok a) refl h.1 ∙ once h.0 k.0 h.2 k.2 ∙ sym (same-ok b k.0 (Ok b) refl k.1)

pub not-given : (Defined : Answer → Type 0) (e : Failure) → Gives (Err e) Defined → ⊥
not-given Defined e h = ok-not-err h.0 e (Err e) h.1 refl

pub only-silent : (a b x : Answer) → a ≡ x → b ≡ x → a ≡ b
only-silent a b x h k = h ∙ sym k

-- what memory may stand in the way of
pub some-yielded : (P : Answer → Type 0) → (answer : Answer) × P answer → (answer : Answer) × Yields (Ok answer) (P answer)
some-yielded P h = (h.0, inr h.1)

pub only-yielded : (P : Answer → Type 0) (a b : Answer) → (P a → P b → a ≡ b) → Yields (Ok a) (P a) → Yields (Ok b) (P b) → a ≡ b
only-yielded P a b once (inl h) k = absurd (ok-not-err a _ (Ok a) refl h)
only-yielded P a b once (inr h) (inl k) = absurd (ok-not-err b _ (Ok b) refl k)
only-yielded P a b once (inr h) (inr k) = once h k

pub yielded-failed : (P : Type 0) (e : Failure) (Rises : Input → Type 0) → (P → Caused e Rises) → Yields (Err e) P → Caused e Rises
yielded-failed P e Rises caused (inl h) = inl (same-err e _ (Err e) refl h)
yielded-failed P e Rises caused (inr h) = caused h

-- captures that are read
pub some-captured : (i : Inputs) (names told : List (List ℕ)) (Defined : List (List ℕ) → Answer → Type 0) → AreThere i.lacks names → AreTold i.texts names told
    → (answer : Answer) × Defined (map classic told) answer
    → (answer : Answer) × ReadsCaptures i (Ok answer) names (λ texts. Gives (Ok answer) (Defined texts))
some-captured i names told Defined there are h =
    (h.0, inr (there, λ texts t. (h.0, refl, subst (λ l. Defined (map classic l) h.0) (told-once i.texts names told texts are t) h.1)))

pub only-captured : (i : Inputs) (names told : List (List ℕ)) (Defined : List (List ℕ) → Answer → Type 0) (a b : Answer) → AreTold i.texts names told
    → ((x y : Answer) → Defined (map classic told) x → Defined (map classic told) y → x ≡ y)
    → ReadsCaptures i (Ok a) names (λ texts. Gives (Ok a) (Defined texts)) → ReadsCaptures i (Ok b) names (λ texts. Gives (Ok b) (Defined texts)) → a ≡ b
only-captured i names told Defined a b are once (inl h) k = absurd (ok-not-err a _ (Ok a) refl h.1)
only-captured i names told Defined a b are once (inr h) (inl k) = absurd (ok-not-err b _ (Ok b) refl k.1)
only-captured i names told Defined a b are once (inr h) (inr k) = only-given (Defined (map classic told)) a b once (h.1 told are) (k.1 told are)

pub captured-failed : (i : Inputs) (names told : List (List ℕ)) (Defined : List (List ℕ) → Answer → Type 0) (e : Failure) (Rises : Input → Type 0)
    → AreTold i.texts names told
    → ((number : ℕ) → CaptureRose i.before i.now names number → Rises (input.Capture number))
    → ReadsCaptures i (Err e) names (λ texts. Gives (Err e) (Defined texts)) → Caused e Rises
captured-failed i names told Defined e Rises are rises (inl h) = inr (input.Capture h.0, same-err e _ (Err e) refl h.1, rises h.0 h.2)
captured-failed i names told Defined e Rises are rises (inr h) = absurd (not-given (Defined (map classic told)) e (h.1 told are))

-- what a session leads to
some-session : (s : Result (List Media) SdpFault) (Next : Answer → List Media → Type 0)
    → ((media : List Media) → s ≡ Ok media → (answer : Answer) × Next answer media) → (answer : Answer) × OnSession s (Ok answer) (Next answer)
some-session (Err fault) Next h = some-given (λ answer. answer ≡ silent (status.SdpRefused fault)) (silent (status.SdpRefused fault), refl)
some-session (Ok media) Next h = h media refl

only-session : (s : Result (List Media) SdpFault) (Next : Answer → List Media → Type 0) (a b : Answer)
    → ((media : List Media) → Next a media → Next b media → a ≡ b) → OnSession s (Ok a) (Next a) → OnSession s (Ok b) (Next b) → a ≡ b
only-session (Err fault) Next a b once h k = only-given (λ answer. answer ≡ silent (status.SdpRefused fault)) a b (λ x y p q. only-silent x y _ p q) h k
only-session (Ok media) Next a b once h k = once media h k

session-failed : (s : Result (List Media) SdpFault) (Next : List Media → Type 0) (e : Failure) (Rises : Input → Type 0)
    → ((media : List Media) → Next media → Caused e Rises) → OnSession s (Err e) Next → Caused e Rises
session-failed (Err fault) Next e Rises caused h = absurd (not-given (λ answer. answer ≡ silent (status.SdpRefused fault)) e h)
session-failed (Ok media) Next e Rises caused h = caused media h

-- a description that is read
pub some-described : (i : Inputs) (name sdp : List ℕ) (Next : Answer → List Media → Type 0) → ¬ i.lacks name → i.texts name ≡ Some sdp
    → ((media : List Media) → session sdp ≡ Ok media → (answer : Answer) × Next answer media)
    → (answer : Answer) × ReadsSession i (Ok answer) name (Next answer)
some-described i name sdp Next there told h =
    let all = some-session (session sdp) Next h in
    (all.0, inr (there, λ text t. subst (λ s. OnSession (session s) (Ok all.0) (Next all.0)) (same-some sdp text (i.texts name) told t) all.1))

pub only-described : (i : Inputs) (name sdp : List ℕ) (Next : Answer → List Media → Type 0) (a b : Answer) → i.texts name ≡ Some sdp
    → ((media : List Media) → Next a media → Next b media → a ≡ b)
    → ReadsSession i (Ok a) name (Next a) → ReadsSession i (Ok b) name (Next b) → a ≡ b
only-described i name sdp Next a b told once (inl h) k = absurd (ok-not-err a _ (Ok a) refl h.0)
only-described i name sdp Next a b told once (inr h) (inl k) = absurd (ok-not-err b _ (Ok b) refl k.0)
only-described i name sdp Next a b told once (inr h) (inr k) = only-session (session sdp) Next a b once (h.1 sdp told) (k.1 sdp told)

pub described-failed : (i : Inputs) (name sdp : List ℕ) (Next : List Media → Type 0) (e : Failure) (Rises : Input → Type 0) → i.texts name ≡ Some sdp
    → (HasRisen i name → Rises input.Sdp)
    → ((media : List Media) → Next media → Caused e Rises) → ReadsSession i (Err e) name Next → Caused e Rises
described-failed i name sdp Next e Rises told rises caused (inl h) = inr (input.Sdp, same-err e _ (Err e) refl h.0, rises h.1)
described-failed i name sdp Next e Rises told rises caused (inr h) = session-failed (session sdp) Next e Rises caused (h.1 sdp told)

-- the same media and records define at most one answer
abbrev pub DefinesOnce : Query → Type 0
DefinesOnce query = (media : List Media) (files : List (List Record)) (notes : List FileNote) (a b : Answer) → query.Defines media files notes a
    → query.Defines media files notes b → a ≡ b

-- the records of captures with these contents define an answer, over all media that don't settle it
abbrev pub DefinesSome : Query → (texts : List (List ℕ)) → Type 0
DefinesSome query texts = (media : List Media) (files : List (List Record)) (notes : List FileNote) → All IsMedia media → query.early media ≡ None
    → AreRecords texts files notes → (answer : Answer) × query.Defines media files notes answer

pub only-has : (query : Query) (media : List Media) (texts : List (List ℕ)) (a b : Answer) → DefinesOnce query → HasAnswer query media texts a
    → HasAnswer query media texts b → a ≡ b
only-has query media texts a b once h k =
    let same = only-records texts h.files k.files h.notes k.notes h.records k.records in
    once media k.files k.notes a b
    (subst (λ n. query.Defines media k.files n a) same.1 (subst (λ f. query.Defines media f h.notes a) same.0 h.defined)) k.defined

pub some-has : (query : Query) (media : List Media) (texts : List (List ℕ)) → All IsMedia media → query.early media ≡ None → DefinesSome query texts
    → (answer : Answer) × HasAnswer query media texts answer
some-has query media texts are unsettled some =
    let all = some-records texts in
    let made = some media all.0 all.1 are unsettled all.2 in
    (made.0, record { files = all.0; notes = all.1; records = all.2; defined = made.1 })

-- what follows over media, once the captures are told
module _ (query : Query) (i : Inputs) (told : List (List ℕ)) (are : AreTold i.texts query.captures told) where
  only-over : (media : List Media) (early : Option Answer) (a b : Answer) → DefinesOnce query → OnEarly early (Ok a) (AnswersCaptures query media i (Ok a))
      → OnEarly early (Ok b) (AnswersCaptures query media i (Ok b)) → a ≡ b
  only-over media (Some settled) a b once h k = only-given (λ x. x ≡ settled) a b (λ x y p q. only-silent x y settled p q) h k
  only-over media None a b once h k =
      only-captured i query.captures told (HasAnswer query media) a b are (λ x y p q. only-has query media (map classic told) x y once p q) h k

  some-over : (media : List Media) (early : Option Answer) → query.early media ≡ early → AreThere i.lacks query.captures → All IsMedia media
      → DefinesSome query (map classic told) → (answer : Answer) × OnEarly early (Ok answer) (AnswersCaptures query media i (Ok answer))
  some-over media (Some settled) is there within some = some-given (λ x. x ≡ settled) (settled, refl)
  some-over media None is there within some =
      some-captured i query.captures told (HasAnswer query media) there are (some-has query media (map classic told) within is some)

  over-failed : (media : List Media) (early : Option Answer) (e : Failure) → OnEarly early (Err e) (AnswersCaptures query media i (Err e))
      → Caused e (QueryInputRose query i)
  over-failed media (Some settled) e h = absurd (not-given (λ x. x ≡ settled) e h)
  over-failed media None e h = captured-failed i query.captures told (HasAnswer query media) e (QueryInputRose query i) are (λ number r. r) h

-- the contents of the inputs of a command have one answer
module _ (query : Query) (i : Inputs) where
  pub only-queried : (told : List (List ℕ)) (a b : Answer) → DefinesOnce query → AreTold i.texts (inputs_of query) told → FollowsQuery query i (Ok a)
      → FollowsQuery query i (Ok b) → a ≡ b
  only-queried [] a b once are h k = absurd are
  only-queried (sdp ∷ told) a b once are h k =
      only-yielded (λ answer. ReadsSession i (Ok answer) query.sdp (AnswersMedia query i (Ok answer))) a b
      (only-described i query.sdp sdp (λ answer. AnswersMedia query i (Ok answer)) a b are.0
      (λ media x y. only-over query i told are.1 media (query.early media) a b once x y)) h k

  pub some-queried : (told : List (List ℕ)) → AreThere i.lacks (inputs_of query) → AreTold i.texts (inputs_of query) told
      → ((texts : List (List ℕ)) → AreTold i.texts query.captures texts → DefinesSome query (map classic texts))
      → (answer : Answer) × FollowsQuery query i (Ok answer)
  some-queried [] there are some = absurd are
  some-queried (sdp ∷ told) there are some =
      some-yielded (λ answer. ReadsSession i (Ok answer) query.sdp (AnswersMedia query i (Ok answer)))
      (some-described i query.sdp sdp (λ answer. AnswersMedia query i (Ok answer)) (All-head (λ n. ¬ i.lacks n) query.sdp query.captures there) are.0
      (λ media e. some-over query i told are.1 media (query.early media) refl (All-tail (λ n. ¬ i.lacks n) query.sdp query.captures there)
      (session-within sdp media e) (some told are.1)))

  pub queried-failed : (told : List (List ℕ)) (e : Failure) → AreTold i.texts (inputs_of query) told → FollowsQuery query i (Err e)
      → Caused e (QueryInputRose query i)
  queried-failed [] e are h = absurd are
  queried-failed (sdp ∷ told) e are h =
      yielded-failed (ReadsSession i (Err e) query.sdp (AnswersMedia query i (Err e))) e (QueryInputRose query i)
      (described-failed i query.sdp sdp (AnswersMedia query i (Err e)) e (QueryInputRose query i) are.0 (λ r. r)
      (λ media x. over-failed query i told are.1 media (query.early media) e x)) h
