-- The run of a command, from what its steps did.
use Rattle.std.proofs.Common.{◌≡◌, ◌≤◌, ◌++◌, [], ℕ, Bool, true, false, List, take, Option, Ok, Err, inl, inr, refl, ap}
use Rattle.std.proofs.Common.{sym, subst, arith}
use Rattle.std.specs.Prelude.{◌⊎◌, ◌||◌, IfErr, IfOk, Result, is_ok}
use Rattle.std.proofs.lemmas.Bool.{false≢true, or_left}
use Rattle.std.specs.Io.KnownBytes.{Appends, Keeps}
use Rattle.std.proofs.KnownBytes.{Appends-trans, Keeps-trans}
use Rattle.timing_base.specs.Media.{Media}
use Rattle.sdp_reader.specs.Session.{session}
use Rattle.sdp_reader.specs.declared.fault.SdpFault.{SdpFault}
use Rattle.timing_report.specs.declared.status.Input.{Input}
use Rattle.timing_report.specs.declared.status.Input.TheVariants as input
use Rattle.timing_report.specs.declared.status.Status.{Status}
use Rattle.timing_report.specs.declared.status.Status.TheVariants as status
use Rattle.timing_steps.specs.Answers.{Answer, CaptureRose, Gives, HasRisen, Inputs, OnReadFault}
use Rattle.timing_steps.specs.Begun.{IsBegun, IsSettled}
use Rattle.timing_steps.specs.Queries.{AnswersCaptures, BeginsCaptures, BeginsQuery, FollowsCaptures, FollowsQuery, HasAnswer, OnEarly, Query, QueryInputRose}
use Rattle.timing_steps.specs.Queries.{ends_of, judged_ends}
use Rattle.timing_steps.specs.Ends.{IsTextBeside, is_failure, is_silent}
use Rattle.timing_steps.specs.Ran.{HasCause, IsAnswered, Leaves, Output, TellsLine, status_of}
use Rattle.timing_steps.specs.Runs.{EndsAs, FailsBy, IsQuiet, LeavesRest, RanAs, BeforeEnd, is_silent_for}
use Rattle.timing_steps.specs.Streams.{OnFailure}
use Rattle.timing_steps.specs.declared.failure.Failure.{Failure}
use Rattle.timing_steps.specs.declared.failure.Failure.TheVariants as failure
use Rattle.timing_steps.proofs.Beginnings.{from-media, judged-of}
use Rattle.timing_steps.proofs.Endings.{kept-none}
use Rattle.timing_steps.proofs.Resting.{printed-rest}
use Rattle.timing_steps.proofs.Seeing.{Sees, capture-seen, captures-seen, told-seen}

-- statuses of answers that captures define: none is that of a failure, and none is silent
judged-loud : (streams checks : Bool) (s : Status) → judged_ends checks s ≡ true → is_silent_for streams s ≡ true → ⊥
judged-loud true checks status.Pass h q = false≢true q
judged-loud true checks status.Fail h q = false≢true q
judged-loud true checks status.NotAllJudged h q = false≢true q
judged-loud true checks s h q = false≢true h
judged-loud false checks status.Pass h q = false≢true q
judged-loud false checks status.Fail h q = false≢true q
judged-loud false checks status.NotAllJudged h q = false≢true q
judged-loud false checks s h q = false≢true h

pub ends-answered : (query : Query) (s : Status) → ends_of query s ≡ true → IsAnswered s
ends-answered query (status.ReadFault x) h = absurd (false≢true h)
ends-answered query status.WriteFault h = absurd (false≢true h)
ends-answered query status.OutOfMemory h = absurd (false≢true h)
ends-answered query s h = tt

-- a session has one list of media
same-media : (read : Result (List Media) SdpFault) (media others : List Media) → read ≡ Ok media → read ≡ Ok others → media ≡ others
same-media read media others h k = cc

-- what follows in the part of a run that reads the captures follows in the run
follows-on : (query : Query) (i j : Inputs) (media : List Media) (outcome : Result Answer Failure) → Sees i j → IsBegun query i.texts i.lacks media
    → FollowsCaptures query media j outcome → FollowsQuery query i outcome
follows-on query i j media outcome s begun (inl memory) = inl memory
follows-on query i j media outcome s begun (inr h) =
    from-media query i media outcome begun.read (subst (λ x. OnEarly x outcome (AnswersCaptures query media i outcome)) (sym begun.unsettled)
    (captures-seen i j outcome query.captures (λ texts. Gives outcome (HasAnswer query media texts)) s h))

begins-on : (query : Query) (i j : Inputs) (media : List Media) (front : List ℕ) → Sees i j → IsBegun query i.texts i.lacks media
    → BeginsCaptures query media j front → BeginsQuery query i front
begins-on query i j media front s begun h = λ sdp others is reads.
    subst (λ m. BeginsCaptures query m i front) (same-media (session sdp) media others (begun.read.1 sdp is) reads)
    (λ texts told. h texts (told-seen i j query.captures texts s told))

-- with nothing printed
begins-none : (query : Query) (i : Inputs) → BeginsQuery query i []
begins-none query i = λ sdp media is reads texts told. inl refl

-- a write failed, or what follows
written-or : (query : Query) (i j : Inputs) (media : List Media) (e : Failure) → Sees i j → IsBegun query i.texts i.lacks media
    → (e ≡ failure.WriteFault) ⊎ FollowsCaptures query media j (Err e) → (e ≡ failure.WriteFault) ⊎ FollowsQuery query i (Err e)
written-or query i j media e s begun (inl written) = inl written
written-or query i j media e s begun (inr h) = inr (follows-on query i j media (Err e) s begun h)

rests-on : (streams : Bool) (query : Query) (i j : Inputs) (media : List Media) (o : Output) (rest : Result Answer Failure) → Sees i j
    → IsBegun query i.texts i.lacks media
    → LeavesRest streams o (FollowsCaptures query media j) (BeginsCaptures query media j) rest
    → LeavesRest streams o (FollowsQuery query i) (BeginsQuery query i) rest
rests-on false query i j media o rest s begun h = (h.0, follows-on query i j media rest s begun h.1)
rests-on true query i j media o (Ok rest) s begun h =
    (h.0, h.1, follows-on query i j media (Ok (record { text = h.0 ++ rest.text; status = rest.status })) s begun h.2)
rests-on true query i j media o (Err e) s begun h =
    (written-or query i j media e s begun h.0, (h.1.0, h.1.1, begins-on query i j media h.1.0 s begun h.1.2))

fails-map : (streams : Bool) (o : Output) (e : Failure) (P Q : Input → Type 0) → ((x : Input) → P x → Q x) → FailsBy streams o e P → FailsBy streams o e Q
fails-map true o (failure.ReadFault x) P Q f h = f x h
fails-map true o failure.WriteFault P Q f h = h
fails-map true o failure.OutOfMemory P Q f h = tt
fails-map false o (failure.ReadFault x) P Q f h = f x h
fails-map false o failure.WriteFault P Q f h = h
fails-map false o failure.OutOfMemory P Q f h = tt

-- the causes that the captures of a command may have
abbrev pub CapturesRose : Query → (before now : List ℕ → ℕ) → Input → Type 0
CapturesRose query before now x = (number : ℕ) × (x ≡ input.Capture number) × CaptureRose before now query.captures number

cause-on : (streams : Bool) (query : Query) (i j : Inputs) (o : Output) (rest : Result Answer Failure) → Sees i j
    → IfErr rest (λ e. FailsBy streams o e (CapturesRose query j.before j.now)) → IfErr rest (λ e. FailsBy streams o e (QueryInputRose query i))
cause-on streams query i j o (Ok r) s h = tt
cause-on streams query i j o (Err e) s h =
    fails-map streams o e (CapturesRose query j.before j.now) (QueryInputRose query i)
    (λ x c. subst (QueryInputRose query i) (sym c.1) (capture-seen i j query.captures c.0 s c.2)) h

-- it isn't the SDP that couldn't be read
not-captures : (query : Query) (before now : List ℕ → ℕ) → CapturesRose query before now input.Sdp → ⊥
not-captures query before now c = apart c.0 c.1
  where
    apart : (number : ℕ) → input.Sdp ≡ input.Capture number → ⊥
    apart number e = cc

captures-alone : (streams : Bool) (o : Output) (query : Query) (before now : List ℕ → ℕ) (rest : Result Answer Failure)
    → IfErr rest (λ e. FailsBy streams o e (CapturesRose query before now)) → rest ≡ Err (failure.ReadFault input.Sdp) → ⊥
captures-alone true o query before now rest h is =
    not-captures query before now (subst (λ r. IfErr r (λ e. OnFailure o e (CapturesRose query before now))) is h)
captures-alone false o query before now rest h is =
    not-captures query before now (subst (λ r. IfErr r (λ e. OnReadFault e (CapturesRose query before now))) is h)

-- the captures were read, or not
pub before-read : (streams : Bool) (query : Query) (i j : Inputs) (media : List Media) (o : Output) (rest : Result Answer Failure) → Sees i j
    → IsBegun query i.texts i.lacks media
    → LeavesRest streams o (FollowsCaptures query media j) (BeginsCaptures query media j) rest
    → IfOk rest (λ r. judged_ends query.checks r.status ≡ true)
    → IfErr rest (λ e. FailsBy streams o e (CapturesRose query j.before j.now)) → BeforeEnd streams query i o rest
before-read streams query i j media o (Ok r) s begun rests ends cause = record {
  rests = rests-on streams query i j media o (Ok r) s begun rests;
  ends = judged-of query r.status ends;
  quiet = λ q. absurd (judged-loud streams query.checks r.status ends q);
  cause = tt;
  unread = λ is. absurd (captures-alone streams o query j.before j.now (Ok r) tt is);
}
before-read streams query i j media o (Err e) s begun rests ends cause = record {
  rests = rests-on streams query i j media o (Err e) s begun rests;
  ends = tt;
  quiet = tt;
  cause = cause-on streams query i j o (Err e) s cause;
  unread = λ is. absurd (captures-alone streams o query j.before j.now (Err e) cause is);
}

-- nothing was printed: an outcome of a command of either kind
pub rests-kept : (streams : Bool) (o : Output) (Follows : Result Answer Failure → Type 0) (Begins : List ℕ → Type 0) (rest : Result Answer Failure)
    → Keeps o.old o.new → Begins [] → Follows rest → LeavesRest streams o Follows Begins rest
rests-kept false o Follows Begins rest kept begins h = (kept, h)
rests-kept true o Follows Begins (Ok r) kept begins h = ([], kept-none o.old o.new kept, h)
rests-kept true o Follows Begins (Err e) kept begins h = (inr h, ([], kept-none o.old o.new kept, begins))

quiet-kept : (streams : Bool) (o : Output) (answer : Answer) → Keeps o.old o.new → IsTextBeside (is_silent answer.status) answer.text
    → is_silent_for streams answer.status ≡ true → IsQuiet o answer
quiet-kept streams o answer kept beside q = record {
  before = kept-none o.old o.new kept;
  after = subst (λ (b : Bool). IsTextBeside b answer.text) (silent-of streams answer.status q) beside;
}
  where
    silent-of : (streams : Bool) (s : Status) → is_silent_for streams s ≡ true → is_silent s ≡ true
    silent-of false s q = q
    silent-of true (status.SdpRefused fault) q = refl
    silent-of true (status.ReadFault x) q = refl
    silent-of true s q = absurd (false≢true q)

-- the SDP is refused, or its media settle the answer
pub before-settled : (streams : Bool) (query : Query) (i : Inputs) (o : Output) (answer : Answer) → Keeps o.old o.new → IsSettled query i answer
    → BeforeEnd streams query i o (Ok answer)
before-settled streams query i o answer kept h = record {
  rests = rests-kept streams o (FollowsQuery query i) (BeginsQuery query i) (Ok answer) kept (begins-none query i) h.follows;
  ends = h.ends;
  quiet = quiet-kept streams o answer kept h.beside;
  cause = tt;
  unread = λ is. kept-none o.old o.new kept;
}

-- the SDP couldn't be read
unread-follows : (query : Query) (i : Inputs) (e : Failure) → OnReadFault e (λ x. (x ≡ input.Sdp) × HasRisen i query.sdp) → FollowsQuery query i (Err e)
unread-follows query i (failure.ReadFault x) h = inr (inl (ap (λ y. Err (failure.ReadFault y)) h.0, h.1))
unread-follows query i failure.WriteFault h = absurd h
unread-follows query i failure.OutOfMemory h = inl refl

unread-cause : (streams : Bool) (query : Query) (i : Inputs) (o : Output) (e : Failure) → OnReadFault e (λ x. (x ≡ input.Sdp) × HasRisen i query.sdp)
    → FailsBy streams o e (QueryInputRose query i)
unread-cause true query i o (failure.ReadFault x) h = subst (QueryInputRose query i) (sym h.0) h.1
unread-cause true query i o failure.WriteFault h = absurd h
unread-cause true query i o failure.OutOfMemory h = tt
unread-cause false query i o (failure.ReadFault x) h = subst (QueryInputRose query i) (sym h.0) h.1
unread-cause false query i o failure.WriteFault h = absurd h
unread-cause false query i o failure.OutOfMemory h = tt

pub before-unread : (streams : Bool) (query : Query) (i : Inputs) (o : Output) (rest : Result Answer Failure) → Keeps o.old o.new → is_ok rest ≡ false
    → IfErr rest (λ e. OnReadFault e (λ x. (x ≡ input.Sdp) × HasRisen i query.sdp)) → BeforeEnd streams query i o rest
before-unread streams query i o (Ok r) kept failed cause = absurd (false≢true (sym failed))
before-unread streams query i o (Err e) kept failed cause = record {
  rests = rests-kept streams o (FollowsQuery query i) (BeginsQuery query i) (Err e) kept (begins-none query i) (unread-follows query i e cause);
  ends = tt;
  quiet = tt;
  cause = unread-cause streams query i o e cause;
  unread = λ is. kept-none o.old o.new kept;
}

-- an answer that was printed behind nothing
kept-appends : (old mid new : Option (List ℕ)) (text : List ℕ) → Keeps old mid → Appends mid new text → Appends old new text
kept-appends old mid new text kept h = Appends-trans old mid new [] text (kept-none old mid kept) h

leaves-kept : (old mid new : Option (List ℕ)) (before between now : ℕ) (rest : Result Answer Failure) (ends : Status) → before ≤ between → Keeps old mid
    → Leaves (record { old = mid; new = new; before = between; now = now }) rest ends
    → Leaves (record { old = old; new = new; before = before; now = now }) rest ends
leaves-kept old mid new before between now (Ok r) ends later kept (inl p) = inl (p.0, kept-appends old mid new r.text kept p.1)
leaves-kept old mid new before between now (Ok r) ends later kept (inr p) =
    inr (p.0, (omega (arith, later, p.1.0), (p.1.1.0, p.1.1.1, kept-appends old mid new (take p.1.1.0 r.text) kept p.1.1.2)))
leaves-kept old mid new before between now (Err e) ends later kept p = (p.0, Keeps-trans old mid new kept p.1)

whole-cause : (query : Query) (i : Inputs) (rest : Result Answer Failure) → IfOk rest (λ r. ends_of query r.status ≡ true)
    → IfErr rest (λ e. OnReadFault e (QueryInputRose query i)) → HasCause rest (QueryInputRose query i)
whole-cause query i (Ok r) ends cause = ends-answered query r.status ends
whole-cause query i (Err e) ends cause = cause

-- the end of a run
pub ran-by : (streams : Bool) (query : Query) (i : Inputs) (old mid new : Option (List ℕ)) (before between now : ℕ) (e : Output) (rest : Result Answer Failure)
    (ends : Status) → before ≤ between → between ≤ now
    → BeforeEnd streams query i (record { old = old; new = mid; before = before; now = between }) rest
    → Leaves (record { old = mid; new = new; before = between; now = now }) rest ends → TellsLine e ends → e.before ≤ e.now
    → RanAs streams query i (record { old = old; new = new; before = before; now = now }) e ends
ran-by false query i old mid new before between now e rest ends first second h p told later = record {
  outcome = rest;
  follows = h.rests.1;
  cause = whole-cause query i rest h.ends h.cause;
  printed = leaves-kept old mid new before between now rest ends first h.rests.0 p;
  told = told;
  later_out = omega (arith, first, second);
  later_err = later;
}
ran-by true query i old mid new before between now e rest ends first second h p told later =
    let r = printed-rest old mid new before between now (FollowsQuery query i) (BeginsQuery query i) (QueryInputRose query i) rest ends first second h.rests
    (answered rest h.ends) h.cause p in
    record {
      outcome = r.outcome;
      follows = r.follows;
      cause = r.cause;
      printed = r.printed;
      told = told;
      later_out = omega (arith, first, second);
      later_err = later;
    }
  where
    answered : (rest : Result Answer Failure) → IfOk rest (λ r. ends_of query r.status ≡ true) → IfOk rest (λ r. IsAnswered r.status)
    answered (Ok r) h = ends-answered query r.status h
    answered (Err e) h = tt

failed-ends : (query : Query) (e : Failure) → ends_of query (status_of e) || is_failure (status_of e) ≡ true
failed-ends query (failure.ReadFault x) = refl
failed-ends query failure.WriteFault = refl
failed-ends query failure.OutOfMemory = refl

-- the failures whose status is silent
failed-quiet : (streams : Bool) (query : Query) (i : Inputs) (old mid new : Option (List ℕ)) (before between : ℕ) (e : Failure)
    → BeforeEnd streams query i (record { old = old; new = mid; before = before; now = between }) (Err e) → Keeps mid new
    → is_silent_for streams (status_of e) ≡ true → Appends old new []
failed-quiet false query i old mid new before between e h kept q = kept-none old new (Keeps-trans old mid new h.rests.0 kept)
failed-quiet true query i old mid new before between (failure.ReadFault input.Sdp) h kept q =
    Appends-trans old mid new [] [] (h.unread refl) (kept-none mid new kept)
failed-quiet true query i old mid new before between e h kept q = absurd (false≢true q)

write-loud : (streams : Bool) → is_silent_for streams status.WriteFault ≡ true → ⊥
write-loud true q = false≢true q
write-loud false q = false≢true q

pub ends-by : (streams : Bool) (query : Query) (i : Inputs) (old mid new : Option (List ℕ)) (before between now : ℕ) (rest : Result Answer Failure)
    (ends : Status)
    → BeforeEnd streams query i (record { old = old; new = mid; before = before; now = between }) rest
    → Leaves (record { old = mid; new = new; before = between; now = now }) rest ends
    → EndsAs streams query (record { old = old; new = new; before = before; now = now }) ends
ends-by streams query i old mid new before between now (Ok r) ends h (inl p) =
    subst (EndsAs streams query (record { old = old; new = new; before = before; now = now })) (sym p.0) (record {
      status_is = or_left (ends_of query r.status) (is_failure r.status) h.ends;
      silent = λ q. subst (Appends old new) (h.quiet q).after (Appends-trans old mid new [] r.text (h.quiet q).before p.1);
    })
ends-by streams query i old mid new before between now (Ok r) ends h (inr p) =
    subst (EndsAs streams query (record { old = old; new = new; before = before; now = now })) (sym p.0)
    (record { status_is = refl; silent = λ q. absurd (write-loud streams q) })
ends-by streams query i old mid new before between now (Err e) ends h p =
    subst (EndsAs streams query (record { old = old; new = new; before = before; now = now })) (sym p.0) (record {
      status_is = failed-ends query e;
      silent = failed-quiet streams query i old mid new before between e h p.1;
    })
