-- The texts of `verify-report` define one answer: its report decides which captures are read.
use Rattle.std.proofs.Common.{◌≡◌, ◌⊎◌, ℕ, List, [], ◌∷◌, Option, Some, None, refl, ap, sym, ◌∙◌, subst, inl, inr}
use Rattle.std.specs.Prelude.{All, Result, Ok, Err, slice_index_or}
use Rattle.std.proofs.lemmas.List.Elements.{All-head, All-tail}
use Rattle.timing_base.specs.Jobs.{ReportJob}
use Rattle.timing_base.specs.Media.{Media}
use Rattle.pcapng_reader.specs.Classic.{classic}
use Rattle.timing_report.specs.json_report.Reading.{IsReport}
use Rattle.timing_report.specs.declared.json_report.reading.ReportProof.{ReportProof}
use Rattle.timing_report.specs.declared.status.Input.{Input}
use Rattle.timing_report.specs.declared.status.Input.TheVariants as input
use Rattle.timing_report.specs.declared.status.Status.TheVariants as status
use Rattle.timing_steps.specs.Answers.{Answer, AreThere, AreTold, HasRisen, Inputs, ReadsSession, silent}
use Rattle.timing_steps.specs.declared.failure.Failure.{Failure}
use Rattle.timing_steps.specs.Flows.{no_choice}
use Rattle.timing_steps.specs.Queries.{OnEarly}
use Rattle.timing_top.specs.verify.Asked.{AnswersClaims, AnswersSession, FollowsReport, HasReported, OnReport, ReadsReport, ReportInputRose, asked, needed}
use Rattle.timing_report.proofs.lemmas.json_report.Decided.{only-claims, report-decided}
use Rattle.timing_top.proofs.lemmas.verify.Answered.{needed-all, same-needed, same-reported, text_in, told-needed}
use Rattle.timing_top.proofs.lemmas.verify.Unique.{only-reported, some-reported}
use Rattle.timing_steps.proofs.Onces.{Caused, described-failed, not-given, ok-not-err, only-described, only-given, only-silent, only-yielded, same-err}
use Rattle.timing_steps.proofs.Onces.{same-some, some-described, some-yielded, yielded-failed}

-- what a text that may be a report leads to
some-on_report : (text : List ℕ) (Next : Answer → List ReportProof → Type 0) → ((claims : List ReportProof) → (answer : Answer) × Next answer claims)
    → (answer : Answer) × OnReport text (Ok answer) (Next answer)
some-on_report text Next h = decided (report-decided text)
  where
    decided : ((claims : List ReportProof) × IsReport text claims) ⊎ ((claims : List ReportProof) → ¬ IsReport text claims) → (answer : Answer)
        × OnReport text (Ok answer) (Next answer)
    decided (inl some) = let next = h some.0 in (next.0, inr (some.0, some.1, next.1))
    decided (inr none) = (silent status.ReportRefused, inl (none, (silent status.ReportRefused, refl, refl)))

only-on_report : (text : List ℕ) (Next : Answer → List ReportProof → Type 0) (a b : Answer)
    → ((claims : List ReportProof) → Next a claims → Next b claims → a ≡ b)
    → OnReport text (Ok a) (Next a) → OnReport text (Ok b) (Next b) → a ≡ b
only-on_report text Next a b once (inl h) (inl k) = only-given (λ answer. answer ≡ silent status.ReportRefused) a b (λ x y p q. only-silent x y _ p q) h.1 k.1
only-on_report text Next a b once (inl h) (inr k) = absurd (h.0 k.0 k.1)
only-on_report text Next a b once (inr h) (inl k) = absurd (k.0 h.0 h.1)
only-on_report text Next a b once (inr h) (inr k) = once h.0 h.2 (subst (Next b) (only-claims text k.0 h.0 k.1 h.1) k.2)

on_report-failed : (text : List ℕ) (Next : List ReportProof → Type 0) (e : Failure) (Rises : Input → Type 0)
    → ((claims : List ReportProof) → Next claims → Caused e Rises) → OnReport text (Err e) Next → Caused e Rises
on_report-failed text Next e Rises caused (inl h) = absurd (not-given (λ answer. answer ≡ silent status.ReportRefused) e h.1)
on_report-failed text Next e Rises caused (inr h) = caused h.0 h.2

-- a report that is read
some-read : (i : Inputs) (name report : List ℕ) (Next : Answer → List ReportProof → Type 0) → ¬ i.lacks name → i.texts name ≡ Some report
    → ((claims : List ReportProof) → (answer : Answer) × Next answer claims)
    → (answer : Answer) × ReadsReport i (Ok answer) name (Next answer)
some-read i name report Next there told h =
    let all = some-on_report report Next h in
    (all.0, inr (there, λ text t. subst (λ s. OnReport s (Ok all.0) (Next all.0)) (same-some report text (i.texts name) told t) all.1))

only-read : (i : Inputs) (name report : List ℕ) (Next : Answer → List ReportProof → Type 0) (a b : Answer) → i.texts name ≡ Some report
    → ((claims : List ReportProof) → Next a claims → Next b claims → a ≡ b)
    → ReadsReport i (Ok a) name (Next a) → ReadsReport i (Ok b) name (Next b) → a ≡ b
only-read i name report Next a b told once (inl h) k = absurd (ok-not-err a _ (Ok a) refl h.0)
only-read i name report Next a b told once (inr h) (inl k) = absurd (ok-not-err b _ (Ok b) refl k.0)
only-read i name report Next a b told once (inr h) (inr k) = only-on_report report Next a b once (h.1 report told) (k.1 report told)

read-failed : (i : Inputs) (name report : List ℕ) (Next : List ReportProof → Type 0) (e : Failure) (Rises : Input → Type 0) → i.texts name ≡ Some report
    → (HasRisen i name → Rises input.Report)
    → ((claims : List ReportProof) → Next claims → Caused e Rises) → ReadsReport i (Err e) name Next → Caused e Rises
read-failed i name report Next e Rises told rises caused (inl h) = inr (input.Report, same-err e _ (Err e) refl h.0, rises h.1)
read-failed i name report Next e Rises told rises caused (inr h) = on_report-failed report Next e Rises caused (h.1 report told)

-- an answer that media may settle
some-early : (settled : Option Answer) (Next : Answer → Type 0) → (answer : Answer) × Next answer
    → (answer : Answer) × OnEarly settled (Ok answer) (Next answer)
some-early (Some settled) Next h = (settled, (settled, refl, refl))
some-early None Next h = h

only-early : (settled : Option Answer) (Next : Answer → Type 0) (a b : Answer) → (Next a → Next b → a ≡ b)
    → OnEarly settled (Ok a) (Next a) → OnEarly settled (Ok b) (Next b) → a ≡ b
only-early (Some settled) Next a b once h k = only-given (λ answer. answer ≡ settled) a b (λ x y p q. p ∙ sym q) h k
only-early None Next a b once h k = once h k

early-failed : (settled : Option Answer) (Next : Type 0) (e : Failure) (Rises : Input → Type 0) → (Next → Caused e Rises) → OnEarly settled (Err e) Next
    → Caused e Rises
early-failed (Some settled) Next e Rises caused h = absurd (not-given (λ answer. answer ≡ settled) e h)
early-failed None Next e Rises caused h = caused h

-- the texts that the names are told, as classic captures
abbrev classic_in : Inputs → List ℕ → List ℕ
classic_in i name = classic (text_in i.texts name)

some-needed : (job : ReportJob) (i : Inputs) (media : List Media) (claims : List ReportProof) → AreThere i.lacks job.captures → (answer : Answer)
    × AnswersClaims job i (Ok answer) media claims
some-needed job i media claims there =
    let found = some-reported job media claims (classic_in i) in (
      found.0,
      inr (
        (λ k d within. needed-all (λ name. ¬ i.lacks name) job media (slice_index_or claims k d) there),
        λ text told. (found.0, refl, same-reported job media claims (classic_in i) (λ name. classic (text name)) found.0 (classics text told) found.1),
      ),
    )
  where
    classics : (text : List ℕ → List ℕ) → All (λ claim. All (λ name. i.texts name ≡ Some (text name)) (needed job media claim)) claims
        → All (λ claim. All (λ name. classic_in i name ≡ classic (text name)) (needed job media claim)) claims
    classics text told = λ k d within. λ l c among. ap classic (same-needed i.texts text job media claims told k d within l c among)

only-needed : (job : ReportJob) (i : Inputs) (media : List Media) (claims : List ReportProof) (told : List (List ℕ)) (a b : Answer)
    → AreTold i.texts job.captures told
    → AnswersClaims job i (Ok a) media claims → AnswersClaims job i (Ok b) media claims → a ≡ b
only-needed job i media claims told a b are (inl h) k = absurd (ok-not-err a _ (Ok a) refl h.1)
only-needed job i media claims told a b are (inr h) (inl k) = absurd (ok-not-err b _ (Ok b) refl k.1)
only-needed job i media claims told a b are (inr h) (inr k) =
    let texts = told-needed i.texts job media claims told are in
    only-given (HasReported job media claims (classic_in i)) a b (only-reported job media claims (classic_in i)) (h.1 (text_in i.texts) texts)
    (k.1 (text_in i.texts) texts)

needed-failed : (job : ReportJob) (i : Inputs) (media : List Media) (claims : List ReportProof) (told : List (List ℕ)) (e : Failure)
    → AreTold i.texts job.captures told
    → AnswersClaims job i (Err e) media claims → Caused e (ReportInputRose job i)
needed-failed job i media claims told e are (inl h) = inr (input.Capture h.0, same-err e _ (Err e) refl h.1, h.2.rose)
needed-failed job i media claims told e are (inr h) =
    absurd (not-given (HasReported job media claims (classic_in i)) e (h.1 (text_in i.texts) (told-needed i.texts job media claims told are)))

-- what follows for the report that was read
abbrev AfterReport : ReportJob → Inputs → Result Answer Failure → List Media → List ReportProof → Type 0
AfterReport job i outcome media claims = AnswersClaims job i outcome media (asked job.media claims)

pub some-reread : (job : ReportJob) (i : Inputs) (texts : List (List ℕ)) → AreThere i.lacks (job.sdp ∷ job.report ∷ job.captures)
    → AreTold i.texts (job.sdp ∷ job.report ∷ job.captures) texts
    → (answer : Answer) × FollowsReport job i (Ok answer)
some-reread job i [] there told = absurd told
some-reread job i (sdp ∷ []) there told = absurd told.1
some-reread job i (sdp ∷ report ∷ texts) there told =
    let later = All-tail (λ n. ¬ i.lacks n) job.sdp (job.report ∷ job.captures) there in
    some-yielded (λ answer. ReadsSession i (Ok answer) job.sdp (AnswersSession job i (Ok answer)))
    (some-described i job.sdp sdp (λ answer media. AnswersSession job i (Ok answer) media)
    (All-head (λ n. ¬ i.lacks n) job.sdp (job.report ∷ job.captures) there)
    told.0
    (λ media e. some-early (no_choice job.media media) (λ answer. ReadsReport i (Ok answer) job.report (AfterReport job i (Ok answer) media))
    (some-read i job.report report (λ answer claims. AfterReport job i (Ok answer) media claims)
    (All-head (λ n. ¬ i.lacks n) job.report job.captures later) told.1.0
    (λ claims. some-needed job i media (asked job.media claims) (All-tail (λ n. ¬ i.lacks n) job.report job.captures later)))))

pub only-reread : (job : ReportJob) (i : Inputs) (texts : List (List ℕ)) (a b : Answer) → AreTold i.texts (job.sdp ∷ job.report ∷ job.captures) texts
    → FollowsReport job i (Ok a) → FollowsReport job i (Ok b) → a ≡ b
only-reread job i [] a b told h k = absurd told
only-reread job i (sdp ∷ []) a b told h k = absurd told.1
only-reread job i (sdp ∷ report ∷ texts) a b told h k =
    only-yielded (λ answer. ReadsSession i (Ok answer) job.sdp (AnswersSession job i (Ok answer))) a b
    (λ p q. only-described i job.sdp sdp (λ answer media. AnswersSession job i (Ok answer) media) a b told.0
    (λ media x y. only-early (no_choice job.media media) (λ answer. ReadsReport i (Ok answer) job.report (AfterReport job i (Ok answer) media)) a b
    (λ v w. only-read i job.report report (λ answer claims. AfterReport job i (Ok answer) media claims) a b told.1.0
    (λ claims s t. only-needed job i media (asked job.media claims) texts a b told.1.1 s t) v w) x y) p q) h k

pub reread-failed : (job : ReportJob) (i : Inputs) (texts : List (List ℕ)) (e : Failure) → AreTold i.texts (job.sdp ∷ job.report ∷ job.captures) texts
    → FollowsReport job i (Err e) → Caused e (ReportInputRose job i)
reread-failed job i [] e told h = absurd told
reread-failed job i (sdp ∷ []) e told h = absurd told.1
reread-failed job i (sdp ∷ report ∷ texts) e told h =
    yielded-failed (ReadsSession i (Err e) job.sdp (AnswersSession job i (Err e))) e (ReportInputRose job i)
    (λ p. described-failed i job.sdp sdp (AnswersSession job i (Err e)) e (ReportInputRose job i) told.0 (λ r. r)
    (λ media x. early-failed (no_choice job.media media) (ReadsReport i (Err e) job.report (AfterReport job i (Err e) media)) e (ReportInputRose job i)
    (λ y. read-failed i job.report report (AfterReport job i (Err e) media) e (ReportInputRose job i) told.1.0 (λ r. r)
    (λ claims s. needed-failed job i media (asked job.media claims) texts e told.1.1 s) y) x) p) h
