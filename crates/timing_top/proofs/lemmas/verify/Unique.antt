-- Captures say one thing of a claim, and the texts of a job have one answer.
use Rattle.std.proofs.Common.{◌≡◌, ◌+◌, ◌≤◌, ◌<◌, ◌⊎◌, ℕ, zero, suc, Bool, true, false, List, [], ◌∷◌, length, Option, Some, None, refl, arith, ap, ◌∙◌, sym}
use Rattle.std.proofs.Common.{subst, inl, inr, if◌then◌else◌}
use Rattle.std.proofs.lemmas.Bool.{cases_lt}
use Rattle.std.proofs.lemmas.List.Elements.{All-cons, All-head, All-map, All-nil, All-tail}
use Rattle.std.specs.List.{list_all, list_any}
use Rattle.std.specs.Prelude.{All, Result, Ok, Err, map, slice_get}
use Rattle.timing_base.specs.Shifts.{FlowOptions}
use Rattle.timing_base.specs.Captures.{Record, joined}
use Rattle.timing_base.specs.Jobs.{ReportJob, VerifyJob}
use Rattle.timing_base.specs.Judged.{FlowVerdict, JudgedRun, RunOutcome, absent, refused, gap, in_one_run, in_runs, no_whole_frame, whole_frames, judged}
use Rattle.timing_base.specs.Media.{Media}
use Rattle.timing_base.specs.declared.fail.Broken.{Broken}
use Rattle.timing_base.specs.declared.fail.Broken.TheVariants.{Bucket, Over, Empty}
use Rattle.timing_base.specs.declared.fail.FailProof.{FailProof}
use Rattle.timing_base.specs.declared.media.Kind.{Kind}
use Rattle.timing_base.specs.declared.row.Unjudged.{Unjudged}
use Rattle.timing_base.specs.declared.row.Unjudged.TheVariants.{Absent, NoWholeFrame, Refused, Gap}
use Rattle.sender_params.specs.Keeps.{BreaksLimit, Confirms, arrived_by_read, held_at}
use Rattle.sender_params.specs.Limits.{c_max_of, gapped_of, vrx_full_of}
use Rattle.sender_params.specs.Ticks.{load_of}
use Rattle.pcap_reader.proofs.Captures.{only-records, some-records}
use Rattle.udp_rtp.specs.Flow.{flow}
use Rattle.interval_checker.specs.Checked.{Says, SaysAt, SaysJudged, SaysOutcome}
use Rattle.timing_report.specs.declared.json_report.reading.ReportProof.{ReportProof}
use Rattle.timing_report.specs.declared.status.Status.TheVariants as status
use Rattle.timing_steps.specs.Answers.{Answer}
use Rattle.timing_steps.specs.Flows.{OnMedia}
use Rattle.timing_steps.specs.Queries.{HasAnswer}
use Rattle.timing_steps.proofs.Capturing.{some-none}
use Rattle.timing_steps.proofs.Onces.{DefinesOnce, DefinesSome}
use Rattle.timing_top.specs.verify.Asked.{AreChecked, DefinesVerified, FindsOf, HasReported, captures_of, media_for, not_there, verify_query}
use Rattle.timing_top.specs.verify.Findings.{Finds}
use Rattle.timing_top.specs.verify.Verified.{is_confirmed, is_unjudged, reported, verified}
use Rattle.timing_top.specs.declared.verify.checked.Checked.{Checked}

-- numbers are equal or aren't, and one is below the other or isn't
eq-decided : (a b : ℕ) → (a ≡ b) ⊎ (a ≡ b → ⊥)
eq-decided a b = elim (cases_lt a b) as (λ _. (a ≡ b) ⊎ (a ≡ b → ⊥)) [
  | inl below ↦ inr (λ e. omega (arith, below, e))
  | inr most ↦ elim (cases_lt b a) as (λ _. (a ≡ b) ⊎ (a ≡ b → ⊥)) [
    | inl above ↦ inr (λ e. omega (arith, above, e))
    | inr least ↦ inl (omega (arith, most, least))
  ]
]

lt-decided : (a b : ℕ) → (a < b) ⊎ (a < b → ⊥)
lt-decided a b = elim (cases_lt a b) as (λ _. (a < b) ⊎ (a < b → ⊥)) [
  | inl below ↦ inl below
  | inr above ↦ inr (λ h. omega (arith, above, h))
]

le-decided : (a b : ℕ) → (a ≤ b) ⊎ (a ≤ b → ⊥)
le-decided a b = elim (cases_lt b a) as (λ _. (a ≤ b) ⊎ (a ≤ b → ⊥)) [
  | inl above ↦ inr (λ h. omega (arith, above, h))
  | inr most ↦ inl most
]

three-decided : (P Q R : Type 0) → P ⊎ (P → ⊥) → Q ⊎ (Q → ⊥) → R ⊎ (R → ⊥) → (P × Q × R) ⊎ (P × Q × R → ⊥)
three-decided P Q R (inr p) q r = inr (λ h. p h.0)
three-decided P Q R (inl p) (inr q) r = inr (λ h. q h.1)
three-decided P Q R (inl p) (inl q) (inr r) = inr (λ h. r h.2)
three-decided P Q R (inl p) (inl q) (inl r) = inl (p, q, r)

four-decided : (P Q R S : Type 0) → P ⊎ (P → ⊥) → Q ⊎ (Q → ⊥) → R ⊎ (R → ⊥) → S ⊎ (S → ⊥) → (P × Q × R × S) ⊎ (P × Q × R × S → ⊥)
four-decided P Q R S (inr p) q r s = inr (λ h. p h.0)
four-decided P Q R S (inl p) (inr q) r s = inr (λ h. q h.1)
four-decided P Q R S (inl p) (inl q) (inr r) s = inr (λ h. r h.2)
four-decided P Q R S (inl p) (inl q) (inl r) (inr s) = inr (λ h. s h.3)
four-decided P Q R S (inl p) (inl q) (inl r) (inl s) = inl (p, q, r, s)

breaks-decided : (m : Media) (n : ℕ) (stamps : List ℕ) (kind : Kind) (f : FailProof) (model : Broken) → BreaksLimit m n stamps kind f model
    ⊎ (BreaksLimit m n stamps kind f model → ⊥)
breaks-decided m n stamps kind f Bucket =
    three-decided _ _ _ (eq-decided f.limit (c_max_of m n kind)) (eq-decided f.count (load_of m n stamps f.from f.to)) (lt-decided f.limit f.count)
breaks-decided m n stamps kind f Over =
    four-decided _ _ _ _ (eq-decided f.limit (vrx_full_of m n kind)) (eq-decided f.from 0) (eq-decided f.count (held_at m n stamps (gapped_of kind) f.to))
    (lt-decided f.limit f.count)
breaks-decided m n stamps kind f Empty =
    four-decided _ _ _ _ (eq-decided f.limit (f.to + 1)) (eq-decided f.from f.to) (eq-decided f.count (arrived_by_read m n stamps kind f.to))
    (lt-decided f.count f.limit)

-- a fail is confirmed or isn't
confirms-decided : (m : Media) (n : ℕ) (stamps : List ℕ) (kind : Kind) (f : FailProof) → Confirms m n stamps kind f ⊎ (Confirms m n stamps kind f → ⊥)
confirms-decided m n stamps kind f = together (le-decided f.from f.to) (lt-decided f.to (length stamps)) (breaks-decided m n stamps kind f f.model)
  where
    together : (f.from ≤ f.to) ⊎ (f.from ≤ f.to → ⊥) → (f.to < length stamps) ⊎ (f.to < length stamps → ⊥)
        → BreaksLimit m n stamps kind f f.model ⊎ (BreaksLimit m n stamps kind f f.model → ⊥) → Confirms m n stamps kind f ⊎ (Confirms m n stamps kind f → ⊥)
    together (inr p) q r = inr (λ h. p h.ordered)
    together (inl p) (inr q) r = inr (λ h. q h.judged)
    together (inl p) (inl q) (inr r) = inr (λ h. r h.breaks)
    together (inl p) (inl q) (inl r) = inl (record { ordered = p; judged = q; breaks = r })

-- something is said of each run
some-judged : (m : Media) (kind : Kind) (f : FailProof) (j : JudgedRun) → Confirms m j.n j.stamps kind f ⊎ (Confirms m j.n j.stamps kind f → ⊥)
    → (finding : Result Bool Unjudged) × SaysJudged m kind f j finding
some-judged m kind f j (inl confirms) = (Ok true, confirms)
some-judged m kind f j (inr denies) = (Ok false, denies)

some-outcome : (m : Media) (kind : Kind) (f : FailProof) (outcome : RunOutcome) → (finding : Result Bool Unjudged) × SaysOutcome m kind f outcome finding
some-outcome m kind f (no_whole_frame head) = (Err (NoWholeFrame head), refl)
some-outcome m kind f (whole_frames j) = some-judged m kind f j (confirms-decided m j.n j.stamps kind f)

some-at : (m : Media) (kind : Kind) (f : FailProof) (outcomes : List RunOutcome) (run : ℕ) → (finding : Result Bool Unjudged)
    × SaysAt m kind f outcomes run finding
some-at m kind f [] run = (Ok false, refl)
some-at m kind f (outcome ∷ rest) zero = some-outcome m kind f outcome
some-at m kind f (outcome ∷ rest) (suc run) = some-at m kind f rest run

some-said : (m : Media) (kind : Kind) (f : FailProof) (run : ℕ) (v : FlowVerdict) → (finding : Result Bool Unjudged) × Says m kind f run v finding
some-said m kind f run absent = (Err Absent, refl)
some-said m kind f run (refused rec fault) = (Err (Refused rec fault), refl)
some-said m kind f run (gap rec expected got) = (Err (Gap rec expected got), refl)
some-said m kind f run (in_one_run outcome) = some-at m kind f (outcome ∷ []) run
some-said m kind f run (in_runs runs) = some-at m kind f (map (λ r. r.outcome) runs) run

-- and not two things
only-judged : (m : Media) (kind : Kind) (f : FailProof) (j : JudgedRun) (a b : Result Bool Unjudged) → SaysJudged m kind f j a → SaysJudged m kind f j b → a ≡ b
only-judged m kind f j (Ok true) (Ok true) h k = refl
only-judged m kind f j (Ok true) (Ok false) h k = absurd (k h)
only-judged m kind f j (Ok false) (Ok true) h k = absurd (h k)
only-judged m kind f j (Ok false) (Ok false) h k = refl
only-judged m kind f j (Ok true) (Err why) h k = absurd k
only-judged m kind f j (Ok false) (Err why) h k = absurd k
only-judged m kind f j (Err why) b h k = absurd h

only-outcome : (m : Media) (kind : Kind) (f : FailProof) (outcome : RunOutcome) (a b : Result Bool Unjudged) → SaysOutcome m kind f outcome a
    → SaysOutcome m kind f outcome b → a ≡ b
only-outcome m kind f (no_whole_frame head) a b h k = h ∙ sym k
only-outcome m kind f (whole_frames j) a b h k = only-judged m kind f j a b h k

only-at : (m : Media) (kind : Kind) (f : FailProof) (outcomes : List RunOutcome) (run : ℕ) (a b : Result Bool Unjudged) → SaysAt m kind f outcomes run a
    → SaysAt m kind f outcomes run b → a ≡ b
only-at m kind f [] run a b h k = h ∙ sym k
only-at m kind f (outcome ∷ rest) zero a b h k = only-outcome m kind f outcome a b h k
only-at m kind f (outcome ∷ rest) (suc run) a b h k = only-at m kind f rest run a b h k

only-said : (m : Media) (kind : Kind) (f : FailProof) (run : ℕ) (v : FlowVerdict) (a b : Result Bool Unjudged) → Says m kind f run v a → Says m kind f run v b
    → a ≡ b
only-said m kind f run absent a b h k = h ∙ sym k
only-said m kind f run (refused rec fault) a b h k = h ∙ sym k
only-said m kind f run (gap rec expected got) a b h k = h ∙ sym k
only-said m kind f run (in_one_run outcome) a b h k = only-at m kind f (outcome ∷ []) run a b h k
only-said m kind f run (in_runs runs) a b h k = only-at m kind f (map (λ r. r.outcome) runs) run a b h k

pub some-finding : (media : Media) (claim : ReportProof) (options : FlowOptions) (texts : List (List ℕ)) → (finding : Result Bool Unjudged)
    × Finds media claim options texts finding
some-finding media claim options texts =
    let all = some-records texts in
    let said = some-said media claim.kind claim.proof claim.run (judged (flow (joined all.0) media) media.pt options) in
    (said.0, record { files = all.0; notes = all.1; records = all.2; says = said.1 })

pub only-finding : (media : Media) (claim : ReportProof) (options : FlowOptions) (texts : List (List ℕ)) (a b : Result Bool Unjudged)
    → Finds media claim options texts a
    → Finds media claim options texts b → a ≡ b
only-finding media claim options texts a b h k =
    only-said media claim.kind claim.proof claim.run (judged (flow (joined k.files) media) media.pt options) a b
    (subst (λ (files : List (List Record)). Says media claim.kind claim.proof claim.run (judged (flow (joined files) media) media.pt options) a)
    (only-records texts h.files k.files h.notes k.notes h.records k.records).0 h.says)
    k.says

-- `verify`
pub once-verify : (job : VerifyJob) → DefinesOnce (verify_query job)
once-verify job media files notes a b h k = on (slice_get media job.media) h k
  where
    on : (found : Option Media) → OnMedia found (λ m. DefinesVerified job m files a) → OnMedia found (λ m. DefinesVerified job m files b) → a ≡ b
    on None h k = absurd h
    on (Some m) h k =
        h.answer_is ∙ ap verified (only-said m job.kind job.proof 0 (judged (flow (joined files) m) m.pt job.options) h.finding k.finding h.finds k.finds)
        ∙ sym k.answer_is

some-there : (job : VerifyJob) (found : Option Media) (files : List (List Record)) → not_there found ≡ None
    → (answer : Answer) × OnMedia found (λ m. DefinesVerified job m files answer)
some-there job None files h = absurd (some-none (verified (Ok false)) h)
some-there job (Some m) files h =
    let said = some-said m job.kind job.proof 0 (judged (flow (joined files) m) m.pt job.options) in
    (verified said.0, record { finding = said.0; finds = said.1; answer_is = refl })

pub some-verify : (job : VerifyJob) (texts : List (List ℕ)) → DefinesSome (verify_query job) texts
some-verify job texts media files notes are unsettled records = some-there job (slice_get media job.media) files unsettled

pub some-verified : (job : VerifyJob) (media : List Media) (texts : List (List ℕ)) → not_there (slice_get media job.media) ≡ None
    → (answer : Answer) × HasAnswer (verify_query job) media texts answer
some-verified job media texts unsettled =
    let all = some-records texts in
    let made = some-there job (slice_get media job.media) all.0 unsettled in
    (made.0, record { files = all.0; notes = all.1; records = all.2; defined = made.1 })

-- a fail of a report
some-of : (there : Option Media) (job : ReportJob) (claim : ReportProof) (text : List ℕ → List ℕ) → (finding : Result Bool Unjudged)
    × FindsOf there job claim text finding
some-of None job claim text = (Ok false, refl)
some-of (Some media) job claim text = some-finding media claim job.options (map text (captures_of job claim.key))

only-of : (there : Option Media) (job : ReportJob) (claim : ReportProof) (text : List ℕ → List ℕ) (a b : Result Bool Unjudged) → FindsOf there job claim text a
    → FindsOf there job claim text b → a ≡ b
only-of None job claim text a b h k = h ∙ sym k
only-of (Some media) job claim text a b h k = only-finding media claim job.options (map text (captures_of job claim.key)) a b h k

-- what is said of one that was checked
abbrev FindsChecked : ReportJob → List Media → (List ℕ → List ℕ) → Checked → Type 0
FindsChecked job media text c = FindsOf (media_for job media c.claim.key) job c.claim text c.finding

some-checked : (job : ReportJob) (media : List Media) (text : List ℕ → List ℕ) (claims : List ReportProof) → (checked : List Checked)
    × AreChecked job media text claims checked
some-checked job media text [] = ([], record { claims_are = refl; each = All-nil (FindsChecked job media text) })
some-checked job media text (claim ∷ claims) =
    let first = some-of (media_for job media claim.key) job claim text in
    let others = some-checked job media text claims in
    let item : Checked = record { claim = claim; finding = first.0 } in (
      item ∷ others.0,
      record {
        claims_are = ap (λ l. claim ∷ l) others.1.claims_are;
        each = All-cons (FindsChecked job media text) item others.0 first.1 others.1.each;
      },
    )

same-checked : (a b : Checked) → a.claim ≡ b.claim → a.finding ≡ b.finding → a ≡ b
same-checked a b claim finding = ap (λ c. record { claim = c; finding = a.finding }) claim ∙ ap (λ f. record { claim = b.claim; finding = f }) finding

only-checked : (job : ReportJob) (media : List Media) (text : List ℕ → List ℕ) (xs ys : List Checked) → map (λ c. c.claim) xs ≡ map (λ c. c.claim) ys
    → All (FindsChecked job media text) xs → All (FindsChecked job media text) ys → xs ≡ ys
only-checked job media text [] [] e h k = refl
only-checked job media text [] (y ∷ ys) e h k = cc
only-checked job media text (x ∷ xs) [] e h k = cc
only-checked job media text (x ∷ xs) (y ∷ ys) e h k =
    let first : x.claim ≡ y.claim = cc in
    let others : map (λ (c : Checked). c.claim) xs ≡ map (λ (c : Checked). c.claim) ys = cc in
    let found : x.finding ≡ y.finding =
    only-of (media_for job media y.claim.key) job y.claim text x.finding y.finding
    (subst (λ (c : ReportProof). FindsOf (media_for job media c.key) job c text x.finding) first (All-head (FindsChecked job media text) x xs h))
    (All-head (FindsChecked job media text) y ys k) in
    ap (λ c. c ∷ xs) (same-checked x y first found)
    ∙ ap (λ l. y ∷ l) (only-checked job media text xs ys others (All-tail (FindsChecked job media text) x xs h) (All-tail (FindsChecked job media text) y ys k))

-- `verify-report`
pub some-reported : (job : ReportJob) (media : List Media) (claims : List ReportProof) (text : List ℕ → List ℕ) → (answer : Answer)
    × HasReported job media claims text answer
some-reported job media claims text =
    let all = some-checked job media text claims in
    (reported all.0, record { checked = all.0; are = all.1; answer_is = refl })

pub only-reported : (job : ReportJob) (media : List Media) (claims : List ReportProof) (text : List ℕ → List ℕ) (a b : Answer)
    → HasReported job media claims text a → HasReported job media claims text b → a ≡ b
only-reported job media claims text a b h k =
    h.answer_is ∙ ap reported (only-checked job media text h.checked k.checked (h.are.claims_are ∙ sym k.are.claims_are) h.are.each k.are.each) ∙ sym
    k.answer_is

-- a claim that is confirmed
abbrev confirmed : ReportProof → Checked
confirmed claim = record { claim = claim; finding = Ok true }

claims-confirmed : (claims : List ReportProof) → map (λ (c : Checked). c.claim) (map confirmed claims) ≡ claims
claims-confirmed [] = refl
claims-confirmed (claim ∷ claims) = ap (λ l. claim ∷ l) (claims-confirmed claims)

none-unjudged : (claims : List ReportProof) → list_any (λ (c : Checked). is_unjudged c.finding) (map confirmed claims) ≡ false
none-unjudged [] = refl
none-unjudged (claim ∷ claims) = none-unjudged claims

all-confirmed : (claims : List ReportProof) → list_all (λ (c : Checked). is_confirmed c.finding) (map confirmed claims) ≡ true
all-confirmed [] = refl
all-confirmed (claim ∷ claims) = all-confirmed claims

-- where each fail is confirmed, each line says so
pub confirmed-lines : (job : ReportJob) (media : List Media) (claims : List ReportProof) (text : List ℕ → List ℕ) (answer : Answer)
    → All (λ claim. FindsOf (media_for job media claim.key) job claim text (Ok true)) claims → HasReported job media claims text answer
    → answer ≡ reported (map (λ claim. record { claim = claim; finding = Ok true }) claims)
confirmed-lines job media claims text answer each h =
    only-reported job media claims text answer (reported (map confirmed claims)) h (record {
      checked = map confirmed claims;
      are = record { claims_are = claims-confirmed claims; each = All-map (FindsChecked job media text) confirmed claims each };
      answer_is = refl;
    })

-- and the status is 0
pub confirmed-status : (job : ReportJob) (media : List Media) (claims : List ReportProof) (text : List ℕ → List ℕ) (answer : Answer)
    → All (λ claim. FindsOf (media_for job media claim.key) job claim text (Ok true)) claims → HasReported job media claims text answer
    → answer.status ≡ status.Pass
confirmed-status job media claims text answer each h =
    ap (λ a. a.status) (confirmed-lines job media claims text answer each h)
    ∙ ap (λ b. if b then status.NotAllJudged else (if list_all (λ (c : Checked). is_confirmed c.finding) (map confirmed claims) then status.Pass
    else status.Fail)) (none-unjudged claims)
    ∙ ap (λ b. if b then status.Pass else status.Fail) (all-confirmed claims)
