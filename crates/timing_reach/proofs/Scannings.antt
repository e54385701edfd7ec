-- What follows for `scan` from what was found in its capture, and that a text has one answer.
use Rattle.std.specs.Prelude.{IfErr, IfOk, Result, Ok, Err}
use Rattle.std.proofs.Common.{◌≡◌, ◌≤◌, ◌^◌, ◌==◌, ◌||◌, if◌then◌else◌, ℕ, Bool, true, false, List, [], Option, Some, refl, arith, ap, ◌∙◌, sym, subst, inl}
use Rattle.std.proofs.Common.{inr}
use Rattle.std.specs.Option.{option_map}
use Rattle.timing_base.specs.Captures.{Record}
use Rattle.timing_base.specs.Jobs.{ScanJob}
use Rattle.timing_base.specs.declared.capture.FileNote.{FileNote}
use Rattle.timing_base.specs.declared.job.ScanForm.{ScanForm}
use Rattle.timing_base.specs.declared.job.ScanForm.TheVariants.{Draft, Json, Lines}
use Rattle.capture_scan.specs.Scans.{IsFound}
use Rattle.capture_scan.specs.Stands.{StandsFor, Takes}
use Rattle.capture_scan.specs.declared.scan.Scan.{Scan}
use Rattle.std.proofs.lemmas.Bool.{false≢true}
use Rattle.pcap_reader.specs.Header.{header}
use Rattle.pcap_reader.specs.Records.{Records}
use Rattle.pcap_reader.specs.declared.records.Taken.{Taken}
use Rattle.pcap_reader.proofs.Lists.{only_by, some_by}
use Rattle.pcapng_reader.specs.Classic.{classic, classic_texts}
use Rattle.capture_scan.specs.report.Contents.{Contents, contents, contents_of}
use Rattle.capture_scan.proofs.lemmas.report.Founds.{found-contents}
use Rattle.timing_report.specs.Outcomes.{is_refused}
use Rattle.timing_report.specs.declared.status.Status.{Status}
use Rattle.timing_report.specs.declared.status.Status.TheVariants as status
use Rattle.timing_report.specs.declared.status.Input.TheVariants as input
use Rattle.timing_outside.specs.Causes.{Rose}
use Rattle.timing_steps.specs.Answers.{Answer, Gives, Inputs, OnReadFault, Yields}
use Rattle.timing_steps.specs.Ends.{HasStatus}
use Rattle.timing_steps.specs.Ran.{HasCause, IsAnswered}
use Rattle.timing_steps.specs.Taken.{TakesText}
use Rattle.timing_steps.specs.declared.failure.Failure.{Failure}
use Rattle.timing_steps.specs.declared.failure.Failure.TheVariants as failure
use Rattle.timing_steps.proofs.Seeing.{rose-within}
use Rattle.timing_reach.specs.Asked.{ReadsCapture}
use Rattle.timing_reach.specs.Scanned.{HasScan, ScanInputRose, scan_ends, scan_status, scanned}
use Rattle.timing_reach.specs.scan.Scanning.{IsScannedIn}
use Rattle.timing_reach.specs.declared.scan.Scanned.{Scanned}
use Rattle.timing_reach.proofs.Takings.{fed-alone}

-- the records of a capture were taken by a scan that had none
pub scanned-in : (text : List ℕ) (old new : Scan) (read : Taken) (s : Scanned) → StandsFor old [] → TakesText Takes text 0 old new read
    → ((records : List Record) → StandsFor new records → IsFound records s.found) → s.note ≡ read.note → IsScannedIn text s
scanned-in text old new read s none t finds note =
    let found : IsFound t.items s.found = finds t.items (fed-alone Takes text old new read t [] none) in
    record { items = t.items; records = subst (λ n. Records text (2 ^ 40) t.items n) (sym note) t.records; found_is = found }

-- the answer on what was found
pub has-scan : (job : ScanJob) (text : List ℕ) (s : Scanned) (answer : Answer) → IsScannedIn text s
    → answer ≡ scanned job.form job.capture s.note (contents_of s.found) → HasScan job text answer
has-scan job text s answer h e = record {
  items = h.items;
  note = s.note;
  records = h.records;
  answer_is = e ∙ ap (scanned job.form job.capture s.note) (found-contents h.items s.found h.found_is);
}

-- each answer has one of the two statuses
status-ends : (note : FileNote) (n : ℕ) (text : List ℕ) → HasStatus scan_ends (record { text = text; status = scan_status note n })
status-ends note n text = go ((n == 0) || is_refused note)
  where
    go : (b : Bool) → HasStatus scan_ends (record { text = text; status = if b then status.NotAllJudged else status.Pass })
    go true = (refl, tt)
    go false = (refl, tt)

scanned-ends : (form : ScanForm) (name : List ℕ) (note : FileNote) (c : Contents) → HasStatus scan_ends (scanned form name note c)
scanned-ends Lines name note c = status-ends note _ _
scanned-ends Json name note c = status-ends note _ _
scanned-ends Draft name note c = status-ends note _ _

pub scan-ends : (form : ScanForm) (name : List ℕ) (note : FileNote) (c : Contents) (answer : Answer) → answer ≡ scanned form name note c
    → HasStatus scan_ends answer
scan-ends form name note c answer is = subst (HasStatus scan_ends) (sym is) (scanned-ends form name note c)

-- none of them is that of a failure
scan-status : (s : Status) → scan_ends s ≡ true → IsAnswered s
scan-status status.Pass h = tt
scan-status status.Fail h = tt
scan-status status.Usage h = tt
scan-status (status.SdpRefused fault) h = tt
scan-status status.NotAllJudged h = tt
scan-status (status.ReadFault input) h = absurd (false≢true h)
scan-status status.WriteFault h = absurd (false≢true h)
scan-status status.OutOfMemory h = absurd (false≢true h)
scan-status status.ReportRefused h = tt

-- the capture is the one input that couldn't be read
pub scan-cause : (i : Inputs) (job : ScanJob) (outcome : Result Answer Failure) → IfOk outcome (HasStatus scan_ends)
    → IfErr outcome (λ e. OnReadFault e (λ x. (x ≡ input.Capture 0) × Rose (i.before job.capture) (i.now job.capture))) → HasCause outcome (ScanInputRose job i)
scan-cause i job (Ok answer) answers cause = scan-status answer.status answers.0
scan-cause i job (Err (failure.ReadFault x)) answers cause = subst (ScanInputRose job i) (sym cause.0) (refl, cause.1)
scan-cause i job (Err failure.WriteFault) answers cause = cause
scan-cause i job (Err failure.OutOfMemory) answers cause = tt

-- a capture that was read, or couldn't be
reads-capture : (i : Inputs) (outcome : Result Answer Failure) (name : List ℕ) (next : List ℕ → Answer → Type 0)
    → IfOk outcome (λ answer. (text : List ℕ) → classic_texts i.texts name ≡ Some text → next text answer) → IfOk outcome (λ _. ¬ i.lacks name)
    → IfErr outcome (λ e. OnReadFault e (λ x. (x ≡ input.Capture 0) × Rose (i.before name) (i.now name)))
    → Yields outcome (ReadsCapture i outcome name (λ text. Gives outcome (next text)))
reads-capture i (Ok answer) name next told there cause = inr (inr (there, λ text t. (answer, refl, told (classic text) (ap (option_map classic) t))))
reads-capture i (Err (failure.ReadFault x)) name next told there cause = inr (inl (ap (λ y. Err (failure.ReadFault y)) cause.0, cause.1))
reads-capture i (Err failure.WriteFault) name next told there cause = absurd cause
reads-capture i (Err failure.OutOfMemory) name next told there cause = inl refl

-- the capture's count rose in a part of the run
cause-after : (outcome : Result Answer Failure) (a b c : ℕ) → a ≤ b → IfErr outcome (λ e. OnReadFault e (λ x. (x ≡ input.Capture 0) × Rose b c))
    → IfErr outcome (λ e. OnReadFault e (λ x. (x ≡ input.Capture 0) × Rose a c))
cause-after (Ok answer) a b c h cause = tt
cause-after (Err (failure.ReadFault x)) a b c h cause = (cause.0, rose-within a b c c h (omega arith) cause.1)
cause-after (Err failure.WriteFault) a b c h cause = cause
cause-after (Err failure.OutOfMemory) a b c h cause = tt

-- the capture was read and then told of, in two parts of the run
pub reads-twice : (i : Inputs) (mid : List ℕ → Option (List ℕ)) (between : List ℕ → ℕ) (outcome : Result Answer Failure) (name : List ℕ)
    (Known : List ℕ → Type 0) (next : List ℕ → Answer → Type 0)
    → ((n : List ℕ) → mid n ≡ i.texts n) → ((n : List ℕ) → i.before n ≤ between n) → ((text : List ℕ) → classic_texts i.texts name ≡ Some text → Known text)
    → ¬ i.lacks name
    → IfOk outcome (λ answer. (text : List ℕ) → classic_texts mid name ≡ Some text → Known text → next text answer)
    → IfErr outcome (λ e. OnReadFault e (λ x. (x ≡ input.Capture 0) × Rose (between name) (i.now name)))
    → Yields outcome (ReadsCapture i outcome name (λ text. Gives outcome (next text)))
reads-twice i mid between outcome name Known next texts earlier known there told cause =
    reads-capture i outcome name next (on-answer outcome told) (there-too outcome)
    (cause-after outcome (i.before name) (between name) (i.now name) (earlier name) cause)
  where
    on-answer : (outcome : Result Answer Failure) → IfOk outcome (λ answer. (text : List ℕ) → classic_texts mid name ≡ Some text → Known text
        → next text answer)
        → IfOk outcome (λ answer. (text : List ℕ) → classic_texts i.texts name ≡ Some text → next text answer)
    on-answer (Ok answer) h = λ text t. h text (ap (option_map classic) (texts name) ∙ t) (known text t)
    on-answer (Err e) h = tt

    there-too : (outcome : Result Answer Failure) → IfOk outcome (λ _. ¬ i.lacks name)
    there-too (Ok answer) = there
    there-too (Err e) = tt

-- a text has one answer
pub some-scan : (job : ScanJob) (text : List ℕ) → (answer : Answer) × HasScan job text answer
some-scan job text =
    let all = some_by (header text) (2 ^ 40) text in
    (scanned job.form job.capture all.1 (contents all.0), record { items = all.0; note = all.1; records = all.2; answer_is = refl })

pub once-scan : (job : ScanJob) (text : List ℕ) (a b : Answer) → HasScan job text a → HasScan job text b → a ≡ b
once-scan job text a b h k =
    let same = only_by (header text) (2 ^ 40) text h.items k.items h.note k.note h.records k.records in
    h.answer_is ∙ ap (λ items. scanned job.form job.capture h.note (contents items)) same.0
    ∙ ap (λ note. scanned job.form job.capture note (contents k.items)) same.1 ∙ sym k.answer_is
