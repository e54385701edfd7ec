-- The conditions between the steps that check violations.
use Rattle.std.specs.Prelude.{◌≡◌, ◌+◌, ℕ, ⊤, Bool, List, [], ◌∷◌, map, slice_index_or, All, Contains, IfErr, IfOk}
use Rattle.std.specs.Prelude.{Option, Result}
use Rattle.timing_base.specs.Shifts.{FlowOptions}
use Rattle.timing_base.specs.Captures.{Record, joined}
use Rattle.timing_base.specs.Jobs.{ReportJob}
use Rattle.timing_base.specs.Media.{Media}
use Rattle.timing_base.specs.declared.row.Unjudged.{Unjudged}
use Rattle.pcapng_reader.specs.Classic.{classic_texts}
use Rattle.timing_base.specs.declared.capture.FileNote.{FileNote}
use Rattle.timing_base.specs.declared.key.FlowKey.{FlowKey}
use Rattle.pcap_reader.specs.Records.{AreRecords}
use Rattle.interval_checker.specs.Asking.{IsAsked}
use Rattle.interval_checker.specs.Readings.{HasRead, HaveRead, asked_by, media_of, options_of}
use Rattle.interval_checker.specs.declared.asked.Asked.{Asked}
use Rattle.interval_checker.specs.declared.fault.CheckFault.{CheckFault}
use Rattle.interval_checker.specs.declared.fault.CheckFault.TheVariants as check_fault
use Rattle.interval_checker.specs.declared.reading.Reading.{Reading}
use Rattle.timing_report.specs.declared.json_report.reading.ReportProof.{ReportProof}
use Rattle.timing_report.specs.declared.status.Input.TheVariants as input
use Rattle.timing_steps.specs.Answers.{AreThere, CaptureRose, Inputs, OnReadFault}
use Rattle.timing_steps.specs.declared.failure.Failure.{Failure}
use Rattle.timing_steps.specs.declared.failure.Failure.TheVariants as failure
use Rattle.timing_top.specs.verify.Asked.{AreTexts, FindsOf, captures_of, media_for, needed}
use Rattle.timing_top.specs.verify.Findings.{Finds}
use Rattle.timing_top.specs.declared.verify.checked.Checked.{Checked}
use Rattle.timing_top.specs.declared.verify.read.FileRead.{FileRead}

-- the failure that a fault of reading captures is
abbrev pub failure_of : CheckFault → Failure
failure_of (check_fault.ReadFault source) = failure.ReadFault (input.Capture source)
failure_of check_fault.OutOfMemory = failure.OutOfMemory

-- the failure of reading one capture, under its number in the job
abbrev pub numbered : ℕ → Failure → Failure
numbered number (failure.ReadFault x) = failure.ReadFault (input.Capture number)
numbered number failure.WriteFault = failure.WriteFault
numbered number failure.OutOfMemory = failure.OutOfMemory

-- if the failure is a read fault, it names one of the captures with these names, by its number among them, from 0
abbrev pub FailedAmong : (before now : List ℕ → ℕ) → List (List ℕ) → Failure → Type 0
FailedAmong before now names e =
    OnReadFault e (λ i. (number : ℕ) × (i ≡ input.Capture number) × CaptureRose before now names number)

-- if the failure is a read fault, it names a capture of the job that is one of these names
abbrev pub FailedNeeded : (before now : List ℕ → ℕ) → ReportJob → List (List ℕ) → Failure → Type 0
FailedNeeded before now job names e = OnReadFault e (λ i. (number : ℕ) × (i ≡ input.Capture number)
    × CaptureRose before now job.captures number × Contains names (slice_index_or job.captures number []))

-- the outcome of reading these captures of a job. If it is `Ok`, none of them is lacking, and `Says` holds of its value
-- and the contents. If it is `Err`, memory ran out, or one of the captures couldn't be read
pub record Tells {A : Type 0} (i : Inputs) (job : ReportJob) (names : List (List ℕ))
    (Says : (List ℕ → List ℕ) → A → Type 0)
    (outcome : Result A Failure) : Type 0 where
  pub told : IfOk outcome (λ a. (text : List ℕ → List ℕ) → AreTexts (classic_texts i.texts) text names → Says text a)
  pub cause : IfErr outcome (FailedNeeded i.before i.now job names)
  pub there : IfOk outcome (λ _. AreThere i.lacks names)

-- the readings have read the captures with these contents, as one capture
abbrev pub ReadAs : List Reading → List (List ℕ) → Type 0
ReadAs readings texts = (files : List (List Record)) (notes : List FileNote) → AreRecords texts files notes
    → HaveRead readings (joined files)

-- the reading is of this media, with what the claim asks for, and has read the captures with these contents, as one
-- capture
pub record IsReadFor (m : Media) (options : FlowOptions) (texts : List (List ℕ)) (claim : ReportProof)
    (r : Reading) : Type 0 where
  pub media : media_of r ≡ m
  pub options_are : options_of r ≡ options
  pub asked : IsAsked (asked_by r) claim.run claim.proof
  pub read : (files : List (List Record)) (notes : List FileNote) → AreRecords texts files notes
      → HasRead r (joined files)

-- if the claim is on this flow, what it needs was asked for
abbrev pub Asks : Asked → (file media : ℕ) → ReportProof → Type 0
Asks asked file media claim = claim.key.file ≡ file → claim.key.media ≡ media → IsAsked asked claim.run claim.proof

-- the reading is of this media in this file, and everything that the claims on its flow need was asked for
pub record IsAskedAll (options : FlowOptions) (claims : List ReportProof) (file number : ℕ) (m : Media)
    (r : Reading) : Type 0 where
  pub media : media_of r ≡ m
  pub options_are : options_of r ≡ options
  pub asks : All (Asks (asked_by r) file number) claims

-- the readings are of these media, the first of which has this number
abbrev pub AreAsked : (options : FlowOptions) → List ReportProof → (file number : ℕ) → List Media → List Reading
    → Type 0
AreAsked options claims file number [] [] = ⊤
AreAsked options claims file number [] (r ∷ rs) = ⊥
AreAsked options claims file number (m ∷ ms) [] = ⊥
AreAsked options claims file number (m ∷ ms) (r ∷ rs) = IsAskedAll options claims file number m r
    × AreAsked options claims file (number + 1) ms rs

-- a flow of this file
abbrev pub key_at : ℕ → FlowKey
key_at file = record { file = file; media = 0 }

-- a file of a job was read for all claims, from captures with these contents
pub record Serves (job : ReportJob) (media : List Media) (claims : List ReportProof) (text : List ℕ → List ℕ)
    (read : FileRead) : Type 0 where
  pub readings : ReadAs read.readings.items (map text (captures_of job (key_at read.file)))
  pub asked : AreAsked job.options claims read.file 0 media read.readings.items

-- the file was read over a shelf with these contents that lacks these names
pub record IsServed (texts : List ℕ → Option (List ℕ)) (lacks : List ℕ → Type 0) (job : ReportJob) (media : List Media)
    (claims : List ReportProof)
    (read : FileRead) : Type 0 where
  pub there : AreThere lacks (captures_of job (key_at read.file))
  pub serves : (text : List ℕ → List ℕ) → AreTexts texts text (captures_of job (key_at read.file))
      → Serves job media claims text read

-- each of the files was read over such a shelf
abbrev pub AreServed : (List ℕ → Option (List ℕ)) → (List ℕ → Type 0) → ReportJob → List Media → List ReportProof
    → List FileRead → Type 0
AreServed texts lacks job media claims reads = All (IsServed texts lacks job media claims) reads

-- the finding on a violation of a flow of this media, over such a shelf
pub record IsFound (texts : List ℕ → Option (List ℕ)) (lacks : List ℕ → Type 0) (job : ReportJob) (m : Media)
    (claim : ReportProof)
    (finding : Result Bool Unjudged) : Type 0 where
  pub there : AreThere lacks (captures_of job claim.key)
  pub finds : (text : List ℕ → List ℕ) → AreTexts texts text (captures_of job claim.key)
      → Finds m claim job.options (map text (captures_of job claim.key)) finding

-- a violation was checked over a shelf with these contents that lacks these names
pub record IsChecked (texts : List ℕ → Option (List ℕ)) (lacks : List ℕ → Type 0) (job : ReportJob) (media : List Media)
    (checked : Checked) : Type 0 where
  pub there : AreThere lacks (needed job media checked.claim)
  pub finds : (text : List ℕ → List ℕ) → AreTexts texts text (needed job media checked.claim)
      → FindsOf (media_for job media checked.claim.key) job checked.claim text checked.finding
