-- What the checker says of sources, as what is found in the captures that they were fetched from.
use Rattle.std.proofs.Common.{◌≡◌, ◌≤◌, ◌<◌, ℕ, zero, suc, Bool, List, [], ◌∷◌, Option, refl, arith, ◌∙◌, sym, subst}
use Rattle.std.proofs.lemmas.List.Elements.{All-head, All-tail, All-weaker}
use Rattle.std.specs.Prelude.{All, Result, Err, Some, None, slice_get}
use Rattle.timing_base.specs.Shifts.{FlowOptions}
use Rattle.timing_base.specs.Captures.{Record, joined}
use Rattle.timing_base.specs.Judged.{judged}
use Rattle.timing_base.specs.Media.{Media}
use Rattle.timing_base.specs.declared.row.Unjudged.{Unjudged}
use Rattle.timing_outside.specs.Causes.{Rose}
use Rattle.pcap_reader.proofs.Captures.{some-records}
use Rattle.udp_rtp.specs.Flow.{flow}
use Rattle.interval_checker.specs.Asking.{IsAsked}
use Rattle.interval_checker.specs.Checked.{IfReadFault, Says}
use Rattle.interval_checker.specs.Readings.{AreSame, HasRead, asked_by, media_of, options_of}
use Rattle.interval_checker.specs.Sources.{AreBack, RoseAt, TellTexts}
use Rattle.interval_checker.specs.declared.fault.CheckFault.{CheckFault}
use Rattle.interval_checker.specs.declared.fault.CheckFault.TheVariants as check_fault
use Rattle.interval_checker.specs.declared.reading.Reading.{Reading}
use Rattle.interval_checker.proofs.Asks.{asked-no_less}
use Rattle.timing_report.specs.declared.json_report.reading.ReportProof.{ReportProof}
use Rattle.timing_steps.specs.Answers.{AreTold, CaptureRose}
use Rattle.timing_steps.specs.Fetched.{AreFetched}
use Rattle.timing_steps.specs.declared.failure.Failure.{Failure}
use Rattle.timing_top.specs.verify.Findings.{Finds}
use Rattle.timing_top.specs.verify.Found.{FailedAmong, IsReadFor, ReadAs, failure_of}

-- fetched sources tell what their names tell
pub tell-texts : {S : Type 0} (name : S → List ℕ) (left : S → Option (List ℕ)) (faults : S → ℕ) (texts : List ℕ → Option (List ℕ)) (names : List (List ℕ))
    (sources : List S) (read : List (List ℕ))
    → AreFetched name left faults texts names sources → AreTold texts names read → TellTexts left sources read
tell-texts name left faults texts [] [] [] f t = tt
tell-texts name left faults texts [] [] (r ∷ rs) f t = absurd t
tell-texts name left faults texts [] (s ∷ ss) read f t = absurd f
tell-texts name left faults texts (n ∷ ns) [] read f t = absurd f
tell-texts name left faults texts (n ∷ ns) (s ∷ ss) [] f t = absurd t
tell-texts name left faults texts (n ∷ ns) (s ∷ ss) (r ∷ rs) f t = (f.1 ∙ t.0, tell-texts name left faults texts ns ss rs f.3 t.1)

-- what a reading of texts answers is what is found in them
pub finds-answer : (m : Media) (claim : ReportProof) (options : FlowOptions) (texts : List (List ℕ)) (r : Reading) (finding : Result Bool Unjudged)
    → IsReadFor m options texts claim r
    → ((items : List Record) → HasRead r items → IsAsked (asked_by r) claim.run claim.proof
    → Says (media_of r) claim.kind claim.proof claim.run (judged (flow items (media_of r)) (media_of r).pt (options_of r)) finding)
    → Finds m claim options texts finding
finds-answer m claim options texts r finding is answers =
    let all = some-records texts in
    let says = answers (joined all.0) (is.read all.0 all.1 all.2) is.asked in
    record {
      files = all.0;
      notes = all.1;
      records = all.2;
      says = subst (λ t. Says m claim.kind claim.proof claim.run (judged (flow (joined all.0) m) m.pt t) finding) is.options_are
          (subst (λ (x : Media). Says x claim.kind claim.proof claim.run (judged (flow (joined all.0) x) x.pt (options_of r)) finding) is.media says);
    }

-- of two readings of one place
pub same-reading : (o : Option Reading) (a b : Reading) → o ≡ Some a → o ≡ Some b → a ≡ b
same-reading o a b e f = cc

pub no-reading : (o : Option Reading) (r : Reading) → o ≡ None → o ≡ Some r → ⊥
no-reading o r e f = cc

-- a reading that was made with a claim's needs, and was read
pub one-read : (m : Media) (claim : ReportProof) (options : FlowOptions) (texts : List (List ℕ)) (first : Reading) (rs : List Reading) (finding : Result Bool
    Unjudged)
    → media_of first ≡ m → options_of first ≡ options → IsAsked (asked_by first) claim.run claim.proof
    → AreSame (first ∷ []) rs → ReadAs rs texts
    → ((x : Media) (t : FlowOptions) (l : List (List ℕ)) (r : Reading) → slice_get rs 0 ≡ Some r → IsReadFor x t l claim r → Finds x claim t l finding)
    → Finds m claim options texts finding
one-read m claim options texts first [] finding media late asked same read finds = absurd same
one-read m claim options texts first (r ∷ rs) finding media late asked same read finds =
    finds m options texts r refl record {
      media = same.0.media ∙ media;
      options_are = same.0.options ∙ late;
      asked = asked-no_less (asked_by first) (asked_by r) claim.run claim.proof same.0.asked asked;
      read = λ files notes records. (read files notes records).0;
    }

-- a source whose count rose was fresh, and so its capture's count rose as it went back
capture-rose : {S : Type 0} (name : S → List ℕ) (left : S → Option (List ℕ)) (faults : S → ℕ) (texts : List ℕ → Option (List ℕ)) (names : List (List ℕ))
    (old new : List S) (number : ℕ) (before now : List ℕ → ℕ)
    → AreFetched name left faults texts names old → AreBack name faults old new → RoseAt faults old new number
    → All (λ s. 0 < faults s → Rose (before (name s)) (now (name s))) new → CaptureRose before now names number
capture-rose name left faults texts [] [] [] number before now f b r raised = absurd r
capture-rose name left faults texts [] [] (m ∷ ms) number before now f b r raised = absurd b
capture-rose name left faults texts [] (o ∷ os) new number before now f b r raised = absurd f
capture-rose name left faults texts (n ∷ ns) [] new number before now f b r raised = absurd f
capture-rose name left faults texts (n ∷ ns) (o ∷ os) [] number before now f b r raised = absurd b
capture-rose name left faults texts (n ∷ ns) (o ∷ os) (m ∷ ms) zero before now f b r raised = record {
  within = omega arith;
  rose = subst (λ x. Rose (before x) (now x)) (b.0 ∙ f.0)
      (All-head (λ s. 0 < faults s → Rose (before (name s)) (now (name s))) m ms raised (some-fault (faults o) (faults m) f.2 r));
}
  where
    some-fault : (old new : ℕ) → old ≡ 0 → Rose old new → 0 < new
    some-fault old new e r = omega (arith, e, r)
capture-rose name left faults texts (n ∷ ns) (o ∷ os) (m ∷ ms) (suc number) before now f b r raised =
    let later = capture-rose name left faults texts ns os ms number before now f.3 b.2 r
    (All-tail (λ s. 0 < faults s → Rose (before (name s)) (now (name s))) m ms raised) in
    record { within = omega (arith, later.within); rose = later.rose }

-- the capture that is named couldn't be read
pub read-cause : {S A : Type 0} (name : S → List ℕ) (left : S → Option (List ℕ)) (faults : S → ℕ) (texts : List ℕ → Option (List ℕ))
    (names : List (List ℕ)) (old new : List S) (before mid now : List ℕ → ℕ)
    (said : Result A CheckFault) (fault : CheckFault) (e : Failure) → said ≡ Err fault → e ≡ failure_of fault → ((n : List ℕ) → before n ≤ mid n)
    → AreFetched name left faults texts names old → AreBack name faults old new → IfReadFault said (RoseAt faults old new)
    → All (λ s. 0 < faults s → Rose (mid (name s)) (now (name s))) new → FailedAmong before now names e
read-cause name left faults texts names old new before mid now said fault e is named earlier f b r raised =
    subst (FailedAmong before now names) (sym named) (by-fault fault (subst (λ (s : Result _ CheckFault). IfReadFault s (RoseAt faults old new)) is r))
  where
    rose-earlier : (a b c : ℕ) → a ≤ b → Rose b c → Rose a c
    rose-earlier a b c h r = omega (arith, h, r)

    by-fault : (fault : CheckFault) → IfReadFault (let s : Result ℕ CheckFault = Err fault in s) (RoseAt faults old new)
        → FailedAmong before now names (failure_of fault)
    by-fault (check_fault.ReadFault source) r = (
      source,
      refl,
      capture-rose name left faults texts names old new source before now f b r
          (All-weaker (λ s. 0 < faults s → Rose (mid (name s)) (now (name s))) (λ s. 0 < faults s → Rose (before (name s)) (now (name s)))
          (λ s h failed. rose-earlier (before (name s)) (mid (name s)) (now (name s)) (earlier (name s)) (h failed)) new raised),
    )
    by-fault check_fault.OutOfMemory r = tt
