-- The captures that the fails of a report need, and what is found in them.
use Rattle.std.proofs.Common.{◌≡◌, ◌<◌, ◌+◌, ◌-◌, ℕ, true, false, List, [], ◌∷◌, length, take, drop, Option, Some, refl, arith, ap, ◌∙◌, sym, subst, inr}
use Rattle.std.proofs.Common.{if◌then◌else◌}
use Rattle.std.proofs.lemmas.List.{drop_more}
use Rattle.std.proofs.lemmas.List.Elements.{All-cons, All-head, All-map, All-nil, All-tail, All-weaker}
use Rattle.std.specs.Prelude.{All, IfOk, Result, Ok, Err, map, slice_index_or, slice_range}
use Rattle.std.specs.Option.{option_map}
use Rattle.timing_base.specs.Jobs.{ReportJob}
use Rattle.timing_base.specs.Media.{Media}
use Rattle.timing_base.specs.declared.key.FlowKey.{FlowKey}
use Rattle.pcapng_reader.specs.Classic.{classic, classic_texts}
use Rattle.timing_report.specs.declared.json_report.reading.ReportProof.{ReportProof}
use Rattle.timing_steps.specs.Answers.{Answer, AreThere, AreTold, Gives, Inputs, Yields}
use Rattle.timing_steps.specs.declared.failure.Failure.{Failure}
use Rattle.timing_top.specs.verify.Asked.{AreTexts, HasReported, ReadsNeeded, captures_of, needed}
use Rattle.timing_top.specs.verify.Found.{IsChecked}
use Rattle.timing_top.specs.verify.Verified.{reported}
use Rattle.timing_top.specs.declared.verify.checked.Checked.{Checked}

-- names that have these texts are told them
told-texts : (texts : List ℕ → Option (List ℕ)) (text : List ℕ → List ℕ) (names : List (List ℕ)) → AreTexts texts text names
    → AreTold texts names (map text names)
told-texts texts text [] h = tt
told-texts texts text (n ∷ ns) h =
    (All-head (λ name. texts name ≡ Some (text name)) n ns h, told-texts texts text ns (All-tail (λ name. texts name ≡ Some (text name)) n ns h))

-- one name of a list, as a list
pub one-name : (names : List (List ℕ)) (number : ℕ) → number < length names → slice_range names number (number + 1) ≡ slice_index_or names number [] ∷ []
one-name names number within =
    let one : (number + 1) - number ≡ 1 = omega arith in
    ap (λ k. take k (drop number names)) one ∙ ap (λ l. take 1 l) (drop_more names number [] within)

-- a job whose captures are apart, or joined
apart-captures : (job : ReportJob) (key : FlowKey) → job.joined ≡ false → captures_of job key ≡ slice_index_or job.captures key.file [] ∷ []
apart-captures job key e = ap (λ b. if b then job.captures else slice_index_or job.captures key.file [] ∷ []) e

joined-captures : (job : ReportJob) (key : FlowKey) → job.joined ≡ true → captures_of job key ≡ job.captures
joined-captures job key e = ap (λ b. if b then job.captures else slice_index_or job.captures key.file [] ∷ []) e

-- the names that were fetched are the captures of the flow
pub apart-names : (job : ReportJob) (key : FlowKey) → job.joined ≡ false → key.file < length job.captures → slice_range job.captures key.file (key.file + 1)
    ≡ captures_of job key
apart-names job key apart within = one-name job.captures key.file within ∙ sym (apart-captures job key apart)

pub joined-names : (job : ReportJob) (key : FlowKey) → job.joined ≡ true → job.captures ≡ captures_of job key
joined-names job key joined = sym (joined-captures job key joined)

-- what is said of the texts of those names is said of the captures
pub told-captures : {A : Type 0} (texts : List ℕ → Option (List ℕ)) (P : A → List (List ℕ) → Type 0) (names captures : List (List ℕ)) (found : Result A Failure)
    → names ≡ captures → IfOk found (λ a. (read : List (List ℕ)) → AreTold texts names read → P a read)
    → IfOk found (λ a. (text : List ℕ → List ℕ) → AreTexts texts text captures → P a (map text captures))
told-captures texts P names captures (Ok a) e h = λ text told.
    h (map text captures) (subst (λ (l : List (List ℕ)). AreTold texts l (map text captures)) (sym e) (told-texts texts text captures told))
told-captures texts P names captures (Err failed) e h = tt

-- of all claims, as of all that were checked
pub unmapped : (P : ReportProof → Type 0) (checked : List Checked) → All P (map (λ c. c.claim) checked) → All (λ (c : Checked). P c.claim) checked
unmapped P [] h = All-nil (λ (c : Checked). P c.claim)
unmapped P (c ∷ cs) h = All-cons (λ (x : Checked). P x.claim) c cs (All-head P c.claim (map (λ x. x.claim) cs) h)
    (unmapped P cs (All-tail P c.claim (map (λ x. x.claim) cs) h))

-- texts as classic captures
texts-classic : (texts : List ℕ → Option (List ℕ)) (text : List ℕ → List ℕ) (names : List (List ℕ)) → AreTexts texts text names
    → AreTexts (classic_texts texts) (λ name. classic (text name)) names
texts-classic texts text names h = All-weaker (λ name. texts name ≡ Some (text name)) (λ name. classic_texts texts name ≡ Some (classic (text name)))
    (λ n e. ap (option_map classic) e) names h

-- the answer on what was checked over a shelf of classic captures
pub follows-checked : (i : Inputs) (job : ReportJob) (media : List Media) (claims : List ReportProof) (checked : List Checked) (answer : Answer)
    → map (λ c. c.claim) checked ≡ claims
    → All (IsChecked (classic_texts i.texts) i.lacks job media) checked → answer ≡ reported checked
    → Yields (Ok answer) (ReadsNeeded i (Ok answer) job media claims (λ text. Gives (Ok answer) (HasReported job media claims text)))
follows-checked i job media claims checked answer told all is = inr (inr (
  subst (All (λ claim. AreThere i.lacks (needed job media claim))) told
      (All-map (λ claim. AreThere i.lacks (needed job media claim)) (λ (c : Checked). c.claim) checked (λ k d within. (all k d within).there)),
  λ text texts.
      let each = unmapped (λ claim. AreTexts i.texts text (needed job media claim)) checked
      (subst (All (λ claim. AreTexts i.texts text (needed job media claim))) (sym told) texts) in (
        answer,
        refl,
        record {
          checked = checked;
          are = record {
            claims_are = told;
            each = λ k d within. (all k d within).finds (λ name. classic (text name))
                (texts-classic i.texts text _ (each k d within));
          };
          answer_is = is;
        },
      ),
))
