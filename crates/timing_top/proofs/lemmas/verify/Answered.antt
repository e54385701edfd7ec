-- What is found of the fails of a report depends only on the texts of the captures that they need.
use Rattle.std.proofs.Common.{◌≡◌, ◌<◌, ℕ, Bool, true, false, cond, nat_lt, ltb-true, List, [], ◌∷◌, length, Option, Some, None, refl, sym, subst, ap, ◌∙◌}
use Rattle.std.specs.Prelude.{All, Result, map, slice_get, slice_index_or}
use Rattle.std.proofs.lemmas.List.Elements.{All-cons, All-get_or, All-head, All-nil, All-tail, All-weaker}
use Rattle.timing_base.specs.Jobs.{ReportJob}
use Rattle.timing_base.specs.Media.{Media}
use Rattle.timing_base.specs.declared.row.Unjudged.{Unjudged}
use Rattle.timing_report.specs.declared.json_report.reading.ReportProof.{ReportProof}
use Rattle.timing_steps.specs.Answers.{Answer, AreTold}
use Rattle.timing_top.specs.verify.Asked.{AreTexts, FindsOf, HasReported, captures_for, captures_of, file_count, media_for, needed}
use Rattle.timing_top.specs.verify.Findings.{Finds}
use Rattle.timing_top.proofs.lemmas.verify.Needing.{unmapped}

-- what is so of all captures of a job is so of those that are needed for a fail
pub needed-all : (P : List ℕ → Type 0) (job : ReportJob) (media : List Media) (claim : ReportProof) → All P job.captures → All P (needed job media claim)
needed-all P job media claim all = within (nat_lt claim.key.file (file_count job)) refl
  where
    joined-or : (joined : Bool) → claim.key.file < cond joined 1 (length job.captures)
        → All P (cond joined job.captures (slice_index_or job.captures claim.key.file [] ∷ []))
    joined-or true within = all
    joined-or false within = All-cons P (slice_index_or job.captures claim.key.file []) [] (All-get_or P job.captures claim.key.file [] within all) (All-nil P)

    there : (m : Option Media) → claim.key.file < file_count job → All P (captures_for m job claim.key)
    there None within = All-nil P
    there (Some m) within = joined-or job.joined within

    within : (b : Bool) → nat_lt claim.key.file (file_count job) ≡ b → All P (captures_for (cond b (slice_get media claim.key.media) None) job claim.key)
    within true e = there (slice_get media claim.key.media) (ltb-true claim.key.file (file_count job) e)
    within false e = All-nil P

-- the text that a name is told, or else nothing
abbrev text_or : Option (List ℕ) → List ℕ
text_or None = []
text_or (Some text) = text

abbrev pub text_in : (List ℕ → Option (List ℕ)) → List ℕ → List ℕ
text_in texts name = text_or (texts name)

-- names that are told have the texts that they are told
told-names : (texts : List ℕ → Option (List ℕ)) (names told : List (List ℕ)) → AreTold texts names told → AreTexts texts (text_in texts) names
told-names texts [] told h = All-nil (λ name. texts name ≡ Some (text_in texts name))
told-names texts (n ∷ ns) [] h = absurd h
told-names texts (n ∷ ns) (t ∷ ts) h =
    All-cons (λ name. texts name ≡ Some (text_in texts name)) n ns (h.0 ∙ ap (λ x. Some x) (sym (ap text_or h.0))) (told-names texts ns ts h.1)

pub told-needed : (texts : List ℕ → Option (List ℕ)) (job : ReportJob) (media : List Media) (claims : List ReportProof) (told : List (List ℕ))
    → AreTold texts job.captures told
    → All (λ claim. AreTexts texts (text_in texts) (needed job media claim)) claims
told-needed texts job media claims told h = λ k d within. needed-all (λ name. texts name ≡ Some (text_in texts name)) job media (slice_index_or claims k d)
    (told-names texts job.captures told h)

-- other texts that the needed captures have are the same
pub same-needed : (texts : List ℕ → Option (List ℕ)) (text : List ℕ → List ℕ) (job : ReportJob) (media : List Media) (claims : List ReportProof)
    → All (λ claim. AreTexts texts text (needed job media claim)) claims
    → All (λ claim. All (λ name. text_in texts name ≡ text name) (needed job media claim)) claims
same-needed texts text job media claims h =
    All-weaker (λ claim. AreTexts texts text (needed job media claim)) (λ claim. All (λ name. text_in texts name ≡ text name) (needed job media claim))
    (λ claim each. All-weaker (λ name. texts name ≡ Some (text name)) (λ name. text_in texts name ≡ text name) (λ name e. ap text_or e) (needed job media claim)
    each) claims h

same-map : (text also : List ℕ → List ℕ) (names : List (List ℕ)) → All (λ name. text name ≡ also name) names → map text names ≡ map also names
same-map text also [] h = refl
same-map text also (n ∷ ns) h = ap (λ t. t ∷ map text ns) (All-head (λ name. text name ≡ also name) n ns h) ∙ ap (λ l. also n ∷ l)
    (same-map text also ns (All-tail (λ name. text name ≡ also name) n ns h))

same-finds : (there : Option Media) (job : ReportJob) (claim : ReportProof) (text also : List ℕ → List ℕ) (finding : Result Bool Unjudged)
    → All (λ name. text name ≡ also name) (captures_for there job claim.key)
    → FindsOf there job claim text finding → FindsOf there job claim also finding
same-finds None job claim text also finding same h = h
same-finds (Some media) job claim text also finding same h = subst (λ l. Finds media claim job.options l finding)
    (same-map text also (captures_of job claim.key) same) h

-- the answer depends on the texts of the needed captures alone
pub same-reported : (job : ReportJob) (media : List Media) (claims : List ReportProof) (text also : List ℕ → List ℕ) (answer : Answer)
    → All (λ claim. All (λ name. text name ≡ also name) (needed job media claim)) claims
    → HasReported job media claims text answer → HasReported job media claims also answer
same-reported job media claims text also answer same h =
    let each = unmapped (λ claim. All (λ name. text name ≡ also name) (needed job media claim)) h.checked
    (subst (All (λ claim. All (λ name. text name ≡ also name) (needed job media claim))) (sym h.are.claims_are) same) in
    record {
      checked = h.checked;
      are = record {
        claims_are = h.are.claims_are;
        each = λ k d within. same-finds (media_for job media _) job _ text also _ (each k d within)
            (h.are.each k d within);
      };
      answer_is = h.answer_is;
    }
