-- The lines of runs and of flows are read back.
use Rattle.std.proofs.Common.{◌≡◌, ◌∙◌, ℕ, suc, ◌+◌, ◌-◌, ◌*◌, ◌%◌, ◌/◌, ◌^◌, ◌<◌, false, List, [], ◌∷◌, ◌++◌, length, refl, ap, ap₂}
use Rattle.std.proofs.Common.{arith, append_assoc}
use Rattle.std.specs.Prelude.{Option, Some, None, codes, map, All}
use Rattle.std.specs.Fmt.{decimal}
use Rattle.std.specs.Option.{ForSome}
use Rattle.std.proofs.lemmas.List.Concat.{flat_map-append}
use Rattle.timing_base.specs.Media.{Media, IsMedia}
use Rattle.timing_base.specs.Targets.{target_of, target_text}
use Rattle.timing_base.specs.declared.key.FlowKey.{FlowKey}
use Rattle.timing_base.specs.declared.row.Row.{Row}
use Rattle.timing_base.specs.declared.row.Run.{Run}
use Rattle.timing_base.specs.declared.row.RunVerdict.{RunVerdict}
use Rattle.timing_base.specs.declared.row.RunVerdict.TheVariants as run_verdict
use Rattle.timing_base.specs.declared.row.Unjudged.{Unjudged}
use Rattle.timing_base.specs.declared.row.Unjudged.TheVariants as unjudged
use Rattle.timing_base.specs.declared.row.Verdict.{Verdict}
use Rattle.timing_base.specs.declared.row.Verdict.TheVariants as verdict
use Rattle.timing_base.specs.declared.target.Target.{Target}
use Rattle.timing_report.specs.Text.{ended, text_of_lines, flow_lines as lines_of_flow}
use Rattle.timing_report.specs.Verdict.{lines_below, lines_below_run, run_verdict_text, run_head, run_lines as lines_of_run, runs_lines as lines_of_runs}
use Rattle.timing_report.specs.Verdict.{type_lines as lines_of_types, unjudged_text, verdict_text}
use Rattle.timing_report.specs.json_report.Fails.{IsWord, FitsRun, FitsRunVerdict, FitsUnjudged, FitsVerdict}
use Rattle.report_reader.specs.Pieces.{begins_with_digit}
use Rattle.report_reader.specs.Reading.{destination, flow_lines, reason, run_lines, run_outcome, runs_lines, verdict_lines}
use Rattle.report_reader.specs.Told.{ToldFlow, ToldOutcome, judged_run, ToldRun, ToldVerdict, in_one_run, not_judged}
use Rattle.report_reader.specs.Told.{told_of, told_outcome, told_run, told_unjudged}
use Rattle.report_reader.specs.Reported.{FitsMedia, FitsReason, FitsRefusal, FitsRow}
use Rattle.report_reader.proofs.Lines.{fault_back, judged_back, judged_is}
use Rattle.report_reader.proofs.Numbers.{number_back}

reason_back : {B : Type 0} (next : Unjudged → List ℕ → Option B) (why : Unjudged) (rest : List ℕ) → FitsUnjudged why → FitsReason why
    → reason next (unjudged_text why ++ (codes "\n" ++ rest)) ≡ next (told_unjudged why) rest
unfolding reason
reason_back next unjudged.Absent rest fits more = refl
reason_back next (unjudged.NoWholeFrame head) rest fits more = simp (number_back, fits)
reason_back next (unjudged.Refused rec fault) rest fits more = simp append_assoc (number_back _ rec _ fits refl ∙ fault_back _ fault _ more refl)
reason_back next (unjudged.Gap rec expected got) rest fits more = simp (append_assoc, number_back, fits.0, fits.1, fits.2)

-- the text of the verdict on a run and of the lines below it
abbrev outcome_lines : Media → RunVerdict → List ℕ → List ℕ
outcome_lines media outcome rest = run_verdict_text media outcome ++ (codes "\n" ++ (text_of_lines (lines_below_run media outcome) ++ rest))

outcome_back : {B : Type 0} (next : ToldOutcome → List ℕ → Option B) (media : Media) (outcome : RunVerdict) (rest : List ℕ)
    → IsMedia media → FitsRunVerdict outcome → run_outcome next (outcome_lines media outcome rest) ≡ next (told_outcome media outcome) rest
unfolding run_outcome
outcome_back next media (run_verdict.NoWholeFrame head) rest is fits = simp (number_back, fits)
outcome_back next media (run_verdict.Judged judged) rest is fits =
    ap (run_outcome next) (judged_is media judged (text_of_lines (lines_of_types (codes "    ") media judged) ++ rest))
    ∙ judged_back (codes "    ") (λ told. next (judged_run told)) media judged rest is fits

run_is : (media : Media) (index : ℕ) (run : Run) (rest : List ℕ) → text_of_lines (lines_of_run media index run) ++ rest
    ≡ run_head index run ++ outcome_lines media run.verdict rest
run_is media index run rest = simp append_assoc

run_at : {B : Type 0} (next : ToldRun → List ℕ → Option B) (media : Media) (index rec number : ℕ) (expected : Option ℕ) (outcome : RunVerdict) (rest : List ℕ)
    → IsMedia media → index + 1 < 2 ^ 64 → rec < 2 ^ 64 → number < 2 ^ 64 → ForSome expected IsWord → FitsRunVerdict outcome
    → run_lines next (run_head index record { rec = rec; number = number; expected = expected; verdict = outcome } ++ outcome_lines media outcome rest)
    ≡ next record { rec = rec; number = number; expected = expected; outcome = told_outcome media outcome } rest
unfolding run_lines
run_at next media index rec number None outcome rest is i r n e fits =
    simp append_assoc (number_back _ (index + 1) _ i refl ∙ number_back _ rec _ r refl ∙ number_back _ number _ n refl
    ∙ outcome_back _ media outcome rest is fits)
run_at next media index rec number (Some expected) outcome rest is i r n e fits =
    simp append_assoc (number_back _ (index + 1) _ i refl ∙ number_back _ rec _ r refl ∙ number_back _ number _ n refl
    ∙ number_back _ expected _ (e expected refl) refl ∙ outcome_back _ media outcome rest is fits)

run_back : {B : Type 0} (next : ToldRun → List ℕ → Option B) (media : Media) (index : ℕ) (run : Run) (rest : List ℕ)
    → IsMedia media → index + 1 < 2 ^ 64 → FitsRun run
    → run_lines next (text_of_lines (lines_of_run media index run) ++ rest) ≡ next (told_run media run) rest
run_back next media index run rest is i fits =
    ap (run_lines next) (run_is media index run rest)
    ∙ run_at next media index run.rec run.number run.expected run.verdict rest is i fits.rec fits.number fits.expected fits.outcome

runs_back : {B : Type 0} (next : List ToldRun → List ℕ → Option B) (media : Media) (index : ℕ) (runs : List Run) (rest : List ℕ)
    → IsMedia media → index + length runs < 2 ^ 64 → All FitsRun runs
    → runs_lines (length runs) next (text_of_lines (lines_of_runs media index runs) ++ rest) ≡ next (map (told_run media) runs) rest
unfolding runs_lines
runs_back next media index [] rest is few fits = refl
runs_back next media index (run ∷ runs) rest is few fits =
    let here = lines_of_run media index run in
    let later = lines_of_runs media (index + 1) runs in
    let cut : text_of_lines (here ++ later) ++ rest ≡ text_of_lines here ++ (text_of_lines later ++ rest)
    = ap (λ s. s ++ rest) (flat_map-append ended here later) ∙ append_assoc (text_of_lines here) (text_of_lines later) rest in
    ap (runs_lines (length (run ∷ runs)) next) cut
    ∙ run_back _ media index run _ is (omega arith) (fits 0 run (omega arith))
    ∙ runs_back (λ later. next (told_run media run ∷ later)) media (index + 1) runs rest is (omega arith) (λ k d lt. fits (suc k) d (omega arith))

-- the text of a verdict and of the lines below it
abbrev verdict_and_below : Media → Verdict → List ℕ → List ℕ
verdict_and_below media verdict rest = verdict_text media verdict ++ (codes "\n" ++ (text_of_lines (lines_below media verdict) ++ rest))

unjudged_back : {B : Type 0} (next : ToldVerdict → List ℕ → Option B) (media : Media) (why : Unjudged) (rest : List ℕ)
    → FitsUnjudged why → FitsReason why
    → verdict_lines next (verdict_and_below media (verdict.Unjudged why) rest) ≡ next (not_judged (told_unjudged why)) rest
unfolding verdict_lines
unjudged_back next media unjudged.Absent rest fits more = reason_back _ unjudged.Absent rest fits more
unjudged_back next media (unjudged.NoWholeFrame head) rest fits more = reason_back _ (unjudged.NoWholeFrame head) rest fits more
unjudged_back next media (unjudged.Refused rec fault) rest fits more = reason_back _ (unjudged.Refused rec fault) rest fits more
unjudged_back next media (unjudged.Gap rec expected got) rest fits more = reason_back _ (unjudged.Gap rec expected got) rest fits more

verdict_back : {B : Type 0} (next : ToldVerdict → List ℕ → Option B) (media : Media) (found : Verdict) (rest : List ℕ)
    → IsMedia media → FitsVerdict found → FitsRefusal found
    → verdict_lines next (verdict_and_below media found rest) ≡ next (told_of media found) rest
unfolding verdict_lines
verdict_back next media (verdict.Unjudged why) rest is fits more = unjudged_back next media why rest fits more
verdict_back next media (verdict.Judged judged) rest is fits more =
    ap (verdict_lines next) (judged_is media judged (text_of_lines (lines_of_types (codes "  ") media judged) ++ rest))
    ∙ judged_back (codes "  ") (λ told. next (in_one_run told)) media judged rest is fits
verdict_back next media (verdict.Runs runs) rest is fits more =
    simp append_assoc (number_back _ (length runs - 1) _ (omega (arith, fits.0.few)) refl ∙ number_back _ (length runs) _ (omega (arith, fits.0.few)) refl
    ∙ runs_back _ media 0 runs rest is (omega (arith, fits.0.few)) fits.1)

-- an address is the sum of its octets
octets : (a : ℕ) → a / 2 ^ 24 * 2 ^ 24 + a / 2 ^ 16 % 2 ^ 8 * 2 ^ 16 + a / 2 ^ 8 % 2 ^ 8 * 2 ^ 8 + a % 2 ^ 8 ≡ a
octets a = omega arith

pub target_back : {B : Type 0} (next : Target → List ℕ → Option B) (target : Target) (rest : List ℕ) → target.address.bits < 2 ^ 32 → target.port < 2 ^ 16
    → begins_with_digit rest ≡ false → destination next (target_text target ++ rest) ≡ next target rest
unfolding destination
target_back next target rest a p e =
    simp append_assoc (number_back _ (target.address.bits / 2 ^ 24) _ (omega (arith, a)) refl
    ∙ number_back _ (target.address.bits / 2 ^ 16 % 2 ^ 8) _ (omega arith) refl
    ∙ number_back _ (target.address.bits / 2 ^ 8 % 2 ^ 8) _ (omega arith) refl ∙ number_back _ (target.address.bits % 2 ^ 8) _ (omega arith) refl
    ∙ number_back _ target.port _ (omega (arith, p)) e
    ∙ ap (λ n. next record { address = record { bits = n }; port = target.port } rest) (octets target.address.bits))

-- the key that a number from 1 tells
pub key_is : (key : FlowKey) → record { file = key.file + 1 - 1; media = key.media + 1 - 1 } ≡ key
key_is key = ap₂ (λ a b. record { file = a; media = b }) (omega arith) (omega arith)

-- the text of a flow after its first word
abbrev pub flow_rest : Media → Row → List ℕ → List ℕ
flow_rest media row rest =
    decimal (row.key.file + 1) ++ (codes "." ++ (decimal (row.key.media + 1) ++ (codes " " ++ (target_text (target_of media) ++ (codes " "
    ++ verdict_and_below media row.verdict rest)))))

pub flow_is : (media : Media) (row : Row) (rest : List ℕ) → text_of_lines (lines_of_flow media row) ++ rest ≡ codes "flow " ++ flow_rest media row rest
flow_is media row rest = simp append_assoc

pub flow_back : {B : Type 0} (next : ToldFlow → List ℕ → Option B) (media : Media) (row : Row) (rest : List ℕ)
    → FitsMedia media → row.key.file < 2 ^ 32 → row.key.media < 2 ^ 32 → FitsRow row
    → flow_lines next (flow_rest media row rest)
    ≡ next record { key = row.key; target = target_of media; verdict = told_of media row.verdict } rest
unfolding flow_lines
flow_back next media row rest is file place fits =
    number_back _ (row.key.file + 1) _ (omega (arith, file)) refl ∙ number_back _ (row.key.media + 1) _ (omega (arith, place)) refl
    ∙ target_back _ (target_of media) _ is.address is.port refl ∙ verdict_back _ media row.verdict rest is.is fits.verdict fits.refusal
    ∙ ap (λ k. next record { key = k; target = target_of media; verdict = told_of media row.verdict } rest) (key_is row.key)
