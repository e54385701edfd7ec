-- A type has a line with `pass` exactly if it passes.
use Rattle.std.proofs.Common.{◌≡◌, ◌∙◌, ℕ, ◌+◌, Bool, true, false, List, [], ◌∷◌, ◌++◌, refl}
use Rattle.std.specs.Prelude.{◌||◌, codes, is_some}
use Rattle.std.specs.List.{list_any}
use Rattle.timing_base.specs.Media.{Media}
use Rattle.timing_base.specs.Verdicts.{Judged}
use Rattle.timing_base.specs.declared.media.Kind.{Kind}
use Rattle.timing_base.specs.declared.media.Kind.TheVariants.{N, NL, W}
use Rattle.timing_base.specs.declared.row.KindVerdict.{KindVerdict}
use Rattle.timing_base.specs.declared.row.KindVerdict.TheVariants.{Pass, Fail}
use Rattle.timing_base.specs.declared.row.Run.{Run}
use Rattle.timing_base.specs.declared.row.RunVerdict.{RunVerdict}
use Rattle.timing_base.specs.declared.row.RunVerdict.TheVariants as run_verdict
use Rattle.timing_base.specs.declared.row.Verdict.{Verdict}
use Rattle.timing_base.specs.declared.row.Verdict.TheVariants as verdict
use Rattle.sdp_reader.specs.Bytes.{after_prefix}
use Rattle.timing_report.specs.Outcomes.{is_pass, passes, verdict_on}
use Rattle.timing_report.specs.Verdict.{lines_below, outcome_text, run_lines, runs_lines, type_lines}
use Rattle.report_reader.specs.PassLines.{flow_passes, is_pass_line, run_passes}

-- after the name of a type
pass_at : (found : KindVerdict) (more : List ℕ)
    → is_some (after_prefix (codes " pass,") (codes " " ++ (outcome_text found ++ (codes ", " ++ more)))) ≡ is_pass found
pass_at Pass more = refl
pass_at (Fail proof) more = refl

or_false : (b : Bool) → (b || false) ≡ b
or_false true = refl
or_false false = refl

types_pass : (media : Media) (judged : Judged) (kind : Kind)
    → list_any (is_pass_line (codes "  ") kind) (type_lines (codes "  ") media judged) ≡ passes judged kind
types_pass media judged N = or_false _ ∙ pass_at (verdict_on judged N) _
types_pass media judged NL = or_false _ ∙ pass_at (verdict_on judged NL) _
types_pass media judged W = or_false _ ∙ pass_at (verdict_on judged W) _

run_types_pass : (media : Media) (judged : Judged) (kind : Kind)
    → list_any (is_pass_line (codes "    ") kind) (type_lines (codes "    ") media judged) ≡ passes judged kind
run_types_pass media judged N = or_false _ ∙ pass_at (verdict_on judged N) _
run_types_pass media judged NL = or_false _ ∙ pass_at (verdict_on judged NL) _
run_types_pass media judged W = or_false _ ∙ pass_at (verdict_on judged W) _

-- the lines of one run
pub run_pass : (media : Media) (index : ℕ) (run : Run) (kind : Kind)
    → list_any (is_pass_line (codes "    ") kind) (run_lines media index run) ≡ run_passes run.verdict kind
run_pass media index run kind = go run.verdict kind
  where
    go : (found : RunVerdict) (kind : Kind)
        → list_any (is_pass_line (codes "    ") kind) (run_lines media index record run { verdict = found }) ≡ run_passes found kind
    go (run_verdict.NoWholeFrame head) N = refl
    go (run_verdict.NoWholeFrame head) NL = refl
    go (run_verdict.NoWholeFrame head) W = refl
    go (run_verdict.Judged judged) N = run_types_pass media judged N
    go (run_verdict.Judged judged) NL = run_types_pass media judged NL
    go (run_verdict.Judged judged) W = run_types_pass media judged W

neither : (a b : Bool) → (a || b) ≡ false → (a ≡ false) × (b ≡ false)
neither true b h = cc
neither false b h = (refl, h)

any-append : (p : List ℕ → Bool) (xs ys : List (List ℕ)) → list_any p xs ≡ false → list_any p ys ≡ false → list_any p (xs ++ ys) ≡ false
any-append p [] ys h k = k
any-append p (x ∷ xs) ys h k =
    let b = neither (p x) (list_any p xs) h in
    rw b.0 (any-append p xs ys b.1 k)

-- the lines below a run are indented further than those of a flow in one run
run_none : (media : Media) (index : ℕ) (run : Run) (kind : Kind)
    → list_any (is_pass_line (codes "  ") kind) (run_lines media index run) ≡ false
run_none media index run kind = go run.verdict kind
  where
    go : (found : RunVerdict) (kind : Kind) → list_any (is_pass_line (codes "  ") kind) (run_lines media index record run { verdict = found }) ≡ false
    go (run_verdict.NoWholeFrame head) N = refl
    go (run_verdict.NoWholeFrame head) NL = refl
    go (run_verdict.NoWholeFrame head) W = refl
    go (run_verdict.Judged judged) N = refl
    go (run_verdict.Judged judged) NL = refl
    go (run_verdict.Judged judged) W = refl

runs_none : (media : Media) (index : ℕ) (runs : List Run) (kind : Kind) → list_any (is_pass_line (codes "  ") kind) (runs_lines media index runs) ≡ false
runs_none media index [] kind = refl
runs_none media index (run ∷ runs) kind =
    any-append (is_pass_line (codes "  ") kind) (run_lines media index run) (runs_lines media (index + 1) runs) (run_none media index run kind)
    (runs_none media (index + 1) runs kind)

pub flow_pass : (media : Media) (found : Verdict) (kind : Kind) → list_any (is_pass_line (codes "  ") kind) (lines_below media found) ≡ flow_passes found kind
flow_pass media (verdict.Unjudged reason) kind = refl
flow_pass media (verdict.Judged judged) kind = types_pass media judged kind
flow_pass media (verdict.Runs runs) kind = runs_none media 0 runs kind
