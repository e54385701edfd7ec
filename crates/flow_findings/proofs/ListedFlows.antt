-- Where a list has `pass`: only among the findings on the run that is shown.
use Rattle.std.proofs.Common.{◌≡◌, ℕ, Bool, true, false, List, refl, ap, ◌∙◌}
use Rattle.std.specs.Prelude.{codes, Option, Some, None, if◌then◌else◌, find}
use Rattle.std.specs.Option.{option_map, option_to_list}
use Rattle.timing_base.specs.Media.{Media}
use Rattle.timing_base.specs.declared.row.Unjudged.TheVariants as unjudged
use Rattle.timing_base.specs.declared.row.Verdict.{Verdict}
use Rattle.timing_base.specs.declared.row.Verdict.TheVariants as verdict
use Rattle.timing_report.specs.Outcomes.{passes}
use Rattle.capture_scan.specs.declared.stream.Stream.{Stream}
use Rattle.flow_findings.specs.Findings.{absent, elsewhere, flow_findings, gap_findings, is_absent, loss}
use Rattle.flow_findings.specs.Findings.{may_be_of, media_findings, refused, run_findings, wrap}
use Rattle.flow_findings.specs.Gaps.{gaps_of}
use Rattle.flow_findings.specs.Lists.{has}
use Rattle.flow_findings.specs.Numbers.{kind_of, numbers_of}
use Rattle.flow_findings.specs.declared.finding.Finding.TheVariants as finding
use Rattle.flow_findings.specs.declared.gaps.Gap.{Gap}
use Rattle.flow_findings.specs.declared.inputs.KnownCaptures.{KnownCaptures}
use Rattle.flow_findings.specs.declared.inputs.KnownFlow.{KnownFlow}
use Rattle.flow_findings.specs.declared.inputs.ShownRun.{ShownRun}
use Rattle.flow_findings.proofs.Listed.{in-back, in-neither, numbers-pass, other_name}

elsewhere-other : (b : Bool) (s : Option Stream)
    → has (option_to_list (if b then option_map (λ t. finding.Elsewhere t.target t.packets) s else None)) (codes "pass") ≡ false
elsewhere-other true None = refl
elsewhere-other true (Some s) = refl
elsewhere-other false s = refl

refused-other : (v : Verdict) → has (option_to_list (refused v)) (codes "pass") ≡ false
refused-other (verdict.Unjudged unjudged.Absent) = refl
refused-other (verdict.Unjudged (unjudged.NoWholeFrame head)) = refl
refused-other (verdict.Unjudged (unjudged.Refused rec fault)) = refl
refused-other (verdict.Unjudged (unjudged.Gap rec expected got)) = refl
refused-other (verdict.Judged judged) = refl
refused-other (verdict.Runs runs) = refl

flow-other : (session : List Media) (m : Media) (c : KnownCaptures) (flow : KnownFlow)
    → has (flow_findings session m c flow) (codes "pass") ≡ false
flow-other session m c flow =
    let name : List ℕ = codes "pass" in
    in-neither (option_to_list (elsewhere session m flow.verdict c.streams)) _ name
    (elsewhere-other (is_absent flow.verdict) (find (may_be_of session m) c.streams))
    (in-neither (option_to_list (absent session m flow.verdict c.passed_over c.streams)) _ name (other_name _ _ name refl)
    (in-neither (option_to_list (refused flow.verdict)) _ name (refused-other flow.verdict) (other_name _ _ name refl)))

gaps-other : (seq16 : Bool) (gaps : List Gap) → has (gap_findings seq16 gaps) (codes "pass") ≡ false
gaps-other seq16 gaps =
    let name : List ℕ = codes "pass" in
    in-neither (option_to_list (wrap seq16 gaps)) _ name (other_name _ _ name refl)
    (in-neither (option_to_list (loss seq16 gaps)) _ name (other_name _ _ name refl) (other_name _ _ name refl))

-- a list has `pass` exactly if K passes
pub flow-pass : (session : List Media) (m : Media) (c : KnownCaptures) (flow : KnownFlow) (s : ShownRun) → flow.shown ≡ Some s
    → has (media_findings session m c flow) (codes "pass") ≡ passes s.run.judged (kind_of m.declared s.run.judged)
flow-pass session m c flow s e =
    let name : List ℕ = codes "pass" in
    in-back (flow_findings session m c flow) _ name (flow-other session m c flow)
    ∙ (in-back (gap_findings c.seq16 (gaps_of flow.verdict)) _ name (gaps-other c.seq16 (gaps_of flow.verdict))
    ∙ (ap (λ o. has (run_findings m c o) name) e ∙ numbers-pass m c (numbers_of m s)))
