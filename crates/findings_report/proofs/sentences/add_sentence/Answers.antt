use Rattle.std.proofs.Common.{◌≡◌, List, ℕ, ◌++◌, IfOk, FitsSigned, rules, sym, subst}
use Rattle.std.proofs.lemmas.Int.{to_z-of_z}
use Rattle.std.specs.Int.{w64}
use Rattle.std.specs.Prelude.{string_bytes}
use Rattle.timing_report.proofs.Appends.{two_ok}
use Rattle.flow_findings.specs.declared.finding.Finding.{Finding}
use Rattle.findings_report.specs.Text.{above_text, bucket_text, sentence, span_text}
use Rattle.findings_report.proofs.sentences.add_sentence.Goals as goal

pub returns-in_ok-add_above-in-Burst : goal.returns-in_ok-add_above-in-Burst
returns-in_ok-add_above-in-Burst c =
    let s = c.args.setting in
    let b = c.in-Burst in
    let r = c.add_span.result in
    let old = string_bytes c.args.text.now in
    let bucket : List ℕ = bucket_text s b.greatest b.limit in
    let above : List ℕ = above_text s b.packets b.groups b.first in
    let span : List ℕ = span_text s b.span b.period in
    subst (λ (f : Finding). IfOk r (λ _. string_bytes c.add_span.new.text ≡ old ++ sentence s f)) (sym b.is)
    (two_ok r old bucket (above ++ span) _ _ c.in_ok-add_bucket-in-Burst.ensures
    (two_ok r _ above span _ _ c.in_ok-add_above-in-Burst.ensures c.add_span.ensures))

pub returns-in-Rare : goal.returns-in-Rare
returns-in-Rare c =
    subst (λ (f : Finding). IfOk c.add_rare.result (λ _. string_bytes c.add_rare.new.text ≡ string_bytes c.args.text.now ++ sentence c.args.setting f))
    (sym c.in-Rare.is) c.add_rare.ensures

pub returns-in-Pass : goal.returns-in-Pass
returns-in-Pass c =
    let fits : FitsSigned w64 c.in-Pass.slack = search rules in
    let added = simp to_z-of_z at c.add_pass.ensures in
    subst (λ (f : Finding). IfOk c.add_pass.result (λ _. string_bytes c.add_pass.new.text ≡ string_bytes c.args.text.now ++ sentence c.args.setting f))
    (sym c.in-Pass.is) added
