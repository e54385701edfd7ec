use Rattle.std.proofs.Common.{rules, ◌==◌, ap, sym, ◌∙◌}
use Rattle.std.proofs.lemmas.Fn.{filter_same}
use Rattle.timing_report.specs.declared.json_report.reading.ReportProof.{ReportProof}
use Rattle.timing_top.specs.verify.Asked.{asked}
use Rattle.timing_top.proofs.verify.report.asked.Goals as goal

pub returns-in-Some : goal.returns-in-Some
returns-in-Some c =
    filter_same _ (λ (claim : ReportProof). claim.key.media == c.in-Some.number) _ (λ x b f t. search rules) c.args.claims.items
    c.retain.new.self.items c.retain.ensures.filtered
    ∙ sym (ap (λ only. asked only c.args.claims.items) c.in-Some.is)
