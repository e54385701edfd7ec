use Rattle.std.proofs.Common.{length, subst}
use Rattle.run_meter.specs.Runs.{NamesFirst, is_broken}
use Rattle.flow_page.proofs.lemmas.drawing.Around.{region-put}
use Rattle.flow_page.proofs.drawing.regions.put_region.Goals as goal

pub returns-in_ok-push-in-Fail : goal.returns-in_ok-push-in-Fail
returns-in_ok-push-in-Fail c = λ m n kind stamps more is some count h named.
    region-put m n stamps kind c.args.verdict c.in-Fail.proof c.in_ok-finish-in-Fail.field-0 c.args.regions.now.items c.push.new.self.items
    c.in-Fail.is c.in_ok-push-in-Fail.ensures.items
    (c.in_ok-finish-in-Fail.ensures m n kind stamps more is some count h
    (subst (NamesFirst (is_broken m n stamps kind) (length stamps)) c.in-Fail.is named))
