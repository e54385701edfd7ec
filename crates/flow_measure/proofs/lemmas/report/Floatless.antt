-- No flow without a verdict has a float.
use Rattle.std.proofs.Common.{◌≡◌, ◌++◌, false, refl}
use Rattle.std.specs.Prelude.{Some, None}
use Rattle.serde_json.specs.Written.{has_float}
use Rattle.timing_base.specs.Media.{Media}
use Rattle.timing_base.specs.declared.row.Unjudged.{Unjudged}
use Rattle.timing_report.specs.json_report.Json.{object_of, unjudged_members}
use Rattle.timing_report.proofs.lemmas.json_report.Floatless.{any_float, any_float-append, object-floatless, unjudged-floatless}
use Rattle.flow_measure.specs.report.Json.{flow_members, ssrc_members}
use Rattle.flow_measure.specs.report.Told.{ToldFlow}

members-floatless : (media : Media) (f : ToldFlow) → any_float (flow_members media f) ≡ false
members-floatless media f = elim f.ssrc as (λ s. any_float (ssrc_members s) ≡ false) [ None ↦ refl | Some ssrc ↦ refl ]

-- its members and those of its verdict
pub flow-floatless : (media : Media) (f : ToldFlow) (u : Unjudged)
    → has_float (object_of (flow_members media f ++ unjudged_members u)) ≡ false
flow-floatless media f u =
    object-floatless (flow_members media f ++ unjudged_members u)
    (any_float-append (flow_members media f) (unjudged_members u) (members-floatless media f) (unjudged-floatless u))
