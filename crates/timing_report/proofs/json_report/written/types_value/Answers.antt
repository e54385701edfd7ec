use Rattle.std.proofs.Common.{◌≡◌, ℕ, List, [], ◌∷◌, take, ap, ◌∙◌, subst, arith}
use Rattle.std.specs.Prelude.{map}
use Rattle.serde_json.specs.Data.{array}
use Rattle.serde_json.specs.View.{view, items_of}
use Rattle.serde_json.proofs.Views.{view-Array}
use Rattle.timing_base.specs.declared.media.Kind.{Kind}
use Rattle.timing_base.specs.declared.media.Kind.TheVariants.{N, NL, W}
use Rattle.timing_report.specs.json_report.Json.{type_data}
use Rattle.timing_report.proofs.json_report.written.types_value.Goals as goal

pub returns : goal.returns
returns c =
    let kinds : List Kind = N ∷ NL ∷ W ∷ [] in
    let all : c.loop-kind.kind-index ≡ 3 = omega (arith, c.loop-kind-test.false, c.loop-kind.auto.kind-index-end) in
    let P : ℕ → Type 0 = λ k. map view c.loop-kind.types.items ≡ map (type_data c.args.params.now.media c.args.judged.now) (take k kinds) in
    view-Array c.loop-kind.types ∙ ap (λ ds. array (items_of ds)) (subst P all c.loop-kind.invariant)
