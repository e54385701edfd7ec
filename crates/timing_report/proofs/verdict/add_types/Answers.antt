use Rattle.std.proofs.Common.{◌≡◌, ℕ, List, [], ◌++◌, subst}
use Rattle.std.specs.Prelude.{string_bytes, IfOk}
use Rattle.timing_base.specs.Media.{Media}
use Rattle.timing_base.specs.declared.media.Kind.{Kind}
use Rattle.timing_base.specs.declared.media.Kind.TheVariants.{N, NL, W}
use Rattle.timing_report.proofs.Appends.{three_ok}
use Rattle.timing_report.specs.Text.{ended}
use Rattle.timing_report.specs.Verdict.{type_text}
use Rattle.timing_report.proofs.verdict.add_types.Goals as goal

pub returns : goal.returns
returns c =
    let line : Media → Kind → List ℕ = λ m kind. ended (c.args.space.now ++ type_text m c.args.judged.now kind) in
    let P : Media → Type 0 = λ m. IfOk c.add_type-3.result (λ _. string_bytes c.add_type-3.new.text
    ≡ string_bytes c.args.text.now ++ (line m N ++ (line m NL ++ (line m W ++ [])))) in
    subst P c.of-params.ensures.media
    (three_ok c.add_type-3.result (string_bytes c.args.text.now) (line c.of-params.result.media N) (line c.of-params.result.media NL)
    (line c.of-params.result.media W) _ _ _
    c.in_ok-add_type.ensures c.in_ok-add_type-2.ensures c.add_type-3.ensures)
