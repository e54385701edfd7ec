-- Texts to which a picture is added that is known otherwise.
use Rattle.std.proofs.Common.{◌≡◌, ℕ, List, ◌++◌, ap, ◌∙◌}
use Rattle.std.specs.Prelude.{Result, Ok, Err, IfOk}
use Rattle.flow_measure.specs.declared.columns.Extremes.{Extremes}
use Rattle.flow_page.specs.chart.Charts.{bars_figure, curve_figure}
use Rattle.flow_page.specs.declared.chart.bars.Bar.{Bar}
use Rattle.flow_page.specs.declared.chart.chart.Scene.{Scene}
use Rattle.flow_page.specs.declared.chart.grid.UnitAcross.{UnitAcross}
use Rattle.flow_page.specs.declared.chart.lines.Limit.{Limit}

-- what was added is another text
pub added_ok : {T E : Type 0} (r : Result T E) (old new a b : List ℕ) → IfOk r (λ _. new ≡ old ++ a) → a ≡ b → IfOk r (λ _. new ≡ old ++ b)
added_ok (Ok s) old new a b h e = h ∙ ap (λ s. old ++ s) e
added_ok (Err x) old new a b h e = tt

-- pictures of the same
pub curve_is : (a b c d : List ℕ) (s t : Scene) (l m : List Limit) (x y : List Extremes) → a ≡ b → c ≡ d → s ≡ t → l ≡ m → x ≡ y
    → curve_figure a c s l x ≡ curve_figure b d t m y
curve_is a b c d s t l m x y title detail scene lines columns =
    ap (λ z. curve_figure z c s l x) title ∙ ap (λ z. curve_figure b z s l x) detail ∙ ap (λ z. curve_figure b d z l x) scene
    ∙ ap (λ z. curve_figure b d t z x) lines ∙ ap (λ z. curve_figure b d t m z) columns

pub bars_is : (a b c d : List ℕ) (along : UnitAcross) (total : ℕ) (x y : List Bar) → a ≡ b → c ≡ d → x ≡ y
    → bars_figure a c along total x ≡ bars_figure b d along total y
bars_is a b c d along total x y title detail bars =
    ap (λ z. bars_figure z c along total x) title ∙ ap (λ z. bars_figure b z along total x) detail
    ∙ ap (λ z. bars_figure b d along total z) bars
