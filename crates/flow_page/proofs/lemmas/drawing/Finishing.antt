-- The columns of a run, when all its packets came.
use Rattle.std.proofs.Common.{◌≡◌, ◌*◌, ℕ, ℤ, List, length, slice_index, inl, inr, refl, ◌∙◌, subst, arith}
use Rattle.std.proofs.lemmas.Bool.{cases_eq}
use Rattle.timing_base.specs.Media.{Media}
use Rattle.flow_measure.specs.Columns.{AreCurve, AreEye}
use Rattle.flow_measure.specs.Groups.{firsts_of, lasts_of}
use Rattle.flow_measure.specs.Run.{anchor_in}
use Rattle.flow_measure.specs.declared.columns.Extremes.{Extremes}
use Rattle.flow_measure.proofs.Grouped.{groups-are}
use Rattle.flow_page.specs.drawing.Drawn.{AreLevels}
use Rattle.flow_page.specs.drawing.drawing.Columns.{DrawsCurves, DrawsGroups, DrawsLevel}
use Rattle.flow_page.specs.declared.drawing.groups.GroupColumns.{GroupColumns}
use Rattle.flow_page.specs.declared.drawing.packets.LevelColumns.{LevelColumns}
use Rattle.flow_page.proofs.lemmas.drawing.Feeding.{curves-none}

-- the columns of what is held after each packet
pub levels-are : (n count : ℕ) (c : LevelColumns) (level : ℕ → ℤ) (curve eye : List Extremes)
    → ((level : ℕ → ℤ) → DrawsLevel c level → AreCurve 1000 level c.seen curve)
    → ((level : ℕ → ℤ) → DrawsLevel c level → AreEye c.n 500 level c.seen eye)
    → DrawsLevel c level
    → c.n ≡ n
    → c.seen ≡ count
    → AreLevels n count level curve eye
levels-are n count c level curve eye is_curve is_eye h same seen = record {
  curve_is = subst (λ k. AreCurve 1000 level k curve) seen (is_curve level h);
  eye_is = subst (λ k. AreEye n 500 level k eye) seen (subst (λ group. AreEye group 500 level c.seen eye) same (is_eye level h));
}

-- the curve of all groups
pub curve-of : (columns groups seen most : ℕ) (numbers : ℕ → ℤ) (list : List Extremes) → AreCurve most numbers seen list → most ≡ columns
    → seen ≡ groups → AreCurve columns numbers groups list
curve-of columns groups seen most numbers list is most_is all =
    subst (λ k. AreCurve columns numbers k list) all (subst (λ m. AreCurve m numbers seen list) most_is is)

-- the groups that have come, where all are whole
pub groups-came : (n groups : ℕ) (g : GroupColumns) → g.walk.n ≡ n → g.walk.seen ≡ n * groups → g.curves.seen ≡ groups
groups-came n groups g same whole =
    g.curves_are ∙ g.walk.group_is ∙ groups-are g.walk.seen n g.walk.n groups (omega (arith, g.walk.place_within)) same whole

-- the columns of groups, by the group of the epoch to which the first packet belongs
pub curves-all : (m : Media) (n : ℕ) (x : GroupColumns) (stamps timestamps : List ℕ) → DrawsGroups m n x stamps timestamps
    → DrawsCurves m (anchor_in m stamps) x.curves (firsts_of n (slice_index stamps)) (lasts_of n (slice_index stamps)) (firsts_of n (slice_index timestamps))
curves-all m n x stamps timestamps h =
    let stamp = slice_index stamps in
    let ticks = slice_index timestamps in
    elim (cases_eq (length stamps) 0)
    as (λ _. DrawsCurves m (anchor_in m stamps) x.curves (firsts_of n stamp) (lasts_of n stamp) (firsts_of n ticks)) [
      | inl none ↦
          curves-none m (anchor_in m stamps) x.curves (firsts_of n stamp) (lasts_of n stamp) (firsts_of n ticks)
          (omega (arith, x.curves_are, x.walk.group_few, h.seen_is, none))
      | inr some ↦
          subst (λ a. DrawsCurves m a x.curves (firsts_of n stamp) (lasts_of n stamp) (firsts_of n ticks)) (h.anchor_is (omega (arith, some)))
          (h.curves_draw stamp ticks (λ i few. refl) (λ i few. refl))
    ]
