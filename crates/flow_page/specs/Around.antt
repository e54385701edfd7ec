-- Pictures around violations: the level of the bucket or buffer that breaks its limit, at the packets before and after
-- those of the violation. Packets count from 0. This project's own format.
use Rattle.std.specs.Prelude.{ℕ, pos, ◌-◌, ◌^◌, ◌==◌, min, if◌then◌else◌, false, List, [], ◌∷◌, ◌++◌, codes, Some}
use Rattle.std.specs.Fmt.{decimal}
use Rattle.std.specs.List.{flat_map}
use Rattle.timing_base.specs.declared.fail.Broken.{Broken}
use Rattle.timing_base.specs.declared.fail.Broken.TheVariants.{Bucket, Over, Empty}
use Rattle.timing_base.specs.declared.fail.FailProof.{FailProof}
use Rattle.timing_base.specs.declared.media.Kind.{Kind}
use Rattle.timing_report.specs.Outcomes.{place_of}
use Rattle.timing_report.specs.Words.{kind_name, model_name}
use Rattle.flow_measure.specs.Columns.{width_of}
use Rattle.flow_page.specs.chart.Charts.{curve_figure}
use Rattle.flow_page.specs.declared.chart.chart.Scene.{Scene}
use Rattle.flow_page.specs.declared.chart.grid.Unit.TheVariants.{Packets}
use Rattle.flow_page.specs.declared.chart.grid.UnitAcross.TheVariants.{Packet}
use Rattle.flow_page.specs.declared.chart.lines.Limit.{Limit}
use Rattle.flow_page.specs.declared.chart.lines.LineName.TheVariants as line
use Rattle.flow_page.specs.Levels.{line_name}
use Rattle.flow_page.specs.declared.shown.Region.{Region}
use Rattle.flow_page.specs.declared.shown.TypeShown.{TypeShown}

-- the line that is broken: the limit of the type, or the line at 0 if the buffer underflows
abbrev pub broken_line : TypeShown → Broken → Limit
broken_line t Bucket = record { name = line_name t.kind; at = pos t.c_max }
broken_line t Over = record { name = line_name t.kind; at = pos t.vrx_full }
broken_line t Empty = record { name = line.Empty; at = pos 0 }

-- the title of a picture
abbrev pub around_title : Kind → Broken → List ℕ
around_title kind model =
    codes "Around the fail: " ++ (kind_name kind ++ (codes ", " ++ model_name model))

-- the text on the packets of the violation, with count and limit
abbrev pub around_count : FailProof → List ℕ
around_count proof =
    codes "packets " ++ (decimal proof.from ++ (codes " to " ++ (decimal proof.to ++ (codes ": count "
    ++ (decimal proof.count ++ (codes ", limit " ++ decimal proof.limit))))))

-- the text on the packets of the violation, if the first `ahead` of them come before the picture
abbrev pub around_ahead : FailProof → (ahead : ℕ) → List ℕ
around_ahead proof ahead =
    codes "packets " ++ (decimal proof.from ++ (codes " to " ++ (decimal proof.to ++ (codes ": count "
    ++ (decimal proof.count ++ (codes ", limit " ++ (decimal proof.limit ++ (codes "; the first "
    ++ (decimal ahead ++ codes " of them come before the picture")))))))))

-- the text beside a picture
abbrev pub around_detail : Region → List ℕ
around_detail r =
    if r.start - r.proof.from == 0 then around_count r.proof else around_ahead r.proof (r.start - r.proof.from)

-- the scene of the packets in the picture, with those of the violation shaded
abbrev pub around_scene : Region → Scene
around_scene r = record {
  wide = false;
  unit = Packets;
  along = Packet;
  across = record { start = r.start; count = min r.count (2 ^ 60); each = width_of r.count 400 };
  every = 0;
  shade = Some (record { from = r.proof.from - r.start; to = r.proof.to - r.start });
}

-- the picture around a violation of a type
abbrev pub around_figure : TypeShown → Region → List ℕ
around_figure t r =
    curve_figure (around_title t.kind r.proof.model) (around_detail r) (around_scene r)
    (broken_line t r.proof.model ∷ []) r.columns

-- the picture, if it belongs to this type
unfoldable pub around_if : TypeShown → Region → List ℕ
around_if t r = if place_of r.kind == place_of t.kind then around_figure t r else []

-- the pictures of all types
abbrev pub around_figures : List TypeShown → List Region → List ℕ
around_figures types regions = flat_map (λ t. flat_map (around_if t) regions) types
