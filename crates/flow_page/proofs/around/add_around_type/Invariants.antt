use Rattle.std.proofs.Common.{◌≡◌, ◌++◌, drop}
use Rattle.std.specs.Prelude.{string_bytes}
use Rattle.std.specs.List.{flat_map}
use Rattle.flow_page.specs.Around.{around_if}
use Rattle.flow_page.proofs.around.add_around_type.Given as goal

abbrev pub invariant-loop-region : goal.invariant-loop-region
invariant-loop-region l =
    string_bytes l.text ++ flat_map (around_if l.shown) (drop l.region-index l.regions)
    ≡ string_bytes l.fn.text ++ flat_map (around_if l.shown) l.regions
