use Rattle.std.proofs.Common.{refl, arith}
use Rattle.std.proofs.lemmas.Int.{to_z-of_z}
use Rattle.offset_window.proofs.Ends.{lower-none, upper-none}
use Rattle.offset_window.proofs.Fed.{grid-same}
use Rattle.offset_window.proofs.meter.WindowMeter.new.Goals as goal

pub returns-clause-stands : goal.returns-clause-stands
returns-clause-stands c =
    let fits = c.ranges.n0 in
    record {
      kind_is = refl;
      seen = refl;
      grid = grid-same _ _ _ _ _ c.without_offset.result c.without_offset.result c.is_gapped.ensures refl (simp to_z-of_z at c.without_offset.ensures);
      back = λ more. absurd (omega (arith, more, c.over.ensures));
      lower = lower-none _;
      upper = upper-none _;
    }
