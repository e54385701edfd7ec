use Rattle.std.proofs.Common.{refl}
use Rattle.fail_interval.proofs.laws.rows_are_numbered.Goals as goal

pub returns : goal.returns
returns c = record { files = λ options a b x y. refl; file = λ options a x. refl; none = λ options x. refl }
