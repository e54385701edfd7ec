use Rattle.std.proofs.Common.{◌≤◌, Bool, refl, subst, arith}
use Rattle.std.specs.Prelude.{FitsSigned, ℤ}
use Rattle.std.specs.Int.{w128}
use Rattle.std.proofs.lemmas.Int.{ints, to_z-of_z}
use Rattle.read_schedule.specs.Stands.{IsNextAfter, StandsBy}
use Rattle.flow_shaper.proofs.meters.Meters.start.Goals as goal

pub returns : goal.returns
returns c =
    let m = c.args.params.now.media in
    let n = c.args.params.now.n in
    let at = c.args.at in
    let fits : FitsSigned w128 c.args.n0 = omega (arith, ints, c.requires.low, c.requires.high) in
    let same = to_z-of_z w128 c.args.n0 fits in
    let new = subst (λ (z : ℤ). StandsBy m n z c.is_gapped.result c.new-schedule.result at) same (c.new-schedule.ensures at) in
    let here : at ≤ at = omega arith in
    record {
      last = refl;
      count = refl;
      begin = refl;
      tick = c.start.ensures;
      read = subst (λ (g : Bool). IsNextAfter m n c.args.n0 g at c.next_after-read.result) c.is_gapped.ensures
          (c.next_after-read.ensures.next m n c.args.n0 c.is_gapped.result at here new);
      reads = subst (λ (g : Bool). StandsBy m n c.args.n0 g c.next_after-read.new.self at) c.is_gapped.ensures
          (c.next_after-read.ensures.stands m n c.args.n0 c.is_gapped.result at here new);
    }
