use Rattle.std.proofs.Common.{◌≡◌, ◌<◌, length, ◌∙◌, sym, subst, refl, rules, arith}
use Rattle.std.proofs.lemmas.Int.{to_z-of_z}
use Rattle.flow_measure.specs.Places.{IsWithin}
use Rattle.flow_measure.specs.declared.bins.Place.TheVariants.{Above, Below, Bin}
use Rattle.flow_measure.proofs.Binned.{counts-times, set-times}
use Rattle.flow_measure.proofs.bins.Bins.feed.Goals as goal

pub returns-in-Below-clause-stands : goal.returns-in-Below-clause-stands
returns-in-Below-clause-stands c = λ numbers h same.
    let s = c.args.self.now in
    let fits = c.ranges.number in
    let value = simp to_z-of_z at c.place_of-place.ensures.value in
    counts-times s _ numbers c.args.number c.args.times Below (sym c.in-Below.is ∙ value) (record {
      limit = refl;
      seen = refl;
      each = λ bin few. omega arith;
      above = omega arith;
      below = refl;
    }) same h

pub returns-in-Bin-clause-stands : goal.returns-in-Bin-clause-stands
returns-in-Bin-clause-stands c = λ numbers h same.
    let s = c.args.self.now in
    let here = c.in-Bin.bin in
    let fits = c.ranges.number in
    let value = simp to_z-of_z at c.place_of-place.ensures.value in
    let long : length s.counts ≡ 64 = search rules in
    let inside : here < 64 = subst IsWithin c.in-Bin.is c.place_of-place.ensures.within in
    counts-times s _ numbers c.args.number c.args.times (Bin here) (sym c.in-Bin.is ∙ value) (record {
      limit = refl;
      seen = refl;
      each = λ bin few. set-times s.counts here bin c.args.times (omega (arith, inside, long));
      above = omega arith;
      below = omega arith;
    }) same h

pub returns-in-Above-clause-stands : goal.returns-in-Above-clause-stands
returns-in-Above-clause-stands c = λ numbers h same.
    let s = c.args.self.now in
    let fits = c.ranges.number in
    let value = simp to_z-of_z at c.place_of-place.ensures.value in
    counts-times s _ numbers c.args.number c.args.times Above (sym c.in-Above.is ∙ value) (record {
      limit = refl;
      seen = refl;
      each = λ bin few. omega arith;
      above = refl;
      below = omega arith;
    }) same h
