use Rattle.std.proofs.Common.{◌≡◌, ◌<◌, ◌+◌, ℕ, Bool, nat_lt, ap, ◌∙◌, sym, arith}
use Rattle.flow_measure.specs.Bins.{is_above}
use Rattle.timing_explain.proofs.Placed.{place-more}
use Rattle.timing_explain.proofs.details.overfull.OverfullMeter.feed.Goals as goal

pub returns-clause-stands : goal.returns-clause-stands
returns-clause-stands c = λ n c_max bucket rec stamp seen h held rec_is stamp_is.
    let s = c.args.self.now in
    let test : ℕ → Bool = λ i. is_above c_max (bucket i) in
    let exceeds : Bool = nat_lt s.c_max c.args.held in
    let passes : test seen ≡ exceeds = ap (is_above c_max) held ∙ ap (λ l. nat_lt l c.args.held) (sym h.c_max_is) in
    let here : (j : ℕ) → j < 1 → test (seen + j) ≡ exceeds = λ j few. let same : seen + j ≡ seen = omega (arith, few) in ap test same ∙ passes in
    let p = place-more test rec stamp seen c.args.place s.first _ exceeds h.first h.first_is h.place_is passes rec_is stamp_is c.first_with-self.ensures in
    record {
      c_max_is = h.c_max_is;
      groups_are = c.feed.ensures.stands n test seen h.groups_are here;
      first = p.first;
      first_is = p.is;
      place_is = p.place_is;
    }
