use Rattle.std.proofs.Common.{Some, ◌∷◌, ◌++◌, sym, ap, ◌∙◌, arith}
use Rattle.std.proofs.lemmas.Grind.{common_steps}
use Rattle.path_skew.specs.Pair.{earlier_of, earliest, rising, falling}
use Rattle.path_skew.proofs.Orders.{earliest-insert, rising_total, rising_exact, falling_total, falling_exact}
use Rattle.path_skew.proofs.matches.Matches.put.Goals as goal

-- the first of the skews doesn't depend on where the new one stands
pub returns-clause-holds : goal.returns-clause-holds
returns-clause-holds c = λ before after held.
    let e = c.extreme_of-extreme.result in
    record {
      matched = grind (arith, common_steps);
      least =
          c.keep_least.ensures ∙ ap (λ o. Some (earlier_of rising e o)) held.least
          ∙ sym (earliest-insert rising rising_total rising_exact before after e)
          ∙ ap (λ x. earliest rising (before ++ x ∷ after)) c.extreme_of-extreme.ensures;
      greatest =
          c.keep_greatest.ensures ∙ ap (λ o. Some (earlier_of falling e o)) held.greatest
          ∙ sym (earliest-insert falling falling_total falling_exact before after e)
          ∙ ap (λ x. earliest falling (before ++ x ∷ after)) c.extreme_of-extreme.ensures;
    }
