use Rattle.std.proofs.Common.{[], ◌∷◌, ◌++◌, ap, rules, subst, sym, ◌∙◌}
use Rattle.std.proofs.lemmas.List.Elements.{All-push, All-same}
use Rattle.timing_base.specs.Keys.{key_of}
use Rattle.flow_demux.specs.Awaits.{AwaitsExpected}
use Rattle.fail_interval.specs.Meterings.{expected_next}
use Rattle.fail_interval.specs.Stands.{StandsFor, count_fed}
use Rattle.fail_interval.proofs.Banks.{judges-more, most-push}
use Rattle.fail_interval.specs.BankStands.{Judging, most_fed}
use Rattle.fail_interval.proofs.bank.Bank.new.Goals as goal

pub loop-number-preserved : goal.loop-number-preserved
loop-number-preserved c =
    let m = c.index-media-number.result in
    let key = key_of c.args.file c.loop-number.number in
    let flow = c.new-in-loop-number.result in
    record {
      stands = judges-more c.args.options c.args.file c.loop-number.number c.args.media.now c.loop-number.flows.items c.push.new.self.items []
          m flow (search rules) (sym c.index-media-number.is) c.loop-number.invariant.stands
          record {
            media = c.new-in-loop-number.ensures.media;
            judge = subst (λ (j : Judging). StandsFor m key c.args.options j.judge []) (sym c.new-in-loop-number.ensures.taker) c.new.ensures.stands;
          }
          c.in_ok-push.ensures.items;
      awaits = All-same (AwaitsExpected expected_next) c.push.new.self.items (c.loop-number.flows.items ++ flow ∷ []) c.in_ok-push.ensures.items
          (All-push (AwaitsExpected expected_next) c.loop-number.flows.items flow c.loop-number.invariant.awaits c.new-in-loop-number.ensures.awaits);
      none = ap most_fed c.in_ok-push.ensures.items
          ∙ most-push c.loop-number.flows.items flow c.loop-number.invariant.none
          (ap (λ (j : Judging). count_fed j.judge) c.new-in-loop-number.ensures.taker ∙ c.new.ensures.none);
    }
