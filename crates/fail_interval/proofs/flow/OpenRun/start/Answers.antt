use Rattle.std.proofs.Common.{[], refl, subst, sym}
use Rattle.fail_interval.specs.Metered.{TellsOf}
use Rattle.fail_interval.specs.SoFar.{in_head}
use Rattle.fail_interval.proofs.Limits.{fresh-fits}
use Rattle.fail_interval.proofs.flow.OpenRun.start.Goals as goal

pub feed-requires : goal.feed-requires
feed-requires g c = ∣ (in_head 0, record { stands = c.new-judge.ensures.stands _; fits = fresh-fits c.args.packet.at _ }) ∣₁

pub returns-clause-tells : goal.returns-clause-tells
returns-clause-tells g c = λ wants past shift first over is heads telling.
    c.in_ok-feed.ensures.tells wants past shift first first over (in_head 0) [] [] (record {
      stands = c.new-judge.ensures.stands _;
      fits = fresh-fits
          c.args.packet.at _;
    })
    is heads refl tt
    (subst (λ judge. TellsOf g.M.RunMeter.stands g.M.RunMeter.tells past c.args.media.now shift c.args.run.run first over judge c.args.out.now [] [])
    (sym c.new-judge.ensures.is) (record { told = (refl, refl); out_tells = telling }))
