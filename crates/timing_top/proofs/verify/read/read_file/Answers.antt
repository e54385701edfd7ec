use Rattle.std.proofs.Common.{◌≡◌, rules, subst}
use Rattle.timing_top.specs.verify.Found.{AreAsked}
use Rattle.timing_top.proofs.lemmas.verify.Served.{asked-same}
use Rattle.timing_top.proofs.verify.read.read_file.Goals as goal

pub returns-clause-tells : goal.returns-clause-tells
returns-clause-tells g c =
    let tells = c.in_ok-readings-2.ensures.tells in
    let options : c.job.inside.options ≡ c.args.job.now.options = search rules in
    record {
      told = λ text told. record {
        readings = tells.told text told;
        asked = subst (λ t. AreAsked t c.args.claims.now c.args.file 0 c.args.media.now c.in_ok-readings-2.readings.items) options
            (asked-same c.job.inside.options c.args.claims.now c.args.file 0 c.args.media.now c.in_ok-readings.readings.items
            c.in_ok-readings-2.readings.items c.in_ok-readings.ensures.asked c.in_ok-readings-2.ensures.same);
      };
      cause = tt;
      there = tells.there;
    }
