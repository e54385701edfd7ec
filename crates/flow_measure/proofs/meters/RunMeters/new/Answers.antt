use Rattle.std.proofs.Common.{true, false, refl, arith}
use Rattle.flow_measure.specs.Groups.{firsts_of, lasts_of}
use Rattle.flow_measure.proofs.Slacks.{times-none}
use Rattle.flow_measure.proofs.meters.RunMeters.new.Goals as goal

pub returns-clause-stands : goal.returns-clause-stands
returns-clause-stands c =
    let m = c.args.params.now.media in
    let n = c.args.params.now.n in
    record {
      n_is = c.new.ensures.n;
      seen = c.new.ensures.seen;
      records_are = refl;
      timestamps_are = refl;
      anchor_is = λ some. absurd (omega (arith, some));
      begun = λ some. absurd (omega (arith, some, c.new.ensures.place));
      kinds = λ kind p are. c.new-2.ensures.stands kind p;
      gapped_is = times-none m n true c.new-3.result c.new-3.ensures.stands;
      linear_is = times-none m n false c.new-4.result c.new-4.ensures.stands;
      groups_are = λ stamp timestamp a b. c.new-5.ensures.stands m _ (firsts_of n stamp) (lasts_of n stamp) (firsts_of n timestamp);
      gaps_are = λ stamp a. c.new-6.ensures.stands stamp;
      windows_are = c.new-7.ensures.stands;
    }
