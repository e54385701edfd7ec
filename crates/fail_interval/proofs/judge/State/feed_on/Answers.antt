use Rattle.std.proofs.Common.{refl}
use Rattle.fail_interval.proofs.judge.State.feed_on.Goals as goal

pub returns-in-Going-clause-goes_on : goal.returns-in-Going-clause-goes_on
returns-in-Going-clause-goes_on g c = λ took. record {
  flow = c.in-Going.flow;
  later = c.feed_on.new.self;
  is = c.in-Going.is;
  becomes = refl;
  media = c.feed_on.ensures.media;
  shift = c.feed_on.ensures.shift;
  goes = c.feed_on.ensures.goes_on took;
}

pub returns-in-Going-clause-tells : goal.returns-in-Going-clause-tells
returns-in-Going-clause-tells g c = λ took wants. record {
  flow = c.in-Going.flow;
  later = c.feed_on.new.self;
  is = c.in-Going.is;
  becomes = refl;
  media = c.feed_on.ensures.media;
  shift = c.feed_on.ensures.shift;
  goes = c.feed_on.ensures.tells took wants;
}
