use Rattle.std.proofs.Common.{refl, rules}
use Rattle.path_skew.proofs.Stood.{holds-none}
use Rattle.path_skew.proofs.skew.Skew.new.Goals as goal

-- no packet of either flow
pub returns-clause-stands : goal.returns-clause-stands
returns-clause-stands c = record {
  whole = refl;
  first = record { numbers = search rules; repeats = search rules; unread = search rules };
  second = record { numbers = search rules; repeats = search rules; unread = search rules };
  numbers = holds-none c.new-3.result c.new-3.ensures.none;
  matches = record { matched = search rules; least = search rules; greatest = search rules };
  back = search rules;
}
