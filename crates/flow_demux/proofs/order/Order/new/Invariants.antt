use Rattle.std.proofs.Common.{◌≡◌, ◌<◌, length}
use Rattle.std.specs.Prelude.{All}
use Rattle.flow_demux.proofs.order.Order.new.Given as goal

abbrev pub invariant-loop-each : goal.invariant-loop-each
invariant-loop-each l = record {
  within : All (λ media. media < l.media) l.next.items;
  long : length l.next.items ≡ l.each;
}
