use Rattle.std.proofs.Common.{◌≡◌, true, is_some, refl, rules}
use Rattle.timing_base.specs.Captures.{Record}
use Rattle.timing_reach.specs.skew.Pairs.{are_apart}
use Rattle.timing_reach.specs.declared.skew.pairing.Pairing.{Pairing}
use Rattle.timing_reach.proofs.Pairings.{pairs-second}
use Rattle.timing_reach.proofs.skew.pairing.Pairing.take_second.Goals as goal

pub returns-clause-takes : goal.returns-clause-takes
returns-clause-takes c = λ _.
    let old = c.args.self.now in
    let new : Pairing = record { first = old.first; second = c.next_packet-second.new.self; skew = c.put_second.new.skew } in
    let r : Record = record { number = c.args.number; stamp = c.args.at; bytes = c.args.frame.now } in
    let apart : are_apart old ≡ true = search rules in
    let some : is_some c.next_packet-second.result ≡ true = search rules in
    pairs-second old new r c.next_packet-second.result apart some (record { media = refl; is_here = refl }) c.next_packet-second.ensures.same
    c.next_packet-second.ensures.packets c.in_ok-put_second.ensures.adds
