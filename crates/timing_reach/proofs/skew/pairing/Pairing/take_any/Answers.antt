use Rattle.std.proofs.Common.{◌≡◌, true, is_some, refl, rules, []}
use Rattle.std.specs.List.{cons_option}
use Rattle.timing_base.specs.Captures.{Record}
use Rattle.timing_reach.specs.skew.Pairs.{are_apart}
use Rattle.timing_reach.specs.declared.skew.pairing.Pairing.{Pairing}
use Rattle.timing_reach.proofs.Pairings.{adds-both, pairs-first, pairs-on}
use Rattle.timing_reach.proofs.skew.pairing.Pairing.take_any.Goals as goal

pub returns-then-is_some-clause-takes : goal.returns-then-is_some-clause-takes
returns-then-is_some-clause-takes c =
    let old = c.args.self.now in
    let new : Pairing = record { first = c.packet_in-first.new.self; second = old.second; skew = c.put_first.new.skew } in
    let r : Record = record { number = c.args.number; stamp = c.args.at; bytes = c.args.frame.now } in
    let apart : are_apart old ≡ true = search rules in
    let some : is_some c.packet_in-first.result ≡ true = search rules in
    pairs-first old new r c.packet_in-first.result apart some c.packet_in-first.ensures.same (record { media = refl; is_here = refl })
    c.packet_in-first.ensures.packets c.in_ok-put_first.ensures.adds

pub returns-clause-takes : goal.returns-clause-takes
returns-clause-takes c =
    let r : Record = record { number = c.args.number; stamp = c.args.at; bytes = c.args.frame.now } in
    let old = c.args.self.now in
    let new : Pairing = record { first = c.packet_in-first.new.self; second = c.packet_in-second.new.self; skew = c.put_second.new.skew } in
    let first = cons_option c.packet_in-first.result [] in
    let second = cons_option c.packet_in-second.result [] in
    pairs-on c.put_second.result old new r first second c.packet_in-first.ensures.same c.packet_in-second.ensures.same c.packet_in-first.ensures.packets
    c.packet_in-second.ensures.packets
    (adds-both c.put_second.result old.skew c.put_first.new.skew c.put_second.new.skew first second c.in_ok-put_first.ensures.adds c.put_second.ensures.adds)
