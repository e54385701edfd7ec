use Rattle.std.proofs.Common.{arith, rules, refl, ap, length, ◌≡◌, ◌∙◌, ◌+◌, ◌-◌, ◌^◌}
use Rattle.std.specs.Prelude.{◌==◌, max}
use Rattle.path_skew.specs.Stands.{count_first, count_second}
use Rattle.timing_reach.specs.skew.Pairs.{pair_given}
use Rattle.timing_reach.proofs.Comparings.{compares-next}
use Rattle.timing_reach.proofs.skew.compare.read_next.Goals as goal

pub returns-clause-told : goal.returns-clause-told
returns-clause-told g c = λ text whole.
    let long : c.len-number.result ≡ length c.args.comparing.now.notes.items = search rules in
    compares-next text c.args.count c.args.comparing.now (record { notes = c.push.new.self; pairing = c.take_source.new.taker }) c.turn.new.self
    c.take_source.new.taker c.in_ok-taken.taken
    c.turn.ensures.first c.turn.ensures.second (c.turn.ensures.first_here ∙ ap (λ n. n == 0) long)
    (c.turn.ensures.second_here ∙ ap (λ n. n + 1 == c.args.count) long) c.turn.ensures.skew
    (c.in_ok-taken.ensures.told text whole) c.in_ok-push.ensures.items refl

pub returns-clause-given : goal.returns-clause-given
returns-clause-given g c =
    let was : pair_given c.turn.new.self ≡ pair_given c.args.comparing.now.pairing = ap (λ s. max (count_first s) (count_second s)) c.turn.ensures.skew in
    let left = 2 ^ 41 - (pair_given c.turn.new.self + c.in_ok-taken.taken.records) in
    let room = c.in_ok-taken.ensures.room left (omega (arith, was, c.in_ok-taken.ensures.few, c.requires.given, c.requires.few)) in
    let long : length c.push.new.self.items ≡ length c.args.comparing.now.notes.items + 1 = search rules in
    omega (arith, was, room, long, c.in_ok-taken.ensures.few, c.requires.given, c.requires.few)
