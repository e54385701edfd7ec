use Rattle.std.specs.Prelude.{IfOk, string_bytes}
use Rattle.std.proofs.Common.{◌≡◌, ◌++◌, List, ℕ, sym, subst}
use Rattle.timing_reach.proofs.Listings.{line-held}
use Rattle.timing_reach.proofs.shape.words.add_packet.Goals as goal

pub returns-in_default : goal.returns-in_default
returns-in_default c =
    subst (λ (line : List ℕ). IfOk c.add_delayed.result (λ _. string_bytes c.add_delayed.new.lines ≡ string_bytes c.args.lines.now ++ line))
    (sym (line-held c.args.packet c.args.delay c.args.bound c.in_default.not-Arrival)) c.add_delayed.ensures
