use Rattle.std.proofs.Common.{refl, ◌∙◌}
use Rattle.path_skew.proofs.Stood.{first-alone, first-matched}
use Rattle.path_skew.proofs.skew.Skew.first.Goals as goal

-- a number of both flows
pub returns-in-Some-clause-stands : goal.returns-in-Some-clause-stands
returns-in-Some-clause-stands c = λ f g stood.
    first-matched c.args.self.now _ f g (record { rec = c.args.packet.rec; at = c.args.packet.at; in_time = _ }) stood
    (c.in_ok-told.ensures.whole ∙ stood.whole) c.args.packet.rtp c.in-Some.second
    (rw c.in-Some.is at c.in_ok-told.ensures.comes) refl c.put.ensures.count c.put.ensures.holds

-- none is matched
pub returns-in_default-clause-stands : goal.returns-in_default-clause-stands
returns-in_default-clause-stands c = λ f g stood.
    first-alone c.args.self.now _ f g (record { rec = c.args.packet.rec; at = c.args.packet.at; in_time = _ }) stood
    (c.in_ok-told.ensures.whole ∙ stood.whole) c.args.packet.rtp (rw c.in_default.is at c.in_ok-told.ensures.comes) refl refl
