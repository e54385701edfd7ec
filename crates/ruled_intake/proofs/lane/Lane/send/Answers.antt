use Rattle.std.proofs.Common.{ℕ, ◌≡◌, ◌^◌, ◌++◌, ◌∷◌, [], List, sym, ap, refl, subst}
use Rattle.crossbeam_queue.specs.Fifo.{Pushes}
use Rattle.ruled_intake.specs.declared.message.Message.{Message}
use Rattle.ruled_intake.specs.declared.rule.View.{View}
use Rattle.ruled_intake.specs.Knows.{put_by}
use Rattle.ruled_intake.specs.Lanes.{Sender, IsWithin, entry}
use Rattle.ruled_intake.specs.Rule.{Delivers, HasPut}
use Rattle.ruled_intake.proofs.Rules.{puts}
use Rattle.ruled_intake.proofs.lane.Lane.send.Goals as goal

pub push_as-requires-clause-rule : goal.push_as-requires-clause-rule
push_as-requires-clause-rule g c = λ n.
    let pass = c.pass.inside.pass in
    let put : List Message = put_by pass.me.view.client in
    let e = entry c.pass.inside.from c.args.message in
    let is : c.args.pass.now.sent ≡ put = sym (ap (λ (s : Sender). s.sent) c.pass.view_is) in
    let within : IsWithin (2 ^ 37) (put ++ c.args.message ∷ []) = subst (λ (l : List Message). IsWithin (2 ^ 37) (l ++ c.args.message ∷ [])) is c.requires.few
    in
    subst (λ (v : View). Pushes Delivers n pass.id v e (HasPut v e)) (sym c.pass.invariant.2.view_is) (puts n pass.id c.pass.inside.from put e refl within)
