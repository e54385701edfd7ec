use Rattle.std.proofs.Common.{◌≡◌, [], sym, ap, ◌∙◌, subst}
use Rattle.crossbeam_queue.specs.Fifo.{Learns, Pops}
use Rattle.ruled_intake.specs.declared.rule.Entry.{Entry}
use Rattle.ruled_intake.specs.declared.rule.View.{View}
use Rattle.ruled_intake.specs.declared.rule.View.TheVariants.{Takes}
use Rattle.ruled_intake.specs.Knows.{got_by, made_by}
use Rattle.ruled_intake.specs.Lanes.{LaneId, Taker}
use Rattle.ruled_intake.specs.Rule.{Delivers, HasFew, HasGot, view_of}
use Rattle.ruled_intake.proofs.Rules.{gets, sees}
use Rattle.ruled_intake.proofs.Steps.{taken_more, taker_of}
use Rattle.ruled_intake.proofs.lane.Lane.take.Goals as goal

pub pop_as-requires-clause-rule : goal.pop_as-requires-clause-rule
pop_as-requires-clause-rule g c =
    let pass = c.pass.inside.pass in
    let view = pass.me.view.client in
    let is = sym c.pass.invariant.2.view_is in
    let knows : view_of c.args.pass.now ≡ Takes (got_by view) (made_by view) [] = ap view_of (sym c.pass.view_is) in (
      subst (λ (v : View). Pops Delivers pass.id v (HasGot v)) is (gets pass.id (made_by view) (got_by view) []),
      subst (λ (v : View). Learns Delivers pass.id v (λ items. HasFew v × g.L.Lesson.fact v items)) is
          (sees pass.id (made_by view) (got_by view) [] g.L.Lesson.fact
          (subst (λ (v : View). Learns Delivers pass.id v (g.L.Lesson.fact v)) knows (c.requires.lesson pass.id))),
    )

pub returns-clause-some : goal.returns-clause-some
returns-clause-some g c =
    let told = c.in_ok-entry.ensures in
    let old = c.pass.inside.pass in
    let new = c.pop_as.new.pass in
    let e = c.in_ok-entry.entry in
    let here : record { web = new.web; heap = new.heap } ≡ c.self.inside.queue = λ i. record { web = told.queue.0.0.0 i; heap = told.queue.0.0.1 i } in
    let lane : record { web = new.web; heap = new.heap } ≡ c.args.pass.now.lane = here ∙ c.self.view_is ∙ sym c.requires.lane in
    let lane_was : record { web = old.web; heap = old.heap } ≡ c.args.pass.now.lane = ap (λ (t : Taker). t.lane) c.pass.view_is in
    let is : taker_of c.args.pass.now.lane old.me.view.client ≡ c.args.pass.now = ap (λ (l : LaneId). taker_of l old.me.view.client) (sym lane_was) ∙
    c.pass.view_is in (
      e.from,
      taken_more (record { web = new.web; heap = new.heap }) c.args.pass.now old.me.view.client new.me.view.client e lane is c.pass.invariant.2.view_is
          told.rule.0,
    )
