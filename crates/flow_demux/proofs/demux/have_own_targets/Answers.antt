use Rattle.std.proofs.Common.{◌≡◌, List, refl, rules, sym, subst, take, take_all}
use Rattle.std.specs.Prelude.{All}
use Rattle.timing_base.specs.Targets.{HaveOwnTargets, target_of}
use Rattle.timing_base.specs.declared.target.Target.{Target}
use Rattle.flow_demux.specs.Takings.{media_in}
use Rattle.flow_demux.specs.declared.media_flow.MediaFlow.{MediaFlow}
use Rattle.flow_demux.proofs.Owning.{own-more}
use Rattle.flow_demux.proofs.demux.have_own_targets.Goals as goal

pub loop-place-preserved : goal.loop-place-preserved
loop-place-preserved g c =
    own-more c.loop-place.place c.args.flows.now c.index-flows-place.result (search rules) (sym c.index-flows-place.is) c.loop-place.invariant
    (subst (λ (t : Target). All (λ (f : MediaFlow g.row.F.Denot). target_of f.media ≡ t → ⊥) (take c.loop-place.place c.args.flows.now))
    c.target.ensures (c.if-go_to.ensures refl))

pub returns : goal.returns
returns g c = λ _.
    subst (λ (l : List (MediaFlow g.row.F.Denot)). HaveOwnTargets (media_in l)) (take_all c.loop-place.place c.args.flows.now c.loop-place-test.false)
    c.loop-place.invariant
