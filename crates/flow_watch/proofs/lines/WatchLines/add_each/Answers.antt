use Rattle.std.proofs.Common.{refl, subst, sym, take}
use Rattle.std.proofs.Math.Seq.{take_all}
use Rattle.std.proofs.lemmas.List.{take_more}
use Rattle.flow_watch.specs.making.Lines.{AddsEach}
use Rattle.flow_watch.proofs.Adding.{each-more}
use Rattle.flow_watch.proofs.lines.WatchLines.add_each.Goals as goal

pub loop-group-init : goal.loop-group-init
loop-group-init c = refl

pub loop-group-preserved : goal.loop-group-preserved
loop-group-preserved c =
    let groups = c.args.groups.now in
    let i = c.loop-group.group-index in
    subst (λ l. AddsEach l c.args.self.now c.add.new.self) (sym (take_more groups i _ c.loop-group-test.true))
    (each-more (take i groups) _ c.args.self.now c.loop-group.self c.add.new.self c.loop-group.invariant c.in_ok-add.ensures)

pub returns : goal.returns
returns c =
    subst (λ l. AddsEach l c.args.self.now c.loop-group.self) (take_all c.loop-group.group-index c.args.groups.now c.loop-group-test.false) c.loop-group.invariant
