use Rattle.std.proofs.Common.{◌≡◌, ◌∷◌, ◌++◌, [], List, length, sym, ap, ◌∙◌, Vec, Global, append_assoc}
use Rattle.ruled_intake.specs.declared.passes.SendPass.{SendPass}
use Rattle.flow_worker.proofs.lemmas.crew.Dealing.{behind_first, deal_next}
use Rattle.flow_worker.proofs.crew.columns.deal_all.Goals as goal

pub loop-row-preserved : goal.loop-row-preserved
loop-row-preserved c =
    let loop = c.loop-row in
    let next : loop.row-iterator.rest.items ≡ c.in-Some.row ∷ c.next.new.self.rest.items = c.in-Some.ensures.steps.0 in
    let dealt = deal_next (λ (v : Vec SendPass Global). v.items) c.args.count loop.yielded c.in-Some.row loop.columns.items c.deal.new.columns.items
    loop.invariant.dealt_out c.in_ok-deal.ensures in
    record {
      whole =
          loop.invariant.whole ∙ ap (λ (l : List (Vec SendPass Global)). loop.yielded ++ l) next
          ∙ sym (append_assoc loop.yielded (c.in-Some.row ∷ []) c.next.new.self.rest.items);
      fit = behind_first (λ (v : Vec SendPass Global). length v.items ≡ c.args.count) c.in-Some.row c.next.new.self.rest.items loop.row-iterator.rest.items next
          loop.invariant.fit;
      long = dealt.1;
      dealt_out = dealt.0;
    }
