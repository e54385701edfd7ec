use Rattle.std.proofs.Common.{◌≡◌, ◌∷◌, ◌++◌, [], List, map, length, sym, ap, ◌∙◌, arith, slice_index_or, slice_set, Vec, Global, append_assoc}
use Rattle.std.proofs.lemmas.List.{length-append}
use Rattle.ruled_intake.specs.Lanes.{Sender}
use Rattle.ruled_intake.specs.declared.passes.SendPass.{SendPass}
use Rattle.flow_worker.proofs.lemmas.crew.Dealing.{deal_room, deal_step}
use Rattle.flow_worker.proofs.crew.columns.deal.Goals as goal

pub index_mut-requires : goal.index_mut-requires
index_mut-requires c =
    let loop = c.loop-pass in
    let whole : c.args.row.items ≡ loop.yielded ++ (c.in-Some.pass ∷ c.next.new.self.rest.items) =
    loop.invariant.whole ∙ ap (λ (l : List Sender). loop.yielded ++ l) c.in-Some.ensures.steps.0 in
    let room = deal_room (λ (v : Vec SendPass Global). v.items) c.args.columns.now.items loop.columns.items c.args.row.items loop.yielded
    c.next.new.self.rest.items c.in-Some.pass
    loop.invariant.dealt_out c.requires whole in
    omega (arith, room, loop.invariant.place_is)

pub loop-pass-preserved : goal.loop-pass-preserved
loop-pass-preserved c =
    let loop = c.loop-pass in
    let whole : c.args.row.items ≡ loop.yielded ++ (c.in-Some.pass ∷ c.next.new.self.rest.items) =
    loop.invariant.whole ∙ ap (λ (l : List Sender). loop.yielded ++ l) c.in-Some.ensures.steps.0 in
    let at : c.index_mut.result.now ≡ slice_index_or loop.columns.items (length loop.yielded) c.index_mut.result.now =
    c.index_mut.ensures.value ∙ ap (λ n. slice_index_or loop.columns.items n c.index_mut.result.now) loop.invariant.place_is in
    record {
      whole = whole ∙ sym (append_assoc loop.yielded (c.in-Some.pass ∷ []) c.next.new.self.rest.items);
      place_is = omega (arith, loop.invariant.place_is, length-append loop.yielded (c.in-Some.pass ∷ []));
      dealt_out =
          ap (λ n. map (λ (v : Vec SendPass Global). v.items) (slice_set loop.columns.items n c.push.new.self)) loop.invariant.place_is
          ∙ deal_step (λ (v : Vec SendPass Global). v.items) c.args.columns.now.items loop.columns.items c.args.row.items loop.yielded
          c.next.new.self.rest.items c.in-Some.pass
          c.index_mut.result.now c.push.new.self loop.invariant.dealt_out c.requires whole at c.in_ok-push.ensures.items;
    }
