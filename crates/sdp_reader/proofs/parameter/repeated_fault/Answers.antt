use Rattle.std.proofs.Common.{◌∙◌, arith, ap, refl, map, take, get_or, false}
use Rattle.std.specs.List.{list_any}
use Rattle.std.proofs.lemmas.Grind.{common_steps}
use Rattle.sdp_reader.specs.declared.fault.SdpCause.TheVariants.{RepeatedParameter}
use Rattle.sdp_reader.specs.Parameters.{have_one_name, is_of}
use Rattle.sdp_reader.specs.Plain.{plain_item}
use Rattle.sdp_reader.proofs.Items.{seen-step}
use Rattle.sdp_reader.proofs.Repeats.{repeats_after-step, repeats_after-none}
use Rattle.sdp_reader.proofs.parameter.repeated_fault.Goals as goal

pub loop-item-init : goal.loop-item-init
loop-item-init c = record {
  rows = refl;
  told = repeats_after-none (λ item. item.line) RepeatedParameter have_one_name (map plain_item c.args.items.now);
  seen = λ k h. grind (arith, common_steps);
}

pub loop-item-preserved : goal.loop-item-preserved
loop-item-preserved c =
    let items = c.args.items.now in
    let i = c.loop-item.item-index in
    let row = c.row-row.result in
    let inside = c.row-row.ensures.inside in
    record {
      rows = grind (arith, common_steps);
      told =
          repeats_after-step (λ item. item.line) RepeatedParameter have_one_name plain_item c.loop-item.fault _ _ items i _ (get_or c.loop-item.seen row false)
          c.first_of-fault.ensures c.at.ensures
          (c.loop-item.invariant.seen row inside ∙ ap (λ k. list_any (is_of k) (map plain_item (take i items))) c.row-row.ensures.value) (omega arith)
          ∙ c.loop-item.invariant.told;
      seen = λ k h. seen-step plain_item c.loop-item.seen row items i _ k c.row-row.ensures.value (omega arith) (omega arith) (c.loop-item.invariant.seen k h);
    }
