use Rattle.std.proofs.Common.{◌<◌, length, ◌∙◌, rules, sym}
use Rattle.flow_measure.proofs.lemmas.rows.Rowing.{puts-all, puts-next}
use Rattle.flow_measure.proofs.rows.meter.put_rows.Goals as goal

pub loop-one-preserved : goal.loop-one-preserved
loop-one-preserved c =
    let within : c.loop-one.one-index < length c.args.kept.now = search rules in
    let h = c.loop-one.invariant in
    record {
      frames = c.put_row.ensures.frames ∙ h.frames;
      puts = λ new after rest. h.puts new after
          (puts-next c.args.to.now.frames c.loop-one.to.frames c.args.params.now.media c.args.params.now.n c.loop-one.maker c.put_row.new.maker new
          c.args.kept.now c.loop-one.one-index c.one-item.result _ _ after h.frames within (sym c.one-item.is) c.in_ok-put_row.ensures.puts rest);
    }

pub returns-clause-puts : goal.returns-clause-puts
returns-clause-puts c =
    c.loop-one.invariant.puts c.loop-one.maker c.loop-one.to.text.items
    (puts-all c.args.to.now.frames c.args.params.now.media c.args.params.now.n c.loop-one.maker c.args.kept.now c.loop-one.one-index _ (search rules))
