use Rattle.std.proofs.Common.{◌++◌, sym, ap, ◌∙◌}
use Rattle.std.proofs.lemmas.Iterator.{YieldsList-from_chars}
use Rattle.std.proofs.lemmas.Iterator.Consumers.{YieldsList-end}
use Rattle.std.proofs.lemmas.List.{map-id}
use Rattle.std.specs.List.{flat_map}
use Rattle.std.specs.Prelude.{chars, string_bytes, encode_utf8_all}
use Rattle.flow_page.specs.chart.Escapes.{written}
use Rattle.flow_page.proofs.lemmas.chart.Escapes.{each_written}
use Rattle.flow_page.proofs.chart.escape.add_escaped.Goals as goal

pub returns : goal.returns
returns c =
    let all = YieldsList-from_chars c.args.plain.now c.utf8.plain cc in
    let t = YieldsList-end all c.loop-c.yielded _ c.loop-c.yielded_by _ _ c.in-None.is c.next.ensures.steps in
    c.loop-c.invariant
    ∙ ap (λ cs. string_bytes c.args.text.now ++ flat_map (λ x. encode_utf8_all (written x)) cs) (sym (map-id c.loop-c.yielded) ∙ t.0)
    ∙ ap (λ s. string_bytes c.args.text.now ++ s) (each_written (chars c.args.plain.now))
