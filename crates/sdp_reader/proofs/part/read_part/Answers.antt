use Rattle.std.proofs.Common.{◌≡◌, true, map, sym, ◌∙◌, arith}
use Rattle.std.specs.Option.{option_map}
use Rattle.std.proofs.lemmas.Grind.{common_steps}
use Rattle.sdp_reader.specs.Parts.{own_lines}
use Rattle.sdp_reader.specs.Plain.{plain}
use Rattle.sdp_reader.proofs.Summaries.{part_reading}
use Rattle.sdp_reader.proofs.part.read_part.Goals as goal

pub returns : goal.returns
returns c =
    let raw : c.is_raw.result ≡ true = grind (arith, common_steps, c.if-not-is_raw.false) in
    part_reading c.in_ok-reading.reading (option_map plain c.args.session) (plain c.args.head.now) (own_lines (map plain c.args.rest.now))
    (map plain c.own_lines-body.result.now) c.in-Some.video
    (sym c.in-Some.ensures.value)
    c.own_lines-body.ensures
    (sym c.is_raw.ensures ∙ raw)
    c.in_ok-reading.ensures
