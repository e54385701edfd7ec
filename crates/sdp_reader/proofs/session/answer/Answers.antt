use Rattle.std.proofs.Common.{[], map, sym, ap, ◌∙◌, subst, arith}
use Rattle.std.specs.List.{filter_map}
use Rattle.std.proofs.lemmas.Grind.{common_steps}
use Rattle.timing_base.specs.Media.{IsSession}
use Rattle.sdp_reader.specs.Parts.{parts, raw_of, connection_line}
use Rattle.sdp_reader.specs.Plain.{plain}
use Rattle.sdp_reader.specs.Summary.{Keeps}
use Rattle.sdp_reader.proofs.Sessions.{media-session}
use Rattle.sdp_reader.proofs.session.answer.Goals as goal

pub invariant_of-result : goal.invariant_of-result
invariant_of-result c =
    let lines = map plain c.args.lines.now in
    let kept = c.in_ok-destinations.field-0 in
    let session = c.connection_line-session.ensures ∙ ap connection_line c.own_lines.ensures in
    let keeps = subst (λ s. Keeps kept [] (filter_map (raw_of s) (parts lines))) session c.in_ok-destinations.ensures in
    subst IsSession (sym c.from_vec.ensures)
    (media-session lines kept keeps (sym c.in_default.is ∙ c.in_ok-fault.ensures) (grind (arith, common_steps, c.if-is_empty.false, c.is_empty.ensures)))
