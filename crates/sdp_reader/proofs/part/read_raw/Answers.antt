use Rattle.std.proofs.Common.{map, ◌∙◌, ap}
use Rattle.std.specs.Option.{option_map}
use Rattle.sdp_reader.specs.Fault.{least}
use Rattle.sdp_reader.specs.Parts.{counting, faults_at, media_from}
use Rattle.sdp_reader.specs.Plain.{plain, plain_item}
use Rattle.sdp_reader.proofs.Summaries.{raw_reading}
use Rattle.sdp_reader.proofs.part.read_raw.Goals as goal

pub returns : goal.returns
returns c =
    let session = option_map plain c.args.session in
    let connection = option_map plain c.counting-connection.result in
    let address = c.good_address-address.result in
    raw_reading session c.args.line (map plain c.args.body.now) c.args.video connection address (map plain_item c.in_ok-items.items.items)
    c.target_at-target.result c.raw_fault.result c.media_of.result
    (c.counting-connection.ensures ∙ ap (λ o. counting o session) c.connection_line.ensures)
    c.good_address-address.ensures
    c.in_ok-items.ensures
    c.target_at-target.ensures
    (c.raw_fault.ensures ∙ ap (λ l. least (faults_at c.args.line connection (map plain_item l))) c.as_slice-list.ensures.value)
    (c.media_of.ensures ∙ ap (λ l. media_from c.args.line c.args.video address (map plain_item l)) c.as_slice-list.ensures.value)
