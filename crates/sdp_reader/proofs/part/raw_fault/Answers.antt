use Rattle.std.proofs.Common.{map, ◌∙◌, ap}
use Rattle.std.specs.Option.{option_map}
use Rattle.std.specs.List.{flat_map}
use Rattle.sdp_reader.specs.declared.fault.SdpCause.TheVariants.{MissingParameter}
use Rattle.sdp_reader.specs.Fault.{least}
use Rattle.sdp_reader.specs.Lines.{at}
use Rattle.sdp_reader.specs.Parameters.{item_faults, repeated_faults}
use Rattle.sdp_reader.specs.Parts.{connection_faults, is_missing}
use Rattle.sdp_reader.specs.Plain.{plain, plain_item}
use Rattle.sdp_reader.proofs.Least.{least-four}
use Rattle.sdp_reader.proofs.part.raw_fault.Goals as goal

pub returns : goal.returns
returns c =
    let items = map plain_item c.args.items.now in
    least-four (connection_faults c.args.line (option_map plain c.args.connection)) (at c.args.line MissingParameter (is_missing items))
    (flat_map item_faults items) (repeated_faults items)
    c.first_of-2.result c.connection_fault.result c.first_of.result c.at-missing.result c.first_of-of_items.result c.item_fault.result c.repeated_fault.result
    c.first_of-2.ensures c.connection_fault.ensures c.first_of.ensures
    (c.at-missing.ensures ∙ ap (λ t. least (at c.args.line MissingParameter t)) c.is_missing.ensures)
    c.first_of-of_items.ensures c.item_fault.ensures c.repeated_fault.ensures
