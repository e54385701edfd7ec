use Rattle.std.proofs.Common.{map}
use Rattle.sdp_reader.specs.Plain.{plain}
use Rattle.sdp_reader.proofs.Sessions.{faults-found}
use Rattle.sdp_reader.proofs.session.first_fault.Goals as goal

pub returns : goal.returns
returns c =
    faults-found (map plain c.args.lines.now) c.args.destinations.now
    c.first_of.result c.version_fault.result c.first_of-of_lines.result c.line_fault.result c.first_of-of_raw.result
    c.args.of_parts c.first_of-of_all.result c.in_ok-targets.targets c.too_many_fault.result
    c.requires.destinations c.requires.of_parts c.first_of.ensures c.version_fault.ensures c.first_of-of_lines.ensures c.line_fault.ensures
    c.first_of-of_raw.ensures c.first_of-of_all.ensures c.in_ok-targets.ensures c.too_many_fault.ensures
