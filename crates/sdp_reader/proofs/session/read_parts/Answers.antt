use Rattle.std.proofs.Common.{◌+◌, map, arith}
use Rattle.std.specs.List.{filter_map}
use Rattle.std.specs.Option.{option_map}
use Rattle.std.proofs.lemmas.List.{take_rest}
use Rattle.sdp_reader.specs.Parts.{parts, raw_of}
use Rattle.sdp_reader.specs.Plain.{plain}
use Rattle.sdp_reader.proofs.Summaries.{keeps-line}
use Rattle.sdp_reader.proofs.session.read_parts.Goals as goal

pub loop-i-preserved : goal.loop-i-preserved
loop-i-preserved c =
    let session = option_map plain c.args.session in
    keeps-line plain session c.loop-i.kept c.add.new.self c.in_ok-reading.reading c.args.lines.now c.loop-i.i _ _
    (filter_map (raw_of session) (parts (map plain c.args.lines.now)))
    c.in_ok-add.ensures
    c.in_ok-reading.ensures
    (take_rest c.args.lines.now (c.loop-i.i + 1))
    (omega arith)
    c.loop-i.invariant
