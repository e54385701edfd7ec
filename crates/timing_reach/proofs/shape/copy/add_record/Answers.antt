use Rattle.std.proofs.Common.{◌++◌, length, ap, ◌∙◌, append_assoc}
use Rattle.pcap_reader.specs.WrittenHeads.{record_head}
use Rattle.timing_reach.proofs.shape.copy.add_record.Goals as goal

pub returns : goal.returns
returns c =
    c.in_ok-extend_from_slice-2.ensures.items
    ∙ ap (λ l. l ++ c.args.frame.now) (c.in_ok-extend_from_slice.ensures.items ∙ ap (λ head. c.args.bytes.now.items ++ head) c.record_head.ensures)
    ∙ append_assoc c.args.bytes.now.items (record_head c.args.at (length c.args.frame.now)) c.args.frame.now
