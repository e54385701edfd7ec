use Rattle.std.proofs.Common.{rules, ◌<◌, ◌^◌, slice_index}
use Rattle.udp_rtp.proofs.Parts.{first-fails, second-decides}
use Rattle.udp_rtp.proofs.carried.is_whole_udp.Goals as goal

pub returns-then-four-eq0 : goal.returns-then-four-eq0
returns-then-four-eq0 c =
    let third : slice_index c.args.frame.now 22 < 2 ^ 8 = search rules in
    let last : slice_index c.args.frame.now 23 < 2 ^ 8 = search rules in
    second-decides c.args.frame.now c.from_flags_to_protocol-four.result third last c.from_flags_to_protocol-four.ensures c.if-four-eq0.true

pub returns-else-four-eq0 : goal.returns-else-four-eq0
returns-else-four-eq0 c =
    let third : slice_index c.args.frame.now 22 < 2 ^ 8 = search rules in
    let last : slice_index c.args.frame.now 23 < 2 ^ 8 = search rules in
    first-fails c.args.frame.now c.from_flags_to_protocol-four.result third last c.from_flags_to_protocol-four.ensures c.if-four-eq0.false
