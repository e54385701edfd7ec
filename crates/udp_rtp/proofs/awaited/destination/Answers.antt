use Rattle.std.proofs.Common.{rules, ◌<◌, ◌^◌, ℕ, slice_index}
use Rattle.udp_rtp.proofs.Awaiting.{without-source}
use Rattle.udp_rtp.proofs.awaited.destination.Goals as goal

pub returns : goal.returns
returns c =
    let bytes : (place : ℕ) → slice_index c.args.frame.now place < 2 ^ 8 = λ place. search rules in
    without-source c.args.frame.now c.from_address_to_port-eight.result bytes c.from_address_to_port-eight.ensures
