use Rattle.std.proofs.Common.{rules, ◌<◌, ◌^◌, ◌∙◌, ℕ, slice_index}
use Rattle.udp_rtp.proofs.Awaiting.{in-long}
use Rattle.udp_rtp.proofs.awaited.Awaited.is_in.Goals as goal

pub returns-then-frame-ge56 : goal.returns-then-frame-ge56
returns-then-frame-ge56 c =
    let a = c.args.self.now in
    let bytes : (place : ℕ) → slice_index c.args.frame.now place < 2 ^ 8 = λ place. search rules in
    c.has_numbers.ensures
    ∙ in-long a c.args.frame.now
    record { version = a.version; unmarked = a.unmarked; overlap = a.overlap; timestamp = a.four_bytes; long = c.if-frame-ge56.true; bytes = bytes }
