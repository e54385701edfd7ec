use Rattle.std.proofs.Common.{subst}
use Rattle.std.specs.Prelude.{IfSome}
use Rattle.pcapng_reader.specs.Described.{list_of}
use Rattle.pcapng_reader.specs.Wholes.{IsWhole}
use Rattle.pcapng_reader.proofs.converter.Converter.whole.Goals as goal

pub returns : goal.returns
returns c =
    let w = c.args.self.now in
    subst (λ h. IfSome c.whole_packet.result (IsWhole c.args.order (list_of w.interfaces) h)) c.peek.ensures c.whole_packet.ensures
