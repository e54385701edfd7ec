use Rattle.std.proofs.Common.{◌-◌, ap, sym, arith}
use Rattle.pcapng_reader.specs.Texts.{section_of}
use Rattle.pcapng_reader.specs.Windows.{kept_bytes, held_bytes}
use Rattle.pcapng_reader.proofs.Steps.{texts-read}
use Rattle.pcapng_reader.proofs.converter.Converter.read_more.Goals as goal

pub returns-in-Ok-clause-text : goal.returns-in-Ok-clause-text
returns-in-Ok-clause-text g c =
    let w = c.args.self.now in
    let got = c.in-Ok.ensures.got in
    texts-read (g.S.Reads.left c.args.source.now) (g.S.Reads.left c.read.new.source) w.stage (section_of w) (kept_bytes w.window) (kept_bytes c.read.new.self)
    (held_bytes w.window) (held_bytes c.read.new.self) got.0 w.budget (w.budget - c.in-Ok.got) got.3 (omega (arith, got.1, got.2)) c.in-Ok.ensures.kept got.4
    (ap (λ n. w.budget - n) (sym got.1))
