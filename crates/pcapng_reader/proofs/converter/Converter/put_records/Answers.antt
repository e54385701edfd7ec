use Rattle.std.proofs.Common.{◌≡◌, ◌∙◌, ap, sym, arith}
use Rattle.pcapng_reader.specs.Described.{list_of}
use Rattle.pcapng_reader.specs.Stages.{is_due}
use Rattle.pcapng_reader.specs.Windows.{held_bytes}
use Rattle.pcapng_reader.proofs.Steps.{puts-more, puts-none, whole-same}
use Rattle.pcapng_reader.proofs.converter.Converter.put_records.Goals as goal

pub loop-packet-init : goal.loop-packet-init
loop-packet-init c = record { within = c.requires.room; puts = puts-none c.args.at c.args.out.now c.args.self.now c.requires.room }

pub put_record-end-requires-clause-stage : goal.put_record-end-requires-clause-stage
put_record-end-requires-clause-stage c = c.loop-packet.invariant.puts.fills.stage ∙ c.requires.stage

pub put_record-end-requires-clause-given : goal.put_record-end-requires-clause-given
put_record-end-requires-clause-given c = c.loop-packet.invariant.puts.kept ∙ c.requires.given (ap is_due c.requires.stage)

pub put_record-end-requires-clause-whole : goal.put_record-end-requires-clause-whole
put_record-end-requires-clause-whole c =
    let w = c.loop-packet.self in
    whole-same c.args.order w.order (list_of w.interfaces) (held_bytes w.window) c.in-Some.packet
    (c.requires.order ∙ sym c.loop-packet.invariant.puts.order) c.in-Some.ensures

pub loop-packet-preserved : goal.loop-packet-preserved
loop-packet-preserved c = record {
  within = c.put_record-end.ensures.puts.fills.most;
  puts = puts-more c.args.at c.loop-packet.end c.put_record-end.result c.args.out.now c.loop-packet.out c.put_record-end.new.out c.args.self.now
      c.loop-packet.self c.put_record-end.new.self c.loop-packet.invariant.puts c.put_record-end.ensures.puts;
}
