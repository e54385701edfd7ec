use Rattle.std.proofs.Common.{rules, ◌≤◌, ◌<◌, ◌+◌, ◌-◌, length, sym, arith}
use Rattle.flow_worker.proofs.Fed.{feeds-more, feeds-nothing, room-less, room-same}
use Rattle.flow_worker.proofs.judges.Judges.take.Goals as goal

pub loop-packet-init : goal.loop-packet-init
loop-packet-init c = record {
  feeds = feeds-nothing c.args.before c.args.self.now;
  room = λ more h. room-same _ _ c.args.self.now (omega arith) h;
}

pub loop-packet-preserved : goal.loop-packet-preserved
loop-packet-preserved c =
    let within : c.loop-packet.packet-index < length c.args.packets.now = search rules in
    record {
      feeds = feeds-more c.args.before c.loop-packet.packet-index c.args.packets.now c.packet-item.result c.args.self.now c.loop-packet.self c.feed.new.self
          within (sym c.packet-item.is)
          c.loop-packet.invariant.feeds c.in_ok-feed.ensures.feeds;
      room = λ more h. c.feed.ensures.room (length c.args.packets.now - (c.loop-packet.packet-index + 1) + more)
          (room-same _ _ c.loop-packet.self (omega (arith, within)) (c.loop-packet.invariant.room more h));
    }

pub feed-requires-clause-room : goal.feed-requires-clause-room
feed-requires-clause-room c =
    let within : c.loop-packet.packet-index < length c.args.packets.now = search rules in
    room-less _ _ c.loop-packet.self (omega (arith, within)) (c.loop-packet.invariant.room 0 (room-same _ _ c.args.self.now (omega arith) c.requires.room))

pub returns-clause-room : goal.returns-clause-room
returns-clause-room c = λ more h.
    let all : length c.args.packets.now ≤ c.loop-packet.packet-index = search rules in
    room-same _ _ c.loop-packet.self (omega (arith, all)) (c.loop-packet.invariant.room more h)
