use Rattle.std.proofs.Common.{rules, ◌≤◌, ◌<◌, length, Some, refl, sym, ◌∙◌}
use Rattle.std.specs.Vec.{with_item}
use Rattle.flow_worker.proofs.Fed.{feeds-beyond, feeds-none, feeds-some_if}
use Rattle.flow_worker.proofs.judges.Judges.feed.Goals as goal

pub returns-then-media-len-clause-feeds : goal.returns-then-media-len-clause-feeds
returns-then-media-len-clause-feeds c =
    let beyond : length c.args.self.now.places.items ≤ c.args.packet.now.media = search rules in
    feeds-beyond c.args.before c.args.packet.now c.args.self.now beyond

pub returns-in-Some-clause-feeds : goal.returns-in-Some-clause-feeds
returns-in-Some-clause-feeds c =
    let within : c.media-media.result < length c.args.self.now.places.items = search rules in
    feeds-some_if c.feed_next.result c.args.before c.args.packet.now c.args.self.now record
    { places = with_item c.args.self.now.places c.media-media.result (Some c.feed_next.new.judge) } c.media-media.result _
    c.in-Some.judge c.feed_next.new.judge c.flow_packet-rec.result c.media-media.ensures.value within (sym c.index_mut.ensures.value ∙ c.in-Some.is) refl
    c.flow_packet-rec.ensures.value c.feed_next.ensures.stands

pub returns-in-None-clause-feeds : goal.returns-in-None-clause-feeds
returns-in-None-clause-feeds c =
    let within : c.media-media.result < length c.args.self.now.places.items = search rules in
    feeds-none c.args.before c.args.packet.now c.args.self.now _ c.media-media.result _ c.index_mut.result.now c.media-media.ensures.value within
    (sym c.index_mut.ensures.value ∙ c.in-None.is) c.in-None.is refl
