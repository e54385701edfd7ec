use Rattle.std.proofs.Common.{◌≡◌, ap, map, rules, sym, ◌∙◌}
use Rattle.std.specs.Map.Iter.{deref_pair}
use Rattle.std.proofs.lemmas.Map.Iter.{iter_end}
use Rattle.capture_scan.proofs.Entries.{filter_map-told, map-shown, streams_apart}
use Rattle.capture_scan.specs.Scans.{most_told, packets_of, stream_key}
use Rattle.capture_scan.specs.Stands.{Counts}
use Rattle.capture_scan.specs.Streams.{stream_of}
use Rattle.capture_scan.proofs.streams.Streams.finish.Goals as goal

-- the streams of all entries are those of the keys that are told
pub returns : goal.returns
returns c = λ ps s.
    let shown : map deref_pair c.loop-counter.yielded ≡ c.args.self.now.counters.entries = search (rules, iter_end) in
    c.loop-counter.invariant ∙ (map-shown (λ e. e.1.stream) c.loop-counter.yielded ∙ (ap (map (λ e. e.1.stream)) shown
    ∙ filter_map-told streams_apart stream_key most_told Counts c.args.self.now.counters c.args.self.now.more ps s c.iter-counter-items.ensures.unique
    (λ e. e.1.stream) (λ k. stream_of (packets_of ps k)) (λ k v h. sym h.stream)))
