use Rattle.std.proofs.Common.{◌≡◌, ℕ, Option, Some, None, IfSome, position}
use Rattle.std.specs.Map.{keys_of}
use Rattle.capture_scan.proofs.Entries.{entry-found, streams_apart}
use Rattle.capture_scan.specs.Places.{HasStream}
use Rattle.capture_scan.specs.Scans.{is_same_stream}
use Rattle.capture_scan.specs.declared.key.StreamKey.{StreamKey}
use Rattle.capture_scan.specs.declared.streams.Streams.{Streams}
use Rattle.capture_scan.proofs.streams.Streams.place_of.Goals as goal

by_place : (u : Streams) (key : StreamKey) (o : Option ℕ) → o ≡ position (is_same_stream key) (keys_of u.counters.entries) → IfSome o (HasStream u key)
by_place u key None is = tt
by_place u key (Some i) is = entry-found streams_apart u.counters.entries i key is

-- the entry at the place that was found has the key
pub returns-clause-some : goal.returns-clause-some
returns-clause-some c = by_place c.args.self.now c.args.key c.get_index_of.result c.get_index_of.ensures.index
