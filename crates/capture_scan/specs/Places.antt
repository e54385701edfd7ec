-- The indices of the streams and of the targets of a scan. Indices count from 0.
use Rattle.std.specs.Prelude.{◌≡◌, ℕ, slice_get, Some}
use Rattle.timing_base.specs.declared.target.Target.{Target}
use Rattle.capture_scan.specs.declared.counter.Counter.{Counter}
use Rattle.capture_scan.specs.declared.key.StreamKey.{StreamKey}
use Rattle.capture_scan.specs.declared.streams.Streams.{Streams}
use Rattle.capture_scan.specs.declared.unread.Unread.{Unread}

-- this stream stands at this index
abbrev pub HasStream : Streams → StreamKey → ℕ → Type 0
HasStream s key place = (c : Counter) × (slice_get s.counters.entries place ≡ Some (key, c))

-- this target stands at this index
abbrev pub HasTarget : Unread → Target → ℕ → Type 0
HasTarget u target place = (n : ℕ) × (slice_get u.counts.entries place ≡ Some (target, n))
