-- The packet records that a scan stands for: those that it was given.
use Rattle.std.specs.Prelude.{◌≡◌, ◌≤◌, ◌+◌, ◌^◌, ℕ, List, [], ◌++◌, length, map, Some, None}
use Rattle.std.specs.List.{last_or}
use Rattle.std.proofs.Common.{arith, subst, sym, append_assoc, append-nil}
use Rattle.timing_base.specs.Captures.{Record}
use Rattle.timing_base.specs.Targets.{is_same_target}
use Rattle.timing_base.specs.declared.target.Target.{Target}
use Rattle.capture_scan.specs.Groups.{HaveItems}
use Rattle.capture_scan.specs.Scans.{is_same_stream, most_told, packets, passed_over}
use Rattle.capture_scan.specs.Scans.{span_of, stream_key, unread}
use Rattle.capture_scan.specs.Streams.{marks_from, stream_of}
use Rattle.capture_scan.specs.declared.counter.Counter.{Counter}
use Rattle.capture_scan.specs.declared.packet.Packet.{Packet}
use Rattle.capture_scan.specs.declared.scan.Scan.{Scan}
use Rattle.capture_scan.specs.declared.streams.Streams.{Streams}
use Rattle.capture_scan.specs.declared.unread.Unread.{Unread}

-- the counter has counted these packets, at least one
pub record Counts (c : Counter) (ps : List Packet) : Type 0 where
  pub stream : stream_of ps ≡ Some c.stream
  pub number : last_or None (map (λ p. p.rtp.number) ps) ≡ Some c.number
  pub mark : last_or None (marks_from 0 (map (λ p. p.rtp) ps)) ≡ c.mark

-- the streams are those of these packets
abbrev pub HaveTaken : Streams → List Packet → Type 0
HaveTaken s ps = HaveItems is_same_stream stream_key most_told Counts s.counters.entries s.more ps

-- the unread packets go to these targets
abbrev pub HaveMissed : Unread → List Target → Type 0
HaveMissed u ts = HaveItems is_same_target (λ t. t) most_told (λ n items. n ≡ length items) u.counts.entries u.more ts

-- the scan was given these records and no others
pub record StandsFor (scan : Scan) (records : List Record) : Type 0 where
  pub records_are : scan.records ≡ length records
  pub span_is : scan.span ≡ span_of records
  pub passed_over_are : scan.passed_over ≡ passed_over records
  pub streams_are : HaveTaken scan.streams (packets records)
  pub unread_are : HaveMissed scan.unread (unread records)

-- if the scan stood for some records before, it stands for those and `more` after
abbrev pub Takes : (old new : Scan) → List Record → Type 0
Takes old new more = (records : List Record) → StandsFor old records → StandsFor new (records ++ more)

-- giving a scan no record changes nothing
pub takes_none : (scan : Scan) → Takes scan scan []
takes_none scan records h = subst (StandsFor scan) (sym (append-nil records)) h

-- giving a scan some records and then others is giving it both
pub takes_more : (old mid new : Scan) (a b : List Record) → Takes old mid a → Takes mid new b → Takes old new (a ++ b)
takes_more old mid new a b first second records h =
    subst (StandsFor new) (append_assoc records a b) (second (records ++ a) (first records h))

-- the number of records that the scan was given
abbrev pub count_records : Scan → ℕ
count_records scan = scan.records

-- the scan can be given `count` more records
abbrev pub HasRoom : (number count : ℕ) → Scan → Type 0
HasRoom number count scan = count_records scan + count ≤ 2 ^ 41

-- a scan that can be given many records can be given fewer
pub room_less : (number few many : ℕ) (scan : Scan) → few ≤ many → HasRoom number many scan → HasRoom number few scan
room_less number few many scan less room = omega (arith, less, room)
