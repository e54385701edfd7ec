-- Inputs and findings of the examples that are worked by hand: two frames of 20 packets of the plain media, at 50
-- frames per second, so a frame is 20 ms and 1,800 ticks.
use Rattle.std.specs.Prelude.{ℕ, ℤ, pos, neg_ℤ, false, List, [], ◌∷◌, Option, Some, None}
use Rattle.timing_base.specs.Addresses.{ipv4}
use Rattle.timing_base.specs.declared.fail.Broken.TheVariants.{Bucket, Empty}
use Rattle.timing_base.specs.declared.media.Kind.{Kind}
use Rattle.timing_base.specs.declared.media.Kind.TheVariants.{N}
use Rattle.timing_base.specs.declared.row.KindVerdict.TheVariants.{Fail, Pass}
use Rattle.timing_base.specs.declared.target.Target.{Target}
use Rattle.flow_measure.specs.Worked.{place}
use Rattle.flow_measure.specs.declared.columns.slope.Slope.{Slope}
use Rattle.capture_scan.specs.declared.found.PassedOver.{PassedOver}
use Rattle.capture_scan.specs.declared.stream.Stream.{Stream}
use Rattle.flow_findings.specs.Numbers.{none_overfull}
use Rattle.flow_findings.specs.declared.explained.Explained.{Explained}
use Rattle.flow_findings.specs.declared.explained.ExplainedRun.{ExplainedRun}
use Rattle.flow_findings.specs.declared.finding.BrokenBuffer.{BrokenBuffer}
use Rattle.flow_findings.specs.declared.finding.DescribedRate.{DescribedRate}
use Rattle.flow_findings.specs.declared.finding.Finding.{Finding}
use Rattle.flow_findings.specs.declared.finding.Finding.TheVariants as finding
use Rattle.flow_findings.specs.declared.finding.Offsets.{Offsets}
use Rattle.flow_findings.specs.declared.finding.Steps.{Steps}
use Rattle.flow_findings.specs.declared.numbers.LimitNumbers.{LimitNumbers}
use Rattle.flow_findings.specs.declared.numbers.ShownNumbers.{ShownNumbers}

-- ---- streams and frames of a capture

-- the target 239.0.0.LAST:PORT
abbrev pub target_at : (last port : ℕ) → Target
target_at last port = record { address = ipv4 239 0 0 last; port = port }

-- a stream to this target, with this many packets and markers
abbrev pub stream_to : Target → (packets markers : ℕ) → Stream
stream_to target packets markers = record {
  source = target_at 200 5004;
  target = target;
  ssrc = 1;
  pt = 96;
  pts = 0;
  packets = packets;
  markers = markers;
  first = record { rec = 1; at = 0 };
  last = record { rec = 1; at = 0 };
  bytes = 0;
  order = record { lost = 0; back = 0; same = 0; wraps = 0 };
  pace = None;
  lines = None;
}

-- one stream to the media's target; one with two markers to another port; one to another address and port; and one to
-- another port, which alone may be the media's
abbrev pub streams_by_hand : List Stream
streams_by_hand =
    stream_to (target_at 1 50000) 10 9 ∷ stream_to (target_at 1 50001) 20 2 ∷ stream_to (target_at 2 50003) 30 3
    ∷ stream_to (target_at 1 50002) 41 3 ∷ []

-- 5 frames of IPv6 and 2 of ARP or the like
abbrev pub some_passed_over : PassedOver
some_passed_over = record {
  empty = 0;
  tags = 0;
  ipv6 = 5;
  other = 2;
  not_udp = 0;
  fragment = 0;
  broken = 0;
}

-- ---- numbers of a run

-- offsets from this least to this greatest, in microseconds
abbrev pub offsets : (least greatest : Option ℕ) → Offsets
offsets least greatest = record { least = least; greatest = greatest }

-- steps of the RTP timestamp from this least to this greatest
abbrev pub steps : (least greatest : ℕ) → Steps
steps least greatest = record { least = pos least; greatest = pos greatest }

-- a rise of this many nanoseconds over this many frames
abbrev pub rise : (by over : ℕ) → Slope
rise by over = record { falls = false; by = by; over = over }

-- the limits of N, and packets against them: so many after which the bucket exceeds C_MAX, so many frames that break a
-- limit, and the offsets from this least to this greatest
abbrev pub limits : (above_bucket groups_broken : ℕ) → (least greatest : Option ℕ) → LimitNumbers
limits above_bucket groups_broken least greatest = record {
  c_max = 4;
  vrx_full = 8;
  above_bucket = above_bucket;
  above_buffer = 0;
  groups_broken = groups_broken;
  offsets = offsets least greatest;
}

-- type N, which passes: each packet comes 444 4/9 ns before its read, and RTP timestamps are the media clock's
abbrev pub kept : ShownNumbers
kept = record {
  kind = N;
  verdict = Pass;
  n = 20;
  groups = 2;
  packets = 40;
  bucket_peak = 1;
  buffer_peak = 1;
  limits = limits 0 0 (Some 764) (Some 8444);
  overfull = none_overfull;
  late = 0;
  slack = pos 444;
  target = 764444;
  span = 18240000;
  period = 20000000;
  drain = 909090;
  steps = Some (steps 1800 1800);
  mean_period = Some 20000000;
  slope = None;
  offset = pos 0;
}

-- the same with this offset of its RTP timestamps
abbrev pub with_offset : ℤ → ShownNumbers
with_offset offset = record kept { offset = offset }

-- the same with this slope of its first packets
abbrev pub with_slope : Slope → ShownNumbers
with_slope slope = record kept { slope = Some slope }

-- the first five packets of the second frame come at once, 764,000 ns after it begins: the bucket then holds 5 packets.
-- With an offset of 20,764,000 - 16 * 960,000 = 5,404,000 ns three packets of the first frame aren't read yet, so the
-- buffer holds 8 packets.
abbrev pub five_at_once : ShownNumbers
five_at_once = record kept {
  verdict = Fail (record { model = Bucket; from = 20; to = 24; count = 5; limit = 4 });
  bucket_peak = 5;
  buffer_peak = 5;
  limits = limits 1 1 (Some 764) (Some 5404);
  overfull = record { groups = 1; first = Some (place 26 1600000000020764000) };
}

-- packets 1,000,000 ns apart: packets 1 to 19 of each frame come after their gapped reads, the last by 759,555 5/9 ns.
-- With an offset of 764,000 + 19 * 40,000 = 1,524,000 ns none is late. With one of 764,000 + 8 * 1,000,000 = 8,764,000
-- ns packet 8 comes just at the first read, so the buffer holds 8 packets.
abbrev pub late_packets : ShownNumbers
late_packets = record kept {
  verdict = Fail (record { model = Empty; from = 1; to = 1; count = 1; limit = 2 });
  limits = limits 0 2 (Some 1524) (Some 8764);
  late = 38;
  slack = neg_ℤ (pos 759556);
}

-- the same without an offset that serves
abbrev pub uneven : (least greatest : Option ℕ) → ShownNumbers
uneven least greatest = record late_packets { limits = limits 0 2 least greatest }

-- this many of 250 frames break a limit, first with packet 324: frames 0 to 15 have packets 0 to 319
abbrev pub some_broken : (broken : ℕ) → ShownNumbers
some_broken broken = record late_packets {
  verdict = Fail (record { model = Empty; from = 324; to = 324; count = 324; limit = 325 });
  groups = 250;
  packets = 5000;
  limits = limits 0 broken (Some 1524) (Some 8764);
}

-- ---- findings

-- 50 frames per second
abbrev pub rate_50 : DescribedRate
rate_50 = record { p = 50; q = 1 }

-- the burst of `five_at_once`
abbrev pub burst_found : Finding
burst_found = finding.Burst 5 4 1 1 (place 26 1600000000020764000) 18240000 20000000

-- the packets of `late_packets` that break the buffer
abbrev pub late_found : BrokenBuffer
late_found = record {
  late = 38;
  above = 0;
  slack = neg_ℤ (pos 759556);
  offsets = offsets (Some 1524) (Some 8764);
  target = 764444;
}

-- all of 40 packets late, by up to 3,632,334 ns
abbrev pub all_late : BrokenBuffer
all_late = record {
  late = 40;
  above = 0;
  slack = neg_ℤ (pos 3632334);
  offsets = offsets (Some 4271) (Some 10676);
  target = 637674;
}

-- the run that is shown, of N: two frames of 20 packets, of this class
abbrev pub in_short : (class : Option Kind) → ExplainedRun
in_short class = record { class = class; kind = N; groups = 2; packets = 40 }

-- the flow of the first media with these findings on that run, which is its only one
abbrev pub found_of : (class : Option Kind) → List Finding → Explained
found_of class findings = record {
  media = 0;
  runs = Some (record { judged = 1; all = 1 });
  shown = Some (in_short class);
  findings = findings;
}

-- the flow of the first media without a judged run, with these findings
abbrev pub unjudged_of : List Finding → Explained
unjudged_of findings = record { media = 0; runs = None; shown = None; findings = findings }
