-- Examples worked by hand: two frames of 20 packets at 50 frames per second, after a packet with the RTP marker. Frame
-- k begins k * 20 ms after second 1,600,000,000, its packet j arrives 764,000 + 960,000 j ns later, and its RTP
-- timestamp is 1800 (k + 1).
use Rattle.std.specs.Prelude.{ℕ, zero, suc, ◌-◌, ◌*◌, pos, neg_ℤ, List, [], ◌∷◌, ◌++◌, Option, Some, None}
use Rattle.timing_base.specs.Examples.{plain_media}
use Rattle.timing_base.specs.Media.{Media}
use Rattle.timing_base.specs.declared.fail.Broken.TheVariants.{Bucket, Empty}
use Rattle.timing_base.specs.declared.packet.PacketFault.TheVariants.{FrameSize}
use Rattle.timing_base.specs.declared.row.KindVerdict.{KindVerdict}
use Rattle.timing_base.specs.declared.row.Unjudged.TheVariants.{Absent, Refused}
use Rattle.timing_base.specs.declared.row.Verdict.{Verdict}
use Rattle.timing_base.specs.declared.row.Verdict.TheVariants.{Judged, Unjudged}
use Rattle.timing_report.specs.Worked.{fail, narrow}
use Rattle.flow_measure.specs.Worked.{summary}
use Rattle.flow_measure.specs.declared.numbers.Buffer.{Buffer}
use Rattle.flow_measure.specs.declared.summary.Summary.{Summary}
use Rattle.flow_measure.specs.report.Told.{ToldBins, ToldFlow, ToldGaps, ToldKind, ToldNumbers, ToldRun}
use Rattle.flow_measure.specs.declared.report.rows.GroupRow.{GroupRow}
use Rattle.flow_measure.specs.declared.report.rows.PacketRow.{PacketRow}

-- a list of n zeros
abbrev pub zeros : ℕ → List ℕ
zeros zero = []
zeros (suc n) = 0 ∷ zeros n

-- bins without numbers above the limit or below 0
abbrev pub bins_within : (limit width : ℕ) → List ℕ → ToldBins
bins_within limit width counts = record { limit = limit; width = width; counts = counts; above = 0; below = 0 }

-- bins of width 1 up to a limit that hold the number 1 forty times
abbrev pub ones_to : (limit : ℕ) → ToldBins
ones_to limit = bins_within limit 1 (0 ∷ 40 ∷ zeros (limit - 1))

-- a type with no packet that breaks a limit, and with these offsets
abbrev pub kept : (bucket buffer : ToldBins) → (least greatest : ℕ) → ToldKind
kept bucket buffer least greatest = record {
  groups_broken = 0;
  bucket = bucket;
  buffer = buffer;
  first_bucket = None;
  first_over = None;
  first_empty = None;
  named = None;
  troff = record { least = Some least; greatest = Some greatest };
}

-- the summary of `often` equal numbers
abbrev pub same : ℕ → (often : ℕ) → Summary
same x often = summary (pos x) (pos x) (pos (x * often)) (pos x) (pos x)

-- one packet in the buffer just after each of 40 packets; all may be 444 ns later
abbrev pub one_held : Buffer
one_held = record { occupancy = same 1 40; margins = record { slack = pos 444; late = 0 } }

-- 960,000 ns 38 times within a frame, and 1,760,000 ns from one frame to the next
abbrev pub plain_gaps : ToldGaps
plain_gaps = record {
  summary = summary (pos 960000) (pos 1760000) (pos 38240000) (pos 960000) (pos 960000);
  classes = zeros 20 ++ (38 ∷ 1 ∷ []);
}

-- the measurements of the two frames
abbrev pub plain_numbers : ToldNumbers
plain_numbers = record {
  bucket = same 1 40;
  gapped = one_held;
  linear = one_held;
  kinds = kept (ones_to 4) (ones_to 8) 764 8444 ∷ kept (ones_to 4) (ones_to 8) 764 8004
      ∷ kept (ones_to 16) (bins_within 720 12 (40 ∷ zeros 60)) 764 1000000 ∷ [];
  first = same 764000 2;
  last = same 19004000 2;
  target = 764444;
  step = Some (same 1800 1);
  offset = same 1663502088 2;
  latency = summary (neg_ℤ (pos 1663502020)) (neg_ℤ (pos 1663502020)) (neg_ℤ (pos 3327004040))
      (neg_ℤ (pos 1663502020)) (neg_ℤ (pos 1663502020));
  gap = Some plain_gaps;
}

-- the run, from packet record 1 and packet number 0
abbrev pub plain_run : ToldRun
plain_run = record { run = 1; rec = 1; number = 0; judged = narrow; numbers = plain_numbers }

-- the flow of the first media of a session, with an SSRC
abbrev pub flow_of : (packets : ℕ) → Verdict → List ToldRun → ToldFlow
flow_of packets verdict runs = record { media = 0; packets = packets; ssrc = Some 1; verdict = verdict; runs = runs }

-- the flow with the two frames
abbrev pub plain_flow : ToldFlow
plain_flow = flow_of 41 (Judged narrow) (plain_run ∷ [])

-- a session with one media
abbrev pub plain_session : List Media
plain_session = plain_media ∷ []

-- a flow with one packet missing in its last frame
abbrev pub refused_flow : ToldFlow
refused_flow = flow_of 40 (Unjudged (Refused 40 (FrameSize 20 19))) []

-- a flow without packets
abbrev pub absent_flow : ToldFlow
absent_flow = record { media = 0; packets = 0; ssrc = None; verdict = Unjudged Absent; runs = [] }

-- type N with a burst that breaks the limit of the bucket at packet 24. That packet comes 20,764,000 ns after the first
-- frame begins, with the first of its frame, and the read 8 packets before it is 15,360,000 ns after the offset.
abbrev pub burst_kind : ToldKind
burst_kind = record (kept (bins_within 4 1 []) (bins_within 8 1 (0 ∷ 36 ∷ 1 ∷ 1 ∷ 1 ∷ 1 ∷ zeros 3)) 764 5404) {
  groups_broken = 1;
  bucket = record { limit = 4; width = 1; counts = 0 ∷ 36 ∷ 1 ∷ 1 ∷ 1 ∷ []; above = 1; below = 0 };
  first_bucket = Some 24;
  named = Some (record { rec = 26; stamp = 1600000000020764000 });
}

-- the violation of the bucket by that burst
abbrev pub burst_fail : KindVerdict
burst_fail = fail Bucket 20 24 5 4

-- type N with packets 1,000,000 ns apart: all packets of each frame except the first arrive after their gapped reads.
-- The last comes 760,000 ns later against its read than the first, and the ninth 8,764,000 ns after its frame begins.
abbrev pub linear_kind : ToldKind
linear_kind = record (kept (ones_to 4) (bins_within 8 1 (38 ∷ 2 ∷ zeros 7)) 1524 8764) {
  groups_broken = 2;
  first_empty = Some 1;
  named = Some (record { rec = 3; stamp = 1600000000001764000 });
}

-- the violation at packet 1, the first late packet
abbrev pub linear_fail : KindVerdict
linear_fail = fail Empty 1 1 1 2

-- the row of the first packet of the plain flow
abbrev pub plain_packet : PacketRow
plain_packet = record {
  run = 1;
  packet = 0;
  rec = 2;
  stamp = 1600000000000764000;
  group = 0;
  place = 0;
  bucket = 1;
  gapped = pos 1;
  linear = pos 1;
}

-- a row of a frame of the plain flow
abbrev pub plain_group : (group rec stamp timestamp : ℕ) → Option ℕ → GroupRow
plain_group group rec stamp timestamp step = record {
  run = 1;
  group = group;
  rec = rec;
  stamp = stamp;
  first = pos 764000;
  last = pos 19004000;
  timestamp = timestamp;
  step = step;
  offset = pos 1663502088;
  latency = neg_ℤ (pos 1663502020);
  bucket = 1;
  gapped_least = pos 1;
  gapped = pos 1;
  linear_least = pos 1;
  linear = pos 1;
}
