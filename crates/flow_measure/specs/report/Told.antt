-- The values of a measured flow that a report has, with bins and classes as lists of their counts. Units and meanings
-- are those of the fields of the same names in `MeasuredFlow`, `MeasuredRun`, `RunNumbers`, `KindNumbers` and `Bins`.
use Rattle.std.specs.Prelude.{ℕ, List, map, Option, option_map}
use Rattle.timing_base.specs.Verdicts.{Judged}
use Rattle.timing_base.specs.declared.row.Verdict.{Verdict}
use Rattle.offset_window.specs.declared.window.Window.{Window}
use Rattle.flow_measure.specs.Told.{bin_counts, class_counts, micros_of}
use Rattle.flow_measure.specs.declared.bins.Bins.{Bins}
use Rattle.flow_measure.specs.declared.numbers.Buffer.{Buffer}
use Rattle.flow_measure.specs.declared.numbers.Gaps.{Gaps}
use Rattle.flow_measure.specs.declared.numbers.KindNumbers.{KindNumbers}
use Rattle.flow_measure.specs.declared.numbers.MeasuredFlow.{MeasuredFlow}
use Rattle.flow_measure.specs.declared.numbers.MeasuredRun.{MeasuredRun}
use Rattle.flow_measure.specs.declared.numbers.Place.{Place}
use Rattle.flow_measure.specs.declared.numbers.RunNumbers.{RunNumbers}
use Rattle.flow_measure.specs.declared.summary.Summary.{Summary}

-- a histogram up to a limit
pub record ToldBins : Type 0 where
  pub limit : ℕ
  pub width : ℕ
  pub counts : List ℕ
  pub above : ℕ
  pub below : ℕ

-- the place of a packet in the capture
pub record ToldPlace : Type 0 where
  pub rec : ℕ
  pub stamp : ℕ

-- the least and the greatest offset, in microseconds
pub record ToldOffsets : Type 0 where
  pub least : Option ℕ
  pub greatest : Option ℕ

-- the measurements of a run against the limits of a type
pub record ToldKind : Type 0 where
  pub groups_broken : ℕ
  pub bucket : ToldBins
  pub buffer : ToldBins
  pub first_bucket : Option ℕ
  pub first_over : Option ℕ
  pub first_empty : Option ℕ
  pub named : Option ToldPlace
  pub troff : ToldOffsets

-- the times from each packet to the next
pub record ToldGaps : Type 0 where
  pub summary : Summary
  pub classes : List ℕ

-- the measurements of a run
pub record ToldNumbers : Type 0 where
  pub bucket : Summary
  pub gapped : Buffer
  pub linear : Buffer
  -- for the types N, NL and W
  pub kinds : List ToldKind
  pub first : Summary
  pub last : Summary
  pub target : ℕ
  pub step : Option Summary
  pub offset : Summary
  pub latency : Summary
  pub gap : Option ToldGaps

-- a judged run
pub record ToldRun : Type 0 where
  pub run : ℕ
  pub rec : ℕ
  pub number : ℕ
  pub judged : Judged
  pub numbers : ToldNumbers

-- a flow and its judged runs
pub record ToldFlow : Type 0 where
  pub media : ℕ
  pub packets : ℕ
  pub ssrc : Option ℕ
  pub verdict : Verdict
  pub runs : List ToldRun

-- bins as a report has them
abbrev pub bins_told : Bins → ToldBins
bins_told b = record { limit = b.limit; width = b.width; counts = bin_counts b; above = b.above; below = b.below }

-- a place as a report has it
abbrev pub place_told : Place → ToldPlace
place_told p = record { rec = p.«record»; stamp = p.stamp }

-- a window as a report has it
abbrev pub offsets_told : Window → ToldOffsets
offsets_told w = record { least = micros_of w.lower; greatest = micros_of w.upper }

-- the measurements against a type as a report has them
abbrev pub kind_told : KindNumbers → ToldKind
kind_told k = record {
  groups_broken = k.groups_broken;
  bucket = bins_told k.bucket;
  buffer = bins_told k.buffer;
  first_bucket = k.first_bucket;
  first_over = k.first_over;
  first_empty = k.first_empty;
  named = option_map place_told k.named;
  troff = offsets_told k.troff;
}

-- the times between packets as a report has them
abbrev pub gaps_told : Gaps → ToldGaps
gaps_told g = record { summary = g.summary; classes = class_counts g.classes }

-- the measurements of a run as a report has them
abbrev pub numbers_told : RunNumbers → ToldNumbers
numbers_told n = record {
  bucket = n.bucket;
  gapped = n.gapped;
  linear = n.linear;
  kinds = map kind_told n.kinds;
  first = n.first;
  last = n.last;
  target = n.target;
  step = n.step;
  offset = n.offset;
  latency = n.latency;
  gap = option_map gaps_told n.gap;
}

-- a judged run as a report has it
abbrev pub run_told : MeasuredRun → ToldRun
run_told r = record {
  run = r.run;
  rec = r.«record»;
  number = r.number;
  judged = r.judged;
  numbers = numbers_told r.numbers;
}

-- a flow as a report has it
abbrev pub flow_told : MeasuredFlow → ToldFlow
flow_told f = record {
  media = f.media;
  packets = f.packets;
  ssrc = f.ssrc;
  verdict = f.verdict;
  runs = map run_told f.runs;
}
