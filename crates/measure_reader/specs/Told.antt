-- What the JSON of `measure` contains of a judged flow and its runs. Units and meanings are those of the keys
-- (docs/FORMATS.md, "Measure").
use Rattle.std.specs.Prelude.{ℕ, ◌+◌, ℤ, Bool, true, false, List, [], ◌∷◌, Option, Some, None, map, option_map}
use Rattle.timing_base.specs.Media.{Media}
use Rattle.timing_base.specs.Targets.{target_of}
use Rattle.timing_base.specs.Verdicts.{Judged}
use Rattle.timing_base.specs.declared.row.KindVerdict.{KindVerdict}
use Rattle.timing_base.specs.declared.row.KindVerdict.TheVariants as kind_verdict
use Rattle.timing_base.specs.declared.row.Verdict.{Verdict}
use Rattle.timing_base.specs.declared.row.Verdict.TheVariants as verdict
use Rattle.timing_base.specs.declared.target.Target.{Target}
use Rattle.timing_report.specs.Outcomes.{verdict_on}
use Rattle.flow_measure.specs.declared.numbers.Buffer.{Buffer}
use Rattle.flow_measure.specs.declared.summary.Summary.{Summary}
use Rattle.flow_measure.specs.report.Json.{kind_at}
use Rattle.flow_measure.specs.report.Told.{ToldBins, ToldFlow, ToldGaps, ToldKind, ToldOffsets, ToldPlace}
use Rattle.flow_measure.specs.report.Told.{ToldRun}

-- the least, the greatest and the sum of numbers
pub record ReadLevel : Type 0 where
  pub greatest : ℤ
  pub least : ℤ
  pub sum : ℤ

-- the occupancy of the buffer, the count of late packets and the slack
pub record ReadBuffer : Type 0 where
  pub greatest : ℤ
  pub late : ℕ
  pub least : ℤ
  pub slack : ℤ
  pub sum : ℤ

-- a whole summary
pub record ReadSummary : Type 0 where
  pub first : ℤ
  pub greatest : ℤ
  pub last : ℤ
  pub least : ℤ
  pub sum : ℤ

-- the least and the greatest step of the RTP timestamp
pub record ReadStep : Type 0 where
  pub greatest : ℤ
  pub least : ℤ

-- the times from each packet to the next
pub record ReadGap : Type 0 where
  pub classes : List ℕ
  pub greatest : ℤ
  pub least : ℤ
  pub sum : ℤ

-- a histogram up to a limit
pub record ReadBins : Type 0 where
  pub above : ℕ
  pub below : Option ℕ
  pub counts : List ℕ
  pub limit : ℕ
  pub width : ℕ

-- a sender type: its histograms, the first packets that break its limits, its verdict, and the offsets with which its
-- buffer would be kept
pub record ReadKind : Type 0 where
  pub bucket : ReadBins
  pub buffer : ReadBins
  pub first_bucket : Option ℕ
  pub first_empty : Option ℕ
  pub first_over : Option ℕ
  pub groups_broken : ℕ
  pub outcome : KindVerdict
  pub place : Option ToldPlace
  pub troff : ToldOffsets

-- a judged run
pub record ReadRun : Type 0 where
  pub bucket : ReadLevel
  pub first : ReadSummary
  pub target : ℕ
  pub frames : ℕ
  pub gap : Option ReadGap
  pub gapped : ReadBuffer
  pub head : ℕ
  pub interlaced : Bool
  pub last : ReadSummary
  pub latency : ReadSummary
  pub linear : ReadBuffer
  pub n : ℕ
  pub number : ℕ
  pub offset : ReadSummary
  pub packets : ℕ
  pub rec : ℕ
  pub run : ℕ
  pub step : Option ReadStep
  pub tail : ℕ
  pub kinds : List ReadKind

-- a judged flow; its media counts from 0. It was judged in one run, without gaps, or in several.
pub record ReadFlow : Type 0 where
  pub media : ℕ
  pub packets : ℕ
  pub runs : List ReadRun
  pub ssrc : Option ℕ
  pub target : Target
  pub in_one_run : Bool

-- whether a flow was judged in one run, if it was judged
abbrev pub judged_in_one : Verdict → Option Bool
judged_in_one (verdict.Unjudged unjudged) = None
judged_in_one (verdict.Judged judged) = Some true
judged_in_one (verdict.Runs runs) = Some false

-- what is read of the summary of a bucket
abbrev pub level_read : Summary → ReadLevel
level_read s = record { greatest = s.greatest; least = s.least; sum = s.sum }

-- what is read of a buffer
abbrev pub buffer_read : Buffer → ReadBuffer
buffer_read b = record {
  greatest = b.occupancy.greatest;
  late = b.margins.late;
  least = b.occupancy.least;
  slack = b.margins.slack;
  sum = b.occupancy.sum;
}

-- what is read of a whole summary
abbrev pub summary_read : Summary → ReadSummary
summary_read s =
    record { first = s.first; greatest = s.greatest; last = s.last; least = s.least; sum = s.sum }

-- what is read of the steps
abbrev pub step_read : Summary → ReadStep
step_read s = record { greatest = s.greatest; least = s.least }

-- what is read of the times between packets
abbrev pub gap_read : ToldGaps → ReadGap
gap_read g = record {
  classes = g.classes;
  greatest = g.summary.greatest;
  least = g.summary.least;
  sum = g.summary.sum;
}

-- what is read of a histogram; the count below 0 stands in that of the buffer alone
abbrev pub bins_read : ToldBins → (below : Option ℕ) → ReadBins
bins_read b below =
    record { above = b.above; below = below; counts = b.counts; limit = b.limit; width = b.width }

-- the place stands beside a violation alone
abbrev pub place_read : KindVerdict → Option ToldPlace → Option ToldPlace
place_read kind_verdict.Pass place = None
place_read (kind_verdict.Fail proof) place = place

-- what is read of a sender type with this verdict
abbrev pub kind_read : KindVerdict → ToldKind → ReadKind
kind_read outcome k = record {
  bucket = bins_read k.bucket None;
  buffer = bins_read k.buffer (Some k.buffer.below);
  first_bucket = k.first_bucket;
  first_empty = k.first_empty;
  first_over = k.first_over;
  groups_broken = k.groups_broken;
  outcome = outcome;
  place = place_read outcome k.named;
  troff = k.troff;
}

-- the types N, NL and W from this place on
abbrev pub kinds_read : Judged → (place : ℕ) → List ToldKind → List ReadKind
kinds_read judged place [] = []
kinds_read judged place (k ∷ ks) =
    kind_read (verdict_on judged (kind_at place)) k ∷ kinds_read judged (place + 1) ks

-- what is read of a judged run
abbrev pub run_read : Media → ToldRun → ReadRun
run_read media r = record {
  bucket = level_read r.numbers.bucket;
  first = summary_read r.numbers.first;
  target = r.numbers.target;
  frames = r.judged.frames;
  gap = option_map gap_read r.numbers.gap;
  gapped = buffer_read r.numbers.gapped;
  head = r.judged.head;
  interlaced = media.interlaced;
  last = summary_read r.numbers.last;
  latency = summary_read r.numbers.latency;
  linear = buffer_read r.numbers.linear;
  n = r.judged.n;
  number = r.number;
  offset = summary_read r.numbers.offset;
  packets = r.judged.packets;
  rec = r.rec;
  run = r.run;
  step = option_map step_read r.numbers.step;
  tail = r.judged.tail;
  kinds = kinds_read r.judged 0 r.numbers.kinds;
}

-- what is read of a judged flow
abbrev pub flow_read : Media → ToldFlow → (in_one_run : Bool) → ReadFlow
flow_read media f in_one_run = record {
  media = f.media;
  packets = f.packets;
  runs = map (run_read media) f.runs;
  ssrc = f.ssrc;
  target = target_of media;
  in_one_run = in_one_run;
}
