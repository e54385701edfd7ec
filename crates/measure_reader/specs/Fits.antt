-- Measurements of a judged flow whose numbers are those of their types, as all have: those without a sign have 64 bits,
-- those with one 128. There are three sender types.
use Rattle.std.specs.Prelude.{◌≡◌, ◌<◌, ◌^◌, ℕ, length, All}
use Rattle.std.specs.Option.{IfSome}
use Rattle.timing_base.specs.Verdicts.{Judged}
use Rattle.timing_base.specs.declared.media.Kind.TheVariants.{N, NL, W}
use Rattle.timing_report.specs.Outcomes.{verdict_on}
use Rattle.timing_report.specs.json_report.Fails.{FitsKind}
use Rattle.flow_measure.specs.declared.numbers.Buffer.{Buffer}
use Rattle.flow_measure.specs.declared.summary.Summary.{Summary}
use Rattle.flow_measure.specs.report.Told.{ToldBins, ToldFlow, ToldGaps, ToldKind, ToldNumbers, ToldOffsets, ToldPlace}
use Rattle.flow_measure.specs.report.Told.{ToldRun}
use Rattle.table_reader.specs.Fits.{IsSigned, IsWord}

-- a summary
pub record FitsSummary (s : Summary) : Type 0 where
  pub least : IsSigned s.least
  pub greatest : IsSigned s.greatest
  pub sum : IsSigned s.sum
  pub first : IsSigned s.first
  pub last : IsSigned s.last

-- the buffer by one kind of reads
pub record FitsBuffer (b : Buffer) : Type 0 where
  pub occupancy : FitsSummary b.occupancy
  pub late : IsWord b.margins.late
  pub slack : IsSigned b.margins.slack

-- a histogram
pub record FitsBins (b : ToldBins) : Type 0 where
  pub above : IsWord b.above
  pub below : IsWord b.below
  pub counts : All IsWord b.counts
  pub limit : IsWord b.limit
  pub width : IsWord b.width

-- the place of a packet
pub record FitsPlace (p : ToldPlace) : Type 0 where
  pub rec : IsWord p.rec
  pub stamp : IsWord p.stamp

-- the ends of a window
pub record FitsOffsets (t : ToldOffsets) : Type 0 where
  pub least : IfSome t.least IsWord
  pub greatest : IfSome t.greatest IsWord

-- the measurements against the limits of a sender type
pub record FitsToldKind (k : ToldKind) : Type 0 where
  pub groups_broken : IsWord k.groups_broken
  pub bucket : FitsBins k.bucket
  pub buffer : FitsBins k.buffer
  pub first_bucket : IfSome k.first_bucket IsWord
  pub first_over : IfSome k.first_over IsWord
  pub first_empty : IfSome k.first_empty IsWord
  pub named : IfSome k.named FitsPlace
  pub troff : FitsOffsets k.troff

-- the times between packets
pub record FitsGaps (g : ToldGaps) : Type 0 where
  pub summary : FitsSummary g.summary
  pub classes : All IsWord g.classes

-- the measurements of a run
pub record FitsNumbers (n : ToldNumbers) : Type 0 where
  pub bucket : FitsSummary n.bucket
  pub gapped : FitsBuffer n.gapped
  pub linear : FitsBuffer n.linear
  pub kinds : All FitsToldKind n.kinds
  pub three : length n.kinds ≡ 3
  pub first : FitsSummary n.first
  pub last : FitsSummary n.last
  pub target : IsWord n.target
  pub step : IfSome n.step FitsSummary
  pub offset : FitsSummary n.offset
  pub latency : FitsSummary n.latency
  pub gap : IfSome n.gap FitsGaps

-- the counts of a judged run, and its violations
pub record FitsCounts (j : Judged) : Type 0 where
  pub n : IsWord j.n
  pub frames : IsWord j.frames
  pub packets : IsWord j.packets
  pub head : IsWord j.head
  pub tail : IsWord j.tail
  pub narrow : FitsKind (verdict_on j N)
  pub linear : FitsKind (verdict_on j NL)
  pub wide : FitsKind (verdict_on j W)

-- a judged run
pub record FitsRun (r : ToldRun) : Type 0 where
  pub run : IsWord r.run
  pub rec : IsWord r.rec
  pub number : IsWord r.number
  pub judged : FitsCounts r.judged
  pub numbers : FitsNumbers r.numbers

-- a flow has an SSRC of 32 bits, and a media with a number of 32 bits
pub record FitsFlow (f : ToldFlow) : Type 0 where
  pub media : f.media < 2 ^ 32
  pub packets : IsWord f.packets
  pub ssrc : IfSome f.ssrc (λ ssrc. ssrc < 2 ^ 32)
  pub runs : All FitsRun f.runs
