-- Examples of types worked by hand, with two frames of 20 packets at 50 frames per second: one that keeps its limits,
-- and one with packets 1,000,000 ns apart, so that all but the first of each frame arrive after their gapped reads.
use Rattle.std.specs.Prelude.{ℕ, ◌+◌, pos, neg_ℤ, List, [], ◌∷◌, Some, None}
use Rattle.timing_base.specs.Verdicts.{Judged}
use Rattle.timing_base.specs.declared.fail.Broken.{Broken}
use Rattle.timing_base.specs.declared.fail.Broken.TheVariants.{Empty, Over}
use Rattle.timing_base.specs.declared.fail.FailProof.{FailProof}
use Rattle.timing_base.specs.declared.media.Kind.TheVariants.{N, NL}
use Rattle.timing_base.specs.declared.row.KindVerdict.TheVariants.{Pass, Fail}
use Rattle.flow_measure.specs.Worked.{column, place, summary}
use Rattle.flow_measure.specs.declared.columns.Extremes.{Extremes}
use Rattle.flow_measure.specs.declared.margin.Margins.{Margins}
use Rattle.flow_measure.specs.declared.numbers.Buffer.{Buffer}
use Rattle.flow_measure.specs.declared.numbers.RunNumbers.{RunNumbers}
use Rattle.flow_measure.specs.declared.summary.Summary.{Summary}
use Rattle.flow_page.specs.declared.shown.Region.{Region}
use Rattle.flow_page.specs.declared.shown.TypeShown.{TypeShown}

-- type N, which passes
abbrev pub kept : TypeShown
kept = record {
  kind = N;
  verdict = Pass;
  bucket_peak = 1;
  c_max = 4;
  buffer_peak = 1;
  vrx_full = 8;
  groups = 2;
  groups_broken = 0;
  above_bucket = 0;
  above_buffer = 0;
  below_buffer = 0;
  late = 0;
  slack = pos 444;
  first_bucket = None;
  first_over = None;
  first_empty = None;
  named = None;
  least = Some 764;
  greatest = Some 8444;
  offset = 764444;
}

-- type N, which fails with 38 late packets: the last of a frame is 760,000 ns later against its read than the first
abbrev pub late : TypeShown
late = record kept {
  verdict = Fail (record { model = Empty; from = 1; to = 1; count = 1; limit = 2 });
  groups_broken = 2;
  late = 38;
  slack = neg_ℤ (pos 759556);
  first_empty = Some 1;
  named = Some (place 3 1600000000001764000);
  least = Some 1524;
  greatest = Some 8764;
}

-- a violation of this model, with packets, count and limit all different
abbrev pub broken_by : Broken → FailProof
broken_by model = record { model = model; from = 21; to = 22; count = 23; limit = 24 }

-- type NL of an interlaced video, which fails by an overflow; all numbers differ
abbrev pub apart : TypeShown
apart = record {
  kind = NL;
  verdict = Fail (broken_by Over);
  bucket_peak = 5;
  c_max = 4;
  buffer_peak = 9;
  vrx_full = 8;
  groups = 3;
  groups_broken = 2;
  above_bucket = 11;
  above_buffer = 12;
  below_buffer = 13;
  late = 14;
  slack = neg_ℤ (pos 15);
  first_bucket = Some 16;
  first_over = Some 17;
  first_empty = Some 18;
  named = Some (place 19 1600000000001764000);
  least = Some 25;
  greatest = Some 26;
  offset = 27;
}

-- the verdict on a run of 3 frames or fields, of which N fails; all numbers differ
abbrev pub verdict_apart : Judged
verdict_apart = record {
  n = 20;
  frames = 3;
  packets = 60;
  head = 1;
  tail = 2;
  bucket_peak = 5;
  gapped_peak = 6;
  linear_peak = 7;
  kinds = Fail (broken_by Over) ∷ Pass ∷ Pass ∷ [];
}

-- the steps of an RTP timestamp in ticks of 90 kHz, from this least to this greatest, with this sum
abbrev pub steps : (least greatest sum : ℕ) → Summary
steps least greatest sum = summary (pos least) (pos greatest) (pos sum) (pos least) (pos greatest)

-- the first packets of 16 frames in eight columns: each 10,000 ns earlier than the one before
abbrev pub falling : List Extremes
falling =
    column (neg_ℤ (pos 10000)) (pos 0) ∷ column (neg_ℤ (pos 30000)) (neg_ℤ (pos 20000))
    ∷ column (neg_ℤ (pos 50000)) (neg_ℤ (pos 40000)) ∷ column (neg_ℤ (pos 70000)) (neg_ℤ (pos 60000))
    ∷ column (neg_ℤ (pos 90000)) (neg_ℤ (pos 80000)) ∷ column (neg_ℤ (pos 110000)) (neg_ℤ (pos 100000))
    ∷ column (neg_ℤ (pos 130000)) (neg_ℤ (pos 120000)) ∷ column (neg_ℤ (pos 150000)) (neg_ℤ (pos 140000)) ∷ []

-- the first packets of eight frames, one to a column: 1 ns earlier in the last one
abbrev pub hardly : List Extremes
hardly =
    column (pos 1) (pos 1) ∷ column (pos 1) (pos 1) ∷ column (pos 1) (pos 1) ∷ column (pos 1) (pos 1)
    ∷ column (pos 1) (pos 1) ∷ column (pos 1) (pos 1) ∷ column (pos 1) (pos 1) ∷ column (pos 0) (pos 0) ∷ []

-- the first packets of 16 frames that come up to 10,000 ns apart, and 5,000 ns later at the end, in eight columns
abbrev pub scattered : List Extremes
scattered =
    column (pos 0) (pos 10000) ∷ column (pos 0) (pos 1) ∷ column (pos 0) (pos 1) ∷ column (pos 0) (pos 1)
    ∷ column (pos 0) (pos 1) ∷ column (pos 0) (pos 1) ∷ column (pos 0) (pos 1) ∷ column (pos 5000) (pos 12000) ∷ []

-- a summary of five numbers that follow each other
abbrev pub five_from : ℕ → Summary
five_from n = summary (pos n) (pos (n + 1)) (pos (n + 2)) (pos (n + 3)) (pos (n + 4))

-- the buffer by the reads of one schedule, with these numbers
abbrev pub buffer_apart : (summary slack late : ℕ) → Buffer
buffer_apart summary slack late = record {
  occupancy = five_from summary;
  margins = record { slack = pos slack; late = late };
}

-- the measurements of a run, except for those by types, and all numbers differ
abbrev pub numbers_apart : RunNumbers → RunNumbers
numbers_apart n = record n {
  bucket = five_from 10;
  gapped = buffer_apart 20 25 26;
  linear = buffer_apart 30 35 36;
  first = five_from 40;
  last = five_from 50;
  target = 60;
  step = Some (five_from 70);
  offset = five_from 80;
  latency = five_from 90;
  gap = None;
}

-- the packets around the violation of type NL, from packet 5 or a later one on
abbrev pub region_from : (start : ℕ) → Broken → Region → Region
region_from start model r = record r { kind = NL; proof = broken_by model; start = start; count = 30 }
