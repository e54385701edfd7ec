-- Values of the examples that are worked by hand: the results for two frames of the plain media, with 20 packets in a
-- frame.
use Rattle.std.specs.Prelude.{ℕ, ◌+◌, false, List, [], ◌∷◌, Some, None, codes}
use Rattle.timing_base.specs.Jobs.{CheckJob}
use Rattle.timing_base.specs.Shifts.{no_options}
use Rattle.timing_base.specs.Verdicts.{Judged}
use Rattle.timing_base.specs.declared.fail.Broken.{Broken}
use Rattle.timing_base.specs.declared.fail.Broken.TheVariants.{Bucket}
use Rattle.timing_base.specs.declared.row.KindVerdict.{KindVerdict}
use Rattle.timing_base.specs.declared.row.KindVerdict.TheVariants.{Pass, Fail}
use Rattle.timing_base.specs.declared.row.Row.{Row}
use Rattle.timing_base.specs.declared.row.RunVerdict.TheVariants as run_verdict
use Rattle.timing_base.specs.declared.row.Verdict.{Verdict}
use Rattle.timing_base.specs.declared.row.Verdict.TheVariants.{Runs}

-- two frames with these peaks of the bucket and of the buffer, and these verdicts on N, NL and W
abbrev pub two_frames : (bucket gapped linear : ℕ) → (n nl w : KindVerdict) → Judged
two_frames bucket gapped linear n nl w = record {
  n = 20;
  frames = 2;
  packets = 40;
  head = 1;
  tail = 0;
  bucket_peak = bucket;
  gapped_peak = gapped;
  linear_peak = linear;
  kinds = n ∷ nl ∷ w ∷ [];
}

-- a violation
abbrev pub fail : Broken → (from to count limit : ℕ) → KindVerdict
fail model from to count limit = Fail record { model = model; from = from; to = to; count = count; limit = limit }

-- every packet alone in the bucket and in the buffer
abbrev pub narrow : Judged
narrow = two_frames 1 1 1 Pass Pass Pass

-- two runs: one from record 1 with this result, and one after a lost packet, from record `rec` on, without a whole
-- frame
abbrev pub two_runs : Judged → ℕ → Verdict
two_runs judged rec = Runs (
    record { rec = 1; number = 2; expected = None; verdict = run_verdict.Judged judged }
    ∷ record { rec = rec; number = rec + 2; expected = Some (rec + 1); verdict = run_verdict.NoWholeFrame 9 } ∷ [])

-- five packets at once in the second frame, which only W allows
abbrev pub wide : Judged
wide = two_frames 5 5 5 (fail Bucket 20 24 5 4) (fail Bucket 20 24 5 4) Pass

-- the flow of the first media of the first capture
abbrev pub first_flow : Verdict → Row
first_flow verdict = record { key = record { file = 0; media = 0 }; verdict = verdict }

-- the flow of the second media of the first capture
abbrev pub second_flow : Verdict → Row
second_flow verdict = record { key = record { file = 0; media = 1 }; verdict = verdict }

-- a `check` of one capture
abbrev pub check_of : List ℕ → CheckJob
check_of name = record {
  sdp = codes "p.sdp";
  captures = name ∷ [];
  workers = 0;
  options = no_options;
  json = false;
  joined = false;
  media = None;
}
