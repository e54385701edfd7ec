-- A result worked by hand: of the sender with five packets at one instant at the start of its second frame, with 20
-- packets per frame. Packets count from 0: the bucket holds five just after packet 24, and its limit for N and NL is
-- four.
use Rattle.std.specs.Prelude.{◌∷◌, []}
use Rattle.timing_base.specs.Verdicts.{Judged}
use Rattle.timing_base.specs.declared.fail.Broken.TheVariants.{Bucket}
use Rattle.timing_base.specs.declared.fail.FailProof.{FailProof}
use Rattle.timing_base.specs.declared.row.KindVerdict.TheVariants.{Fail, Pass}

-- the packets of the burst
abbrev pub five_at_once : FailProof
five_at_once = record { model = Bucket; from = 20; to = 24; count = 5; limit = 4 }

-- the result after both frames
abbrev pub burst_result : Judged
burst_result = record {
  n = 20;
  frames = 2;
  packets = 40;
  head = 1;
  tail = 0;
  bucket_peak = 5;
  gapped_peak = 5;
  linear_peak = 5;
  kinds = Fail five_at_once ∷ Fail five_at_once ∷ Pass ∷ [];
}
