-- The contents of reports that are worked by hand: two frames of 20 packets to 239.0.0.1:50000, or runs of them.
use Rattle.std.specs.Prelude.{ℕ, false, Some}
use Rattle.timing_base.specs.Addresses.{ipv4}
use Rattle.timing_base.specs.declared.fail.Broken.{Broken}
use Rattle.timing_base.specs.declared.media.Kind.TheVariants.{N}
use Rattle.timing_base.specs.declared.row.KindVerdict.{KindVerdict}
use Rattle.timing_base.specs.declared.row.KindVerdict.TheVariants.{Pass, Fail}
use Rattle.timing_base.specs.declared.target.Target.{Target}
use Rattle.report_reader.specs.Told.{ToldFlow, ToldJudged, ToldType, ToldVerdict}

-- a type with one packet at most in the bucket and in the buffer
abbrev pub one_of : (verdict : KindVerdict) (bucket_limit buffer_limit : ℕ) → ToldType
one_of verdict bucket_limit buffer_limit = record {
  verdict = verdict;
  bucket = 1;
  bucket_limit = bucket_limit;
  buffer = 1;
  buffer_limit = buffer_limit;
}

-- frames of 20 packets of which every one is alone in the bucket and in the buffer, after a head of one packet
abbrev pub alone : (frames packets tail : ℕ) → ToldJudged
alone frames packets tail = record {
  n = 20;
  interlaced = false;
  frames = frames;
  packets = packets;
  head = 1;
  tail = tail;
  class = Some N;
  declared = Some N;
  narrow = one_of Pass 4 8;
  linear = one_of Pass 4 8;
  wide = one_of Pass 16 720;
}

-- a violation
abbrev pub violation : Broken → (from to count limit : ℕ) → KindVerdict
violation model from to count limit =
    Fail record { model = model; from = from; to = to; count = count; limit = limit }

-- the destination 239.0.0.1:50000
abbrev pub plain_target : Target
plain_target = record { address = ipv4 239 0 0 1; port = 50000 }

-- the flow of this media of this capture, counted from 0
abbrev pub flow_at : (file media : ℕ) → ToldVerdict → ToldFlow
flow_at file media verdict =
    record { key = record { file = file; media = media }; target = plain_target; verdict = verdict }
