-- What is read of the JSON of the flow that is worked by hand: two frames of 20 packets at 50 frames per second, after
-- a packet with the RTP marker. Frame k begins k * 20 ms after second 1,600,000,000, its packet j arrives
-- 764,000 + 960,000 j ns later, and its RTP timestamp is 1800 (k + 1).
use Rattle.std.specs.Prelude.{ℕ, pos, negsuc, ◌*◌, false, true, List, [], ◌∷◌, ◌++◌, replicate, Option, Some, None}
use Rattle.timing_base.specs.Addresses.{ipv4}
use Rattle.timing_base.specs.declared.row.KindVerdict.TheVariants.{Pass}
use Rattle.measure_reader.specs.Told.{ReadBins, ReadBuffer, ReadFlow, ReadKind, ReadRun, ReadSummary}

-- the summary of two equal numbers
abbrev pub twice : ℕ → ReadSummary
twice x = record { first = pos x; greatest = pos x; last = pos x; least = pos x; sum = pos (x * 2) }

-- one packet in the buffer just after each of 40 packets; all may be 444 ns later
abbrev pub one_held : ReadBuffer
one_held = record { greatest = pos 1; late = 0; least = pos 1; slack = pos 444; sum = pos 40 }

-- bins without numbers above the limit
abbrev pub bins_within : (limit width : ℕ) → (below : Option ℕ) → List ℕ → ReadBins
bins_within limit width below counts =
    record { above = 0; below = below; counts = counts; limit = limit; width = width }

-- a type with no packet that breaks a limit, and with these offsets in microseconds
abbrev pub kept : (bucket buffer : ReadBins) → (least greatest : ℕ) → ReadKind
kept bucket buffer least greatest = record {
  bucket = bucket;
  buffer = buffer;
  first_bucket = None;
  first_empty = None;
  first_over = None;
  groups_broken = 0;
  outcome = Pass;
  place = None;
  troff = record { least = Some least; greatest = Some greatest };
}

-- forty packets that are alone in the bucket, or in the buffer, up to a limit of 4 or 8
abbrev pub alone_of_4 : ReadBins
alone_of_4 = bins_within 4 1 None (0 ∷ 40 ∷ replicate 3 0)

abbrev pub alone_of_8 : ReadBins
alone_of_8 = bins_within 8 1 (Some 0) (0 ∷ 40 ∷ replicate 7 0)

-- the run, from packet record 1 and packet number 0
abbrev pub plain_run : ReadRun
plain_run = record {
  bucket = record { greatest = pos 1; least = pos 1; sum = pos 40 };
  first = twice 764000;
  target = 764444;
  frames = 2;
  gap = Some (record {
    classes = replicate 20 0 ++ (38 ∷ 1 ∷ []);
    greatest = pos 1760000;
    least = pos 960000;
    sum = pos 38240000;
  });
  gapped = one_held;
  head = 1;
  interlaced = false;
  last = twice 19004000;
  latency = record {
    first = negsuc 1663502019;
    greatest = negsuc 1663502019;
    last = negsuc 1663502019;
    least = negsuc 1663502019;
    sum = negsuc 3327004039;
  };
  linear = one_held;
  n = 20;
  number = 0;
  offset = twice 1663502088;
  packets = 40;
  rec = 1;
  run = 1;
  step = Some (record { greatest = pos 1800; least = pos 1800 });
  tail = 0;
  kinds = kept alone_of_4 alone_of_8 764 8444 ∷ kept alone_of_4 alone_of_8 764 8004
      ∷ kept (bins_within 16 1 None (0 ∷ 40 ∷ replicate 15 0)) (bins_within 720 12 (Some 0) (40 ∷ replicate 60 0))
      764 1000000 ∷ [];
}

-- the flow to 239.0.0.1:50000
abbrev pub plain_flow : ReadFlow
plain_flow = record {
  media = 0;
  packets = 41;
  runs = plain_run ∷ [];
  ssrc = Some 1;
  target = record { address = ipv4 239 0 0 1; port = 50000 };
  in_one_run = true;
}
