-- Stretches and lines worked by hand: of the plain sender at 1080p50 with 20 packets per frame, and of the same sender
-- with five packets at one instant at the start of its second frame. Capture timestamps are nanoseconds.
use Rattle.std.specs.Prelude.{ℕ, pos, negsuc, Bool, true, false}
use Rattle.flow_watch.specs.declared.form.Gap.{Gap}
use Rattle.flow_watch.specs.declared.form.LineForm.{LineForm}
use Rattle.flow_watch.specs.declared.form.Waiting.{Waiting}
use Rattle.flow_watch.specs.declared.peaks.BufferRange.{BufferRange}
use Rattle.flow_watch.specs.declared.stretch.PerType.{PerType}
use Rattle.flow_watch.specs.declared.stretch.Stretch.{Stretch}

-- the form of media 1, a progressive video
abbrev pub first_media : (json : Bool) → LineForm
first_media json = record { media = 0; interlaced = false; json = json }

-- the form of media 2, an interlaced video
abbrev pub second_media : (json : Bool) → LineForm
second_media json = record { media = 1; interlaced = true; json = json }

-- a buffer of one packet at each packet, none of them late
abbrev pub one_packet : BufferRange
one_packet = record { least = pos 1; greatest = pos 1; late = 0 }

-- a buffer of at most five packets, none of them late
abbrev pub five_packets : BufferRange
five_packets = record { least = pos 1; greatest = pos 5; late = 0 }

-- the numbers of N, NL and W
abbrev pub each : (narrow narrow_linear wide : ℕ) → PerType
each narrow narrow_linear wide = record { narrow = narrow; narrow_linear = narrow_linear; wide = wide }

-- the first frame of the plain sender
abbrev pub plain_frame : Stretch
plain_frame = record {
  run = 1;
  from = 1;
  to = 1;
  stamp = 1600000000019004000;
  c_max = each 4 4 16;
  peaks = record { bucket = 1; gapped = one_packet; linear = one_packet };
  broken = each 0 0 0;
}

-- the second frame of the sender with the burst
abbrev pub burst_frame : Stretch
burst_frame = record {
  run = 1;
  from = 2;
  to = 2;
  stamp = 1600000000039004000;
  c_max = each 4 4 16;
  peaks = record { bucket = 5; gapped = five_packets; linear = five_packets };
  broken = each 1 1 0;
}

-- fields 3 to 52 of run 12, 7 of whose packets are late by gapped reads: at most 2 reads are ahead
abbrev pub late_fields : Stretch
late_fields = record {
  run = 12;
  from = 3;
  to = 52;
  stamp = 37000000001;
  c_max = each 4 4 16;
  peaks = record {
    bucket = 3;
    gapped = record { least = negsuc 1; greatest = pos 0; late = 7 };
    linear = one_packet;
  };
  broken = each 5 0 0;
}

-- packet record 41, in which number 31 was expected and number 40 came
abbrev pub nine_missing : Gap
nine_missing = record { rec = 41; expected = 31; got = 40 }

-- 100 packets from record 3 on
abbrev pub hundred : Waiting
hundred = record { packets = 100; rec = 3 }
