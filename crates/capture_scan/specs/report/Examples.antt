-- The results of scans for the examples that are worked by hand. The first capture has 41 packets of one sender: one
-- packet with the marker, and two frames of 20 packets at 50 frames per second.
use Rattle.std.specs.Prelude.{ℕ, Bool, true, false, [], ◌∷◌, Some, None}
use Rattle.timing_base.specs.Addresses.{ipv4}
use Rattle.timing_base.specs.declared.target.Target.{Target}
use Rattle.udp_rtp.specs.Examples.{sender}
use Rattle.capture_scan.specs.Examples.{order_with, pace_with}
use Rattle.capture_scan.specs.declared.found.PassedOver.{PassedOver}
use Rattle.capture_scan.specs.declared.stream.Rate.{Rate}
use Rattle.capture_scan.specs.declared.stream.Stream.{Stream}
use Rattle.capture_scan.specs.report.Contents.{Contents}
use Rattle.capture_scan.specs.report.Draft.{height_of, is_height_guessed}

-- 239.0.0.1, port 50000
abbrev pub group : Target
group = record { address = ipv4 239 0 0 1; port = 50000 }

-- no frame without a target
abbrev pub none_passed : PassedOver
none_passed = record { empty = 0; tags = 0; ipv6 = 0; other = 0; not_udp = 0; fragment = 0; broken = 0 }

-- the stream of the first capture; no packet has a line header
abbrev pub plain_stream : Stream
plain_stream = record {
  source = sender;
  target = group;
  ssrc = 1;
  pt = 96;
  pts = 0;
  packets = 41;
  markers = 3;
  first = record { rec = 1; at = 1599999999999000000 };
  last = record { rec = 41; at = 1600000000039004000 };
  bytes = 1722;
  order = order_with 0 0 0 0;
  pace = Some (pace_with 20 20 1800 1800 3600 2);
  lines = None;
}

-- the first capture, with this stream alone
abbrev pub plain_contents : Contents
plain_contents = record {
  records = 41;
  span = Some (record { first = 1599999999999000000; last = 1600000000039004000 });
  passed_over = none_passed;
  streams = plain_stream ∷ [];
  unread = [];
  more = 0;
}

-- a capture without packet records
abbrev pub empty_contents : Contents
empty_contents = record {
  records = 0;
  span = None;
  passed_over = none_passed;
  streams = [];
  unread = [];
  more = 0;
}

-- the height of a draft if lines up to number `greatest` (from 0) of two fields were seen
abbrev pub fields_to : ℕ → ℕ
fields_to greatest = height_of (Some (record { greatest = greatest; second_field = true; fits = true }))

-- the height of a draft if lines up to number `greatest` (from 0) of whole frames were seen
abbrev pub frames_to : ℕ → ℕ
frames_to greatest = height_of (Some (record { greatest = greatest; second_field = false; fits = true }))

-- whether that height of whole frames is a guess
abbrev pub guessed_of_frames : ℕ → Bool
guessed_of_frames greatest =
    is_height_guessed (Some (record { greatest = greatest; second_field = false; fits = true }))

-- a sum of ticks over this many steps
abbrev pub ticks_in : ℕ → ℕ → Rate
ticks_in ticks steps = record { ticks = ticks; steps = steps }

-- the stream with one packet lost, and with fields of 540 lines
abbrev pub stream_of_fields : Stream
stream_of_fields = record plain_stream {
  packets = 40;
  order = order_with 1 0 0 0;
  pace = Some (pace_with 19 20 1501 1502 3003 2);
  lines = Some (record { greatest = 539; second_field = true; fits = true });
}

-- the stream at 12.5 frames per second, with 478 lines seen of whole frames
abbrev pub stream_of_478 : Stream
stream_of_478 = record plain_stream {
  pace = Some (pace_with 20 20 7200 7200 14400 2);
  lines = Some (record { greatest = 477; second_field = false; fits = true });
}

-- a stream of audio to the next port; a line header doesn't fit raw video
abbrev pub stream_of_audio : Stream
stream_of_audio = record plain_stream {
  target = record { address = ipv4 239 0 0 1; port = 50001 };
  pace = Some (pace_with 1 1 48 48 1920 40);
  lines = Some (record { greatest = 22253; second_field = true; fits = false });
}

-- a capture with the stream of fields, frames without a target, unread packets, and packets of streams that aren't
-- listed
abbrev pub mixed_contents : Contents
mixed_contents = record {
  records = 51;
  span = Some (record { first = 1599999999999000000; last = 1600000000039004000 });
  passed_over = record none_passed { tags = 2; ipv6 = 1 };
  streams = stream_of_fields ∷ [];
  unread = record { target = group; packets = 3 } ∷ [];
  more = 5;
}
