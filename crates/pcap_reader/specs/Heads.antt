-- The header of a packet record without a fault: its fraction is below a second, and at most 262,144 bytes were
-- captured.
use Rattle.std.specs.Prelude.{◌≡◌, ◌≤◌, ◌<◌, ℕ, ◌+◌, List, length, None}
use Rattle.timing_base.specs.Captures.{IsStamp}
use Rattle.pcap_reader.specs.declared.layout.Layout.{Layout}
use Rattle.pcap_reader.specs.declared.stage.Head.{Head}
use Rattle.pcap_reader.specs.declared.window.Window.{Window}
use Rattle.pcap_reader.specs.Header.{per_second}
use Rattle.pcap_reader.specs.Records.{captured, fraction, note_by, stamp}
use Rattle.pcap_reader.specs.Windows.{front_note, held_bytes}

-- the packet record at the start of these bytes has this header, which has no fault
pub record SaysHead (layout : Layout) (bytes : List ℕ) (head : Head) : Type 0 where
  pub stamp_is : head.at ≡ stamp layout bytes
  pub captured_is : head.captured ≡ captured layout bytes
  pub below : IsStamp head.at
  pub fits : fraction layout bytes < per_second layout.fraction
  pub few : head.captured ≤ 262144

-- the packet record at the start of these bytes has this header, and its fraction has no fault
pub record SaysStamp (layout : Layout) (bytes : List ℕ) (head : Head) : Type 0 where
  pub stamp_is : head.at ≡ stamp layout bytes
  pub captured_is : head.captured ≡ captured layout bytes
  pub below : IsStamp head.at
  pub fits : fraction layout bytes < per_second layout.fraction

-- the packet record at the start of the buffered bytes has this header, without a fault; if the text has the whole
-- record, it can be read
pub record IsHead (layout : Layout) (w : Window) (head : Head) : Type 0 where
  pub stamp_is : head.at ≡ stamp layout (held_bytes w)
  pub captured_is : head.captured ≡ captured layout (held_bytes w)
  pub below : IsStamp head.at
  pub few : head.captured ≤ 262144
  pub most : w.place + 16 + head.captured ≤ w.most
  pub whole : (long : ℕ) → 16 + head.captured ≤ long → front_note layout w long ≡ None

-- the packet record at the start of these bytes is complete, has no fault, and has this header; if these bytes are
-- within the greatest length of the capture, it can be read
pub record IsWhole (layout : Layout) (bytes : List ℕ) (head : Head) : Type 0 where
  pub stamp_is : head.at ≡ stamp layout bytes
  pub captured_is : head.captured ≡ captured layout bytes
  pub below : IsStamp head.at
  pub few : head.captured ≤ 262144
  pub within : 16 + head.captured ≤ length bytes
  pub free : (most number place long : ℕ) → place + length bytes ≤ most → length bytes ≤ long
      → note_by layout.fraction most number place long (fraction layout bytes) (captured layout bytes) ≡ None
