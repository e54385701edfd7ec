-- The part of a capture that is in the buffer. Places and lengths are bytes.
use Rattle.std.specs.Prelude.{◌≡◌, ℕ, ◌+◌, ◌-◌, List, length, take, drop, ⊤, Option, Some, None}
use Rattle.pcap_reader.specs.declared.layout.Layout.{Layout}
use Rattle.timing_base.specs.declared.capture.FileNote.{FileNote}
use Rattle.pcap_reader.specs.Records.{note_by, fraction, captured}
use Rattle.pcap_reader.specs.declared.window.Window.{Window}

-- the bytes that were read and not yet consumed
abbrev pub held_bytes : Window → List ℕ
held_bytes w = take (w.filled - w.start) (drop w.start w.buf.items)

-- the last n bytes that were consumed
abbrev pub last_bytes : ℕ → Window → List ℕ
last_bytes n w = take n (drop (w.start - n) w.buf.items)

-- the number of bytes taken from the source: those that were consumed, and those that are buffered
abbrev pub taken_length : Window → ℕ
taken_length w = w.place + length (held_bytes w)

-- if the contents of the source are known, as many bytes were taken as the source now has fewer
abbrev pub Takes : (old new : Option (List ℕ)) → (before now : ℕ) → Type 0
Takes None new before now = ⊤
Takes (Some xs) None before now = ⊥
Takes (Some xs) (Some ys) before now = before + length xs ≡ now + length ys

-- the window hasn't moved to another packet record or capture
pub record SameRecord (old new : Window) : Type 0 where
  pub place : new.place ≡ old.place
  pub count : new.count ≡ old.count
  pub most : new.most ≡ old.most
  pub stage : new.stage ≡ old.stage

-- why the packet record at the start can't be read, in a text that goes on for `long` bytes
abbrev pub front_note : Layout → Window → (long : ℕ) → Option FileNote
front_note layout w long =
    note_by layout.fraction w.most (w.count + 1) w.place long
    (fraction layout (held_bytes w)) (captured layout (held_bytes w))
