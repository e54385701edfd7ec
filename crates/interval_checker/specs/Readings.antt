-- The state of readings after the packet records that were read. Sources and runs count from 0.
use Rattle.std.specs.Prelude.{◌≡◌, ◌≤◌, ◌+◌, ◌^◌, ℕ, ⊤, List, [], ◌∷◌, ◌++◌, Option, Some, None}
use Rattle.timing_base.specs.Captures.{Record}
use Rattle.timing_base.specs.Judged.{judged}
use Rattle.timing_base.specs.Media.{Media}
use Rattle.timing_base.specs.Numbered.{numbered}
use Rattle.timing_base.specs.Shifts.{FlowOptions, Shift}
use Rattle.timing_base.specs.declared.packet.FlowPacket.{FlowPacket}
use Rattle.timing_base.specs.declared.row.Unjudged.{Unjudged}
use Rattle.udp_rtp.specs.Flow.{flow}
use Rattle.interval_checker.specs.Asking.{AsksNoLess}
use Rattle.interval_checker.specs.Checked.{IsRefused}
use Rattle.interval_checker.specs.Numbers.{last_number}
use Rattle.interval_checker.specs.Walks.{StandsFor, asked_of, count_fed}
use Rattle.interval_checker.specs.declared.asked.Asked.{Asked}
use Rattle.interval_checker.specs.declared.numbers.Numbers.{Numbers}
use Rattle.interval_checker.specs.declared.reading.Reading.{Reading}
use Rattle.interval_checker.specs.declared.walk.Walk.{Walk}

-- the media of the flow that is read
abbrev pub media_of : Reading → Media
media_of r = r.media

-- the options of the flow
abbrev pub options_of : Reading → FlowOptions
options_of r = record { shift = r.shift; seq16 = r.numbers.seq16 }

-- what is asked for of the flow
abbrev pub asked_by : Reading → Asked
asked_by r = asked_of r.walk

-- number of packets taken, counted up to the first fault
abbrev pub count_taken : Reading → ℕ
count_taken r = count_fed r.walk

-- exactly these packets of the flow were numbered, and the walk was fed them by their numbers
pub record HasWalked (pt : ℕ) (shift : Shift) (n : Numbers) (w : Walk) (packets : List FlowPacket) : Type 0 where
  pub last : n.last ≡ last_number n.seq16 packets
  pub walk : StandsFor pt shift w (numbered n.seq16 packets)

-- the flow so far was read; if it isn't judged, the reason holds whatever records follow
abbrev pub HasReadBy : Option Unjudged → Reading → List Record → Type 0
HasReadBy None r items = HasWalked r.media.pt r.shift r.numbers r.walk (flow items r.media)
HasReadBy (Some why) r items =
    (rest : List Record) → IsRefused (judged (flow (items ++ rest) r.media) r.media.pt (options_of r)) why

-- exactly these records were read
abbrev pub HasRead : Reading → List Record → Type 0
HasRead r items = HasReadBy r.refused r items

-- `new` is `old` after exactly these records more
pub record ReadsOn (old new : Reading) (more : List Record) : Type 0 where
  pub media : media_of new ≡ media_of old
  pub options : options_of new ≡ options_of old
  pub asked : AsksNoLess (asked_by old) (asked_by new)
  pub reads : (items : List Record) → HasRead old items → HasRead new (items ++ more)

-- each of these readings has read exactly these records
abbrev pub HaveRead : List Reading → List Record → Type 0
HaveRead [] items = ⊤
HaveRead (r ∷ rs) items = HasRead r items × HaveRead rs items

-- each of `news` is that of `olds` after exactly these records more
abbrev pub ReadOn : (olds news : List Reading) → List Record → Type 0
ReadOn [] [] more = ⊤
ReadOn (o ∷ os) (n ∷ ns) more = ReadsOn o n more × ReadOn os ns more
ReadOn olds news more = ⊥

-- `new` is a reading of the same media, and asks for everything that `old` asks for
pub record IsSame (old new : Reading) : Type 0 where
  pub media : media_of new ≡ media_of old
  pub options : options_of new ≡ options_of old
  pub asked : AsksNoLess (asked_by old) (asked_by new)

-- `news` are readings of the same media as `olds`, in order, and ask for everything that those ask for
abbrev pub AreSame : (olds news : List Reading) → Type 0
AreSame [] [] = ⊤
AreSame (o ∷ os) (n ∷ ns) = IsSame o n × AreSame os ns
AreSame olds news = ⊥

-- each reading has room for `count` more packets
abbrev pub HaveRoom : (count : ℕ) → List Reading → Type 0
HaveRoom count [] = ⊤
HaveRoom count (r ∷ rs) = (count_taken r + count ≤ 2 ^ 41) × HaveRoom count rs
