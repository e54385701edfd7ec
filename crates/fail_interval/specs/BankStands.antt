-- The state of a bank of judges after the packet records that it was fed: each judge was fed the flow of its media.
-- Media count from 0.
use Rattle.std.specs.Prelude.{◌≡◌, ◌≤◌, ◌+◌, ◌^◌, ℕ, max, ⊤, List, [], ◌∷◌, ◌++◌}
use Rattle.std.proofs.Common.{arith, subst, sym, append_assoc, append-nil}
use Rattle.timing_base.specs.Shifts.{FlowOptions}
use Rattle.timing_base.specs.Captures.{Record}
use Rattle.timing_base.specs.Keys.{key_of}
use Rattle.timing_base.specs.Media.{Media}
use Rattle.udp_rtp.specs.Flow.{flow}
use Rattle.flow_demux.specs.Rooms.{flows_of}
use Rattle.flow_demux.specs.declared.media_flow.MediaFlow.{MediaFlow}
use Rattle.fail_interval.specs.Stands.{StandsFor as JudgeStandsFor, count_fed}
use Rattle.fail_interval.specs.declared.bank.Bank.{Bank}
use Rattle.fail_interval.specs.declared.metered.Metered.{Metered}

-- a judge without meters
abbrev pub Judging : Type 0
Judging = Metered (Unit {0}) (Unit {0})

-- the judge is that of this media, and was fed the flow in these records
pub record IsJudgeOf (m : Media) (file number : ℕ) (options : FlowOptions) (f : MediaFlow Judging)
    (items : List Record) : Type 0 where
  pub media : f.media ≡ m
  pub judge : JudgeStandsFor m (key_of file number) options f.taker.judge (flow items m)

-- the judges are those of these media, in order; the first has this number
abbrev pub AreJudgesOf : (options : FlowOptions) (file number : ℕ) → List Media → List (MediaFlow Judging) → List Record
    → Type 0
AreJudgesOf options file number [] [] items = ⊤
AreJudgesOf options file number [] (f ∷ fs) items = ⊥
AreJudgesOf options file number (m ∷ ms) [] items = ⊥
AreJudgesOf options file number (m ∷ ms) (f ∷ fs) items =
    IsJudgeOf m file number options f items × AreJudgesOf options file (number + 1) ms fs items

-- the bank was fed exactly these records of one file
abbrev pub StandsFor : List Media → (file : ℕ) (options : FlowOptions) → Bank → List Record → Type 0
StandsFor media file options bank items = AreJudgesOf options file 0 media (flows_of bank.demux) items

-- if `old` was fed some records, `new` was fed those and then these
abbrev pub Feeds : (old new : Bank) → List Record → Type 0
Feeds old new more = (media : List Media) (file : ℕ) (options : FlowOptions) (items : List Record)
    → StandsFor media file options old items
    → StandsFor media file options new (items ++ more)

-- the empty list of records changes nothing
pub feeds_none : (bank : Bank) → Feeds bank bank []
feeds_none bank media file options items h = subst (StandsFor media file options bank) (sym (append-nil items)) h

-- records that are fed in two parts are fed as all of them are
pub feeds_more : (old mid new : Bank) (a b : List Record) → Feeds old mid a → Feeds mid new b → Feeds old new (a ++ b)
feeds_more old mid new a b first second media file options items h =
    subst (StandsFor media file options new) (append_assoc items a b)
    (second media file options (items ++ a) (first media file options items h))

-- the largest number of packets that one of these judges was fed
abbrev pub most_fed : List (MediaFlow Judging) → ℕ
most_fed [] = 0
most_fed (f ∷ fs) = max (count_fed f.taker.judge) (most_fed fs)

-- the largest number of packets that one judge of the bank was fed
abbrev pub records : Bank → ℕ
records bank = most_fed (flows_of bank.demux)

-- the bank has room for `count` more records
abbrev pub HasRoom : (number count : ℕ) → Bank → Type 0
HasRoom number count bank = records bank + count ≤ 2 ^ 41

-- room for many records is room for fewer
pub room_less : (number few many : ℕ) (bank : Bank) → few ≤ many → HasRoom number many bank → HasRoom number few bank
room_less number few many bank less room = omega (arith, less, room)

-- `new` is `old` after some more records
abbrev pub IsFed : (old new : Bank) → Type 0
IsFed old new = (more : List Record) × Feeds old new more
