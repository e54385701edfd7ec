-- The judged runs of a flow: the input of a run's meter, and the results for the run's packets. A run stands between
-- two gaps; its judged packets are those after its first marker, up to and including its last marker. Packets of a list
-- count from 0, runs and packet records from 1. Capture timestamps are in nanoseconds; those of a flow have one shift.
-- This project's profile.
use Rattle.std.specs.Prelude.{◌≡◌, ◌≤◌, ◌<◌, ◌*◌, ◌||◌, ℕ, Bool, true, false, nat_lt, List, [], ◌∷◌, length, map}
use Rattle.timing_base.specs.Shifts.{Shift}
use Rattle.timing_base.specs.Flows.{read_or_zeros}
use Rattle.timing_base.specs.Judged.{stamp_of}
use Rattle.timing_base.specs.Media.{Media}
use Rattle.timing_base.specs.Verdicts.{Judged}
use Rattle.timing_base.specs.declared.media.Kind.{Kind}
use Rattle.timing_base.specs.declared.media.Kind.TheVariants.{N, NL, W}
use Rattle.timing_base.specs.declared.packet.FlowPacket.{FlowPacket}
use Rattle.timing_base.specs.declared.row.KindVerdict.{KindVerdict}
use Rattle.timing_base.specs.declared.row.KindVerdict.TheVariants.{Fail, Pass}
use Rattle.sender_params.specs.Keeps.{is_empty, is_over}
use Rattle.sender_params.specs.Limits.{c_max_of}
use Rattle.drain_bucket.specs.Word.{bucket_of}
use Rattle.run_meter.specs.declared.run.RunHead.{RunHead}
use Rattle.run_meter.specs.declared.run.RunPacket.{RunPacket}

-- a run that has at least one complete frame or field
pub record RunOf : Type 0 where
  -- position among all runs of the flow, judged or not, counted from 1
  pub number : ℕ
  -- first packet of the run, with which its head begins
  pub first : FlowPacket
  -- packets per frame or field
  pub n : ℕ

-- a run that hasn't ended: the packets of its complete frames or fields so far
pub record OpenPart : Type 0 where
  -- the run itself
  pub run : RunOf
  -- judged packets so far
  pub packets : List FlowPacket

-- a judged run of a flow
pub record JudgedPart : Type 0 where
  -- position among all runs of the flow, judged or not, counted from 1
  pub number : ℕ
  -- first packet of the run, with which its head begins
  pub first : FlowPacket
  -- result of the judgement
  pub values : Judged
  -- judged packets
  pub packets : List FlowPacket

-- the capture timestamps of packets after the shift, in nanoseconds
abbrev pub stamps_of : (shift : Shift) → List FlowPacket → List ℕ
stamps_of shift packets = map (stamp_of shift) packets

-- a packet as it is fed to a meter
abbrev pub told_of : (shift : Shift) → FlowPacket → RunPacket
told_of shift p = record {
  rec = p.rec;
  at = stamp_of shift p;
  timestamp = (read_or_zeros p.rtp).timestamp;
}

-- `head` is what a meter gets before the packets of run r
pub record IsHeadOf (r : RunOf) (head : RunHead) : Type 0 where
  pub run : head.run ≡ r.number
  pub rec : head.rec ≡ r.first.rec
  pub number : head.number ≡ (read_or_zeros r.first.rtp).number

-- the packets are complete frames or fields of n packets each, at least one
pub record AreWhole (n : ℕ) (packets : List FlowPacket) : Type 0 where
  pub groups : ℕ
  pub some : 1 ≤ groups
  pub are : length packets ≡ n * groups

-- packet i violates a model of this type: just after it the bucket holds more than C_MAX packets, or the buffer more
-- than VRX_FULL, or the packet came after its own read (SMPTE ST 2110-21)
abbrev pub is_broken : Media → ℕ → List ℕ → Kind → ℕ → Bool
is_broken m n stamps kind i =
    (nat_lt (c_max_of m n kind) (bucket_of m n stamps i) || is_over m n stamps kind i) || is_empty m n stamps kind i

-- the verdict names the first of `count` packets that violates a model, or is a pass if none does
abbrev pub NamesFirst : (broken : ℕ → Bool) → (count : ℕ) → KindVerdict → Type 0
NamesFirst broken count Pass = (i : ℕ) → i < count → broken i ≡ false
NamesFirst broken count (Fail proof) =
    (proof.to < count) × (broken proof.to ≡ true) × ((i : ℕ) → i < proof.to → broken i ≡ false)

-- each of the verdicts on N, NL and W, in this order, names the first packet that violates a model
abbrev pub NameFirst : Media → ℕ → List ℕ → List KindVerdict → Type 0
NameFirst m n stamps (narrow ∷ narrow_linear ∷ wide ∷ []) =
    NamesFirst (is_broken m n stamps N) (length stamps) narrow
    × NamesFirst (is_broken m n stamps NL) (length stamps) narrow_linear
    × NamesFirst (is_broken m n stamps W) (length stamps) wide
NameFirst m n stamps _ = ⊥

-- `values` is a result of run r with these judged packets
pub record IsJudgedOf (m : Media) (shift : Shift) (r : RunOf) (packets : List FlowPacket) (values : Judged) :
    Type 0 where
  pub n_is : values.n ≡ r.n
  pub some : 1 ≤ values.frames
  pub whole : length packets ≡ r.n * values.frames
  pub names : NameFirst m r.n (stamps_of shift packets) values.kinds

-- a run that has ended, with its result
abbrev pub part_of : RunOf → Judged → (packets : List FlowPacket) → JudgedPart
part_of r values packets = record { number = r.number; first = r.first; values = values; packets = packets }
