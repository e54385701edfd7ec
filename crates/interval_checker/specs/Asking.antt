-- The data that is asked for of the runs of a flow, and what is kept of it. Runs count from 0, packets from 0 after the
-- first marker of their run. Capture timestamps are in nanoseconds, as the capture has them.
use Rattle.std.specs.Prelude.{◌≡◌, ◌<◌, ◌-◌, ℕ, nat_eq, ◌&&◌, Bool, if◌then◌else◌, List, [], ◌∷◌, length, zero, suc, ⊤}
use Rattle.std.specs.Prelude.{slice_index, ◌≤◌, Option, Some, None, IsSome, option_map}
use Rattle.std.specs.HashMap as hash
use Rattle.timing_base.specs.Shifts.{Shift, shifted}
use Rattle.timing_base.specs.declared.fail.FailProof.{FailProof}
use Rattle.interval_checker.specs.declared.asked.Asked.{Asked}
use Rattle.interval_checker.specs.declared.ending.Ending.{Ending}
use Rattle.interval_checker.specs.declared.ending.Ending.TheVariants as ending
use Rattle.timing_base.specs.Judged.{RunOutcome, no_whole_frame, whole_frames}

-- complete frames or fields of `size` packets each, and of `count` packets in all
abbrev pub IsWhole : Ending → (size count : ℕ) → Type 0
IsWhole (ending.NoWholeFrame head) size count = ⊥
IsWhole (ending.WholeFrames f) size count = (f.size ≡ size) × (f.count ≡ count)

-- the capture timestamp kept for a packet, if it is asked for
abbrev pub stamp_of : Asked → (run place : ℕ) → Option ℕ
stamp_of a run place = option_map (λ s. s.at) (hash.get (λ x y. nat_eq x.0 y.0 && nat_eq x.1 y.1) a.stamps (run, place))

-- the end kept for a run, if it is asked for
abbrev pub ending_of : Asked → (run : ℕ) → Option Ending
ending_of a run = hash.get nat_eq a.endings run

-- what is kept afterwards, if it is asked for: `now` if it comes here, else what was kept before
abbrev pub if_asked : {A : Type 0} → Bool → A → Option A → Option A
if_asked here now None = None
if_asked here now (Some before) = if here then Some now else Some before

-- `new` asks for everything that `old` asks for
pub record AsksNoLess (old new : Asked) : Type 0 where
  pub stamps : (r p : ℕ) → IsSome (stamp_of old r p) → IsSome (stamp_of new r p)
  pub endings : (r : ℕ) → IsSome (ending_of old r) → IsSome (ending_of new r)

-- everything that a claimed violation by a run needs is asked for
pub record IsAsked (a : Asked) (run : ℕ) (f : FailProof) : Type 0 where
  pub ending : IsSome (ending_of a run)
  pub first : IsSome (stamp_of a run 0)
  pub from : IsSome (stamp_of a run f.from)
  pub to : IsSome (stamp_of a run f.to)
  pub last_counted : IsSome (stamp_of a run (f.count - 1))
  pub behind : IsSome (stamp_of a run f.count)

-- of the first `count` packets of the run, those that are asked for have these capture timestamps
abbrev pub AreKept : Asked → (run : ℕ) → (stamps : ℕ → ℕ) → (count : ℕ) → Type 0
AreKept a run stamps count = (place : ℕ) → place < count → IsSome (stamp_of a run place)
    → stamp_of a run place ≡ Some (stamps place)

-- of judged packets with these timestamps after the shift, those that are asked for are kept; in the capture the
-- timestamps of these packets never go back
pub record IsRunKept (a : Asked) (run : ℕ) (shift : Shift) (stamps : List ℕ) : Type 0 where
  pub raw : ℕ → ℕ
  pub after : (k : ℕ) → k < length stamps → slice_index stamps k ≡ shifted shift (raw k)
  pub rising : (j k : ℕ) → j ≤ k → k < length stamps → raw j ≤ raw k
  pub kept : AreKept a run raw (length stamps)

-- the end of a run, by its outcome
abbrev pub EndsAs : Asked → (run : ℕ) (shift : Shift) → RunOutcome → Ending → Type 0
EndsAs a run shift (no_whole_frame head) e = e ≡ ending.NoWholeFrame head
EndsAs a run shift (whole_frames j) e = IsWhole e j.n (length j.stamps) × IsRunKept a run shift j.stamps

-- the ends of the runs from `run` on that have ended, by their outcomes, are kept if they are asked for
abbrev pub AreEnded : Asked → (shift : Shift) (run : ℕ) → List RunOutcome → Type 0
AreEnded a shift run [] = ⊤
AreEnded a shift run (o ∷ os) = ((e : Ending) → ending_of a run ≡ Some e → EndsAs a run shift o e)
    × AreEnded a shift (suc run) os

-- the end of the run with the outcome that comes after `behind` others
abbrev pub EndsAt : Asked → (run : ℕ) (shift : Shift) → List RunOutcome → (behind : ℕ) → Ending → Type 0
EndsAt a run shift [] behind e = ⊥
EndsAt a run shift (o ∷ os) zero e = EndsAs a run shift o e
EndsAt a run shift (o ∷ os) (suc behind) e = EndsAt a run shift os behind e
