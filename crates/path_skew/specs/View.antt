-- The state kept of two flows, seen from one of them: by packet number, or by the position of a number on its page.
use Rattle.std.specs.Prelude.{◌≡◌, ◌≢◌, ℕ, Bool, true, false, not, ◌==◌, if◌then◌else◌, Option, Some, None}
use Rattle.std.specs.Int.{bit_at}
use Rattle.path_skew.specs.Slots.{arrival_at}
use Rattle.path_skew.specs.declared.arrival.Arrival.{Arrival}
use Rattle.path_skew.specs.declared.arrivals.Arrivals.{Arrivals}
use Rattle.path_skew.specs.declared.pages.Found.{Found}
use Rattle.path_skew.specs.declared.pages.Found.TheVariants.{Again, Opens}

-- whether the flow had a packet number, whether the other had it, and the packet kept for it
pub record View : Type 0 where
  pub own : ℕ → Bool
  pub other : ℕ → Bool
  pub kept : ℕ → Option Arrival

-- the state of a page, by the bits of the flow, those of the other, and its packets
abbrev pub of_parts : (own other : ℕ) → Arrivals → View
of_parts own other arrivals = record {
  own = λ i. bit_at own i == 1;
  other = λ i. bit_at other i == 1;
  kept = arrival_at arrivals;
}

-- exactly one flow had the packet number
abbrev pub Waits : View → ℕ → Type 0
Waits v number = v.own number ≡ not (v.other number)

-- both states have the same packet numbers of both flows, and what is kept for a number that exactly one flow had stays
pub record IsSame (v w : View) : Type 0 where
  pub own : (n : ℕ) → w.own n ≡ v.own n
  pub other : (n : ℕ) → w.other n ≡ v.other n
  pub kept : (n : ℕ) (x : Arrival) → Waits v n → v.kept n ≡ Some x → w.kept n ≡ Some x

-- the flow didn't have the packet number before, and has it now; the other flow's packet with the number was found, or
-- else this packet is kept
pub record IsOpened (v w : View) (number : ℕ) (arrival : Arrival) (found : Option Arrival) : Type 0 where
  pub absent : v.own number ≡ false
  pub own : (n : ℕ) → w.own n ≡ (if n == number then true else v.own n)
  pub other : (n : ℕ) → w.other n ≡ v.other n
  pub kept : (n : ℕ) (x : Arrival) → n ≢ number → Waits v n → v.kept n ≡ Some x → w.kept n ≡ Some x
  pub alone : v.other number ≡ false → (found ≡ None) × (w.kept number ≡ Some arrival)
  pub both : v.other number ≡ true → (x : Arrival) → v.kept number ≡ Some x → found ≡ Some x

-- a packet with the packet number came
abbrev pub Meets : View → View → ℕ → Arrival → Found → Type 0
Meets v w number arrival Again = (v.own number ≡ true) × IsSame v w
Meets v w number arrival (Opens found) = IsOpened v w number arrival found
