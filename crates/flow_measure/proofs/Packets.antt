-- What is known of packets, with one packet more.
use Rattle.std.proofs.Common.{◌≡◌, ◌<◌, ◌≤◌, ◌+◌, ◌*◌, ◌++◌, ◌∷◌, [], ℕ, ℤ, pos, negsuc, List, length, slice_index, Bool, true, false}
use Rattle.std.proofs.Common.{nat_lt, refl, ap, ◌∙◌, sym, arith}
use Rattle.std.specs.Int.{int_max}
use Rattle.std.proofs.Math.Nat.{mul-le-mul_right}
use Rattle.std.proofs.lemmas.Bool.{le-ltb}
use Rattle.std.proofs.lemmas.Int.{clamps, ints}
use Rattle.timing_base.specs.Media.{IsMedia, Media}
use Rattle.timing_base.specs.declared.media.Kind.{Kind}
use Rattle.timing_base.specs.declared.media.Kind.TheVariants.{N, NL, W}
use Rattle.sender_params.specs.Keeps.{held_at}
use Rattle.sender_params.specs.Limits.{c_max_of, gapped_of, vrx_full_of}
use Rattle.run_meter.specs.Levels.{IsHeld, IsLevel}
use Rattle.run_meter.specs.declared.level.Level.{Level}
use Rattle.flow_measure.specs.Bins.{is_above}
use Rattle.flow_measure.specs.Fed.{Finds, held_in}
use Rattle.flow_measure.specs.Kinds.{Packets}
use Rattle.flow_measure.specs.Metered.{AreListed, ArePackets}
use Rattle.flow_measure.specs.Occupancy.{AreOccupancies}
use Rattle.flow_measure.specs.Run.{packets_of}
use Rattle.flow_measure.specs.declared.numbers.Place.{Place}
use Rattle.flow_measure.proofs.Fronts.{buckets-front, ends, front-is, last-is, late-front, longer, occupancies-front}
use Rattle.flow_measure.proofs.Passes.{held-is, occupancy-once, occupancy-some}

-- what a list has before its last place, and there
pub listed-front : (xs : List ℕ) (x : ℕ) (numbers : ℕ → ℕ) → AreListed (xs ++ x ∷ []) numbers → AreListed xs numbers
listed-front xs x numbers are = λ i few. are i (longer xs x i few) ∙ front-is xs x i few

pub listed-last : (xs : List ℕ) (x k : ℕ) (numbers : ℕ → ℕ) → k ≡ length xs → AreListed (xs ++ x ∷ []) numbers → numbers k ≡ x
listed-last xs x k numbers e are = ap numbers e ∙ are (length xs) (ends xs x) ∙ last-is xs x

-- the packets before the last one
pub packets-front : (m : Media) (n : ℕ) (stamps records : List ℕ) (at rec : ℕ) (kind : Kind) (p : Packets)
    → ArePackets m n (stamps ++ at ∷ []) (records ++ rec ∷ []) kind p
    → ArePackets m n stamps records kind p
packets-front m n stamps records at rec kind p are =
    record {
      bucket = buckets-front m n stamps at p.bucket are.bucket;
      occupancy = occupancies-front m n (gapped_of kind) stamps at p.occupancy are.occupancy;
      overfull = λ i few. are.overfull i (longer stamps at i few);
      over = λ i few. are.over i (longer stamps at i few);
      empty = λ i few. are.empty i (longer stamps at i few) ∙ late-front m n stamps at (gapped_of kind) i few;
      rec = listed-front records rec p.rec are.rec;
      stamp = listed-front stamps at p.stamp are.stamp;
    }

-- what the buffer holds by the schedule of a type
held-of : (kind : Kind) (m : Media) (n : ℕ) (stamps : List ℕ) (i : ℕ) (level : Level) → IsLevel m n stamps i level
    → IsHeld m n stamps (gapped_of kind) i (held_in kind level)
held-of N m n stamps i level h = h.gapped
held-of NL m n stamps i level h = h.linear
held-of W m n stamps i level h = h.linear

-- the last one
pub level-last : (kind : Kind) (m : Media) (n : ℕ) (stamps records : List ℕ) (at rec k : ℕ) (p : Packets) (level : Level)
    → k ≡ length stamps
    → length records ≡ length stamps
    → ArePackets m n (stamps ++ at ∷ []) (records ++ rec ∷ []) kind p
    → IsLevel m n (stamps ++ at ∷ []) (length stamps) level
    → Finds kind (c_max_of m n kind) (vrx_full_of m n kind) p k level (record { «record» = rec; stamp = at })
level-last kind m n stamps records at rec k p level e same are is =
    let new = stamps ++ at ∷ [] in
    let count = length stamps in
    let last = ends stamps at in
    let held = held-of kind m n new count level is in
    let filled : p.bucket count ≡ pos level.bucket = are.bucket count last ∙ ap (λ x. pos x) (sym is.bucket) in
    let holds : p.occupancy count ≡ (held_in kind level).occupancy =
    occupancy-once m n new (gapped_of kind) count (p.occupancy count) (held_in kind level).occupancy (are.occupancy count last) held.occupancy in
    record {
      like = record {
        bucket_is = ap p.bucket e ∙ filled;
        occupancy_is = ap p.occupancy e ∙ holds;
        overfull_is = ap p.overfull e ∙ are.overfull count last ∙ ap (is_above (c_max_of m n kind)) filled;
        over_is = ap p.over e ∙ are.over count last ∙ ap (is_above (vrx_full_of m n kind)) holds;
        empty_is = ap p.empty e ∙ are.empty count last ∙ sym held.late;
      };
      stands = record {
        rec_is = listed-last records rec k p.rec (e ∙ sym same) are.rec;
        stamp_is = listed-last stamps at k p.stamp e are.stamp;
      };
    }

-- more than a limit is held exactly where the occupancy is above it
pub above-held : (full held : ℕ) (x : ℤ) → pos held ≡ int_max (pos 0) x → nat_lt full held ≡ is_above full x
above-held full held (pos x) e = let same : held ≡ x = omega (arith, ints, clamps, e) in ap (nat_lt full) same
above-held full held (negsuc x) e = let none : held ≡ 0 = omega (arith, ints, clamps, e) in le-ltb full held (omega (arith, none))

-- what the definitions say of the packets
pub packets-are : (m : Media) (n : ℕ) (stamps records : List ℕ) (occupancy : ℕ → ℤ) (kind : Kind)
    → AreOccupancies m n stamps (gapped_of kind) occupancy
    → ArePackets m n stamps records kind (packets_of m n stamps records occupancy kind)
packets-are m n stamps records occupancy kind are = record {
  bucket = λ i few. refl;
  occupancy = are;
  overfull = λ i few. refl;
  over = λ i few.
      above-held (vrx_full_of m n kind) (held_at m n stamps (gapped_of kind) i) (occupancy i)
      (held-is m n stamps (gapped_of kind) occupancy i are few);
  empty = λ i few. refl;
  rec = λ i few. refl;
  stamp = λ i few. refl;
}

-- each packet has an occupancy
pub occupancies : (m : Media) (n : ℕ) (stamps : List ℕ) (gapped : Bool) → IsMedia m → 1 ≤ n
    → (occupancy : ℕ → ℤ) × AreOccupancies m n stamps gapped occupancy
occupancies m n stamps gapped is some = (
  λ i. (occupancy-some m n stamps gapped i is some).0,
  λ i few. (occupancy-some m n stamps gapped i is some).1,
)

-- there is no group where there is no packet
pub none-of : (n groups count : ℕ) → 1 ≤ n → count ≡ n * groups → count ≡ 0 → groups ≡ 0
none-of n groups count some whole none =
    let low : 1 * groups ≤ n * groups = mul-le-mul_right groups some in
    omega (arith, low, whole, none)
