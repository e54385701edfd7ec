-- The lanes of one media more.
use Rattle.std.proofs.Common.{◌≡◌, ◌≢◌, ◌⊎◌, ◌<◌, ◌+◌, ◌∙◌, ℕ, true, false, List, length, slice_index_or, slice_set, arith, sym, subst, inl, inr}
use Rattle.std.specs.Prelude.{◌==◌}
use Rattle.std.proofs.lemmas.Bool.Decides.{eqb_tells}
use Rattle.std.proofs.lemmas.List.{get_or-set_other, get_or-set_same, length-set}
use Rattle.timing_base.specs.Keys.{key_of}
use Rattle.timing_base.specs.Routes.{route}
use Rattle.flow_worker.specs.Sending.{AreDealt}

-- the lane of the next media was put in its place
pub dealt-more : (file media lanes n lane : ℕ) (dealt : List ℕ) → n < 64 → lane ≡ route (key_of file n) media lanes → AreDealt file media lanes n dealt
    → AreDealt file media lanes (n + 1) (slice_set dealt n lane)
dealt-more file media lanes n lane dealt few is h = (length-set dealt n lane ∙ h.0, λ m below. by-case m below (eqb_tells m n))
  where
    by-case : (m : ℕ) → m < n + 1 → ((m == n) ≡ true) × (m ≡ n) ⊎ ((m == n) ≡ false) × (m ≢ n) → slice_index_or (slice_set dealt n lane) m 0
        ≡ route (key_of file m) media lanes
    by-case m below (inl same) =
        let long : n < length dealt = omega (arith, few, h.0) in
        subst (λ (k : ℕ). slice_index_or (slice_set dealt n lane) k 0 ≡ route (key_of file k) media lanes) (sym same.1)
        (get_or-set_same dealt n lane 0 long ∙ is)
    by-case m below (inr other) =
        let before : m < n = omega (arith, below, other.1) in
        get_or-set_other dealt n m lane 0 other.1 ∙ h.1 m before
