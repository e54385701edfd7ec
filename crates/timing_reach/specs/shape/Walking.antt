-- The place of a `Walk` among the packet records of its capture.
use Rattle.std.specs.Prelude.{◌≡◌, ◌≤◌, ◌+◌, ℕ, List, ◌∷◌, ◌++◌, All, drop, length, map, max, take}
use Rattle.timing_base.specs.Captures.{Record}
use Rattle.timing_reach.specs.ShapedAgain.{CanBeHeld}
use Rattle.timing_reach.specs.shape.Keeping.{came_text, record_text, restamped}
use Rattle.timing_reach.specs.declared.shape.walk.Walk.{Walk}

-- the walk stands behind these bytes, and these packet records are the rest of the capture
pub record IsBefore (walk : Walk) (done : List ℕ) (rest : List Record) : Type 0 where
  pub text : walk.bytes.items ≡ done ++ came_text rest
  pub place : walk.place ≡ length done
  pub held : All CanBeHeld rest

-- the walk stands before the header of a packet record
abbrev pub HasHead : Walk → Type 0
HasHead walk = walk.place + 16 ≤ length walk.bytes.items

-- the walk stands before some packet records
pub record CanWalk (walk : Walk) : Type 0 where
  pub done : List ℕ
  pub rest : List Record
  pub before : IsBefore walk done rest

-- the walk stands before at least `count` packet records
pub record CanSkip (count : ℕ) (walk : Walk) : Type 0 where
  pub done : List ℕ
  pub rest : List Record
  pub before : IsBefore walk done rest
  pub many : count ≤ length rest

-- the walk goes behind the next packet record
abbrev pub PassesOne : (old new : Walk) → Type 0
PassesOne old new = (done : List ℕ) (r : Record) (rest : List Record) → IsBefore old done (r ∷ rest)
    → IsBefore new (done ++ record_text r) rest

-- the walk goes behind the next `count` packet records
abbrev pub PassesAll : (count : ℕ) → (old new : Walk) → Type 0
PassesAll count old new = (done : List ℕ) (rest : List Record) → IsBefore old done rest → count ≤ length rest
    → IsBefore new (done ++ came_text (take count rest)) (drop count rest)

-- packet records with capture timestamps of at least `least`
abbrev pub held_back : (least : ℕ) → List Record → List Record
held_back least records = map (λ (r : Record). restamped (max r.stamp least) r) records

-- all records before which the walk stood have capture timestamps of at least `least`
abbrev pub HoldsAll : (least : ℕ) → (old new : Walk) → Type 0
HoldsAll least old new = (done : List ℕ) (rest : List Record) → IsBefore old done rest
    → new.bytes.items ≡ done ++ came_text (held_back least rest)

-- the walk is behind the first of these records, and each of those has a capture timestamp of at least `least`
pub record HasHeld (least : ℕ) (walk : Walk) (done : List ℕ) (rest : List Record) : Type 0 where
  pub front : List Record
  pub back : List Record
  pub whole : front ++ back ≡ rest
  pub before : IsBefore walk (done ++ came_text (held_back least front)) back
