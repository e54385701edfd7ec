-- The flows of media, taken from the packet records of a capture. `takes m old new items` holds if a taker changed from
-- `old` to `new` by the packets of media m in the records `items`, and by nothing else.
use Rattle.std.specs.Prelude.{◌≡◌, ℕ, List, [], ◌∷◌, ◌++◌, map, Some}
use Rattle.std.specs.List.{AllZip}
use Rattle.std.proofs.Common.{refl, subst, ◌∙◌}
use Rattle.timing_base.specs.Captures.{Record}
use Rattle.timing_base.specs.Media.{Media}
use Rattle.timing_base.specs.Targets.{target_of}
use Rattle.udp_rtp.specs.Frames.{Datagram, datagram_of}
use Rattle.flow_demux.specs.declared.media_flow.MediaFlow.{MediaFlow}

-- the taker of the flow took the packets of its media, and the media is the same
pub record TakesFlow {F : Type 0} (takes : Media → F → F → List Record → Type 0) (old new : MediaFlow F)
    (items : List Record) : Type 0 where
  pub media : new.media ≡ old.media
  pub fed : takes old.media old.taker new.taker items

-- each flow was taken from these records by its taker
abbrev pub TakesAll : {F : Type 0} → (takes : Media → F → F → List Record → Type 0) → (olds news : List (MediaFlow F))
    → List Record → Type 0
TakesAll {F} takes olds news items = AllZip (λ (old new : MediaFlow F). TakesFlow takes old new items) olds news

-- a flow takes no packet from an empty list of records
pub flow_none : {F : Type 0} (takes : Media → F → F → List Record → Type 0)
    (none : (m : Media) (x : F) → takes m x x []) (x : MediaFlow F) → TakesFlow takes x x []
flow_none takes none x = record { media = refl; fed = none x.media x.taker }

-- a flow that takes records in two parts takes all of them
pub flow_more : {F : Type 0} (takes : Media → F → F → List Record → Type 0)
    (more : (m : Media) (x y z : F) (a b : List Record) → takes m x y a → takes m y z b → takes m x z (a ++ b))
    (x y z : MediaFlow F) (a b : List Record) → TakesFlow takes x y a → TakesFlow takes y z b
    → TakesFlow takes x z (a ++ b)
flow_more takes more x y z a b first second = record {
  media = second.media ∙ first.media;
  fed = more x.media x.taker y.taker z.taker a b first.fed
      (subst (λ (m : Media). takes m y.taker z.taker b) first.media second.fed);
}

-- the flows take no packet from an empty list of records
pub all_none : {F : Type 0} (takes : Media → F → F → List Record → Type 0)
    (none : (m : Media) (x : F) → takes m x x []) (xs : List (MediaFlow F)) → TakesAll takes xs xs []
all_none takes none [] = tt
all_none takes none (x ∷ xs) = (flow_none takes none x, all_none takes none xs)

-- flows that take records in two parts take all of them
pub all_more : {F : Type 0} (takes : Media → F → F → List Record → Type 0)
    (more : (m : Media) (x y z : F) (a b : List Record) → takes m x y a → takes m y z b → takes m x z (a ++ b))
    (xs ys zs : List (MediaFlow F)) (a b : List Record) → TakesAll takes xs ys a → TakesAll takes ys zs b
    → TakesAll takes xs zs (a ++ b)
all_more takes more [] [] [] a b first second = tt
all_more takes more [] [] (z ∷ zs) a b first second = absurd second
all_more takes more [] (y ∷ ys) zs a b first second = absurd first
all_more takes more (x ∷ xs) [] zs a b first second = absurd first
all_more takes more (x ∷ xs) (y ∷ ys) [] a b first second = absurd second
all_more takes more (x ∷ xs) (y ∷ ys) (z ∷ zs) a b first second =
    (flow_more takes more x y z a b first.0 second.0, all_more takes more xs ys zs a b first.1 second.1)

-- media of the flows, in order
abbrev pub media_in : {F : Type 0} → List (MediaFlow F) → List Media
media_in {F} flows = map (λ (f : MediaFlow F). f.media) flows

-- the frame has a datagram, and its target is that of this media
abbrev pub GoesTo : Media → (frame : List ℕ) → Type 0
GoesTo m frame = (d : Datagram) × (datagram_of frame ≡ Some d) × (d.target ≡ target_of m)
