-- The text that the takers of flows made and not moved yet. `text` is that of a taker, and `moves` is whether it was
-- moved out of the first, which became the second by nothing else.
use Rattle.std.specs.Prelude.{◌≡◌, ℕ, List}
use Rattle.std.specs.List.{AllZip, flat_map}
use Rattle.flow_demux.specs.declared.media_flow.MediaFlow.{MediaFlow}

-- the text of all takers, in the order of the media
abbrev pub texts_of : {F : Type 0} → (text : F → List ℕ) → List (MediaFlow F) → List ℕ
texts_of {F} text flows = flat_map (λ (f : MediaFlow F). text f.taker) flows

-- the text of a taker was moved, and the media is the same
pub record MovesFlow {F : Type 0} (moves : F → F → Type 0) (old new : MediaFlow F) : Type 0 where
  pub media : new.media ≡ old.media
  pub moved : moves old.taker new.taker

-- the text of each taker was moved
abbrev pub MovesAll : {F : Type 0} → (moves : F → F → Type 0) → (olds news : List (MediaFlow F)) → Type 0
MovesAll {F} moves olds news = AllZip (λ (old new : MediaFlow F). MovesFlow moves old new) olds news
