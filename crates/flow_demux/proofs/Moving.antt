-- The text of flows is moved, one flow after the other.
use Rattle.std.proofs.Common.{◌≡◌, ◌<◌, ◌+◌, ℕ, zero, suc, List, [], ◌∷◌, ◌++◌, length, take, get_or, Option, ap, ap₂, ◌∙◌, sym, append_assoc, append-nil}
use Rattle.std.specs.List.{AllZip}
use Rattle.std.specs.Prelude.{All}
use Rattle.std.proofs.lemmas.Grind.{flat_map-append}
use Rattle.std.proofs.lemmas.List.{take_more}
use Rattle.timing_base.specs.declared.packet.Rtp.{Rtp}
use Rattle.flow_demux.specs.Awaits.{AwaitsExpected}
use Rattle.flow_demux.specs.Steps.{StepUpTo}
use Rattle.flow_demux.specs.Takings.{media_in}
use Rattle.flow_demux.specs.Texts.{MovesAll, MovesFlow, texts_of}
use Rattle.flow_demux.specs.declared.media_flow.MediaFlow.{MediaFlow}
use Rattle.flow_demux.proofs.Stepping.{zip-each, zip-then}

-- the text of a flow was moved; it awaits the same packet, and has as much room
pub record MovesOn {F : Type 0} (moves : F → F → Type 0) (room : ℕ → F → Type 0) (expects : F → Option Rtp) (old new : MediaFlow F) : Type 0 where
  pub moved : MovesFlow moves old new
  pub leaves : (count : ℕ) → room count old.taker → room count new.taker
  pub awaited : AwaitsExpected expects old → AwaitsExpected expects new

-- the media stay
pub media-moved : {F : Type 0} (moves : F → F → Type 0) (room : ℕ → F → Type 0) (expects : F → Option Rtp) (i : ℕ) (olds news : List (MediaFlow F))
    → StepUpTo (MovesOn moves room expects) i olds news → media_in news ≡ media_in olds
media-moved moves room expects zero olds news h = ap media_in h
media-moved moves room expects (suc i) [] news h = ap media_in h
media-moved moves room expects (suc i) (o ∷ os) [] h = absurd h
media-moved moves room expects (suc i) (o ∷ os) (n ∷ ns) h = ap₂ (λ m ms. m ∷ ms) h.0.moved.media (media-moved moves room expects i os ns h.1)

-- each was moved
pub all-moved : {F : Type 0} (moves : F → F → Type 0) (room : ℕ → F → Type 0) (expects : F → Option Rtp) (olds news : List (MediaFlow F))
    → AllZip (MovesOn moves room expects) olds news → MovesAll moves olds news
all-moved moves room expects olds news h = zip-then (MovesOn moves room expects) (MovesFlow moves) olds news (λ o n step. step.moved) h

pub all-room : {F : Type 0} (moves : F → F → Type 0) (room : ℕ → F → Type 0) (expects : F → Option Rtp) (olds news : List (MediaFlow F)) (count : ℕ)
    → AllZip (MovesOn moves room expects) olds news → All (λ (f : MediaFlow F). room count f.taker) olds → All (λ (f : MediaFlow F). room count f.taker) news
all-room {F} moves room expects olds news count h all =
    zip-each (MovesOn moves room expects) (λ (f : MediaFlow F). room count f.taker) (λ (f : MediaFlow F). room count f.taker) olds news
    (λ o n step has. step.leaves count has) h all

-- the text of the first flows, and that of the next one
pub texts-more : {F : Type 0} (text : F → List ℕ) (flows : List (MediaFlow F)) (i : ℕ) (d f : MediaFlow F) (before now then : List ℕ) → i < length flows
    → get_or flows i d ≡ f → now ≡ before ++ texts_of text (take i flows) → then ≡ now ++ text f.taker
    → then ≡ before ++ texts_of text (take (i + 1) flows)
texts-more {F} text flows i d f before now then within at so_far next =
    let here = λ (g : MediaFlow F). text g.taker in
    let one : texts_of text (f ∷ []) ≡ text f.taker = append-nil (text f.taker) in
    let all : texts_of text (take (i + 1) flows) ≡ texts_of text (take i flows) ++ text f.taker =
    ap (texts_of text) (take_more flows i d within ∙ ap (λ g. take i flows ++ g ∷ []) at)
    ∙ flat_map-append here (take i flows) (f ∷ []) ∙ ap (λ l. texts_of text (take i flows) ++ l) one in
    next ∙ ap (λ l. l ++ text f.taker) so_far ∙ append_assoc before (texts_of text (take i flows)) (text f.taker)
    ∙ ap (λ l. before ++ l) (sym all)
