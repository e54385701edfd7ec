-- The passes of a file for some lanes, and what was sent by them, where one of them is used.
use Rattle.std.proofs.Common.{◌≡◌, ◌<◌, ◌≤◌, ℕ, List, [], ◌∷◌, length, map, set, inl, inr, sym, ap, ◌∙◌, subst, arith, length-set, get_or-set_same}
use Rattle.std.proofs.Common.{get_or-set_other}
use Rattle.std.specs.Prelude.{slice_index_or}
use Rattle.std.proofs.lemmas.Bool.{cases_eq}
use Rattle.std.proofs.lemmas.List.{get_or-map, get_or_past, length-map, map-set}
use Rattle.ruled_intake.specs.Lanes.{LaneId, Sender, sent_of}
use Rattle.ruled_intake.specs.declared.message.Message.{Message}
use Rattle.flow_worker.specs.Intakes.{HaveSent, HaveSentNothing}

-- a sender by its parts
pub sender-is : (s : Sender) (lane : LaneId) (from : ℕ) (sent : List Message) → s.lane ≡ lane → s.from ≡ from → s.sent ≡ sent
    → s ≡ record { lane = lane; from = from; sent = sent }
sender-is s lane from sent l f m =
    let first : s ≡ record { lane = lane; from = s.from; sent = s.sent } = ap (λ (x : LaneId). record { lane = x; from = s.from; sent = s.sent }) l in
    let second : record { lane = lane; from = s.from; sent = s.sent } ≡ record { lane = lane; from = from; sent = s.sent } =
    ap (λ (x : ℕ). record { lane = lane; from = x; sent = s.sent }) f in
    first ∙ second ∙ ap (λ (x : List Message). record { lane = lane; from = from; sent = x }) m

-- what was sent by the pass at a place
pub sent_of-at : (ps : List Sender) (w : ℕ) (d : Sender) → w < length ps → sent_of ps w ≡ (slice_index_or ps w d).sent
sent_of-at ps w d h = get_or-map (λ (s : Sender). s.sent) ps w d [] h

-- nothing, past the end
pub sent_of-past : (ps : List Sender) (w : ℕ) → length ps ≤ w → sent_of ps w ≡ []
sent_of-past ps w h =
    let long : length (map (λ (s : Sender). s.sent) ps) ≤ w = omega (arith, length-map ps (λ (s : Sender). s.sent)) in
    get_or_past (map (λ (s : Sender). s.sent) ps) w [] long

-- what was sent by the pass that is put at a place
pub sent_of-set_same : (ps : List Sender) (k : ℕ) (s : Sender) → k < length ps → sent_of (set ps k s) k ≡ s.sent
sent_of-set_same ps k s h =
    let long : k < length (set ps k s) = omega (arith, length-set ps k s) in
    sent_of-at (set ps k s) k s long ∙ ap (λ (x : Sender). x.sent) (get_or-set_same ps k s s h)

-- and by the others
pub sent_of-set_other : (ps : List Sender) (k w : ℕ) (s : Sender) → (k ≡ w → ⊥) → sent_of (set ps k s) w ≡ sent_of ps w
sent_of-set_other ps k w s n =
    ap (λ (l : List (List Message)). slice_index_or l w []) (map-set (λ (x : Sender). x.sent) ps k s)
    ∙ get_or-set_other (map (λ (x : Sender). x.sent) ps) k w s.sent [] (λ e. n (sym e))

-- nothing was sent to any lane
pub sent_of-none : (file : ℕ) (lanes : List LaneId) (ps : List Sender) (w : ℕ) → HaveSentNothing file lanes ps → w < length lanes → sent_of ps w ≡ []
sent_of-none file lanes [] w h below = absurd (omega (arith, h.count, below))
sent_of-none file lanes (p ∷ ps) w h below =
    let within : w < length (p ∷ ps) = omega (arith, h.count, below) in
    sent_of-at (p ∷ ps) w p within ∙ ap (λ (s : Sender). s.sent) (h.each w p p.lane below)

-- passes that have sent the same
pub HaveSent-as : (file : ℕ) (lanes : List LaneId) (ps : List Sender) (sent other : (lane : ℕ) → List Message) → ((w : ℕ) → w < length lanes → sent w ≡ other w)
    → HaveSent file lanes sent ps → HaveSent file lanes other ps
HaveSent-as file lanes ps sent other same h = record {
  count = h.count;
  each = λ w d l below.
      h.each w d l below ∙ ap (λ (m : List Message). record { lane = slice_index_or lanes w l; from = file; sent = m }) (same w below);
}

-- one of the passes is put in its place again, whatever it has sent meanwhile
pub HaveSent-set : (file : ℕ) (lanes : List LaneId) (ps : List Sender) (k : ℕ) (before s : Sender) → k < length lanes → HaveSent file lanes (sent_of ps) ps
    → before ≡ slice_index_or ps k before → s.lane ≡ before.lane → s.from ≡ before.from → HaveSent file lanes (sent_of (set ps k s)) (set ps k s)
HaveSent-set file lanes ps k before s here h read lane from =
    let within : k < length ps = omega (arith, h.count) in
    let put = set ps k s in
    record {
      count = length-set ps k s ∙ h.count;
      each = λ w d l below.
          elim (cases_eq k w) as (λ _. slice_index_or put w d ≡ record { lane = slice_index_or lanes w l; from = file; sent = sent_of put w }) [
            | inl e ↦
                let as_before : before ≡ record { lane = slice_index_or lanes k l; from = file; sent = sent_of ps k } = read ∙ h.each k before l here in
                let it : slice_index_or put k d ≡ record { lane = slice_index_or lanes k l; from = file; sent = sent_of put k } =
                get_or-set_same ps k s d within
                ∙ sender-is s (slice_index_or lanes k l) file (sent_of put k) (lane ∙ ap (λ (x : Sender). x.lane) as_before)
                (from ∙ ap (λ (x : Sender). x.from) as_before)
                (sym (sent_of-set_same ps k s within)) in
                subst (λ (v : ℕ). slice_index_or put v d ≡ record { lane = slice_index_or lanes v l; from = file; sent = sent_of put v }) e it
            | inr n ↦
                get_or-set_other ps k w s d (λ e. n (sym e)) ∙ h.each w d l below
                ∙ ap (λ (m : List Message). record { lane = slice_index_or lanes w l; from = file; sent = m }) (sym (sent_of-set_other ps k w s n))
          ];
    }
