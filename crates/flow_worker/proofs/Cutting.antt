-- What one packet more makes of what an intake has sent to a lane, and of its open batch. Citations for a loop over the
-- packets of a file.
use Rattle.std.proofs.Common.{◌≡◌, ◌<◌, ◌+◌, ℕ, List, [], ◌∷◌, ◌++◌, length, map, refl, sym, ap, ap₂, ◌∙◌, append_assoc, append-nil, arith}
use Rattle.ruled_intake.specs.Packets.{Packet}
use Rattle.ruled_intake.specs.declared.message.Message.{Message}
use Rattle.flow_worker.specs.Messages.{IsPrefix, batch}
use Rattle.flow_worker.specs.Opening.{Addressed, addressed, filled, for_lane, full_batches, lane_packets, last_batches, rest, sent_of, to_each, unless_empty}
use Rattle.flow_worker.specs.Cut.{HasCut}
use Rattle.flow_worker.proofs.Lists.{for_lane-batches, for_lane-others, lane_packets-push, lane_packets-push_other}
use Rattle.flow_worker.proofs.Batches.{rest-full, rest-more, rest-nil}
use Rattle.flow_worker.proofs.Lanes.{for_lane-append, for_lane-sent_of}

-- the full batches of packets and then of more
full_batches-append : (size f : ℕ) (lane : Packet → ℕ) (before xs ys : List Packet)
    → full_batches size f lane before (xs ++ ys) ≡ full_batches size f lane before xs ++ full_batches size f lane (before ++ xs) ys
full_batches-append size f lane before [] ys = ap (λ (l : List Packet). full_batches size f lane l ys) (sym (append-nil before))
full_batches-append size f lane before (p ∷ xs) ys =
    let here = map (addressed f (lane p)) (filled size (lane_packets lane (lane p) (before ++ p ∷ []))) in
    let next = before ++ p ∷ [] in
    ap (λ (l : List Addressed). here ++ l) (full_batches-append size f lane next xs ys)
    ∙ sym (append_assoc here (full_batches size f lane next xs) (full_batches size f lane (next ++ xs) ys))
    ∙ ap (λ (l : List Packet). (here ++ full_batches size f lane next xs) ++ full_batches size f lane l ys) (append_assoc before (p ∷ []) xs)

-- what one packet more sends to a lane
sent-push : (size f : ℕ) (lane : Packet → ℕ) (w : ℕ) (ps : List Packet) (p : Packet)
    → for_lane w (full_batches size f lane [] (ps ++ p ∷ []))
    ≡ for_lane w (full_batches size f lane [] ps) ++ for_lane w (map (addressed f (lane p)) (filled size (lane_packets lane (lane p) (ps ++ p ∷ []))))
sent-push size f lane w ps p =
    let full = full_batches size f lane [] ps in
    let here = map (addressed f (lane p)) (filled size (lane_packets lane (lane p) (ps ++ p ∷ []))) in
    ap (for_lane w) (full_batches-append size f lane [] ps (p ∷ []) ∙ ap (λ (l : List Addressed). full ++ l) (append-nil here))
    ∙ for_lane-append w full here

-- nothing is sent before the first packet
pub HasCut-none : (size f : ℕ) (lane : Packet → ℕ) (w : ℕ) → HasCut size f lane w [] [] []
HasCut-none size f lane w = record { full = refl; open_batch = sym (rest-nil size) }

-- a packet of another lane
pub HasCut-other : (size f : ℕ) (lane : Packet → ℕ) (w : ℕ) (ps : List Packet) (sent : List Message) (left : List Packet) (p : Packet) → (lane p ≡ w → ⊥)
    → HasCut size f lane w ps sent left → HasCut size f lane w (ps ++ p ∷ []) sent left
HasCut-other size f lane w ps sent left p n h =
    let full = for_lane w (full_batches size f lane [] ps) in
    record {
      full =
          h.full ∙ sym (append-nil full)
          ∙ ap (λ (l : List Message). full ++ l) (sym (for_lane-others f (lane p) w (filled size (lane_packets lane (lane p) (ps ++ p ∷ []))) n))
          ∙ sym (sent-push size f lane w ps p);
      open_batch = h.open_batch ∙ ap (rest size) (sym (lane_packets-push_other lane w ps p n));
    }

-- what a packet of the lane sends to it
sent-push_here : (size f : ℕ) (lane : Packet → ℕ) (w : ℕ) (ps : List Packet) (p : Packet) → lane p ≡ w
    → for_lane w (full_batches size f lane [] (ps ++ p ∷ []))
    ≡ for_lane w (full_batches size f lane [] ps) ++ map (batch f) (filled size (lane_packets lane w ps ++ p ∷ []))
sent-push_here size f lane w ps p e =
    let full = for_lane w (full_batches size f lane [] ps) in
    sent-push size f lane w ps p
    ∙ ap (λ (v : ℕ). full ++ for_lane w (map (addressed f v) (filled size (lane_packets lane v (ps ++ p ∷ []))))) e
    ∙ ap (λ (l : List Packet). full ++ for_lane w (map (addressed f w) (filled size l))) (lane_packets-push lane w ps p e)
    ∙ ap (λ (l : List Message). full ++ l) (for_lane-batches f w (filled size (lane_packets lane w ps ++ p ∷ [])))

-- a packet of the lane that fills no batch
pub HasCut-more : (size f : ℕ) (lane : Packet → ℕ) (w : ℕ) (ps : List Packet) (sent : List Message) (left : List Packet) (p : Packet) → lane p ≡ w
    → length left + 1 < size → HasCut size f lane w ps sent left → HasCut size f lane w (ps ++ p ∷ []) sent (left ++ p ∷ [])
HasCut-more size f lane w ps sent left p e few h =
    let full = for_lane w (full_batches size f lane [] ps) in
    let long : length (rest size (lane_packets lane w ps)) + 1 < size = omega (arith, ap length h.open_batch) in
    let t = rest-more size (lane_packets lane w ps) p long in
    record {
      full =
          h.full ∙ sym (append-nil full) ∙ ap (λ (bs : List (List Packet)). full ++ map (batch f) bs) (sym t.0) ∙ sym (sent-push_here size f lane w ps p e);
      open_batch =
          ap (λ (l : List Packet). l ++ p ∷ []) h.open_batch ∙ sym t.1 ∙ ap (rest size) (sym (lane_packets-push lane w ps p e));
    }

-- a packet of the lane that fills a batch, which is sent
pub HasCut-full : (size f : ℕ) (lane : Packet → ℕ) (w : ℕ) (ps : List Packet) (sent : List Message) (left : List Packet) (p : Packet) → lane p ≡ w
    → length left + 1 ≡ size → HasCut size f lane w ps sent left → HasCut size f lane w (ps ++ p ∷ []) (sent ++ batch f (left ++ p ∷ []) ∷ []) []
HasCut-full size f lane w ps sent left p e full_now h =
    let full = for_lane w (full_batches size f lane [] ps) in
    let long : length (rest size (lane_packets lane w ps)) + 1 ≡ size = omega (arith, ap length h.open_batch) in
    let t = rest-full size (lane_packets lane w ps) p long in
    record {
      full =
          ap₂ (λ (k : List Message) (l : List Packet). k ++ batch f (l ++ p ∷ []) ∷ []) h.full h.open_batch
          ∙ ap (λ (bs : List (List Packet)). full ++ map (batch f) bs) (sym t.0) ∙ sym (sent-push_here size f lane w ps p e);
      open_batch = sym t.1 ∙ ap (rest size) (sym (lane_packets-push lane w ps p e));
    }

-- after the last packet: what is left and the end make up all messages of the file for the lane
pub HasCut-all : (size f : ℕ) (lane : Packet → ℕ) (w : ℕ) (ps : List Packet) (sent : List Message) (left : List Packet) (lanes : ℕ) (end : Message) → w < lanes
    → HasCut size f lane w ps sent left → (sent ++ map (batch f) (unless_empty left)) ++ end ∷ [] ≡ for_lane w (sent_of size f lane ps lanes end)
HasCut-all size f lane w ps sent left lanes end below h =
    ap₂ (λ (k : List Message) (l : List Packet). (k ++ map (batch f) (unless_empty l)) ++ end ∷ []) h.full h.open_batch
    ∙ sym (for_lane-sent_of size f lane ps lanes w end below)

-- before it: what was sent begins all messages, whatever packets there are still
pub HasCut-prefix : (size f : ℕ) (lane : Packet → ℕ) (w : ℕ) (ps more : List Packet) (sent : List Message) (left : List Packet) (lanes : ℕ) (end : Message)
    → HasCut size f lane w ps sent left → IsPrefix sent (for_lane w (sent_of size f lane (ps ++ more) lanes end))
HasCut-prefix size f lane w ps more sent left lanes end h =
    let full = full_batches size f lane [] ps in
    let later = full_batches size f lane ps more in
    let ends = last_batches size f lane (ps ++ more) lanes ++ to_each end lanes in
    let all : full ++ (later ++ ends) ≡ sent_of size f lane (ps ++ more) lanes end =
    sym (append_assoc full later ends) ∙ ap (λ (l : List Addressed). l ++ ends) (sym (full_batches-append size f lane [] ps more)) in (
      for_lane w (later ++ ends),
      ap (λ (l : List Message). l ++ for_lane w (later ++ ends)) h.full ∙ sym (for_lane-append w full (later ++ ends)) ∙ ap
          (for_lane w) all,
    )
