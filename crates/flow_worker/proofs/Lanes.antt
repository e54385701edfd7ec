-- What is sent of the packets of a file for one lane: the packets of the lane, in order, in batches, and then the end.
use Rattle.std.proofs.Common.{◌≡◌, ◌≤◌, ◌<◌, ℕ, zero, suc, eqb, List, [], ◌∷◌, ◌++◌, map, refl, sym, ap, ap₂, ◌∙◌, subst, inl, inr, append_assoc, append-nil}
use Rattle.std.proofs.Common.{arith}
use Rattle.std.specs.Prelude.{flat_map}
use Rattle.std.proofs.lemmas.Bool.{cases_eq}
use Rattle.std.proofs.lemmas.List.Concat.{flat_map-append}
use Rattle.std.proofs.lemmas.List.Elements.{filter-append, filter_map-append}
use Rattle.timing_base.specs.declared.capture.FileNote.{FileNote}
use Rattle.ruled_intake.specs.Packets.{Packet}
use Rattle.ruled_intake.specs.declared.message.Message.{Message}
use Rattle.ruled_intake.specs.declared.message.Message.TheVariants.{Batch, End}
use Rattle.flow_worker.specs.Messages.{packets_in, packets_of, batch, ending}
use Rattle.flow_worker.specs.Opening.{Addressed, addressed, filled, for_lane, full_batches, lane_packets, last_batches, message_for, rest, sent_of, to_each}
use Rattle.flow_worker.specs.Opening.{unless_empty}
use Rattle.flow_worker.specs.Cut.{AreBatches, AreWhole}
use Rattle.flow_worker.proofs.Lists.{for_lane-batches, for_lane-here, for_lane-other, for_lane-others, lane_packets-none, lane_packets-one, lane_packets-push}
use Rattle.flow_worker.proofs.Lists.{lane_packets-push_other, packets_in-batches}
use Rattle.flow_worker.proofs.Batches.{filled-rest, rest-nil}

pub AreBatches-append : (f : ℕ) (xs ys : List Message) → AreBatches f xs → AreBatches f ys → AreBatches f (xs ++ ys)
AreBatches-append f [] ys h k = k
AreBatches-append f (Batch one ∷ xs) ys h k = (h.0, AreBatches-append f xs ys h.1 k)
AreBatches-append f (End one ∷ xs) ys h k = absurd h

AreBatches-map : (f : ℕ) (bs : List (List Packet)) → AreBatches f (map (batch f) bs)
AreBatches-map f [] = tt
AreBatches-map f (b ∷ bs) = (refl, AreBatches-map f bs)

-- batches for any lane
AreBatches-for_lane : (f v w : ℕ) (bs : List (List Packet)) → AreBatches f (for_lane w (map (addressed f v) bs))
AreBatches-for_lane f v w bs =
    elim (cases_eq v w) [
      | inl e ↦
          subst (λ (x : ℕ). AreBatches f (for_lane w (map (addressed f x) bs))) (sym e)
          (subst (AreBatches f) (sym (for_lane-batches f w bs)) (AreBatches-map f bs))
      | inr n ↦ subst (AreBatches f) (sym (for_lane-others f v w bs n)) tt
    ]

-- the messages for a lane among these and then those
pub for_lane-append : (w : ℕ) (xs ys : List Addressed) → for_lane w (xs ++ ys) ≡ for_lane w xs ++ for_lane w ys
for_lane-append w xs ys = filter_map-append (message_for w) xs ys

-- the packets of these messages and then those
pub packets_in-append : (xs ys : List Message) → packets_in (xs ++ ys) ≡ packets_in xs ++ packets_in ys
packets_in-append xs ys = flat_map-append packets_of xs ys

-- full batches are batches
AreBatches-full : (size f : ℕ) (lane : Packet → ℕ) (w : ℕ) (before ps : List Packet) → AreBatches f (for_lane w (full_batches size f lane before ps))
AreBatches-full size f lane w before [] = tt
AreBatches-full size f lane w before (p ∷ ps) =
    let here = filled size (lane_packets lane (lane p) (before ++ p ∷ [])) in
    let later = full_batches size f lane (before ++ p ∷ []) ps in
    subst (AreBatches f) (sym (for_lane-append w (map (addressed f (lane p)) here) later))
    (AreBatches-append f (for_lane w (map (addressed f (lane p)) here)) (for_lane w later)
    (AreBatches-for_lane f (lane p) w here) (AreBatches-full size f lane w (before ++ p ∷ []) ps))

-- a packet of the lane fills a batch or is left
one_here : (size f : ℕ) (lane : Packet → ℕ) (w : ℕ) (before : List Packet) (p : Packet) → 1 ≤ size → lane p ≡ w
    → packets_in (for_lane w (map (addressed f w) (filled size (lane_packets lane w (before ++ p ∷ []))))) ++ rest size (lane_packets lane w (before ++ p ∷ []))
    ≡ rest size (lane_packets lane w before) ++ lane_packets lane w (p ∷ [])
one_here size f lane w before p some e =
    let xs = lane_packets lane w before in
    let ys = lane_packets lane w (before ++ p ∷ []) in
    ap (λ (l : List Message). packets_in l ++ rest size ys) (for_lane-batches f w (filled size ys))
    ∙ ap (λ (l : List Packet). l ++ rest size ys) (packets_in-batches f (filled size ys))
    ∙ ap (λ (l : List Packet). flat_map (λ (b : List Packet). b) (filled size l) ++ rest size l) (lane_packets-push lane w before p e)
    ∙ filled-rest size xs p some
    ∙ ap (λ (l : List Packet). rest size xs ++ l) (sym (lane_packets-one lane w p e))

-- a packet of any lane
one_more : (size f : ℕ) (lane : Packet → ℕ) (w : ℕ) (before : List Packet) (p : Packet) → 1 ≤ size
    → packets_in (for_lane w (map (addressed f (lane p)) (filled size (lane_packets lane (lane p) (before ++ p ∷ [])))))
    ++ rest size (lane_packets lane w (before ++ p ∷ []))
    ≡ rest size (lane_packets lane w before) ++ lane_packets lane w (p ∷ [])
one_more size f lane w before p some =
    elim (cases_eq (lane p) w) [
      | inl e ↦
          ap (λ (v : ℕ). packets_in (for_lane w (map (addressed f v) (filled size (lane_packets lane v (before ++ p ∷ [])))))
          ++ rest size (lane_packets lane w (before ++ p ∷ []))) e
          ∙ one_here size f lane w before p some e
      | inr n ↦
          ap₂ (λ (l : List Message) (m : List Packet). packets_in l ++ rest size m)
          (for_lane-others f (lane p) w (filled size (lane_packets lane (lane p) (before ++ p ∷ []))) n) (lane_packets-push_other lane w before p n)
          ∙ sym (append-nil (rest size (lane_packets lane w before)))
          ∙ ap (λ (l : List Packet). rest size (lane_packets lane w before) ++ l) (sym (lane_packets-none lane w p n))
    ]

-- the full batches of a lane and what is left are its packets, in order
full_in_order : (size f : ℕ) (lane : Packet → ℕ) (w : ℕ) (before ps : List Packet) → 1 ≤ size
    → packets_in (for_lane w (full_batches size f lane before ps)) ++ rest size (lane_packets lane w (before ++ ps))
    ≡ rest size (lane_packets lane w before) ++ lane_packets lane w ps
full_in_order size f lane w before [] some =
    ap (λ (l : List Packet). rest size (lane_packets lane w l)) (append-nil before) ∙ sym (append-nil (rest size (lane_packets lane w before)))
full_in_order size f lane w before (p ∷ ps) some =
    let next = before ++ p ∷ [] in
    let here = map (addressed f (lane p)) (filled size (lane_packets lane (lane p) next)) in
    let later = full_batches size f lane next ps in
    let a = packets_in (for_lane w here) in
    let b = packets_in (for_lane w later) in
    let r = rest size (lane_packets lane w next) in
    let old = rest size (lane_packets lane w before) in
    let split : packets_in (for_lane w (here ++ later)) ≡ a ++ b =
    ap packets_in (for_lane-append w here later) ∙ packets_in-append (for_lane w here) (for_lane w later) in
    ap₂ (λ (l m : List Packet). l ++ rest size (lane_packets lane w m)) split (sym (append_assoc before (p ∷ []) ps))
    ∙ append_assoc a b (rest size (lane_packets lane w (next ++ ps)))
    ∙ ap (λ (l : List Packet). a ++ l) (full_in_order size f lane w next ps some)
    ∙ sym (append_assoc a r (lane_packets lane w ps))
    ∙ ap (λ (l : List Packet). l ++ lane_packets lane w ps) (one_more size f lane w before p some)
    ∙ append_assoc old (lane_packets lane w (p ∷ [])) (lane_packets lane w ps)
    ∙ ap (λ (l : List Packet). old ++ l) (sym (filter-append (λ (x : Packet). eqb (lane x) w) (p ∷ []) ps))

-- no last batch for a lane that isn't below
last-past : (size f : ℕ) (lane : Packet → ℕ) (ps : List Packet) (n w : ℕ) → n ≤ w → for_lane w (last_batches size f lane ps n) ≡ []
last-past size f lane ps zero w h = refl
last-past size f lane ps (suc n) w h =
    let bs = unless_empty (rest size (lane_packets lane n ps)) in
    for_lane-append w (last_batches size f lane ps n) (map (addressed f n) bs)
    ∙ ap₂ (λ (l m : List Message). l ++ m) (last-past size f lane ps n w (omega arith)) (for_lane-others f n w bs (λ e. omega arith))

-- the last batch for a lane
last-below : (size f : ℕ) (lane : Packet → ℕ) (ps : List Packet) (n w : ℕ) → w < n
    → for_lane w (last_batches size f lane ps n) ≡ map (batch f) (unless_empty (rest size (lane_packets lane w ps)))
last-below size f lane ps zero w h = absurd (omega arith)
last-below size f lane ps (suc n) w h =
    let bs = unless_empty (rest size (lane_packets lane n ps)) in
    for_lane-append w (last_batches size f lane ps n) (map (addressed f n) bs)
    ∙ elim (cases_eq n w) [
      | inl e ↦
          ap (λ (l : List Message). l ++ for_lane w (map (addressed f n) bs)) (last-past size f lane ps n w (omega arith))
          ∙ ap (λ (v : ℕ). for_lane w (map (addressed f v) (unless_empty (rest size (lane_packets lane v ps))))) e
          ∙ for_lane-batches f w (unless_empty (rest size (lane_packets lane w ps)))
      | inr n' ↦
          ap₂ (λ (l m : List Message). l ++ m) (last-below size f lane ps n w (omega arith)) (for_lane-others f n w bs n')
          ∙ append-nil (map (batch f) (unless_empty (rest size (lane_packets lane w ps))))
    ]

-- no message for a lane that isn't below
each-past : (m : Message) (n w : ℕ) → n ≤ w → for_lane w (to_each m n) ≡ []
each-past m zero w h = refl
each-past m (suc n) w h =
    let a : Addressed = record { lane = n; message = m } in
    for_lane-append w (to_each m n) (a ∷ [])
    ∙ ap₂ (λ (k l : List Message). k ++ l) (each-past m n w (omega arith)) (for_lane-other w a [] (λ e. omega arith))

-- the message for a lane
each-below : (m : Message) (n w : ℕ) → w < n → for_lane w (to_each m n) ≡ m ∷ []
each-below m zero w h = absurd (omega arith)
each-below m (suc n) w h =
    let a : Addressed = record { lane = n; message = m } in
    for_lane-append w (to_each m n) (a ∷ [])
    ∙ elim (cases_eq n w) [
      | inl e ↦ ap₂ (λ (k l : List Message). k ++ l) (each-past m n w (omega arith)) (for_lane-here w a [] e)
      | inr n' ↦ ap₂ (λ (k l : List Message). k ++ l) (each-below m n w (omega arith)) (for_lane-other w a [] n')
    ]

-- a batch, unless it is empty, has its packets
packets_in-unless_empty : (f : ℕ) (xs : List Packet) → packets_in (map (batch f) (unless_empty xs)) ≡ xs
packets_in-unless_empty f [] = refl
packets_in-unless_empty f (p ∷ ps) = append-nil (p ∷ ps)

-- the messages for a lane: full batches, what is left, and the end
pub for_lane-sent_of : (size f : ℕ) (lane : Packet → ℕ) (ps : List Packet) (lanes w : ℕ) (end : Message) → w < lanes
    → for_lane w (sent_of size f lane ps lanes end)
    ≡ (for_lane w (full_batches size f lane [] ps) ++ map (batch f) (unless_empty (rest size (lane_packets lane w ps)))) ++ end ∷ []
for_lane-sent_of size f lane ps lanes w end h =
    let full = full_batches size f lane [] ps in
    let last = last_batches size f lane ps lanes in
    let left = map (batch f) (unless_empty (rest size (lane_packets lane w ps))) in
    for_lane-append w full (last ++ to_each end lanes)
    ∙ ap (λ (l : List Message). for_lane w full ++ l)
    (for_lane-append w last (to_each end lanes) ∙ ap₂ (λ (k l : List Message). k ++ l) (last-below size f lane ps lanes w h) (each-below end lanes w h))
    ∙ sym (append_assoc (for_lane w full) left (end ∷ []))

-- they are batches with the packets of the lane, in order, and then the end
pub sent_whole : (size f : ℕ) (lane : Packet → ℕ) (ps : List Packet) (lanes w : ℕ) (note : FileNote) (records : ℕ) → 1 ≤ size → w < lanes
    → AreWhole f (lane_packets lane w ps) note records (for_lane w (sent_of size f lane ps lanes (ending f note records)))
sent_whole size f lane ps lanes w note records some h =
    let full = for_lane w (full_batches size f lane [] ps) in
    let r = rest size (lane_packets lane w ps) in
    let left = map (batch f) (unless_empty r) in
    record {
      batches = full ++ left;
      whole = for_lane-sent_of size f lane ps lanes w (ending f note records) h;
      are = AreBatches-append f full left (AreBatches-full size f lane w [] ps) (AreBatches-map f (unless_empty r));
      have =
          packets_in-append full left ∙ ap (λ (l : List Packet). packets_in full ++ l) (packets_in-unless_empty f r)
          ∙ full_in_order size f lane w [] ps some ∙ ap (λ (l : List Packet). l ++ lane_packets lane w ps) (rest-nil size);
    }
