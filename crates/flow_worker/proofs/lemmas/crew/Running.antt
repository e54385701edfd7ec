-- Lanes whose passes came back: they can be closed, and what was taken then begins what was sent.
use Rattle.std.proofs.Common.{◌≡◌, ◌<◌, ℕ, zero, suc, List, [], ◌∷◌, ◌++◌, length, map, replicate, slice_index_or, inl, inr, refl, sym, ap, ◌∙◌, subst, arith}
use Rattle.std.specs.Prelude.{All, Option}
use Rattle.std.proofs.lemmas.Bool.{cases_lt}
use Rattle.std.proofs.lemmas.List.{get_or_past, length-map, length-replicate}
use Rattle.std.proofs.lemmas.Option.{slice_get-get_or, slice_get_past}
use Rattle.ruled_intake.specs.Lanes.{IsPrefix, LaneId, Sender, Taker, of, sent_of}
use Rattle.ruled_intake.specs.declared.message.Message.{Message}
use Rattle.flow_worker.specs.Intakes.{HaveSent, lane_sends}
use Rattle.flow_worker.specs.Opening.{Capture, Setting, for_lane, sends_if, messages as file_messages}
use Rattle.flow_worker.specs.crew.Closing.{AreClosed, CanClose, HasAll, IsClosed}
use Rattle.flow_worker.specs.crew.Columns.{dealt_all}
use Rattle.flow_worker.proofs.lemmas.crew.Dealing.{length-dealt_all}
use Rattle.flow_worker.proofs.lemmas.crew.Lists.{at_default, at_map, dealt_all-at, some_item}
use Rattle.flow_worker.proofs.lemmas.crew.Starting.{AreRows, AreTakers}

-- the passes of so many files and workers came back, and are dealt out by lanes
pub record HasRun (files workers : ℕ) (lanes : List LaneId) (rows senders : List (List Sender)) (takers : List Taker) : Type 0 where
  pub lane_count : length lanes ≡ workers
  pub row_count : length rows ≡ files
  pub taker_count : length takers ≡ length lanes
  pub are_rows : AreRows lanes rows
  pub are_takers : AreTakers files lanes takers
  pub dealt_out : senders ≡ dealt_all rows (replicate workers [])

-- each row has a pass of each lane
pub rows-long : (lanes : List LaneId) (workers : ℕ) (rows : List (List Sender)) → length lanes ≡ workers → AreRows lanes rows
    → All (λ row. length row ≡ workers) rows
rows-long lanes workers rows long are = λ k d h. ap (λ (r : List Sender). length r) (at_default rows k d [] h) ∙ (are k h).1.count ∙ long

none_at : (n i : ℕ) → slice_index_or {A = List Sender} (replicate n []) i [] ≡ []
none_at zero i = refl
none_at (suc n) zero = refl
none_at (suc n) (suc i) = none_at n i

-- the passes of a lane are those of the rows at its place
lane_senders : (files workers : ℕ) (lanes : List LaneId) (rows senders : List (List Sender)) (takers : List Taker) (w : ℕ) (d : Sender)
    → HasRun files workers lanes rows senders takers → w < workers
    → slice_index_or senders w [] ≡ map (λ row. slice_index_or row w d) rows
lane_senders files workers lanes rows senders takers w d run h =
    ap (λ (l : List (List Sender)). slice_index_or l w []) run.dealt_out
    ∙ dealt_all-at rows (replicate workers []) workers w d h (length-replicate workers []) (rows-long lanes workers rows run.lane_count run.are_rows)
    ∙ ap (λ (l : List Sender). l ++ map (λ row. slice_index_or row w d) rows) (none_at workers w)

-- a file's pass of a lane
lane_sender : (files workers : ℕ) (lanes : List LaneId) (rows senders : List (List Sender)) (takers : List Taker) (w f : ℕ) (d : Sender) (l : LaneId)
    (sent : ℕ → List Message)
    → HasRun files workers lanes rows senders takers → w < workers → f < files → HaveSent f lanes sent (slice_index_or rows f [])
    → slice_index_or (slice_index_or senders w []) f d ≡ record { lane = slice_index_or lanes w l; from = f; sent = sent w }
lane_sender files workers lanes rows senders takers w f d l sent run h k has =
    at_map (λ (row : List Sender). slice_index_or row w d) rows (slice_index_or senders w []) f [] d
    (lane_senders files workers lanes rows senders takers w d run h)
    (let a = run.row_count in omega (arith, k, a))
    ∙ has.each w d l (let a = run.lane_count in omega (arith, h, a))

sender_count : (files workers : ℕ) (lanes : List LaneId) (rows senders : List (List Sender)) (takers : List Taker) (w : ℕ) (d : Sender)
    → HasRun files workers lanes rows senders takers → w < workers
    → length (slice_index_or senders w []) ≡ files
sender_count files workers lanes rows senders takers w d run h =
    ap (λ (l : List Sender). length l) (lane_senders files workers lanes rows senders takers w d run h)
    ∙ length-map rows (λ (row : List Sender). slice_index_or row w d) ∙ run.row_count

-- all passes of a lane came back
has_all : (files workers : ℕ) (lanes : List LaneId) (rows senders : List (List Sender)) (takers : List Taker) (w : ℕ) (l : LaneId) (t : Taker)
    → HasRun files workers lanes rows senders takers → w < workers
    → HasAll (slice_index_or lanes w l) (slice_index_or senders w []) (slice_index_or takers w t)
has_all files workers lanes rows senders takers w l t run h =
    let d : Sender = record { lane = l; from = 0; sent = [] } in
    let count = sender_count files workers lanes rows senders takers w d run h in
    let taker = run.are_takers w l t (let a = run.lane_count in omega (arith, h, a)) in
    record {
      are = λ f e k.
          let below : f < files = omega (arith, k, count) in
          let row = run.are_rows f (let a = run.row_count in omega (arith, below, a)) in
          let is = lane_sender files workers lanes rows senders takers w f e l row.0 run h below row.1 in
          record { lane_is = ap (λ (s : Sender). s.lane) is; from_is = ap (λ (s : Sender). s.from) is };
      count = count ∙ sym taker.1;
      taker_is = taker.0;
    }

can_close-by : (lanes : List LaneId) (senders : List (List Sender)) (takers : List Taker) → length senders ≡ length lanes → length takers ≡ length lanes
    → ((w : ℕ) (l : LaneId) (t : Taker) → w < length lanes → HasAll (slice_index_or lanes w l) (slice_index_or senders w []) (slice_index_or takers w t))
    → CanClose lanes senders takers
can_close-by [] [] [] a b each = tt
can_close-by [] [] (t ∷ ts) a b each = absurd (omega (arith, b))
can_close-by [] (s ∷ ss) ts a b each = absurd (omega (arith, a))
can_close-by (l ∷ ls) [] ts a b each = absurd (omega (arith, a))
can_close-by (l ∷ ls) (s ∷ ss) [] a b each = absurd (omega (arith, b))
can_close-by (l ∷ ls) (s ∷ ss) (t ∷ ts) a b each =
    (each 0 l t (omega arith), can_close-by ls ss ts (omega (arith, a)) (omega (arith, b)) (λ w k u h. each (suc w) k u (omega (arith, h))))

-- so the lanes can be closed
pub can_close : (files workers : ℕ) (lanes : List LaneId) (rows senders : List (List Sender)) (takers : List Taker)
    → HasRun files workers lanes rows senders takers → CanClose lanes senders takers
can_close files workers lanes rows senders takers run =
    let long : length senders ≡ workers = ap length run.dealt_out ∙ length-dealt_all rows (replicate workers []) ∙ length-replicate workers [] in
    can_close-by lanes senders takers (long ∙ sym run.lane_count) run.taker_count
    (λ w l t h. has_all files workers lanes rows senders takers w l t run (let a = run.lane_count in omega (arith, h, a)))

-- what was taken of each sender of a closed lane
closed_at : (senders : List (List Sender)) (takers : List Taker) (w : ℕ) (t : Taker) → w < length takers → AreClosed senders takers
    → IsClosed (slice_index_or senders w []) (slice_index_or takers w t)
closed_at [] [] w t h closed = absurd (omega (arith, h))
closed_at [] (u ∷ us) w t h closed = absurd closed
closed_at (s ∷ ss) [] w t h closed = absurd closed
closed_at (s ∷ ss) (u ∷ us) zero t h closed = closed.0
closed_at (s ∷ ss) (u ∷ us) (suc w) t h closed = closed_at ss us w t (omega (arith, h)) closed.1

-- the files have sent all of these captures
abbrev pub HaveSentAll : Setting → List LaneId → List Capture → List (List Sender) → Type 0
HaveSentAll s lanes captures rows =
    (f : ℕ) (c : Capture) → f < length captures → HaveSent f lanes (lane_sends s f (slice_index_or captures f c)) (slice_index_or rows f [])

-- what a sender of a lane has sent are the messages of its file
sent_of-file : (s : Setting) (captures : List Capture) (workers : ℕ) (lanes : List LaneId) (rows senders : List (List Sender)) (takers : List Taker) (w f : ℕ)
    → HasRun (length captures) workers lanes rows senders takers → w < workers → HaveSentAll s lanes captures rows
    → sent_of (slice_index_or senders w []) f ≡ file_messages s captures f w
sent_of-file s captures workers lanes rows senders takers w f run h all =
    let here : w < length lanes = let a = run.lane_count in omega (arith, h, a) in
    let l : LaneId = some_item lanes w here in
    let d : Sender = record { lane = l; from = 0; sent = [] } in
    let mine : List Sender = slice_index_or senders w [] in
    let count = sender_count (length captures) workers lanes rows senders takers w d run h in
    elim (cases_lt f (length captures)) as (λ _. sent_of mine f ≡ file_messages s captures f w) [
      | inl below ↦
          let c : Capture = some_item captures f below in
          let there : f < length mine = omega (arith, below, count) in
          at_map (λ (p : Sender). p.sent) mine (map (λ p. p.sent) mine) f d [] refl there
          ∙ ap (λ (p : Sender). p.sent) (lane_sender (length captures) workers lanes rows senders takers w f d l (lane_sends s f (slice_index_or captures f c))
          run h below (all f c below))
          ∙ ap (λ (o : Option Capture). for_lane w (sends_if 256 s f o)) (sym (slice_get-get_or captures f c below))
      | inr past ↦
          get_or_past (map (λ (p : Sender). p.sent) mine) f [] (let a = length-map mine (λ (p : Sender). p.sent) in omega (arith, past, count, a))
          ∙ ap (λ (o : Option Capture). for_lane w (sends_if 256 s f o)) (sym (slice_get_past captures f past))
    ]

-- so what a worker took of a file begins the file's messages for its lane
pub taken_begins : (s : Setting) (captures : List Capture) (workers : ℕ) (lanes : List LaneId) (rows senders : List (List Sender)) (takers : List Taker) (w : ℕ)
    (t : Taker)
    → HasRun (length captures) workers lanes rows senders takers → w < workers → HaveSentAll s lanes captures rows → AreClosed senders takers
    → (f : ℕ) → IsPrefix (of f (slice_index_or takers w t).taken) (file_messages s captures f w)
taken_begins s captures workers lanes rows senders takers w t run h all closed = λ f.
    let here : w < length takers = let a = run.taker_count in let b = run.lane_count in omega (arith, h, a, b) in
    subst (IsPrefix (of f (slice_index_or takers w t).taken)) (sent_of-file s captures workers lanes rows senders takers w f run h all)
    (closed_at senders takers w t here closed f)
