-- The rows that the machine posts: each is its flow's row, none is posted twice, and in the end each was posted.
use Rattle.std.proofs.Common.{◌≡◌, ◌≤◌, ◌<◌, ◌+◌, ℕ, zero, suc, Bool, true, false, cond, if◌then◌else◌, eqb, ◌&&◌, nat_lt, List, [], ◌∷◌, ◌++◌, length, get_or}
use Rattle.std.proofs.Common.{refl, sym, ap, ap₂, ◌∙◌, subst, inl, inr, eq-eqb, eqb-true, ltb-true, append-nil, arith}
use Rattle.std.specs.Prelude.{IsTrue}
use Rattle.std.proofs.lemmas.Bool.{and_from, and_parts, both_ways, cases_eq, or_left, or_right}
use Rattle.std.proofs.lemmas.List.Elements.{All-nil, All-push}
use Rattle.std.proofs.lemmas.List.Sums.{sum_by_push}
use Rattle.std.proofs.lemmas.Option.{slice_get-get_or}
use Rattle.timing_base.specs.declared.capture.FileNote.{FileNote}
use Rattle.timing_base.specs.declared.key.FlowKey.{FlowKey}
use Rattle.timing_base.specs.declared.row.Row.{Row}
use Rattle.ruled_intake.specs.declared.message.Message.{Message}
use Rattle.ruled_intake.specs.declared.message.Message.TheVariants.{Batch, End}
use Rattle.flow_worker.specs.Messages.{has_end, of_file, ending}
use Rattle.flow_worker.specs.Opening.{Addressed, Capture, IsSetting, Setting, for_lane, messages}
use Rattle.flow_worker.specs.Posting.{has_ends, is_key, is_whole, key_lane, taken_row}
use Rattle.flow_worker.specs.World.{HasEnded, State, Step, after, after_post, after_send, after_take, is_same_key, may_post, opening, run, times}
use Rattle.flow_worker.specs.World.Step.{posts_row, sends_next, takes_front}
use Rattle.flow_worker.specs.Kept.{HasPosted, HasTakenAll, IsInOrder, IsKeyRow, is_in_file}
use Rattle.flow_worker.proofs.Ends.{has_end-of_file}
use Rattle.flow_worker.proofs.Whole.{media_lane-below, messages_whole}
use Rattle.flow_worker.proofs.Posting.{no_capture, taken_row_is}
use Rattle.flow_worker.proofs.Steps.{opening_in_order, step_keeps}

-- a key by its parts
key_at : ℕ → ℕ → FlowKey
key_at file media = record { file = file; media = media }

-- keys that the test says are one
same_key : (a b : FlowKey) → is_same_key a b ≡ true → a ≡ b
unfolding key_at
same_key a b e =
    let t = and_parts (eqb a.file b.file) (eqb a.media b.media) e in
    ap₂ key_at (eqb-true a.file b.file t.0) (eqb-true a.media b.media t.1)

-- what a worker may post for
pub record MayPost (s : Setting) (files lane : ℕ) (key : FlowKey) (state : State) : Type 0 where
  pub is : IsTrue (is_key s files key)
  pub own : key_lane s key ≡ lane
  pub none : times key state.posted ≡ 0
  pub whole : IsTrue (is_whole s files (state.taken lane) key)

pub may_post-true : (s : Setting) (files lane : ℕ) (key : FlowKey) (state : State) → may_post s files lane key state ≡ true → MayPost s files lane key state
may_post-true s files lane key state e =
    let a = is_key s files key in
    let b = eqb (key_lane s key) lane in
    let c = eqb (times key state.posted) 0 in
    let d = is_whole s files (state.taken lane) key in
    let first = and_parts (a && b && c) d e in
    let second = and_parts (a && b) c first.0 in
    let third = and_parts a b second.0 in
    record {
      is = third.0;
      own = eqb-true (key_lane s key) lane third.1;
      none = eqb-true (times key state.posted) 0 second.1;
      whole = first.1;
    }

-- and where it may
pub may_post-from : (s : Setting) (files lane : ℕ) (key : FlowKey) (state : State) → MayPost s files lane key state → may_post s files lane key state ≡ true
may_post-from s files lane key state may =
    let a = is_key s files key in
    let b = eqb (key_lane s key) lane in
    let c = eqb (times key state.posted) 0 in
    and_from (a && b && c) (is_whole s files (state.taken lane) key)
    (and_from (a && b) c (and_from a b may.is (eq-eqb (key_lane s key) lane may.own)) (eq-eqb (times key state.posted) 0 may.none)) may.whole

-- the end of each of the first files is among the messages
pub has_ends-at : (n f : ℕ) (taken : List Message) → has_ends n taken ≡ true → f < n → has_end f taken ≡ true
has_ends-at zero f taken e h = absurd (omega arith)
has_ends-at (suc n) f taken e h =
    let t = and_parts (has_ends n taken) (has_end n taken) e in
    elim (cases_eq f n) [
      | inl same ↦ ap (λ (x : ℕ). has_end x taken) same ∙ t.1
      | inr other ↦ has_ends-at n f taken t.0 (omega arith)
    ]

has_ends-all : (n : ℕ) (taken : List Message) → ((f : ℕ) → f < n → has_end f taken ≡ true) → has_ends n taken ≡ true
has_ends-all zero taken h = refl
has_ends-all (suc n) taken h =
    and_from (has_ends n taken) (has_end n taken) (has_ends-all n taken (λ f l. h f (omega arith))) (h n (omega arith))

-- the end of each file that the flow is in is among what was taken
whole_ends : (s : Setting) (files : ℕ) (taken : List Message) (key : FlowKey) (f : ℕ) (b : Bool) → s.joined ≡ b → is_whole s files taken key ≡ true
    → is_in_file s files key f ≡ true → has_end f taken ≡ true
whole_ends s files taken key f true e whole asked =
    has_ends-at files f taken
    (sym (ap (λ (b : Bool). if b then has_ends files taken else has_end key.file taken) e) ∙ whole)
    (ltb-true f files (sym (ap (λ (b : Bool). if b then nat_lt f files else eqb f key.file) e) ∙ asked))
whole_ends s files taken key f false e whole asked =
    let same : f ≡ key.file = eqb-true f key.file (sym (ap (λ (b : Bool). if b then nat_lt f files else eqb f key.file) e) ∙ asked) in
    ap (λ (x : ℕ). has_end x taken) same ∙ sym (ap (λ (b : Bool). if b then has_ends files taken else has_end key.file taken) e) ∙ whole

-- where a worker may post, it took all of the flow
took_all : (s : Setting) (captures : List Capture) (lane : ℕ) (key : FlowKey) (state : State) → IsInOrder s captures state
    → MayPost s (length captures) lane key state
    → HasTakenAll s captures key (state.taken lane)
took_all s captures lane key state order may = λ f asked. record {
  in_order = (
    of_file f (state.held lane) ++ for_lane lane (state.todo f),
    order f lane ∙ ap (messages s captures f) (sym may.own),
  );
  ended = whole_ends s (length captures) (state.taken lane) key f s.joined refl may.whole asked;
}

-- one row more of a key that has none
times-push : (rows : List Row) (r : Row) (k : FlowKey) (b : Bool) → is_same_key r.key k ≡ b → times r.key rows ≡ 0 → times k rows ≤ 1
    → times k (rows ++ r ∷ []) ≤ 1
times-push rows r k true e none once =
    let push : times k (rows ++ r ∷ []) ≡ times k rows + 1 =
    sum_by_push (λ (x : Row). cond (is_same_key x.key k) 1 0) rows r ∙ ap (λ (c : Bool). times k rows + cond c 1 0) e in
    let here : times k rows ≡ 0 = ap (λ (x : FlowKey). times x rows) (sym (same_key r.key k e)) ∙ none in
    omega arith
times-push rows r k false e none once =
    let push : times k (rows ++ r ∷ []) ≡ times k rows + 0 =
    sum_by_push (λ (x : Row). cond (is_same_key x.key k) 1 0) rows r ∙ ap (λ (c : Bool). times k rows + cond c 1 0) e in
    omega arith

-- a post keeps what holds of the rows
post_right : (s : Setting) (captures : List Capture) (lane : ℕ) (key : FlowKey) (state : State) (b : Bool) → may_post s (length captures) lane key state ≡ b
    → IsSetting s → IsInOrder s captures state → HasPosted s captures state
    → HasPosted s captures (after_post b (taken_row s (length captures) (state.taken lane) key) state)
post_right s captures lane key state false e is order has = has
post_right s captures lane key state true e is order has =
    let may = may_post-true s (length captures) lane key state e in
    let r = taken_row s (length captures) (state.taken lane) key in
    let right : IsKeyRow s captures r = record {
      key = may.is;
      row = taken_row_is s captures key (state.taken lane) is may.is (took_all s captures lane key state order may);
    } in
    record {
      rows = All-push (IsKeyRow s captures) state.posted r has.rows right;
      once = λ k. times-push state.posted r k (is_same_key key k) refl may.none (has.once k);
    }

-- sends and takes post nothing
send_right : (s : Setting) (captures : List Capture) (state : State) (f : ℕ) (l : List Addressed) → HasPosted s captures state
    → HasPosted s captures (after_send f l state)
send_right s captures state f [] has = has
send_right s captures state f (a ∷ later) has = record { rows = has.rows; once = has.once }

take_right : (s : Setting) (captures : List Capture) (state : State) (lane : ℕ) (l : List Message) → HasPosted s captures state
    → HasPosted s captures (after_take lane l state)
take_right s captures state lane [] has = has
take_right s captures state lane (m ∷ later) has = record { rows = has.rows; once = has.once }

-- each step keeps what holds of the rows
step_right : (s : Setting) (captures : List Capture) (step : Step) (state : State) → IsSetting s → IsInOrder s captures state → HasPosted s captures state
    → HasPosted s captures (after s (length captures) step state)
step_right s captures (sends_next f) state is order has = send_right s captures state f (state.todo f) has
step_right s captures (takes_front lane) state is order has = take_right s captures state lane (state.held lane) has
step_right s captures (posts_row lane key) state is order has =
    post_right s captures lane key state (may_post s (length captures) lane key state) refl is order has

-- what holds at every moment
pub record IsKept (s : Setting) (captures : List Capture) (state : State) : Type 0 where
  pub order : IsInOrder s captures state
  pub rows : HasPosted s captures state

run_keeps : (s : Setting) (captures : List Capture) (steps : List Step) (state : State) → IsSetting s → IsKept s captures state
    → IsKept s captures (run s (length captures) steps state)
run_keeps s captures [] state is kept = kept
run_keeps s captures (step ∷ steps) state is kept = run_keeps s captures steps (after s (length captures) step state) is record {
  order = step_keeps s captures (length captures) step state kept.order;
  rows = step_right s captures step state is kept.order kept.rows;
}

-- it holds at every moment of every run
pub run_kept : (s : Setting) (captures : List Capture) (steps : List Step) → IsSetting s
    → IsKept s captures (run s (length captures) steps (opening s captures))
run_kept s captures steps is = run_keeps s captures steps (opening s captures) is record {
  order = opening_in_order s captures;
  rows = record { rows = All-nil (IsKeyRow s captures); once = λ key. omega arith };
}

-- the end is among batches and the end
has_end-last : (f : ℕ) (note : FileNote) (n : ℕ) (bs : List Message) → has_end f (bs ++ ending f note n ∷ []) ≡ true
has_end-last f note n [] = or_left (eqb f f) false (eq-eqb f f refl)
has_end-last f note n (Batch one ∷ bs) = has_end-last f note n bs
has_end-last f note n (End one ∷ bs) = or_right (eqb one.file f) (has_end f (bs ++ ending f note n ∷ [])) (has_end-last f note n bs)

-- where nothing is left, the end of each file was taken from each lane
ended_end : (s : Setting) (captures : List Capture) (state : State) (f lane : ℕ) → IsInOrder s captures state → state.todo f ≡ [] → state.held lane ≡ []
    → f < length captures → lane < s.workers → has_end f (state.taken lane) ≡ true
ended_end s captures state f lane order todo held file below =
    let c = get_or captures f no_capture in
    let w = messages_whole s captures f lane c (slice_get-get_or captures f no_capture file) below in
    let all : of_file f (state.taken lane) ≡ messages s captures f lane =
    sym (ap₂ (λ (k : List Message) (l : List Addressed). of_file f (state.taken lane) ++ (of_file f k ++ for_lane lane l)) held todo ∙ append-nil
    (of_file f (state.taken lane)))
    ∙ order f lane in
    sym (has_end-of_file f (state.taken lane)) ∙ ap (has_end f) (all ∙ w.whole) ∙ has_end-last f c.note (length c.records) w.batches

-- so all of each flow was taken
ended_whole : (s : Setting) (captures : List Capture) (state : State) (key : FlowKey) (lane : ℕ) (b : Bool) → s.joined ≡ b → IsInOrder s captures state
    → HasEnded s (length captures) state → key.file < (if s.joined then 1 else length captures) → lane < s.workers
    → is_whole s (length captures) (state.taken lane) key ≡ true
ended_whole s captures state key lane true e order ended file below =
    ap (λ (b : Bool). if b then has_ends (length captures) (state.taken lane) else has_end key.file (state.taken lane)) e
    ∙ has_ends-all (length captures) (state.taken lane) (λ f h. ended_end s captures state f lane order (ended.todo f) (ended.held lane) h below)
ended_whole s captures state key lane false e order ended file below =
    let within : key.file < length captures = subst (λ (b : Bool). key.file < (if b then 1 else length captures)) e file in
    ap (λ (b : Bool). if b then has_ends (length captures) (state.taken lane) else has_end key.file (state.taken lane)) e
    ∙ ended_end s captures state key.file lane order (ended.todo key.file) (ended.held lane) within below

-- and each row was posted
ended_posted : (s : Setting) (captures : List Capture) (state : State) (key : FlowKey) → IsSetting s → IsKept s captures state
    → HasEnded s (length captures) state → IsTrue (is_key s (length captures) key) → times key state.posted ≡ 1
ended_posted s captures state key is kept ended k =
    let parts = and_parts (nat_lt key.file (if s.joined then 1 else length captures)) (nat_lt key.media (length s.media)) k in
    let file = ltb-true key.file (if s.joined then 1 else length captures) parts.0 in
    let lane = key_lane s key in
    let whole = ended_whole s captures state key lane s.joined refl kept.order ended file (media_lane-below s key.file key.media is.some) in
    let once : times key state.posted ≤ 1 = kept.rows.once key in
    elim (cases_eq (times key state.posted) 0) [
      | inl none ↦
          absurd (both_ways (may_post s (length captures) lane key state) (ended.posts lane key)
          (may_post-from s (length captures) lane key state (record { is = k; own = refl; none = none; whole = whole })))
      | inr some ↦ omega arith
    ]

-- a run that ended has posted each row once
pub ended_once : (s : Setting) (captures : List Capture) (steps : List Step) (key : FlowKey) → IsSetting s
    → HasEnded s (length captures) (run s (length captures) steps (opening s captures)) → IsTrue (is_key s (length captures) key)
    → times key (run s (length captures) steps (opening s captures)).posted ≡ 1
ended_once s captures steps key is ended k =
    ended_posted s captures (run s (length captures) steps (opening s captures)) key is (run_kept s captures steps is) ended k
