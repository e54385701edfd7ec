-- From each state of a run some steps lead to one that has ended: what is left is sent, what is held is taken, and then each
-- row that may be is posted.
use Rattle.std.proofs.Common.{◌≡◌, ◌≤◌, ◌<◌, ◌+◌, ℕ, zero, suc, Bool, true, false, cond, if◌then◌else◌, eqb, nat_lt, List, [], ◌∷◌, ◌++◌, length}
use Rattle.std.proofs.Common.{refl, sym, ap, ap₂, ◌∙◌, subst, inl, inr, eq-eqb, ltb-true, arith}
use Rattle.std.proofs.lemmas.Bool.{and_from, and_parts, both_ways, cases_eq}
use Rattle.std.proofs.lemmas.List.Sums.{sum_by_push}
use Rattle.std.proofs.lemmas.Option.{slice_get_past}
use Rattle.timing_base.specs.declared.key.FlowKey.{FlowKey}
use Rattle.timing_base.specs.declared.row.Row.{Row}
use Rattle.ruled_intake.specs.declared.message.Message.{Message}
use Rattle.flow_worker.specs.Opening.{Addressed, Capture, Setting, sends_if}
use Rattle.flow_worker.specs.Posting.{key_lane, taken_row}
use Rattle.flow_worker.specs.World.{HasEnded, State, Step, after, after_post, after_send, after_steps, after_take, is_same_key, may_post, opening, run, times}
use Rattle.flow_worker.specs.World.Step.{posts_row, sends_next, takes_front}
use Rattle.flow_worker.proofs.Rows.{may_post-from, may_post-true}
use Rattle.flow_worker.proofs.Steps.{changed-here, changed-other}

-- files from one on have nothing to send, and lanes from one on hold nothing
record Within (files lanes : ℕ) (state : State) : Type 0 where
  pub todo : (file : ℕ) → files ≤ file → state.todo file ≡ []
  pub held : (lane : ℕ) → lanes ≤ lane → state.held lane ≡ []

-- the same for some number of lanes
record WithinFiles (files : ℕ) (state : State) : Type 0 where
  pub lanes : ℕ
  pub within : Within files lanes state

-- a list that begins isn't empty
not_empty : {X : Type 0} (x : X) (xs : List X) → x ∷ xs ≡ [] → ⊥
not_empty x xs e = let l : length (x ∷ xs) ≡ 0 = ap length e in omega (arith, l)

-- a test that isn't passed
not_true : (b : Bool) → (b ≡ true → ⊥) → b ≡ false
not_true true h = absurd (h refl)
not_true false h = refl

-- a file that has something to send, and a lane that holds something, stand within
send_within : (files lanes f : ℕ) (l : List Addressed) (state : State) → state.todo f ≡ l → Within files lanes state → WithinFiles files (after_send f l state)
send_within files lanes f [] state is w = record { lanes = lanes; within = w }
send_within files lanes f (a ∷ later) state is w = record {
  lanes = lanes + (a.lane + 1);
  within = record {
    todo = λ g beyond. elim (cases_eq g f) [
      | inl same ↦ absurd (not_empty a later (sym (ap state.todo same ∙ is) ∙ w.todo g beyond))
      | inr other ↦ changed-other f g later state.todo other ∙ w.todo g beyond
    ];
    held = λ v beyond.
        changed-other a.lane v (state.held a.lane ++ a.message ∷ []) state.held (λ e. omega (arith, e, beyond)) ∙ w.held v (omega (arith, beyond));
  };
}

take_within : (files lanes lane : ℕ) (l : List Message) (state : State) → state.held lane ≡ l → Within files lanes state
    → Within files lanes (after_take lane l state)
take_within files lanes lane [] state is w = w
take_within files lanes lane (m ∷ later) state is w = record {
  todo = w.todo;
  held = λ v beyond. elim (cases_eq v lane) [
    | inl same ↦ absurd (not_empty m later (sym (ap state.held same ∙ is) ∙ w.held v beyond))
    | inr other ↦ changed-other lane v later state.held other ∙ w.held v beyond
  ];
}

post_within : (files lanes : ℕ) (may : Bool) (r : Row) (state : State) → Within files lanes state → Within files lanes (after_post may r state)
post_within files lanes true r state w = record { todo = w.todo; held = w.held }
post_within files lanes false r state w = w

step_within : (s : Setting) (n files : ℕ) (step : Step) (state : State) → WithinFiles files state → WithinFiles files (after s n step state)
step_within s n files (sends_next f) state w = send_within files w.lanes f (state.todo f) state refl w.within
step_within s n files (takes_front lane) state w = record { lanes = w.lanes; within = take_within files w.lanes lane (state.held lane) state refl w.within }
step_within s n files (posts_row lane key) state w = record {
  lanes = w.lanes;
  within = post_within files w.lanes (may_post s n lane key state) (taken_row s n (state.taken lane) key) state w.within;
}

run_within : (s : Setting) (n files : ℕ) (steps : List Step) (state : State) → WithinFiles files state → WithinFiles files (run s n steps state)
run_within s n files [] state w = w
run_within s n files (step ∷ steps) state w = run_within s n files steps (after s n step state) (step_within s n files step state w)

opening_within : (s : Setting) (captures : List Capture) → WithinFiles (length captures) (opening s captures)
opening_within s captures = record {
  lanes = 0;
  within = record {
    todo = λ f beyond. ap (sends_if 256 s f) (slice_get_past captures f beyond);
    held = λ lane beyond. refl;
  };
}

-- some steps lead from a state to one of which this holds
record Leads (s : Setting) (n : ℕ) (P : State → Type 0) (state : State) : Type 0 where
  pub steps : List Step
  pub there : P (run s n steps state)

run-append : (s : Setting) (n : ℕ) (xs ys : List Step) (state : State) → run s n (xs ++ ys) state ≡ run s n ys (run s n xs state)
run-append s n [] ys state = refl
run-append s n (x ∷ xs) ys state = run-append s n xs ys (after s n x state)

-- from there others lead on
leads_on : (s : Setting) (n : ℕ) (P Q : State → Type 0) (state : State) → Leads s n P state → ((next : State) → P next → Leads s n Q next) → Leads s n Q state
leads_on s n P Q state first on =
    let rest = on (run s n first.steps state) first.there in
    record { steps = first.steps ++ rest.steps; there = subst Q (sym (run-append s n first.steps rest.steps state)) rest.there }

-- the last file of some sends all that it has
send_file : (s : Setting) (n k : ℕ) (l : List Addressed) (state : State) → state.todo k ≡ l → WithinFiles (k + 1) state → Leads s n (WithinFiles k) state
send_file s n k [] state is w = record {
  steps = [];
  there = record {
    lanes = w.lanes;
    within = record {
      todo = λ g beyond. elim (cases_eq g k) [
        | inl same ↦ ap state.todo same ∙ is
        | inr other ↦ w.within.todo g (omega (arith, beyond, other))
      ];
      held = w.within.held;
    };
  };
}
send_file s n k (a ∷ later) state is w =
    let next = after_send k (a ∷ later) state in
    let step : after s n (sends_next k) state ≡ next = ap (λ l. after_send k l state) is in
    let rest = send_file s n k later next (changed-here k k later state.todo refl) (send_within (k + 1) w.lanes k (a ∷ later) state is w.within) in
    record { steps = sends_next k ∷ rest.steps; there = subst (λ it. WithinFiles k (run s n rest.steps it)) (sym step) rest.there }

send_all : (s : Setting) (n k : ℕ) (state : State) → WithinFiles k state → Leads s n (WithinFiles 0) state
send_all s n zero state w = record { steps = []; there = w }
send_all s n (suc k) state w =
    leads_on s n (WithinFiles k) (WithinFiles 0) state
    (send_file s n k (state.todo k) state refl (subst (λ m. WithinFiles m state) (omega arith) w)) (send_all s n k)

-- the worker of the last lane of some takes all that it holds
take_lane : (s : Setting) (n k : ℕ) (l : List Message) (state : State) → state.held k ≡ l → Within 0 (k + 1) state → Leads s n (Within 0 k) state
take_lane s n k [] state is w = record {
  steps = [];
  there = record {
    todo = w.todo;
    held = λ v beyond. elim (cases_eq v k) [
      | inl same ↦ ap state.held same ∙ is
      | inr other ↦ w.held v (omega (arith, beyond, other))
    ];
  };
}
take_lane s n k (m ∷ later) state is w =
    let next = after_take k (m ∷ later) state in
    let step : after s n (takes_front k) state ≡ next = ap (λ l. after_take k l state) is in
    let rest = take_lane s n k later next (changed-here k k later state.held refl) (take_within 0 (k + 1) k (m ∷ later) state is w) in
    record { steps = takes_front k ∷ rest.steps; there = subst (λ it. Within 0 k (run s n rest.steps it)) (sym step) rest.there }

take_all : (s : Setting) (n k : ℕ) (state : State) → Within 0 k state → Leads s n (Within 0 0) state
take_all s n zero state w = record { steps = []; there = w }
take_all s n (suc k) state w =
    leads_on s n (Within 0 k) (Within 0 0) state
    (take_lane s n k (state.held k) state refl (subst (λ m. Within 0 m state) (omega arith) w)) (take_all s n k)

-- no worker may post the row of a flow any more
abbrev IsDone : Setting → ℕ → State → FlowKey → Type 0
IsDone s n state key = (lane : ℕ) → may_post s n lane key state ≡ false

-- all is sent and taken, what was done stays done, and the flows of which this holds are done
record Posts (s : Setting) (n : ℕ) (K : FlowKey → Type 0) (old new : State) : Type 0 where
  pub idle : Within 0 0 new
  pub stays : (key : FlowKey) → IsDone s n old key → IsDone s n new key
  pub done : (key : FlowKey) → K key → IsDone s n new key

-- rows of a flow, and one more
times-one : (key : FlowKey) (rows : List Row) (r : Row) → times key (rows ++ r ∷ []) ≡ times key rows + cond (is_same_key r.key key) 1 0
times-one key rows r = sum_by_push (λ (x : Row). cond (is_same_key x.key key) 1 0) rows r

-- a post leaves what is done
post_stays : (s : Setting) (n : ℕ) (state : State) (may : Bool) (r : Row) (key : FlowKey) → IsDone s n state key → IsDone s n (after_post may r state) key
post_stays s n state false r key done = done
post_stays s n state true r key done = λ lane.
    let next = after_post true r state in
    not_true (may_post s n lane key next) (λ e.
    let may = may_post-true s n lane key next e in
    let none : times key state.posted ≡ 0 = omega (arith, times-one key state.posted r, may.none) in
    both_ways (may_post s n lane key state) (done lane)
    (may_post-from s n lane key state (record { is = may.is; own = may.own; none = none; whole = may.whole })))

-- a key is that of itself
same_as_itself : (key : FlowKey) → is_same_key key key ≡ true
same_as_itself key = and_from (eqb key.file key.file) (eqb key.media key.media) (eq-eqb key.file key.file refl) (eq-eqb key.media key.media refl)

-- a flow whose row was posted, or may not be, is done
post_does : (s : Setting) (n : ℕ) (state : State) (key : FlowKey) (may : Bool) → may_post s n (key_lane s key) key state ≡ may
    → IsDone s n (after_post may (taken_row s n (state.taken (key_lane s key)) key) state) key
post_does s n state key false is = λ lane.
    not_true (may_post s n lane key state) (λ e.
    let may = may_post-true s n lane key state e in
    both_ways (may_post s n lane key state) (subst (λ w. may_post s n w key state ≡ false) may.own is) e)
post_does s n state key true is = λ lane.
    let r = taken_row s n (state.taken (key_lane s key)) key in
    let next = after_post true r state in
    not_true (may_post s n lane key next) (λ e.
    let may = may_post-true s n lane key next e in
    let more : times key (state.posted ++ r ∷ []) ≡ times key state.posted + 1 =
    times-one key state.posted r ∙ ap (λ b. times key state.posted + cond b 1 0) (same_as_itself key) in
    omega (arith, more, may.none))

-- a flow by its file and media
key_at : ℕ → ℕ → FlowKey
key_at file media = record { file = file; media = media }

-- keys of the same file and media
key_by : (key : FlowKey) (file media : ℕ) → key.file ≡ file → key.media ≡ media → key ≡ key_at file media
unfolding key_at
key_by key file media same_file same_media = ap₂ key_at same_file same_media

-- the first media of a file
abbrev AreFirst : (file media : ℕ) → FlowKey → Type 0
AreFirst file media key = (key.file ≡ file) × (key.media < media)

-- the media of the first files
abbrev AreOfFirst : (files media : ℕ) → FlowKey → Type 0
AreOfFirst files media key = (key.file < files) × (key.media < media)

nothing_posted : (s : Setting) (n : ℕ) (K : FlowKey → Type 0) (state : State) → ((key : FlowKey) → K key → ⊥) → Within 0 0 state
    → Leads s n (Posts s n K state) state
nothing_posted s n K state none idle = record {
  steps = [];
  there = record { idle = idle; stays = λ key done. done; done = λ key k. absurd (none key k) };
}

-- the rows of the first media of a file are posted, where they may be
post_media : (s : Setting) (n file media : ℕ) (state : State) → Within 0 0 state → Leads s n (Posts s n (AreFirst file media) state) state
unfolding key_at
post_media s n file zero state idle = nothing_posted s n (AreFirst file 0) state (λ key k. omega (arith, k.1)) idle
post_media s n file (suc m) state idle =
    leads_on s n (Posts s n (AreFirst file m) state) (Posts s n (AreFirst file (suc m)) state) state (post_media s n file m state idle)
    (λ mid posts.
    let key = key_at file m in
    let lane = key_lane s key in
    let may = may_post s n lane key mid in
    let r = taken_row s n (mid.taken lane) key in
    record {
      steps = posts_row lane key ∷ [];
      there = record {
        idle = post_within 0 0 may r mid posts.idle;
        stays = λ k was. post_stays s n mid may r k (posts.stays k was);
        done = λ k first. elim (cases_eq k.media m) [
          | inl same ↦ subst (IsDone s n (after_post may r mid)) (sym (key_by k file m first.0 same)) (post_does s n mid key may refl)
          | inr other ↦ post_stays s n mid may r k (posts.done k (first.0, omega (arith, first.1, other)))
        ];
      };
    })

-- the rows of the first files are posted, where they may be
post_files : (s : Setting) (n media files : ℕ) (state : State) → Within 0 0 state → Leads s n (Posts s n (AreOfFirst files media) state) state
post_files s n media zero state idle = nothing_posted s n (AreOfFirst 0 media) state (λ key k. omega (arith, k.0)) idle
post_files s n media (suc f) state idle =
    leads_on s n (Posts s n (AreOfFirst f media) state) (Posts s n (AreOfFirst (suc f) media) state) state (post_files s n media f state idle)
    (λ mid before.
    let last = post_media s n f media mid before.idle in
    record {
      steps = last.steps;
      there = record {
        idle = last.there.idle;
        stays = λ k was. last.there.stays k (before.stays k was);
        done = λ k first. elim (cases_eq k.file f) [
          | inl same ↦ last.there.done k (same, first.1)
          | inr other ↦ last.there.stays k (before.done k (omega (arith, first.0, other), first.1))
        ];
      };
    })

-- a state in which all is sent and taken, and the flows of all files are done, has ended
all_done : (s : Setting) (n : ℕ) (old new : State) → Posts s n (AreOfFirst (if s.joined then 1 else n) (length s.media)) old new → HasEnded s n new
all_done s n old new posts = record {
  todo = λ file. posts.idle.todo file (omega arith);
  held = λ lane. posts.idle.held lane (omega arith);
  posts = λ lane key. not_true (may_post s n lane key new) (λ e.
      let files = if s.joined then 1 else n in
      let parts = and_parts (nat_lt key.file files) (nat_lt key.media (length s.media)) (may_post-true s n lane key new e).is in
      both_ways (may_post s n lane key new)
      (posts.done key (ltb-true key.file files parts.0, ltb-true key.media (length s.media) parts.1) lane) e);
}

-- steps lead to an end
leads_to_end : (s : Setting) (n files : ℕ) (state : State) → WithinFiles files state → Leads s n (HasEnded s n) state
leads_to_end s n files state within =
    leads_on s n (WithinFiles 0) (HasEnded s n) state (send_all s n files state within) (λ sent w.
    leads_on s n (Within 0 0) (HasEnded s n) sent (take_all s n w.lanes sent w.within) (λ taken idle.
    let last = post_files s n (length s.media) (if s.joined then 1 else n) taken idle in
    record { steps = last.steps; there = all_done s n taken (run s n last.steps taken) last.there }))

-- each run can be led to its end
pub ends_by_some : (s : Setting) (captures : List Capture) (steps : List Step)
    → (later : List Step) × HasEnded s (length captures) (after_steps s captures (steps ++ later))
ends_by_some s captures steps =
    let n = length captures in
    let now = run s n steps (opening s captures) in
    let end = leads_to_end s n n now (run_within s n n steps (opening s captures) (opening_within s captures)) in
    (end.steps, subst (HasEnded s n) (sym (run-append s n steps end.steps (opening s captures))) end.there)
