-- One lane more, and one intake more.
use Rattle.std.proofs.Common.{◌≡◌, ◌≤◌, ◌<◌, ◌+◌, ℕ, zero, suc, List, [], ◌∷◌, ◌++◌, length, replicate, slice_index_or, Ok, Err, inl, inr, refl, sym, ap, ap₂}
use Rattle.std.proofs.Common.{◌∙◌, subst, arith}
use Rattle.std.proofs.Math.Seq.{get_or-append_seam}
use Rattle.std.specs.Prelude.{IfOk, Result}
use Rattle.std.proofs.lemmas.Bool.{cases_lt}
use Rattle.std.proofs.lemmas.List.{get_or-map, get_or_append_left, length-append, length-replicate, map-append}
use Rattle.ruled_intake.specs.Lanes.{AreSenders, LaneId, Sender, Taker, sent_of}
use Rattle.flow_worker.specs.Intakes.{HaveSentNothing}
use Rattle.flow_worker.specs.declared.crew.jobs.WorkJob.{WorkJob}
use Rattle.flow_worker.specs.crew.Columns.{dealt}
use Rattle.flow_worker.specs.crew.Jobs.{AreMade, new_pass, numbers}
use Rattle.flow_worker.proofs.lemmas.crew.Dealing.{dealt-at, length-dealt}

-- the numbers below one more
pub numbers-more : (n : ℕ) → numbers (n + 1) ≡ numbers n ++ n ∷ []
numbers-more n = let e : n + 1 ≡ suc n = omega arith in ap numbers e

-- a sender's pass by its parts
pass_is : (lane : LaneId) (f : ℕ) (s : Sender) → s.lane ≡ lane → s.from ≡ f → s.sent ≡ [] → s ≡ record { lane = lane; from = f; sent = [] }
pass_is lane f s a b c = λ i. record { lane = a i; from = b i; sent = c i }

-- a file's pass of one lane more
pub file-more : (file : ℕ) (lanes : List LaneId) (lane : LaneId) (passes : List Sender) (s : Sender) → HaveSentNothing file lanes passes
    → s ≡ record { lane = lane; from = file; sent = [] } → HaveSentNothing file (lanes ++ lane ∷ []) (passes ++ s ∷ [])
file-more file lanes lane passes s has is = record {
  count = omega (arith, has.count, length-append passes (s ∷ []), length-append lanes (lane ∷ []));
  each = λ n d l m. elim (cases_lt n (length lanes)) as (λ _. slice_index_or (passes ++ s ∷ []) n d
      ≡ record { lane = slice_index_or (lanes ++ lane ∷ []) n l; from = file; sent = [] }) [
        | inl before ↦
            let there : n < length passes = omega (arith, before, has.count) in
            get_or_append_left passes (s ∷ []) d n there ∙ has.each n d l before
            ∙ ap (λ (x : LaneId). record { lane = x; from = file; sent = [] }) (sym (get_or_append_left lanes (lane ∷ []) l n before))
        | inr after ↦
            let last : n ≡ length lanes = omega (arith, after, m, length-append lanes (lane ∷ [])) in
            let last_pass : n ≡ length passes = omega (arith, last, has.count) in
            ap (λ k. slice_index_or (passes ++ s ∷ []) k d) last_pass ∙ get_or-append_seam passes s [] d ∙ is
            ∙ ap (λ (x : LaneId). record { lane = x; from = file; sent = [] })
            (sym (ap (λ k. slice_index_or (lanes ++ lane ∷ []) k l) last ∙ get_or-append_seam lanes lane [] l))
      ];
}

-- the pass of a file among those of a new lane
row_pass : (lane : LaneId) (row : List Sender) (f : ℕ) (d : Sender) → AreSenders lane row → ((g : ℕ) → sent_of row g ≡ []) → f < length row
    → slice_index_or row f d ≡ record { lane = lane; from = f; sent = [] }
row_pass lane row f d are none m =
    let one = are f d m in
    pass_is lane f (slice_index_or row f d) one.lane_is one.from_is (sym (get_or-map (λ (s : Sender). s.sent) row f d [] m) ∙ none f)

-- one lane more
pub made-more : (files worker : ℕ) (lanes : List LaneId) (jobs : List WorkJob) (columns : List (List Sender)) (lane : LaneId) (row : List Sender)
    (job : WorkJob)
    → AreMade files worker lanes jobs columns → AreSenders lane row → length row ≡ files → ((f : ℕ) → sent_of row f ≡ [])
    → job.worker ≡ worker → job.pass ≡ new_pass files lane
    → AreMade files (worker + 1) (lanes ++ lane ∷ []) (jobs ++ job ∷ []) (dealt row columns)
made-more files worker lanes jobs columns lane row job made are long none number pass = record {
  lane_count = omega (arith, made.lane_count, length-append lanes (lane ∷ []));
  worker_numbers =
      map-append (λ (j : WorkJob). j.worker) jobs (job ∷ [])
      ∙ ap₂ (λ (l : List ℕ) (n : ℕ). l ++ n ∷ []) made.worker_numbers number ∙ sym (numbers-more worker);
  worker_passes =
      map-append (λ (j : WorkJob). j.pass) jobs (job ∷ [])
      ∙ ap₂ (λ (l : List Taker) (p : Taker). l ++ p ∷ []) made.worker_passes pass
      ∙ sym (map-append (new_pass files) lanes (lane ∷ []));
  file_count = length-dealt row columns ∙ made.file_count;
  file_passes = λ file m.
      let there : file < length row = omega (arith, m, long) in
      let fits : length row ≤ length columns = omega (arith, long, made.file_count) in
      let d : Sender = record { lane = lane; from = file; sent = [] } in
      subst (HaveSentNothing file (lanes ++ lane ∷ [])) (sym (dealt-at row columns file d there fits))
      (file-more file lanes lane (slice_index_or columns file []) (slice_index_or row file d) (made.file_passes file m)
      (row_pass lane row file d are none there));
}

none-at : (n i : ℕ) → slice_index_or {A = List Sender} (replicate n []) i [] ≡ []
none-at zero i = refl
none-at (suc n) zero = refl
none-at (suc n) (suc i) = none-at n i

-- no lane yet
pub made-none : (files : ℕ) (columns : List (List Sender)) → columns ≡ replicate files [] → AreMade files 0 [] [] columns
made-none files columns e = record {
  lane_count = refl;
  worker_numbers = refl;
  worker_passes = refl;
  file_count = ap length e ∙ length-replicate files [];
  file_passes = λ file m. subst (λ (l : List (List Sender)). HaveSentNothing file [] (slice_index_or l file [])) (sym e)
      (subst (HaveSentNothing file []) (sym (none-at files file)) record { count = refl; each = λ n d l h. absurd (omega (arith, h)) });
}

-- what follows of an answer that isn't refused
pub on_ok : {T E : Type 0} (o : Result T E) (P Q : T → Type 0) → ((x : T) → P x → Q x) → IfOk o P → IfOk o Q
on_ok (Ok x) P Q more h = more x h
on_ok (Err e) P Q more h = h

-- the same of lists that are so
pub made-next : (files worker : ℕ) (lanes now_lanes : List LaneId) (jobs now_jobs : List WorkJob) (columns now_columns : List (List Sender)) (lane : LaneId)
    (row : List Sender) (job : WorkJob)
    → AreMade files worker lanes jobs columns → AreSenders lane row → length row ≡ files → ((f : ℕ) → sent_of row f ≡ [])
    → job.worker ≡ worker → job.pass ≡ new_pass files lane → now_lanes ≡ lanes ++ lane ∷ [] → now_jobs ≡ jobs ++ job ∷ [] → now_columns ≡ dealt row columns
    → AreMade files (worker + 1) now_lanes now_jobs now_columns
made-next files worker lanes now_lanes jobs now_jobs columns now_columns lane row job made are long none number pass a b c =
    subst (λ (l : List LaneId). AreMade files (worker + 1) l now_jobs now_columns) (sym a)
    (subst (λ (l : List WorkJob). AreMade files (worker + 1) (lanes ++ lane ∷ []) l now_columns) (sym b)
    (subst (λ (l : List (List Sender)). AreMade files (worker + 1) (lanes ++ lane ∷ []) (jobs ++ job ∷ []) l) (sym c)
    (made-more files worker lanes jobs columns lane row job made are long none number pass)))
