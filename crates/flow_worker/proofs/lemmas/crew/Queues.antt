-- Receipts that are taken in the order of keys.
use Rattle.std.proofs.Common.{◌≡◌, ◌<◌, ◌+◌, ℕ, suc, cond, eqb, List, [], ◌∷◌, ◌++◌, length, map, filter, slice_set, slice_index_or, inl, inr, sym, ap, ◌∙◌}
use Rattle.std.proofs.Common.{subst, eq-eqb, ne_eqb, arith, length-set, take, drop, ap₂}
use Rattle.std.proofs.Math.Seq.{drop-cons, take-suc}
use Rattle.std.proofs.lemmas.Bool.{cases_eq}
use Rattle.std.proofs.lemmas.List.{get_or-map, get_or-set_other, get_or-set_same, length-map, map-append, map-set}
use Rattle.timing_base.specs.Routes.{route}
use Rattle.timing_base.specs.declared.key.FlowKey.{FlowKey}
use Rattle.timing_base.specs.declared.row.Row.{Row}
use Rattle.verdict_book.specs.Receipts.{IsOf, row_of}
use Rattle.verdict_book.specs.declared.book.Book.{Book}
use Rattle.verdict_book.specs.declared.book.Receipt.{Receipt}
use Rattle.flow_worker.specs.crew.Gathering.{AreQueued, IsQueue}

-- the keys of a worker
own : (media workers worker : ℕ) → List FlowKey → List FlowKey
own media workers worker keys = filter (λ k. eqb (route k media workers) worker) keys

own-here : (media workers worker : ℕ) (k : FlowKey) (ks : List FlowKey) → route k media workers ≡ worker
    → own media workers worker (k ∷ ks) ≡ k ∷ own media workers worker ks
unfolding own
own-here media workers worker k ks e =
    ap (λ b. cond b (k ∷ own media workers worker ks) (own media workers worker ks)) (eq-eqb (route k media workers) worker e)

own-other : (media workers worker : ℕ) (k : FlowKey) (ks : List FlowKey) → (route k media workers ≡ worker → ⊥)
    → own media workers worker (k ∷ ks) ≡ own media workers worker ks
unfolding own
own-other media workers worker k ks n =
    ap (λ b. cond b (k ∷ own media workers worker ks) (own media workers worker ks)) (ne_eqb (route k media workers) worker n)

-- the next key is in front of the later ones
front_key : (keys : List FlowKey) (i : ℕ) (k d : FlowKey) → i < length keys → k ≡ slice_index_or keys i d → drop i keys ≡ k ∷ drop (suc i) keys
front_key keys i k d m key = drop-cons keys i d m ∙ ap (λ x. x ∷ drop (suc i) keys) (sym key)

-- the receipts of the worker that has the next key
queue_of : {A : Type 0} (f : A → List Receipt) (book : Book) (row_for : FlowKey → Row) (media workers : ℕ) (keys : List FlowKey) (i : ℕ) (k d : FlowKey)
    (queues : List A) (worker : ℕ) (old : A)
    → AreQueued book row_for media workers (drop i keys) (map f queues) → i < length keys → k ≡ slice_index_or keys i d → worker ≡ route k media workers
    → worker < length queues
    → old ≡ slice_index_or queues worker old → IsQueue book row_for (own media workers worker (k ∷ drop (suc i) keys)) (f old)
unfolding own
queue_of f book row_for media workers keys i k d queues worker old queued m key here room at =
    let there : worker < length (map f queues) = let e = length-map queues f in omega (arith, room, e) in
    let same : slice_index_or (map f queues) worker [] ≡ f old = get_or-map f queues worker old [] room ∙ ap f (sym at) in
    subst (IsQueue book row_for (own media workers worker (k ∷ drop (suc i) keys))) same
    (subst (λ (l : List FlowKey). IsQueue book row_for (own media workers worker l) (slice_index_or (map f queues) worker [])) (front_key keys i k d m key)
    (queued worker there))

-- a worker that has a key next has a receipt
pub some_receipt : {A : Type 0} (f : A → List Receipt) (book : Book) (row_for : FlowKey → Row) (media workers : ℕ) (keys : List FlowKey) (i : ℕ) (k d : FlowKey)
    (queues : List A) (worker : ℕ) (old : A)
    → AreQueued book row_for media workers (drop i keys) (map f queues) → i < length keys → k ≡ slice_index_or keys i d → worker ≡ route k media workers
    → worker < length queues
    → old ≡ slice_index_or queues worker old → length (f old) ≡ 0 → ⊥
unfolding own
some_receipt f book row_for media workers keys i k d queues worker old queued m key here room at none =
    let is = queue_of f book row_for media workers keys i k d queues worker old queued m key here room at in
    let e : map row_of (f old) ≡ map row_for (k ∷ own media workers worker (drop (suc i) keys)) =
    is.rows ∙ ap (map row_for) (own-here media workers worker k (drop (suc i) keys) (sym here)) in
    let long : length (map row_for (k ∷ own media workers worker (drop (suc i) keys))) ≡ length (map row_of (f old)) = ap length (sym e) in
    let same = length-map (f old) row_of in
    absurd (omega (arith, long, same, none))

-- the next receipt of the worker that has the key is taken: it is the key's, and the others are those of the later keys
pub take_receipt : {A : Type 0} (f : A → List Receipt) (book : Book) (row_for : FlowKey → Row) (media workers : ℕ) (keys : List FlowKey) (i : ℕ) (k d : FlowKey)
    (queues : List A) (worker : ℕ) (old new : A) (r : Receipt)
    → AreQueued book row_for media workers (drop i keys) (map f queues) → i < length keys → k ≡ slice_index_or keys i d → worker ≡ route k media workers
    → worker < length queues
    → old ≡ slice_index_or queues worker old → f old ≡ r ∷ f new
    → (row_of r ≡ row_for k) × IsOf book r × AreQueued book row_for media workers (drop (i + 1) keys) (map f (slice_set queues worker new))
unfolding own
take_receipt f book row_for media workers keys i k d queues worker old new r queued m key here room at front =
    let later = drop (suc i) keys in
    let mine : IsQueue book row_for (own media workers worker (k ∷ later)) (r ∷ f new) =
    subst (IsQueue book row_for (own media workers worker (k ∷ later))) front
    (queue_of f book row_for media workers keys i k d queues worker old queued m key here room at) in
    let rows : map row_of (r ∷ f new) ≡ map row_for (k ∷ own media workers worker later) =
    mine.rows ∙ ap (map row_for) (own-here media workers worker k later (sym here)) in
    let first : row_of r ≡ row_for k = cc in
    let others : map row_of (f new) ≡ map row_for (own media workers worker later) = cc in
    let left : IsQueue book row_for (own media workers worker later) (f new) =
    record { posted = λ j e n. mine.posted (suc j) e (omega (arith, n)); rows = others } in
    let one : suc i ≡ i + 1 = omega arith in
    let news : map f (slice_set queues worker new) ≡ slice_set (map f queues) worker (f new) = map-set f queues worker new in
    let there : worker < length (map f queues) = let e = length-map queues f in omega (arith, room, e) in (
      first,
      mine.posted 0 r (omega arith),
      λ w below. subst (λ n. IsQueue book row_for (own media workers w (drop n keys)) (slice_index_or (map f (slice_set queues worker new)) w [])) one
          (subst (λ (l : List (List Receipt)). IsQueue book row_for (own media workers w later) (slice_index_or l w [])) (sym news)
          (elim (cases_eq w worker) as (λ _. IsQueue book row_for (own media workers w later) (slice_index_or (slice_set (map f queues) worker (f new)) w [])) [
            | inl same ↦
                subst (λ x. IsQueue book row_for (own media workers x later) (slice_index_or (slice_set (map f queues) worker (f new)) x [])) (sym same)
                (subst (IsQueue book row_for (own media workers worker later)) (sym (get_or-set_same (map f queues) worker (f new) [] there)) left)
            | inr other ↦
                let long : w < length (map f queues) =
                let a = ap length news in let b = length-set (map f queues) worker (f new) in omega (arith, below, a, b) in
                subst (IsQueue book row_for (own media workers w later)) (sym (get_or-set_other (map f queues) worker w (f new) [] other))
                (subst (λ (l : List FlowKey). IsQueue book row_for l (slice_index_or (map f queues) w []))
                (own-other media workers w k later (λ e. other (sym e ∙ sym here)))
                (subst (λ (l : List FlowKey). IsQueue book row_for (own media workers w l) (slice_index_or (map f queues) w [])) (front_key keys i k d m key)
                (queued w long)))
          ])),
    )

-- a row more
pub row_more : (row_for : FlowKey → Row) (keys : List FlowKey) (i : ℕ) (k d : FlowKey) (olds news : List Row) (row copy : Row) → i < length keys
    → k ≡ slice_index_or keys i d
    → olds ≡ map row_for (take i keys) → row ≡ row_for k → copy ≡ row → news ≡ olds ++ copy ∷ [] → news ≡ map row_for (take (i + 1) keys)
row_more row_for keys i k d olds news row copy m key before is same now =
    let one : suc i ≡ i + 1 = omega arith in
    now ∙ ap₂ (λ (l : List Row) (r : Row). l ++ r ∷ []) before (same ∙ is ∙ ap row_for key)
    ∙ sym (map-append row_for (take i keys) (slice_index_or keys i d ∷ []))
    ∙ ap (map row_for) (sym (take-suc keys i d m)) ∙ ap (λ n. map row_for (take n keys)) one
