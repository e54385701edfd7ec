-- What a step does to the values of passes, and what a closed lane tells of them.
use Rattle.std.proofs.Common.{◌≡◌, ◌≤◌, ◌<◌, ◌+◌, ◌≢◌, ℕ, zero, suc, List, [], ◌∷◌, ◌++◌, length, map, take, sum_by, slice_index_or, slice_set, sym, refl, ap}
use Rattle.std.proofs.Common.{◌∙◌, subst, inl, inr, arith, take_all, append-nil, length-append, length-set}
use Rattle.std.proofs.lemmas.Bool.{cases_lt}
use Rattle.std.proofs.lemmas.Bool.Decides.{eqb_tells}
use Rattle.std.proofs.lemmas.List.{get_or-set_other, get_or-set_same, get_or_append_left, get_or_past, length-map, map-append}
use Rattle.std.proofs.lemmas.List.Sums.{sum_by_more, sum_by-append}
use Rattle.std.proofs.Math.Seq.{get_or-append_seam}
use Rattle.ruled_intake.specs.declared.message.Message.{Message}
use Rattle.ruled_intake.specs.declared.rule.Entry.{Entry}
use Rattle.ruled_intake.specs.declared.rule.View.{View}
use Rattle.ruled_intake.specs.declared.rule.View.TheVariants.{Sends, Takes}
use Rattle.ruled_intake.specs.Knows.{got_by, made_by, put_by}
use Rattle.ruled_intake.specs.Lanes.{AreSenders, IsPrefix, IsSender, LaneId, Sender, Taker, all_sent, entry, messages, of, sent_of}
use Rattle.ruled_intake.specs.Rule.{HasCompared, HasGot}
use Rattle.ruled_intake.proofs.Counts.{below, below-same, length-messages, length-weight, of-append, weight-spread}

-- the taker's pass with this view
abbrev pub taker_of : LaneId → View → Taker
taker_of lane v = record { lane = lane; senders = made_by v; taken = got_by v }

-- after a take the taken list has one entry more, and nothing else changed
pub taken_more : (lane : LaneId) (t : Taker) (old new : View) (e : Entry) → lane ≡ t.lane → taker_of t.lane old ≡ t → old ≡ Takes (got_by old) (made_by old) []
    → HasGot old e new
    → taker_of lane new ≡ record { lane = t.lane; senders = t.senders; taken = t.taken ++ entry e.from e.message ∷ [] }
taken_more lane t old new e same is view_is got =
    let new_is = (subst (λ v. HasGot v e new) view_is got).0 in
    let senders : made_by new ≡ t.senders = ap made_by new_is ∙ ap (λ (u : Taker). u.senders) is in
    let taken : got_by new ≡ t.taken ++ e ∷ [] = ap got_by new_is ∙ ap (λ (u : Taker). u.taken ++ e ∷ []) is in
    λ i. record { lane = same i; senders = senders i; taken = taken i }

-- an empty list more leaves all lists empty
none_more : (sent : List (List Message)) → ((f : ℕ) → slice_index_or sent f [] ≡ []) → (f : ℕ) → slice_index_or (sent ++ [] ∷ []) f [] ≡ []
none_more [] none zero = refl
none_more [] none (suc f) = refl
none_more (s ∷ ss) none zero = none 0
none_more (s ∷ ss) none (suc f) = none_more ss (λ g. none (suc g)) f

-- a sender more, which has sent nothing
pub senders_more : (lane : LaneId) (old new : List Sender) (n : ℕ) (at : LaneId) (v : View) → length old ≡ n → AreSenders lane old
    → ((f : ℕ) → sent_of old f ≡ [])
    → at ≡ lane → v ≡ Sends n [] → new ≡ old ++ record { lane = at; from = n; sent = put_by v } ∷ []
    → (length new ≡ n + 1) × AreSenders lane new × ((f : ℕ) → sent_of new f ≡ [])
senders_more lane old new n at v long each none here view_is is =
    let s : Sender = record { lane = at; from = n; sent = put_by v } in
    let Now : List Sender → Type 0 = λ l. (length l ≡ n + 1) × AreSenders lane l × ((f : ℕ) → sent_of l f ≡ []) in
    let sent_is : all_sent (old ++ s ∷ []) ≡ all_sent old ++ [] ∷ [] = map-append (λ (u : Sender). u.sent) old (s ∷ []) ∙ ap (λ l. all_sent old ++ l ∷ [])
    (ap put_by view_is) in
    subst Now (sym is) (
      omega (arith, length-append old (s ∷ []), long),
      λ f d m. elim (cases_lt f (length old)) as (λ _. IsSender lane f (slice_index_or (old ++ s ∷ []) f d)) [
        | inl before ↦ subst (IsSender lane f) (sym (get_or_append_left old (s ∷ []) d f before)) (each f d before)
        | inr after ↦
            let last : f ≡ length old = omega (arith, after, m, length-append old (s ∷ [])) in
            subst (IsSender lane f) (sym (ap (λ k. slice_index_or (old ++ s ∷ []) k d) last ∙ get_or-append_seam old s [] d))
            (record { lane_is = here; from_is = sym long ∙ sym last })
      ],
      λ f. ap (λ l. slice_index_or l f []) sent_is ∙ none_more (all_sent old) none f,
    )

-- the next sender's lane and number
pub next_sender : (lane : LaneId) (all done rest later : List Sender) (s : Sender) → AreSenders lane all → all ≡ done ++ rest → rest ≡ s ∷ later
    → IsSender lane (length done) s
next_sender lane all done rest later s each whole is =
    let seam : all ≡ done ++ s ∷ later = whole ∙ ap (λ l. done ++ l) is in
    let early : length done < length all = omega (arith, ap length seam, length-append done (s ∷ later)) in
    subst (IsSender lane (length done)) (ap (λ l. slice_index_or l (length done) s) seam ∙ get_or-append_seam done s later s) (each (length done) s early)

-- what a closed lane tells, once each sender was taken in
pub closed : (senders : List Sender) (t : Taker) (v w : View) (items : List Entry) → made_by v ≡ t.senders → got_by v ≡ t.taken → w
    ≡ Takes (got_by v) (made_by v) (all_sent senders)
    → length senders ≡ t.senders → HasCompared w items → (f : ℕ) → of f (t.taken ++ items) ≡ sent_of senders f
closed senders t v w items made got view_is full told f =
    ap (λ l. of f (l ++ items)) (sym got) ∙ subst (λ u. HasCompared u items) view_is told (length-map senders (λ (s : Sender). s.sent) ∙ full ∙ sym made) f

-- of each sender, what was taken is the first part of what it sent
pub prefixes : (got items : List Entry) (senders : List Sender) → ((f : ℕ) → of f (got ++ items) ≡ sent_of senders f) → (f : ℕ)
    → IsPrefix (of f got) (sent_of senders f)
prefixes got items senders tells f = (of f items, sym (of-append f got items) ∙ tells f)

-- the lengths of the first lists, added up
below-lengths : (sent : List (List Message)) (n : ℕ) → n ≤ length sent → sum_by length (take n sent) ≡ below n (λ f. length (slice_index_or sent f []))
below-lengths sent zero m = refl
below-lengths sent (suc n) m =
    let one : suc n ≡ n + 1 = omega arith in
    ap (λ k. sum_by length (take k sent)) one ∙ sum_by_more length sent n [] (omega (arith, m)) ∙ ap (λ k. k + length (slice_index_or sent n []))
    (below-lengths sent n (omega (arith, m)))

no_items : (items : List Entry) → length items ≡ 0 → items ≡ []
no_items [] e = refl
no_items (x ∷ xs) e = absurd (omega (arith, e))

-- where the messages of each sender are what it sent, all are as many as all senders sent
pub all_sent_is_all : (entries : List Entry) (senders : List Sender) → ((f : ℕ) → of f entries ≡ sent_of senders f) → length entries
    ≡ sum_by length (all_sent senders)
all_sent_is_all entries senders tells =
    let sent : List (List Message) = all_sent senders in
    let n : ℕ = length sent in
    let weight : length (messages entries) ≡ below n (λ p. length (slice_index_or sent p [])) =
    length-weight (messages entries) ∙ weight-spread (λ _. 1) n entries (λ p m. tells p ∙ get_or_past sent p [] m)
    ∙ below-same n (λ p. sum_by (λ (_ : Message). 1) (of p entries)) (λ p. length (slice_index_or sent p []))
    (λ p _. sym (length-weight (of p entries)) ∙ ap length (tells p)) in
    let whole : sum_by length sent ≡ below n (λ p. length (slice_index_or sent p [])) = ap (sum_by length) (sym (take_all n sent (omega arith))) ∙ below-lengths
    sent n (omega arith) in
    sym (length-messages entries) ∙ weight ∙ sym whole

-- where as many were taken as were sent, all was taken
pub all_taken : (got items : List Entry) (senders : List Sender) → ((f : ℕ) → of f (got ++ items) ≡ sent_of senders f) → sum_by length (all_sent senders)
    ≡ length got
    → (f : ℕ) → of f got ≡ sent_of senders f
all_taken got items senders tells same f =
    let none : items ≡ [] = no_items items (omega (arith, all_sent_is_all (got ++ items) senders tells, same, length-append got items)) in
    ap (of f) (sym (append-nil got)) ∙ ap (λ l. of f (got ++ l)) (sym none) ∙ tells f

-- a pass of the same sender may stand in the place of one
pub senders_set : (lane : LaneId) (senders : List Sender) (f : ℕ) (s : Sender) → AreSenders lane senders → IsSender lane f s
    → AreSenders lane (slice_set senders f s)
senders_set lane senders f s each own g d m =
    let within : g < length senders = omega (arith, m, length-set senders f s) in
    elim (eqb_tells g f) as (λ _. IsSender lane g (slice_index_or (slice_set senders f s) g d)) [
      | inl here ↦ subst (λ k. IsSender lane k (slice_index_or (slice_set senders f s) k d)) (sym here.1)
          (subst (IsSender lane f) (sym (get_or-set_same senders f s d (omega (arith, within, here.1)))) own)
      | inr there ↦ subst (IsSender lane g) (sym (get_or-set_other senders f g s d there.1)) (each g d within)
    ]
