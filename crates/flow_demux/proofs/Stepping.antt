-- Items that go on by a step, one after the other, and items that have all gone on.
use Rattle.std.proofs.Common.{◌≡◌, ◌≤◌, ◌<◌, ℕ, zero, suc, List, [], ◌∷◌, length, get_or, set, sym, ap, subst, arith}
use Rattle.std.specs.Prelude.{All}
use Rattle.std.specs.List.{AllZip}
use Rattle.std.proofs.lemmas.List.Elements.{All-cons, All-head, All-nil, All-same, All-tail}
use Rattle.flow_demux.specs.Steps.{StepUpTo}

-- an item that hasn't come yet is as it was
pub untouched : {X : Type 0} (Step : X → X → Type 0) (i : ℕ) (olds news : List X) (d : X) → i < length olds → StepUpTo Step i olds news
    → get_or news i d ≡ get_or olds i d
untouched Step i [] news d within h = absurd (omega arith)
untouched {X} Step zero (o ∷ os) news d within h = ap (λ (l : List X). get_or l 0 d) h
untouched Step (suc i) (o ∷ os) [] d within h = absurd h
untouched Step (suc i) (o ∷ os) (n ∷ ns) d within h = untouched Step i os ns d (omega arith) h.1

-- one item more goes on
pub step-more : {X : Type 0} (Step : X → X → Type 0) (i : ℕ) (olds news : List X) (d new : X) → i < length olds → StepUpTo Step i olds news
    → Step (get_or news i d) new
    → StepUpTo Step (suc i) olds (set news i new)
step-more Step i [] news d new within h step = absurd (omega arith)
step-more Step zero (o ∷ os) [] d new within h step = cc
step-more {X} Step zero (o ∷ os) (n ∷ ns) d new within h step =
    let same : n ≡ o = cc in
    let rest : ns ≡ os = cc in
    (subst (λ (x : X). Step x new) same step, rest)
step-more Step (suc i) (o ∷ os) [] d new within h step = absurd h
step-more Step (suc i) (o ∷ os) (n ∷ ns) d new within h step = (h.0, step-more Step i os ns d new (omega arith) h.1 step)

-- all items have gone on
pub step-all : {X : Type 0} (Step : X → X → Type 0) (i : ℕ) (olds news : List X) → length olds ≤ i → StepUpTo Step i olds news → AllZip Step olds news
step-all {X} Step zero [] news all h = subst (λ (l : List X). AllZip Step [] l) (sym h) tt
step-all Step zero (o ∷ os) news all h = absurd (omega arith)
step-all {X} Step (suc i) [] news all h = subst (λ (l : List X). AllZip Step [] l) (sym h) tt
step-all Step (suc i) (o ∷ os) [] all h = absurd h
step-all Step (suc i) (o ∷ os) (n ∷ ns) all h = (h.0, step-all Step i os ns (omega arith) h.1)

-- what holds of each before holds of each then, where a step keeps it
pub step-each : {X : Type 0} (Step : X → X → Type 0) (P : X → Type 0) (i : ℕ) (olds news : List X) → ((o n : X) → Step o n → P o → P n)
    → StepUpTo Step i olds news → All P olds → All P news
step-each Step P zero olds news keeps h all = All-same P news olds h all
step-each Step P (suc i) [] news keeps h all = All-same P news [] h (All-nil P)
step-each Step P (suc i) (o ∷ os) [] keeps h all = absurd h
step-each Step P (suc i) (o ∷ os) (n ∷ ns) keeps h all =
    All-cons P n ns (keeps o n h.0 (All-head P o os all)) (step-each Step P i os ns keeps h.1 (All-tail P o os all))

-- what follows from a step
pub zip-then : {X : Type 0} (R S : X → X → Type 0) (olds news : List X) → ((o n : X) → R o n → S o n) → AllZip R olds news → AllZip S olds news
zip-then R S [] [] then h = tt
zip-then R S [] (n ∷ ns) then h = absurd h
zip-then R S (o ∷ os) [] then h = absurd h
zip-then R S (o ∷ os) (n ∷ ns) then h = (then o n h.0, zip-then R S os ns then h.1)

pub zip-each : {X : Type 0} (R : X → X → Type 0) (P Q : X → Type 0) (olds news : List X) → ((o n : X) → R o n → P o → Q n) → AllZip R olds news
    → All P olds
    → All Q news
zip-each R P Q [] [] then h all = All-nil Q
zip-each R P Q [] (n ∷ ns) then h all = absurd h
zip-each R P Q (o ∷ os) [] then h all = absurd h
zip-each R P Q (o ∷ os) (n ∷ ns) then h all =
    All-cons Q n ns (then o n h.0 (All-head P o os all)) (zip-each R P Q os ns then h.1 (All-tail P o os all))
