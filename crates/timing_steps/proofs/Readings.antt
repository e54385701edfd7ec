-- Captures that are read one after the other, up to the first that can't be.
use Rattle.std.proofs.Common.{◌≡◌, ◌≤◌, ◌+◌, ℕ, List, [], ◌∷◌, ◌++◌, length, Option, Some, refl, arith, ap, ◌∙◌, sym, subst, append_assoc, append-nil}
use Rattle.std.proofs.Common.{length-append}
use Rattle.std.specs.Prelude.{All, IfOk, IfErr, Result, Ok, Err, slice_index_or}
use Rattle.std.proofs.lemmas.List.Elements.{All-cons, All-nil, All-tail}
use Rattle.timing_outside.specs.Causes.{Rose}
use Rattle.timing_report.specs.declared.status.Input.{Input}
use Rattle.timing_report.specs.declared.status.Input.TheVariants.{Capture}
use Rattle.timing_steps.specs.Answers.{AreTold, CaptureRose, OnReadFault}
use Rattle.timing_steps.specs.Fetched.{AreFetched, Reading}
use Rattle.timing_steps.specs.declared.failure.Failure.{Failure}
use Rattle.timing_steps.specs.declared.failure.Failure.TheVariants as failure

-- of a read fault, what follows from what holds of it
pub on-map : (e : Failure) (P Q : Input → Type 0) → ((i : Input) → P i → Q i) → OnReadFault e P → OnReadFault e Q
on-map (failure.ReadFault i) P Q h p = h i p
on-map failure.WriteFault P Q h p = absurd p
on-map failure.OutOfMemory P Q h p = tt

-- of a value, what follows from what holds of it
pub if_ok-map : {T E : Type 0} (r : Result T E) (P Q : T → Type 0) → ((v : T) → P v → Q v) → IfOk r P → IfOk r Q
if_ok-map (Ok v) P Q h p = h v p
if_ok-map (Err e) P Q h p = p

-- of a value that is known
pub if_ok-at : {T E : Type 0} (r : Result T E) (v : T) (P : T → Type 0) → r ≡ Ok v → IfOk r P → P v
if_ok-at r v P is h = subst (λ x. IfOk x P) is h

rose-later : (a b c : ℕ) → b ≤ c → Rose a b → Rose a c
rose-later a b c h r = omega (arith, h, r)

rose-from : (a b c : ℕ) → a ≤ b → Rose b c → Rose a c
rose-from a b c h r = omega (arith, h, r)

-- a count that rose has risen since
capture-later : (before mid now : List ℕ → ℕ) (names : List (List ℕ)) → ((n : List ℕ) → mid n ≤ now n) → (i : Input) → (number : ℕ) × (i ≡ Capture number)
    × CaptureRose before mid names number
    → (number : ℕ) × (i ≡ Capture number) × CaptureRose before now names number
capture-later before mid now names later i h = (h.0, h.1, record { within = h.2.within; rose = rose-later _ _ _ (later _) h.2.rose })

place-of : (done : List (List ℕ)) (n : List ℕ) (ns : List (List ℕ)) → slice_index_or (done ++ n ∷ ns) (length done) [] ≡ n
place-of [] n ns = refl
place-of (d ∷ ds) n ns = place-of ds n ns

-- names that are told, the last apart
record ToldLast (texts : List ℕ → Option (List ℕ)) (names : List (List ℕ)) (n : List ℕ) (read : List (List ℕ)) : Type 0 where
  first : List (List ℕ)
  text : List ℕ
  whole : read ≡ first ++ text ∷ []
  told : AreTold texts names first
  last : texts n ≡ Some text

told-last : (texts : List ℕ → Option (List ℕ)) (names : List (List ℕ)) (n : List ℕ) (read : List (List ℕ)) → AreTold texts (names ++ n ∷ []) read
    → ToldLast texts names n read
told-last texts [] n [] h = absurd h
told-last texts [] n (t ∷ []) h = record { first = []; text = t; whole = refl; told = tt; last = h.0 }
told-last texts [] n (t ∷ u ∷ us) h = absurd h.1
told-last texts (m ∷ ms) n [] h = absurd h
told-last texts (m ∷ ms) n (t ∷ ts) h =
    let r = told-last texts ms n ts h.1 in
    record { first = t ∷ r.first; text = r.text; whole = ap (λ l. t ∷ l) r.whole; told = (h.0, r.told); last = r.last }

-- no capture was read yet
pub reading-none : {S : Type 0} (name : S → List ℕ) (left : S → Option (List ℕ)) (faults : S → ℕ) (texts : List ℕ → Option (List ℕ)) (before : List ℕ → ℕ)
    (names : List (List ℕ))
    (sources : List S) (Found : List (List ℕ) → Type 0) → AreFetched name left faults texts names sources → Found []
    → Reading name left faults texts before before names sources (Ok tt) 0 Found
reading-none name left faults texts before names sources Found h none = record {
  done = [];
  ahead = names;
  whole = refl;
  fetched = h;
  count = refl;
  told = λ read told. none-told texts read told Found none;
  cause = tt;
}
  where
    none-told : (texts : List ℕ → Option (List ℕ)) (read : List (List ℕ)) → AreTold texts [] read → (Found : List (List ℕ) → Type 0) → Found [] → Found read
    none-told texts [] h Found none = none
    none-told texts (t ∷ ts) h Found none = absurd h

-- the name of the next source, and the others
record Next {S : Type 0} (name : S → List ℕ) (left : S → Option (List ℕ)) (faults : S → ℕ) (texts : List ℕ → Option (List ℕ)) (ahead : List (List ℕ)) (s : S)
    (rest : List S) : Type 0 where
  first : List ℕ
  others : List (List ℕ)
  whole : ahead ≡ first ∷ others
  named : name s ≡ first
  told : left s ≡ texts first
  fetched : AreFetched name left faults texts others rest

next-of : {S : Type 0} (name : S → List ℕ) (left : S → Option (List ℕ)) (faults : S → ℕ) (texts : List ℕ → Option (List ℕ)) (ahead : List (List ℕ)) (s : S)
    (rest : List S)
    → AreFetched name left faults texts ahead (s ∷ rest) → Next name left faults texts ahead s rest
next-of name left faults texts [] s rest h = absurd h
next-of name left faults texts (n ∷ ns) s rest h = record { first = n; others = ns; whole = refl; named = h.0; told = h.1; fetched = h.3 }

-- the next capture is done, whatever comes of it
reading-moved : {S : Type 0} (name : S → List ℕ) (left : S → Option (List ℕ)) (faults : S → ℕ) (texts : List ℕ → Option (List ℕ))
    (before mid now : List ℕ → ℕ) (names : List (List ℕ))
    (s : S) (rest : List S) (was outcome : Result (Unit {0}) Failure) (number next_number : ℕ) (Found Read : List (List ℕ) → Type 0)
    → (h : Reading name left faults texts before mid names (s ∷ rest) was number Found) → (next : Next name left faults texts h.ahead s rest)
    → IfOk outcome (λ _. next_number ≡ length (h.done ++ next.first ∷ []))
    → IfOk outcome (λ _. (read : List (List ℕ)) → AreTold texts (h.done ++ next.first ∷ []) read → Read read)
    → IfErr outcome (λ e. OnReadFault e (λ i. (number : ℕ) × (i ≡ Capture number) × CaptureRose before now names number))
    → Reading name left faults texts before now names rest outcome next_number Read
reading-moved name left faults texts before mid now names s rest was outcome number next_number Found Read h next count told cause = record {
  done = h.done ++ next.first ∷ [];
  ahead = next.others;
  whole = h.whole ∙ ap (λ l. h.done ++ l) next.whole ∙ sym (append_assoc h.done (next.first ∷ []) next.others);
  fetched = next.fetched;
  count = count;
  told = told;
  cause = cause;
}

-- the next capture is read, where those before it were
pub reading-next : {S : Type 0} (name : S → List ℕ) (left : S → Option (List ℕ)) (faults : S → ℕ) (texts : List ℕ → Option (List ℕ))
    (before mid now : List ℕ → ℕ) (names : List (List ℕ))
    (s : S) (rest : List S) (outcome : Result (Unit {0}) Failure) (number next_number : ℕ) (Found Read : List (List ℕ) → Type 0)
    → Reading name left faults texts before mid names (s ∷ rest) (Ok tt) number Found
    → ((n : List ℕ) → before n ≤ mid n)
    → IfOk outcome (λ _. (read : List (List ℕ)) (text : List ℕ) → left s ≡ Some text → Found read → Read (read ++ text ∷ []))
    → IfOk outcome (λ _. next_number ≡ number + 1)
    → IfErr outcome (λ e. OnReadFault e (λ i. (i ≡ Capture number) × Rose (mid (name s)) (now (name s))))
    → Reading name left faults texts before now names rest outcome next_number Read
reading-next name left faults texts before mid now names s rest (Ok u) number next_number Found Read h later found count cause =
    let next = next-of name left faults texts h.ahead s rest h.fetched in
    reading-moved name left faults texts before mid now names s rest (Ok tt) (Ok u) number next_number Found Read h next
    (omega (arith, count, h.count, length-append h.done (next.first ∷ [])))
    (λ read told.
    let last = told-last texts h.done next.first read told in
    subst Read (sym last.whole) (found last.first last.text (next.told ∙ last.last) (h.told last.first last.told)))
    tt
reading-next name left faults texts before mid now names s rest (Err e) number next_number Found Read h later found count cause =
    let next = next-of name left faults texts h.ahead s rest h.fetched in
    let all : names ≡ h.done ++ next.first ∷ next.others = h.whole ∙ ap (λ l. h.done ++ l) next.whole in
    let place : slice_index_or names number [] ≡ next.first =
    ap (λ l. slice_index_or l number []) all ∙ ap (λ k. slice_index_or (h.done ++ next.first ∷ next.others) k []) h.count ∙ place-of h.done next.first
    next.others in
    reading-moved name left faults texts before mid now names s rest (Ok tt) (Err e) number next_number Found Read h next tt tt
    (on-map e _ (λ i. (number : ℕ) × (i ≡ Capture number) × CaptureRose before now names number) (λ i c. (
      number,
      c.0,
      record {
        within = let long : length names ≡ length h.done + length (next.first ∷ next.others) = ap length all ∙ length-append h.done (next.first ∷ next.others)
            in omega (arith, long, h.count);
        rose = subst (λ n. Rose (before n) (now n)) (next.named ∙ sym place) (rose-from (before (name s)) (mid (name s)) (now (name s)) (later (name s)) c.1);
      },
    )) cause)

-- the next capture is passed over, where one before it couldn't be read
pub reading-stopped : {S : Type 0} (name : S → List ℕ) (left : S → Option (List ℕ)) (faults : S → ℕ) (texts : List ℕ → Option (List ℕ))
    (before mid now : List ℕ → ℕ) (names : List (List ℕ))
    (s : S) (rest : List S) (number : ℕ) (Found : List (List ℕ) → Type 0) (e : Failure)
    → Reading name left faults texts before mid names (s ∷ rest) (Err e) number Found → ((n : List ℕ) → mid n ≤ now n)
    → Reading name left faults texts before now names rest (Err e) number Found
reading-stopped name left faults texts before mid now names s rest number Found e h later =
    reading-moved name left faults texts before mid now names s rest (Err e) (Err e) number number Found Found h
    (next-of name left faults texts h.ahead s rest h.fetched) tt tt (on-map e _ _ (capture-later before mid now names later) h.cause)

-- all were read
pub reading-all : {S : Type 0} (name : S → List ℕ) (left : S → Option (List ℕ)) (faults : S → ℕ) (texts : List ℕ → Option (List ℕ)) (before now : List ℕ → ℕ)
    (names read : List (List ℕ))
    (rest : List S) (number : ℕ) (Found : List (List ℕ) → Type 0) → Reading name left faults texts before now names rest (Ok tt) number Found → rest ≡ []
    → AreTold texts names read → Found read
reading-all name left faults texts before now names read rest number Found h none told =
    let empty : h.ahead ≡ [] = none-ahead h.ahead (subst (AreFetched name left faults texts h.ahead) none h.fetched) in
    h.told read (subst (λ l. AreTold texts l read) (h.whole ∙ ap (λ l. h.done ++ l) empty ∙ append-nil h.done) told)
  where
    none-ahead : (ahead : List (List ℕ)) → AreFetched name left faults texts ahead [] → ahead ≡ []
    none-ahead [] f = refl
    none-ahead (n ∷ ns) f = absurd f

-- the same at the code's values

pub reading-start : {S : Type 0} (name : S → List ℕ) (left : S → Option (List ℕ)) (faults : S → ℕ) (texts : List ℕ → Option (List ℕ)) (before : List ℕ → ℕ)
    (names : List (List ℕ))
    (sources rest : List S) (number : ℕ) (Found : List (List ℕ) → Type 0) → rest ≡ sources → number ≡ 0 → Found []
    → AreFetched name left faults texts names sources
    → Reading name left faults texts before before names rest (Ok tt) number Found
reading-start name left faults texts before names sources rest number Found same first none h =
    subst (λ l. Reading name left faults texts before before names l (Ok tt) number Found) (sym same)
    (subst (λ k. Reading name left faults texts before before names sources (Ok tt) k Found) (sym first)
    (reading-none name left faults texts before names sources Found h none))

pub reading-at : {S : Type 0} (name : S → List ℕ) (left : S → Option (List ℕ)) (faults : S → ℕ) (texts : List ℕ → Option (List ℕ)) (before now : List ℕ → ℕ)
    (names : List (List ℕ))
    (all some : List S) (outcome is : Result (Unit {0}) Failure) (number : ℕ) (Found : List (List ℕ) → Type 0) → all ≡ some → outcome ≡ is
    → Reading name left faults texts before now names all outcome number Found → Reading name left faults texts before now names some is number Found
reading-at name left faults texts before now names all some outcome is number Found same known h =
    subst (λ l. Reading name left faults texts before now names l is number Found) same
    (subst (λ o. Reading name left faults texts before now names all o number Found) known h)

-- what holds of all holds of the others
pub fresh-tail : {S : Type 0} (P : S → Type 0) (all : List S) (s : S) (rest : List S) → all ≡ s ∷ rest → All P all → All P rest
fresh-tail P all s rest e h = All-tail P s rest (subst (All P) e h)

pub none-left : {S : Type 0} (xs : List S) → length xs ≡ 0 → xs ≡ []
none-left [] e = refl
none-left (x ∷ xs) e = absurd (omega (arith, e))

-- fetched sources have had no fault
pub fetched-fresh : {S : Type 0} (name : S → List ℕ) (left : S → Option (List ℕ)) (faults : S → ℕ) (texts : List ℕ → Option (List ℕ)) (names : List (List ℕ))
    (sources : List S)
    → AreFetched name left faults texts names sources → All (λ s. faults s ≡ 0) sources
fetched-fresh name left faults texts [] [] h = All-nil (λ s. faults s ≡ 0)
fetched-fresh name left faults texts [] (s ∷ ss) h = absurd h
fetched-fresh name left faults texts (n ∷ ns) [] h = absurd h
fetched-fresh name left faults texts (n ∷ ns) (s ∷ ss) h = All-cons (λ s. faults s ≡ 0) s ss h.2 (fetched-fresh name left faults texts ns ss h.3)

-- and are as many as their names
pub fetched-length : {S : Type 0} (name : S → List ℕ) (left : S → Option (List ℕ)) (faults : S → ℕ) (texts : List ℕ → Option (List ℕ)) (names : List (List ℕ))
    (sources : List S)
    → AreFetched name left faults texts names sources → length sources ≡ length names
fetched-length name left faults texts [] [] h = refl
fetched-length name left faults texts [] (s ∷ ss) h = absurd h
fetched-length name left faults texts (n ∷ ns) [] h = absurd h
fetched-length name left faults texts (n ∷ ns) (s ∷ ss) h = omega (arith, fetched-length name left faults texts ns ss h.3)
