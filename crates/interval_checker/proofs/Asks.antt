-- What is asked of the runs of a flow, and what is kept for it, one packet on and one run on.
use Rattle.std.proofs.Common.{◌≡◌, ◌≢◌, ◌<◌, ◌+◌, ◌-◌, ℕ, zero, suc, Bool, true, false, List, [], ◌∷◌, ◌++◌, length, refl, ap, sym, ◌∙◌, subst}
use Rattle.std.proofs.Common.{arith, inl, inr}
use Rattle.std.specs.Prelude.{Option, Some, None, Result, Ok, Err, OnOk, OnErr, IsSome, cond, option_map, nat_eq, ◌==◌, ◌&&◌}
use Rattle.std.specs.HashMap as hash
use Rattle.std.specs.HashMap.{HashMap}
use Rattle.std.proofs.lemmas.Bool.{cases_lt}
use Rattle.std.proofs.lemmas.Bool.Decides.{nat_tests}
use Rattle.timing_base.specs.Shifts.{Shift}
use Rattle.timing_base.specs.Judged.{RunOutcome, no_whole_frame, whole_frames}
use Rattle.timing_base.specs.declared.fail.FailProof.{FailProof}
use Rattle.interval_checker.specs.Asking.{AreEnded, AreKept, AsksNoLess, EndsAs, EndsAt, IsAsked, ending_of, if_asked, stamp_of}
use Rattle.interval_checker.specs.declared.asked.Asked.{Asked}
use Rattle.interval_checker.specs.declared.ending.Ending.{Ending}

differ : (false ≡ true) → ⊥
differ e = cc

-- an option is not both
pub none-some : {A : Type 0} (o : Option A) → o ≡ None → IsSome o → ⊥
none-some None e s = differ s
none-some (Some x) e s = cc

-- what was kept or came now was asked
asked-before : {A : Type 0} (b : Bool) (now : A) (o n : Option A) → n ≡ if_asked b now o → IsSome n → IsSome o
asked-before b now None n e s = absurd (none-some n e s)
asked-before b now (Some x) n e s = refl

asked-after : {A : Type 0} (b : Bool) (now : A) (o n : Option A) → n ≡ if_asked b now o → IsSome o → IsSome n
asked-after b now None n e s = absurd (differ s)
asked-after true now (Some x) n e s = subst IsSome (sym e) refl
asked-after false now (Some x) n e s = subst IsSome (sym e) refl

-- it is kept where it comes
asked-here : {A : Type 0} (b : Bool) (now : A) (o n : Option A) → b ≡ true → n ≡ if_asked b now o → IsSome o → n ≡ Some now
asked-here b now None n t e s = absurd (differ s)
asked-here true now (Some x) n t e s = e
asked-here false now (Some x) n t e s = cc

-- and elsewhere nothing changes
asked-other : {A : Type 0} (b : Bool) (now : A) (o n : Option A) → b ≡ false → n ≡ if_asked b now o → n ≡ o
asked-other b now None n f e = e
asked-other true now (Some x) n f e = cc
asked-other false now (Some x) n f e = e

-- a value that is put at a key stands there
put-here : {V : Type 0} (b : Bool) (value : V) (view : V → ℕ) (o n : Option V) → n ≡ cond b (Some value) o → (b ≡ true → IsSome o)
    → option_map view n ≡ if_asked b (view value) (option_map view o)
put-here true value view None n e here = absurd (differ (here refl))
put-here true value view (Some x) n e here = ap (option_map view) e
put-here false value view None n e here = ap (option_map view) e
put-here false value view (Some x) n e here = ap (option_map view) e

same-first : (a b x y : ℕ) → (a == b && x == y) ≡ true → a ≡ b
same-first a b x y e = grind (arith, nat_tests)

same-second : (a b x y : ℕ) → (a == b && x == y) ≡ true → x ≡ y
same-second a b x y e = grind (arith, nat_tests)

-- the value at a pair
abbrev at_pair : {V S : Type 0} → HashMap (ℕ × ℕ) V S → ℕ → ℕ → Option V
at_pair m a b = hash.get (λ x y. nat_eq x.0 y.0 && nat_eq x.1 y.1) m (a, b)

-- at a key that was there
pub put-asked : {T E V S : Type 0} (result : Result T E) (run place r p : ℕ) (value : V) (view : V → ℕ) (old new : HashMap (ℕ × ℕ) V S)
    → OnOk result (hash.Updates (λ x y. nat_eq x.0 y.0 && nat_eq x.1 y.1) old new (run, place) (Some value))
    → OnErr result (at_pair old run place ≡ None) → IsSome (at_pair old run place)
    → option_map view (at_pair new r p) ≡ if_asked (run == r && place == p) (view value) (option_map view (at_pair old r p))
put-asked (Ok x) run place r p value view old new updates absent there =
    put-here (run == r && place == p) value view (at_pair old r p) (at_pair new r p) (updates.0 (r, p))
    (λ t. subst (λ (y : ℕ). IsSome (at_pair old r y)) (same-second run r place p t)
    (subst (λ (y : ℕ). IsSome (at_pair old y place)) (same-first run r place p t) there))
put-asked (Err x) run place r p value view old new updates absent there = absurd (none-some (at_pair old run place) absent there)

put-stays : {V : Type 0} (b : Bool) (value : V) (view : V → ℕ) (o n : Option V) → n ≡ cond b (Some value) o → IsSome (option_map view o)
    → IsSome (option_map view n)
put-stays true value view o n e s = subst (λ (x : Option _). IsSome (option_map view x)) (sym e) refl
put-stays false value view o n e s = subst (λ (x : Option _). IsSome (option_map view x)) (sym e) s

-- at any key
pub put-no_less : {T E V S : Type 0} (result : Result T E) (run place r p : ℕ) (value : V) (view : V → ℕ) (old new : HashMap (ℕ × ℕ) V S)
    → OnOk result (hash.Updates (λ x y. nat_eq x.0 y.0 && nat_eq x.1 y.1) old new (run, place) (Some value))
    → OnErr result (at_pair new r p ≡ at_pair old r p)
    → IsSome (option_map view (at_pair old r p)) → IsSome (option_map view (at_pair new r p))
put-no_less (Ok x) run place r p value view old new updates same there =
    put-stays (run == r && place == p) value view (at_pair old r p) (at_pair new r p) (updates.0 (r, p)) there
put-no_less (Err x) run place r p value view old new updates same there =
    subst (λ (o : Option _). IsSome (option_map view o)) (sym same) there

-- nothing was forgotten
pub no_less-same : (a : Asked) → AsksNoLess a a
no_less-same a = record { stamps = λ r p s. s; endings = λ r s. s }

pub no_less-more : (a b c : Asked) → AsksNoLess a b → AsksNoLess b c → AsksNoLess a c
no_less-more a b c ab bc = record {
  stamps = λ r p s. bc.stamps r p (ab.stamps r p s);
  endings = λ r s. bc.endings r (ab.endings r s);
}

pub asked-no_less : (a b : Asked) (run : ℕ) (f : FailProof) → AsksNoLess a b → IsAsked a run f → IsAsked b run f
asked-no_less a b run f less is = record {
  ending = less.endings run is.ending;
  first = less.stamps run 0 is.first;
  from = less.stamps run f.from is.from;
  to = less.stamps run f.to is.to;
  last_counted = less.stamps run (f.count - 1) is.last_counted;
  behind = less.stamps run f.count is.behind;
}

-- a packet that comes
pub record Came (old new : Asked) (run place at : ℕ) : Type 0 where
  pub stamps : (r p : ℕ) → stamp_of new r p ≡ if_asked (run == r && place == p) at (stamp_of old r p)
  pub endings : (r : ℕ) → ending_of new r ≡ ending_of old r

-- a run that is over
pub record IsOver (old new : Asked) (run : ℕ) (e : Ending) : Type 0 where
  pub endings : (r : ℕ) → ending_of new r ≡ if_asked (run == r) e (ending_of old r)
  pub stamps : (r p : ℕ) → stamp_of new r p ≡ stamp_of old r p

pub came-no_less : (old new : Asked) (run place at : ℕ) → Came old new run place at → AsksNoLess old new
came-no_less old new run place at c = record {
  stamps = λ r p s. asked-after (run == r && place == p) at (stamp_of old r p) (stamp_of new r p) (c.stamps r p) s;
  endings = λ r s. subst IsSome (sym (c.endings r)) s;
}

pub over-no_less : (old new : Asked) (run : ℕ) (e : Ending) → IsOver old new run e → AsksNoLess old new
over-no_less old new run e c = record {
  stamps = λ r p s. subst IsSome (sym (c.stamps r p)) s;
  endings = λ r s. asked-after (run == r) e (ending_of old r) (ending_of new r) (c.endings r) s;
}

both-same : (a b : ℕ) → (a == a && b == b) ≡ true
both-same a b = grind (arith, nat_tests)

other-run : (a r x y : ℕ) → a ≢ r → (a == r && x == y) ≡ false
other-run a r x y ne = let e : (a == r) ≡ false = grind (arith, nat_tests) in rw e refl

other-place : (a r x y : ℕ) → x ≢ y → (a == r && x == y) ≡ false
other-place a r x y ne = let e : (x == y) ≡ false = grind (arith, nat_tests) in grind (arith, e)

-- the stamps of the run in which it comes
pub came-kept : (old new : Asked) (run count at : ℕ) (stamps : ℕ → ℕ) → Came old new run count at → stamps count ≡ at → AreKept old run stamps count
    → AreKept new run stamps (count + 1)
came-kept old new run count at stamps c here kept place low there =
    let before : IsSome (stamp_of old run place) =
    asked-before (run == run && count == place) at (stamp_of old run place) (stamp_of new run place) (c.stamps run place) there in
    elim (cases_lt place count) as (λ _. stamp_of new run place ≡ Some (stamps place)) [
      | inl less ↦
          let ne : count ≢ place = λ e. omega (arith, e, less) in
          asked-other (run == run && count == place) at (stamp_of old run place) (stamp_of new run place) (other-place run run count place ne)
          (c.stamps run place)
          ∙ kept place less before
      | inr same ↦
          let e : count ≡ place = omega (arith, same, low) in
          let t : (run == run && count == place) ≡ true = subst (λ (p : ℕ). (run == run && count == p) ≡ true) e (both-same run count) in
          asked-here (run == run && count == place) at (stamp_of old run place) (stamp_of new run place) t (c.stamps run place) before
          ∙ ap (λ (x : ℕ). Some x) (sym here ∙ ap stamps e)
    ]

-- nothing is kept of a run whose first marker has not come
pub kept-none : (a : Asked) (run count : ℕ) (stamps : ℕ → ℕ) → count ≡ 0 → AreKept a run stamps count
kept-none a run count stamps e place low there = absurd (omega (arith, low, e))

-- of two, those of one run are the same
pub record IsSameAt (old new : Asked) (run : ℕ) : Type 0 where
  pub stamps : (p : ℕ) → stamp_of new run p ≡ stamp_of old run p
  pub ending : ending_of new run ≡ ending_of old run

kept-same : (old new : Asked) (run count : ℕ) (stamps : ℕ → ℕ) → ((p : ℕ) → stamp_of new run p ≡ stamp_of old run p) → AreKept old run stamps count
    → AreKept new run stamps count
kept-same old new run count stamps same kept place low there = same place ∙ kept place low (subst IsSome (same place) there)

ends-same : (old new : Asked) (run : ℕ) (shift : Shift) (o : RunOutcome) (e : Ending) → ((p : ℕ) → stamp_of new run p ≡ stamp_of old run p)
    → EndsAs old run shift o e
    → EndsAs new run shift o e
ends-same old new run shift (no_whole_frame head) e same h = h
ends-same old new run shift (whole_frames j) e same h = (
  h.0,
  record {
    raw = h.1.raw;
    after = h.1.after;
    rising = h.1.rising;
    kept = kept-same old new run (length j.stamps) h.1.raw same h.1.kept;
  },
)

-- the runs that are over are kept as they were
pub ended-same : (old new : Asked) (shift : Shift) (run : ℕ) (os : List RunOutcome) → ((k : ℕ) → k < length os → IsSameAt old new (run + k))
    → AreEnded old shift run os
    → AreEnded new shift run os
ended-same old new shift run [] same h = tt
ended-same old new shift run (o ∷ os) same h =
    let here : IsSameAt old new run = subst (IsSameAt old new) (omega arith) (same 0 (omega arith)) in (
      λ e is. ends-same old new run shift o e here.stamps (h.0 e (sym here.ending ∙ is)),
      ended-same old new shift (suc run) os (λ k low. subst (IsSameAt old new) (omega arith) (same (suc k) (omega (arith, low)))) h.1,
    )

came-same : (old new : Asked) (run place at other : ℕ) → Came old new run place at → run ≢ other → IsSameAt old new other
came-same old new run place at other c ne = record {
  stamps = λ p. asked-other (run == other && place == p) at (stamp_of old other p) (stamp_of new other p) (other-run run other place p ne) (c.stamps other p);
  ending = c.endings other;
}

-- a packet of a later run
pub came-ended : (old new : Asked) (shift : Shift) (run place at : ℕ) (os : List RunOutcome) → Came old new run place at → length os ≡ run
    → AreEnded old shift 0 os
    → AreEnded new shift 0 os
came-ended old new shift run place at os c long h =
    ended-same old new shift 0 os (λ k low. came-same old new run place at (0 + k) c (λ e. omega (arith, e, low, long))) h

over-same : (old new : Asked) (run : ℕ) (e : Ending) (other : ℕ) → IsOver old new run e → run ≢ other → IsSameAt old new other
over-same old new run e other c ne =
    let apart : (run == other) ≡ false = grind (arith, nat_tests) in
    record {
      stamps = c.stamps other;
      ending = asked-other (run == other) e (ending_of old other) (ending_of new other) apart (c.endings other);
    }

ended-append : (a : Asked) (shift : Shift) (run : ℕ) (os : List RunOutcome) (o : RunOutcome) → AreEnded a shift run os
    → ((e : Ending) → ending_of a (run + length os) ≡ Some e → EndsAs a (run + length os) shift o e) → AreEnded a shift run (os ++ o ∷ [])
ended-append a shift run [] o h next =
    let same : run + 0 ≡ run = omega arith in
    (subst (λ (r : ℕ). (e : Ending) → ending_of a r ≡ Some e → EndsAs a r shift o e) same next, tt)
ended-append a shift run (x ∷ os) o h next =
    let far : run + length (x ∷ os) ≡ suc run + length os = omega arith in
    (h.0, ended-append a shift (suc run) os o h.1 (subst (λ (r : ℕ). (e : Ending) → ending_of a r ≡ Some e → EndsAs a r shift o e) far next))

some-asked : {A : Type 0} (b : Bool) (now got : A) (o n : Option A) → b ≡ true → n ≡ if_asked b now o → n ≡ Some got → now ≡ got
some-asked b now got None n t e is = cc
some-asked true now got (Some x) n t e is = cc
some-asked false now got (Some x) n t e is = cc

-- one run more is over
pub over-ended : (old new : Asked) (shift : Shift) (run : ℕ) (e : Ending) (os : List RunOutcome) (o : RunOutcome) → IsOver old new run e → length os ≡ run
    → EndsAs old run shift o e → AreEnded old shift 0 os → AreEnded new shift 0 (os ++ o ∷ [])
over-ended old new shift run e os o c long ends h =
    let before : AreEnded new shift 0 os =
    ended-same old new shift 0 os (λ k low. over-same old new run e (0 + k) c (λ (x : run ≡ 0 + k). omega (arith, x, low, long))) h in
    let here : (run == run) ≡ true = grind (arith, nat_tests) in
    let at : 0 + length os ≡ run = omega (arith, long) in
    ended-append new shift 0 os o before (subst (λ (r : ℕ). (x : Ending) → ending_of new r ≡ Some x → EndsAs new r shift o x) (sym at)
    (λ x is. subst (EndsAs new run shift o) (some-asked (run == run) e x (ending_of old run) (ending_of new run) here (c.endings run) is)
    (ends-same old new run shift o e (c.stamps run) ends)))

-- how a run ended that is over
pub ended-at : (a : Asked) (shift : Shift) (from run behind : ℕ) (os : List RunOutcome) (e : Ending) → run ≡ from + behind → behind < length os
    → ending_of a run ≡ Some e
    → AreEnded a shift from os
    → EndsAt a run shift os behind e
ended-at a shift from run behind [] e at low is h = absurd (omega (arith, low))
ended-at a shift from run zero (o ∷ os) e at low is h =
    let same : from ≡ run = omega (arith, at) in
    subst (λ (r : ℕ). (x : Ending) → ending_of a r ≡ Some x → EndsAs a r shift o x) same h.0 e is
ended-at a shift from run (suc behind) (o ∷ os) e at low is h = ended-at a shift (suc from) run behind os e (omega (arith, at)) (omega (arith, low)) is h.1

-- with one run more behind it
pub at-before : (a : Asked) (shift : Shift) (run behind : ℕ) (os : List RunOutcome) (o : RunOutcome) (e : Ending) → EndsAt a run shift os behind e
    → EndsAt a run shift (os ++ o ∷ []) behind e
at-before a shift run behind [] o e h = absurd h
at-before a shift run zero (x ∷ os) o e h = h
at-before a shift run (suc behind) (x ∷ os) o e h = at-before a shift run behind os o e h

-- the last run
pub at-last : (a : Asked) (shift : Shift) (run behind : ℕ) (os : List RunOutcome) (o : RunOutcome) (e : Ending) → length os ≡ behind → EndsAs a run shift o e
    → EndsAt a run shift (os ++ o ∷ []) behind e
at-last a shift run zero [] o e long h = h
at-last a shift run zero (x ∷ os) o e long h = absurd (omega (arith, long))
at-last a shift run (suc behind) [] o e long h = absurd (omega (arith, long))
at-last a shift run (suc behind) (x ∷ os) o e long h = at-last a shift run behind os o e (omega (arith, long)) h
