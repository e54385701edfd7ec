-- Captures of a shelf that are read one after the other, up to the first that can't be.
use Rattle.std.proofs.Common.{◌≡◌, ◌≤◌, ◌+◌, ℕ, List, [], ◌∷◌, ◌++◌, Some, refl}
use Rattle.std.specs.Prelude.{IfOk, IfErr, Result, Ok, Err}
use Rattle.timing_outside.specs.Causes.{Rose}
use Rattle.timing_outside.specs.declared.shelf.Shelf as shelf
use Rattle.timing_outside.specs.declared.source.Source as source
use Rattle.pcapng_reader.specs.Classic.{classic_texts}
use Rattle.pcapng_reader.specs.Sources.{faults_of, left_of, name_of}
use Rattle.pcapng_reader.specs.declared.source.Classic.{Classic}
use Rattle.timing_report.specs.declared.status.Input.TheVariants.{Capture}
use Rattle.timing_steps.specs.Answers.{AreTold, OnReadFault}
use Rattle.timing_steps.specs.Fetched.{AreFetched, Reading}
use Rattle.timing_steps.specs.declared.failure.Failure.{Failure}
use Rattle.timing_steps.proofs.Readings.{reading-all, reading-at, reading-next, reading-start, reading-stopped}

-- of all captures that were fetched so many were read since the shelf was `first`, and this holds of their texts; the
-- sources of the others are ahead. Or one couldn't be read
abbrev pub Goes : {H S : Type 0} → shelf.Ghosts H S → source.Ghosts S → (first now : H) → (all ahead : List (Classic S))
    → Result (Unit {0}) Failure → ℕ → (List (List ℕ) → Type 0) → Type 0
Goes tells from first now all ahead outcome number Found = (names : List (List ℕ))
    → AreFetched (name_of from.name) (left_of from.left) (faults_of from.faults) (classic_texts (tells.text first)) names all
    → Reading (name_of from.name) (left_of from.left) (faults_of from.faults) (classic_texts (tells.text first)) (tells.faults first) (tells.faults now) names
    ahead outcome number Found

module _ {H S : Type 0} (tells : shelf.Ghosts H S) (from : source.Ghosts S) where
  -- none was read yet
  pub goes-first : (first : H) (all ahead : List (Classic S)) (number : ℕ) (Found : List (List ℕ) → Type 0) → ahead ≡ all → number ≡ 0 → Found []
      → Goes tells from first first all ahead (Ok tt) number Found
  goes-first first all ahead number Found same zero none = λ names fetched.
      reading-start (name_of from.name) (left_of from.left) (faults_of from.faults) (classic_texts (tells.text first)) (tells.faults first) names all ahead
      number Found same zero none fetched

  -- the next one was read
  pub goes-on : (first mid now : H) (all ahead : List (Classic S)) (s : Classic S) (rest : List (Classic S)) (before outcome : Result (Unit {0}) Failure)
      (number next_number : ℕ) (Found Read : List (List ℕ) → Type 0) → ahead ≡ s ∷ rest → before ≡ Ok tt
      → ((n : List ℕ) → tells.faults first n ≤ tells.faults mid n)
      → IfOk outcome (λ _. (read : List (List ℕ)) (text : List ℕ) → left_of from.left s ≡ Some text → Found read → Read (read ++ text ∷ []))
      → IfOk outcome (λ _. next_number ≡ number + 1)
      → IfErr outcome (λ e. OnReadFault e (λ i. (i ≡ Capture number)
      × Rose (tells.faults mid (name_of from.name s)) (tells.faults now (name_of from.name s))))
      → Goes tells from first mid all ahead before number Found → Goes tells from first now all rest outcome next_number Read
  goes-on first mid now all ahead s rest before outcome number next_number Found Read next was later found count cause h = λ names fetched.
      reading-next (name_of from.name) (left_of from.left) (faults_of from.faults) (classic_texts (tells.text first)) (tells.faults first) (tells.faults mid)
      (tells.faults now) names s rest outcome number next_number Found Read
      (reading-at (name_of from.name) (left_of from.left) (faults_of from.faults) (classic_texts (tells.text first)) (tells.faults first) (tells.faults mid)
      names ahead (s ∷ rest) before (Ok tt) number Found next was (h names fetched))
      later found count cause

  -- the next one is passed over, where one before it couldn't be read
  pub goes-past : (first mid now : H) (all ahead : List (Classic S)) (s : Classic S) (rest : List (Classic S)) (before : Result (Unit {0}) Failure)
      (e : Failure) (number : ℕ) (Found : List (List ℕ) → Type 0) → ahead ≡ s ∷ rest → before ≡ Err e
      → ((n : List ℕ) → tells.faults mid n ≤ tells.faults now n)
      → Goes tells from first mid all ahead before number Found → Goes tells from first now all rest (Err e) number Found
  goes-past first mid now all ahead s rest before e number Found next was later h = λ names fetched.
      reading-stopped (name_of from.name) (left_of from.left) (faults_of from.faults) (classic_texts (tells.text first)) (tells.faults first)
      (tells.faults mid) (tells.faults now) names s rest number Found e
      (reading-at (name_of from.name) (left_of from.left) (faults_of from.faults) (classic_texts (tells.text first)) (tells.faults first) (tells.faults mid)
      names ahead (s ∷ rest) before (Err e) number Found next was (h names fetched))
      later

  -- all were read
  pub goes-whole : (first now : H) (all ahead : List (Classic S)) (outcome : Result (Unit {0}) Failure) (number : ℕ) (Found : List (List ℕ) → Type 0)
      (names texts : List (List ℕ)) → outcome ≡ Ok tt → ahead ≡ [] → Goes tells from first now all ahead outcome number Found
      → AreFetched (name_of from.name) (left_of from.left) (faults_of from.faults) (classic_texts (tells.text first)) names all
      → AreTold (classic_texts (tells.text first)) names texts → Found texts
  goes-whole first now all ahead outcome number Found names texts whole none h fetched told =
      reading-all (name_of from.name) (left_of from.left) (faults_of from.faults) (classic_texts (tells.text first)) (tells.faults first) (tells.faults now)
      names texts ahead number Found
      (reading-at (name_of from.name) (left_of from.left) (faults_of from.faults) (classic_texts (tells.text first)) (tells.faults first) (tells.faults now)
      names ahead ahead outcome (Ok tt) number Found refl whole (h names fetched))
      none told
