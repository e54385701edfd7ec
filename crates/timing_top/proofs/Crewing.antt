-- What intakes and workers leave, for the captures of a job.
use Rattle.std.proofs.Common.{◌≡◌, ◌≤◌, ◌<◌, ℕ, zero, suc, Bool, List, [], ◌∷◌, length, slice_index_or, map, Some, refl, ap, ◌∙◌, subst, arith}
use Rattle.std.specs.Prelude.{All, IfSome, Option}
use Rattle.timing_base.specs.Media.{Media}
use Rattle.timing_base.specs.Keys.{keys_of}
use Rattle.timing_base.specs.declared.capture.FileNote.{FileNote}
use Rattle.timing_base.specs.declared.capture.FileNote.TheVariants.{Refused}
use Rattle.timing_base.specs.declared.capture.PcapFault.TheVariants.{ReadFault}
use Rattle.timing_base.specs.declared.row.Row.{Row}
use Rattle.timing_outside.specs.Causes.{Rose}
use Rattle.flow_worker.specs.crew.Judging.{AreBack, AreTexts}
use Rattle.timing_report.specs.Outcomes.{AreOfSession}
use Rattle.timing_report.proofs.Keys.{keys_within}
use Rattle.timing_steps.specs.Answers.{AreTold, CaptureRose}
use Rattle.timing_steps.specs.Fetched.{AreFetched}

-- what is there
pub some-at : {T : Type 0} (o : Option T) (x : T) (P : T → Type 0) → o ≡ Some x → IfSome o P → P x
some-at o x P e h = subst (λ v. IfSome v P) e h

-- there is a note for each source
pub back-length : {S : Type 0} (name : S → List ℕ) (faults : S → ℕ) (olds : List S) (notes : List (Option FileNote)) (news : List S)
    → AreBack name faults olds notes news → length notes ≡ length olds
back-length name faults [] [] [] h = refl
back-length name faults (o ∷ os) (note ∷ notes) (n ∷ ns) h = ap suc (back-length name faults os notes ns h.3)
back-length name faults [] (note ∷ notes) ns h = absurd h
back-length name faults [] [] (n ∷ ns) h = absurd h
back-length name faults (o ∷ os) [] ns h = absurd h
back-length name faults (o ∷ os) (note ∷ notes) [] h = absurd h

-- sources that are whole have the texts that are told
pub fetched-texts : {S : Type 0} (name : S → List ℕ) (left : S → Option (List ℕ)) (faults : S → ℕ) (texts : List ℕ → Option (List ℕ))
    (names read : List (List ℕ)) (sources : List S)
    → AreFetched name left faults texts names sources → AreTold texts names read → AreTexts left read sources
fetched-texts name left faults texts [] [] [] f t = tt
fetched-texts name left faults texts (n ∷ ns) (r ∷ rs) (s ∷ ss) f t = (f.1 ∙ t.0, fetched-texts name left faults texts ns rs ss f.3 t.1)
fetched-texts name left faults texts [] (r ∷ rs) ss f t = absurd t
fetched-texts name left faults texts [] [] (s ∷ ss) f t = absurd f
fetched-texts name left faults texts (n ∷ ns) [] ss f t = absurd t
fetched-texts name left faults texts (n ∷ ns) (r ∷ rs) [] f t = absurd f

-- a count that rose from nothing
some-rose : (a b : ℕ) → a ≡ 0 → Rose a b → 0 < b
some-rose a b e h = omega (arith, e, h)

-- the count of the name of a capture that couldn't be read rose
pub unread-rose : {S : Type 0} (name : S → List ℕ) (left : S → Option (List ℕ)) (faults : S → ℕ) (texts : List ℕ → Option (List ℕ)) (before now : List ℕ → ℕ)
    (names : List (List ℕ)) (olds : List S) (notes : List (Option FileNote)) (news : List S) (number : ℕ)
    → AreFetched name left faults texts names olds → AreBack name faults olds notes news → All (λ s. 0 < faults s → Rose (before (name s)) (now (name s))) news
    → number < length notes → ((d : Option FileNote) → slice_index_or notes number d ≡ Some (Refused ReadFault)) → CaptureRose before now names number
unread-rose name left faults texts before now [] [] [] [] number f b raised m is = absurd (omega (arith, m))
unread-rose name left faults texts before now (x ∷ xs) (o ∷ os) (note ∷ notes) (n ∷ ns) zero f b raised m is = record {
  within = omega arith;
  rose =
      let rose : Rose (before (name n)) (now (name n)) = raised 0 n (omega arith) (some-rose (faults o) (faults n) f.2 (b.2 (is note))) in
      subst (λ y. Rose (before y) (now y)) (b.0 ∙ f.0) rose;
}
unread-rose name left faults texts before now (x ∷ xs) (o ∷ os) (note ∷ notes) (n ∷ ns) (suc number) f b raised m is =
    let more = unread-rose name left faults texts before now xs os notes ns number f.3 b.3 (λ k d h. raised (suc k) d (omega (arith, h))) (omega (arith, m)) is
    in
    record { within = omega (arith, more.within); rose = more.rose }
unread-rose name left faults texts before now [] [] [] (n ∷ ns) number f b raised m is = absurd b
unread-rose name left faults texts before now [] [] (note ∷ notes) ns number f b raised m is = absurd b
unread-rose name left faults texts before now [] (o ∷ os) notes ns number f b raised m is = absurd f
unread-rose name left faults texts before now (x ∷ xs) [] notes ns number f b raised m is = absurd f
unread-rose name left faults texts before now (x ∷ xs) (o ∷ os) [] ns number f b raised m is = absurd b
unread-rose name left faults texts before now (x ∷ xs) (o ∷ os) (note ∷ notes) [] number f b raised m is = absurd b

-- rows of the flows of a run are of its session
pub keys-of_session : (joined : Bool) (files : ℕ) (media : List Media) (rows : List Row) → files ≤ 16 → map (λ (r : Row). r.key) rows
    ≡ keys_of joined files (length media) → AreOfSession media rows
keys-of_session joined files media rows few are = λ k d m. (keys_within joined files (length media) rows few are k d m).1
