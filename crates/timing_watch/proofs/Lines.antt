-- The lines of packet records, those of the first of them and those of the rest.
use Rattle.std.proofs.Common.{◌≡◌, ◌++◌, ◌∷◌, ℕ, List, [], append-nil, append_assoc, ap, ◌∙◌, sym, subst, refl}
use Rattle.timing_base.specs.Captures.{Record}
use Rattle.timing_base.specs.Jobs.{WatchJob}
use Rattle.timing_base.specs.Media.{Media}
use Rattle.timing_watch.specs.Watches.{AreLinesAfter}

-- the lines of some records and of those that follow are the first and the last ones
abbrev pub AreLinesOfBoth : WatchJob → (first : ℕ) → List Media → (before items more : List Record) → List ℕ → Type 0
AreLinesOfBoth job first media before items more text =
    (front : List ℕ) × (rest : List ℕ) × (text ≡ front ++ rest) × AreLinesAfter job first media before items front
    × AreLinesAfter job first media (before ++ items) more rest

pub lines-split : (job : WatchJob) (first : ℕ) (media : List Media) (before items more : List Record) (text : List ℕ)
    → AreLinesAfter job first media before (items ++ more) text → AreLinesOfBoth job first media before items more text
lines-split job first media before [] more text h =
    ([], text, refl, refl, subst (λ l. AreLinesAfter job first media l more text) (sym (append-nil before)) h)
lines-split job first media before (r ∷ items) more text h =
    let next = lines-split job first media (before ++ r ∷ []) items more h.1 h.4 in (
      h.0 ++ next.0,
      next.1,
      h.2 ∙ ap (λ x. h.0 ++ x) next.2 ∙ sym (append_assoc h.0 next.0 next.1),
      (h.0, next.0, refl, h.3, next.3),
      subst (λ l. AreLinesAfter job first media l more next.1) (append_assoc before (r ∷ []) items) next.4,
    )

pub lines-joined : (job : WatchJob) (first : ℕ) (media : List Media) (before items more : List Record) (front rest : List ℕ)
    → AreLinesAfter job first media before items front → AreLinesAfter job first media (before ++ items) more rest
    → AreLinesAfter job first media before (items ++ more) (front ++ rest)
lines-joined job first media before [] more front rest none h =
    subst (λ s. AreLinesAfter job first media before more (s ++ rest)) (sym none)
    (subst (λ l. AreLinesAfter job first media l more rest) (append-nil before) h)
lines-joined job first media before (r ∷ items) more front rest h next = (
  h.0,
  h.1 ++ rest,
  ap (λ s. s ++ rest) h.2 ∙ append_assoc h.0 h.1 rest,
  h.3,
  lines-joined job first media (before ++ r ∷ []) items more h.1 rest h.4
      (subst (λ l. AreLinesAfter job first media l more rest) (sym (append_assoc before (r ∷ []) items)) next),
)
